-- The links question over links that were taken apart: their stored columns, and its verdict where one slice is lent for the answer.
use Rattle.std.specs.Prelude.{Err}
use mathlib.Core.Path.{◌≡◌, refl, sym, ◌∙◌, ap}
use mathlib.Core.Bool.{Bool, true, false}
use mathlib.Core.List.{List, [], ◌∷◌, map}
use mathlib.Core.Option.{Option, none, some}
use Prim.Native.Nat.{ℕ, ◌≤◌, ◌<◌, zero-le}
use native.Mathlib.Omega.{arith}
use lib.Dec.{ltb}
use lib.ListN.{length, length-map, take}
use borrow.Author.Tests.{lt-ltb, le-ltb, ltb-true, ltb-false, eq-eqb}
use Rattle.lists.specs.Lists.{any}
use Rattle.columns.specs.Limits.{max_records, max_numbers, records_room}
use Rattle.columns.specs.Refusal.{Verdict, refused, accepted, unless, first_of, Lent, short, limits}
use Rattle.columns.specs.declared.refusal.Refusal.{Refusal}
use Rattle.columns.specs.declared.refusal.Refusal.TheVariants.{OverRecords, OverNumbers, SliceShort}
use Rattle.cover.specs.Chains.{Link}
use Rattle.cover.specs.Cover.{LinkColumns, differences, even_columns, columns_of, encode}
use Rattle.cover.specs.Questions.{chain_links}
use Rattle.cover.specs.Answers.{link_columns, for_records, counted, links_after, columns_over, columns_after}
use Rattle.cover.proofs.Stored.{length-differences}
use Rattle.cover_rows.proofs.Columned.{take-over}
use Rattle.cover_rows.proofs.Fitting.{length-links}
use Rattle.cover_rows.proofs.limits.Verdicts.{limits-records, limits-numbers, limits-short, limits-none, first-refuses}
use Rattle.ffi.specs.Numbers.{answer_of}
use Rattle.ffi.specs.declared.answer.Answer.{Answer}
use Rattle.ffi_cover.specs.Numbers.{records_of}
use Rattle.ffi_links.specs.Records.{chain_lent, store_lent, first_links, given}
use Rattle.ffi_links.proofs.Sorting.{front_long, fronts-even, over-given, few-given}

-- ── stored ───────────────────────────────────────────────────────────────────────────────────

module _ (n : ℕ) (h : n ≤ 1024) (a b c d : List ℕ) (pa : length a ≡ 1024) (pb : length b ≡ 1024) (pc : length c ≡ 1024) (pd : length d ≡ 1024) where
  abbrev ls : List Link
  ls = first_links n (link_columns a b c d)

  pub count : length ls ≡ n
  count = length-links (take n a) (take n b) (take n c) (take n d) (fronts-even n h a b pa pb) (fronts-even n h a c pa pc) (fronts-even n h a d pa pd) ∙ front_long n h a pa

  module _ (x y z w : List ℕ) (px : length x ≡ 1024) (py : length y ≡ 1024) (pz : length z ≡ 1024) (pw : length w ≡ 1024) where
    encodes : encode (link_columns (take n a) (take n b) (take n c) (take n d)) (for_records (length x ∷ length y ∷ length z ∷ length w ∷ [])) ≡ accepted (columns_of ls)
    unfolding encode limits first_of unless even_columns any short for_records
    encodes = simp (front_long n h a pa, front_long n h b pb, front_long n h c pc, front_long n h d pd, px, py, pz, pw, le-ltb max_records n h, eq-eqb n n refl)

    pub stored-fronts : {x' y' z' w' : List ℕ}
        → link_columns x' y' z' w' ≡ columns_after (encode (link_columns (take n a) (take n b) (take n c) (take n d)) (for_records (length x ∷ length y ∷ length z ∷ length w ∷ [])))
        (link_columns x y z w)
        → link_columns (take n x') (take n y') (take n z') (take n w') ≡ columns_of ls
    unfolding columns_after columns_over columns_of
    stored-fronts {x'} {y'} {z'} {w'} e =
        let f : link_columns x' y' z' w' ≡ columns_over (columns_of ls) (link_columns x y z w) = e ∙ ap (λ v. columns_after v (link_columns x y z w)) encodes in
        rw (
          ap (λ k. k.from_chains) f,
          ap (λ k. k.from_seqs) f,
          ap (λ k. k.to_chains) f,
          ap (λ k. k.to_seqs) f,
          take-over (differences 0 (map (λ l. l.from_chain) ls)) x n (length-differences 0 (map (λ l. l.from_chain) ls) ∙ length-map ls (λ l. l.from_chain) ∙ count),
          take-over (map (λ l. l.from_seq) ls) y n (length-map ls (λ l. l.from_seq) ∙ count),
          take-over (map (λ l. l.to_chain) ls) z n (length-map ls (λ l. l.to_chain) ∙ count),
          take-over (map (λ l. l.to_seq) ls) w n (length-map ls (λ l. l.to_seq) ∙ count),
        )

-- the verdict of the columns' call is that of the links
pub kept-last : (t : Option Refusal) → first_of (t ∷ none ∷ []) ≡ first_of (t ∷ [])
unfolding first_of
kept-last none = refl
kept-last (some r) = refl

same-limits : (n : ℕ) (lent : List Lent) → n ≤ 1024 → limits (n ∷ n ∷ n ∷ n ∷ []) [] lent ≡ limits (n ∷ []) [] lent
unfolding limits any
same-limits n lent h = simp (le-ltb max_records n h)

module _ (n : ℕ) (h : n ≤ 1024) (a b c d : List ℕ) (pa : length a ≡ 1024) (pb : length b ≡ 1024) (pc : length c ≡ 1024) (pd : length d ≡ 1024) (rooms : List ℕ) where
  stores : encode (link_columns (take n a) (take n b) (take n c) (take n d)) (for_records rooms) ≡ store_lent (first_links n (link_columns a b c d)) rooms
  unfolding encode store_lent even_columns
  stores =
      simp (count n h a b c d pa pb pc pd, front_long n h a pa, front_long n h b pb, front_long n h c pc, front_long n h d pd, eq-eqb n n refl, same-limits n (for_records rooms) h)
      (ap (λ t. unless t (columns_of (first_links n (link_columns a b c d)))) (kept-last (limits (n ∷ []) [] (for_records rooms))))

  pub store_told : {r : Answer} → r ≡ records_of (counted (λ x. x.from_chains) (encode (link_columns (take n a) (take n b) (take n c) (take n d)) (for_records rooms)))
      → r ≡ records_of (counted (λ x. x.from_chains) (given n (store_lent (first_links n (link_columns a b c d)) rooms)))
  store_told e = e ∙ ap (λ v. records_of (counted (λ x. x.from_chains) v)) (stores ∙ sym (few-given n (store_lent (first_links n (link_columns a b c d)) rooms) h))

  pub store-written : {o' : LinkColumns} (o : LinkColumns) → o' ≡ columns_after (encode (link_columns (take n a) (take n b) (take n c) (take n d)) (for_records rooms)) o
      → o' ≡ columns_after (given n (store_lent (first_links n (link_columns a b c d)) rooms)) o
  store-written o e = e ∙ ap (λ v. columns_after v o) (stores ∙ sym (few-given n (store_lent (first_links n (link_columns a b c d)) rooms) h))

-- more were given
module _ (n : ℕ) (v : Verdict LinkColumns) (h : 1024 < n) where
  pub unstored-told : {r : Answer} → r ≡ answer_of (Err OverRecords) → r ≡ records_of (counted (λ x. x.from_chains) (given n v))
  unfolding counted
  unstored-told e = rw (over-given n v h) e

  pub unstored-kept : (o : LinkColumns) → o ≡ columns_after (given n v) o
  unfolding columns_after
  unstored-kept o = rw (over-given n v h)

pub many-stored : (ls : List Link) (rooms : List ℕ) → 1024 < length ls → store_lent ls rooms ≡ refused OverRecords
unfolding store_lent limits first_of unless any
many-stored ls rooms h = rw (lt-ltb max_records (length ls) h)

-- ── asked ────────────────────────────────────────────────────────────────────────────────────

-- the verdict of a question in columns of 1,024 numbers
abbrev asked : LinkColumns → List ℕ → Verdict (List Link)
asked k chains = chain_links k chains (for_records (1024 ∷ 1024 ∷ 1024 ∷ 1024 ∷ []))

module _ (k : LinkColumns) (chains a b c d : List ℕ) (pa : length a ≡ 1024) (pb : length b ≡ 1024) (pc : length c ≡ 1024) (pd : length d ≡ 1024) where
  long : chain_links k chains (for_records (length a ∷ length b ∷ length c ∷ length d ∷ [])) ≡ asked k chains
  long = rw (pa, pb, pc, pd)

  pub long-told : {r : Answer} → r ≡ records_of (counted (λ x. x) (chain_links k chains (for_records (length a ∷ length b ∷ length c ∷ length d ∷ []))))
      → r ≡ records_of (counted (λ x. x) (asked k chains))
  long-told e = e ∙ ap (λ v. records_of (counted (λ x. x) v)) long

  pub long-written : {o' : LinkColumns} (o : LinkColumns) → o' ≡ links_after (λ x. x) (chain_links k chains (for_records (length a ∷ length b ∷ length c ∷ length d ∷ []))) o
      → o' ≡ links_after (λ x. x) (asked k chains) o
  long-written o e = e ∙ ap (λ v. links_after (λ x. x) v o) long

-- the same question of equal columns
module _ (k l : LinkColumns) (chains : List ℕ) (same : k ≡ l) where
  pub same-told : {r : Answer} → r ≡ records_of (counted (λ x. x) (asked k chains)) → r ≡ records_of (counted (λ x. x) (asked l chains))
  same-told e = e ∙ ap (λ m. records_of (counted (λ x. x) (asked m chains))) same

  pub same-written : {o' : LinkColumns} (o : LinkColumns) → o' ≡ links_after (λ x. x) (asked k chains) o → o' ≡ links_after (λ x. x) (asked l chains) o
  same-written o e = e ∙ ap (λ m. links_after (λ x. x) (asked m chains) o) same

-- ── with one slice lent ──────────────────────────────────────────────────────────────────────

module _ (ls : List Link) (chains : List ℕ) (room : ℕ) where
  abbrev counts : List ℕ
  counts = length (columns_of ls).from_chains ∷ length (columns_of ls).from_seqs ∷ length (columns_of ls).to_chains ∷ length (columns_of ls).to_seqs ∷ []

  counted-over : (t : Bool) → ltb max_records (length ls) ≡ t → any (ltb max_records) counts ≡ t
  unfolding columns_of any
  counted-over true e = simp (length-differences, length-map, e)
  counted-over false e = simp (length-differences, length-map, e)

  pub many-asked : 1024 < length ls → chain_lent ls chains room ≡ refused OverRecords
  unfolding chain_lent chain_links
  many-asked h = first-refuses _ OverRecords _ _ (limits-records counts (length chains ∷ []) (for_records (room ∷ [])) (counted-over true (lt-ltb max_records (length ls) h)))

  module _ (few : length ls ≤ 1024) where
    numbers : (t : Bool) → ltb max_numbers (length chains) ≡ t → any (ltb max_numbers) (length chains ∷ []) ≡ t
    unfolding any
    numbers true e = simp e
    numbers false e = simp e

    pub numbers-over : 4096 < length chains → chain_lent ls chains room ≡ refused OverNumbers
    unfolding chain_lent chain_links
    numbers-over h = first-refuses _ OverNumbers _ _ (limits-numbers counts (length chains ∷ []) (for_records (room ∷ [])) (counted-over false (le-ltb max_records (length ls) few))
        (numbers true (lt-ltb max_numbers (length chains) h)))

    module _ (h : length chains ≤ 4096) where
      pub room-short : room < 1024 → chain_lent ls chains room ≡ refused SliceShort
      unfolding chain_lent chain_links short for_records any
      room-short l = first-refuses _ SliceShort _ _ (limits-short counts (length chains ∷ []) (for_records (room ∷ [])) (counted-over false (le-ltb max_records (length ls) few))
          (numbers false (le-ltb max_numbers (length chains) h)) (simp (lt-ltb room records_room l)))

      pub room-enough : 1024 ≤ room → chain_lent ls chains room ≡ asked (columns_of ls) chains
      unfolding chain_lent chain_links short for_records any first_of
      room-enough l =
          let few-all = counted-over false (le-ltb max_records (length ls) few) in
          let no_more = numbers false (le-ltb max_numbers (length chains) h) in
          rw (
            limits-none counts (length chains ∷ []) (for_records (room ∷ [])) few-all no_more (simp (le-ltb room records_room l)),
            limits-none counts (length chains ∷ []) (for_records (1024 ∷ 1024 ∷ 1024 ∷ 1024 ∷ [])) few-all no_more refl,
          )

  -- the answer has room: none is given where one slice of 1,024 is not lent
  pub ask-room : (records_of (counted (λ x. x) (chain_lent ls chains room))).length ≤ 1024 → (records_of (counted (λ x. x) (chain_lent ls chains room))).length ≤ room
  unfolding answer_of counted
  ask-room k = by-room (ltb room records_room) refl
    where
      by-numbers : length ls ≤ 1024 → room < 1024 → (t : Bool) → ltb max_numbers (length chains) ≡ t → (records_of (counted (λ x. x) (chain_lent ls chains room))).length ≤ room
      by-numbers few l true e = rw (numbers-over few (ltb-true max_numbers (length chains) e)) zero-le
      by-numbers few l false e = rw (room-short few (ltb-false max_numbers (length chains) e) l) zero-le

      by-records : room < 1024 → (t : Bool) → ltb max_records (length ls) ≡ t → (records_of (counted (λ x. x) (chain_lent ls chains room))).length ≤ room
      by-records l true e = rw (many-asked (ltb-true max_records (length ls) e)) zero-le
      by-records l false e = by-numbers (ltb-false max_records (length ls) e) l (ltb max_numbers (length chains)) refl

      by-room : (t : Bool) → ltb room records_room ≡ t → (records_of (counted (λ x. x) (chain_lent ls chains room))).length ≤ room
      by-room true e = by-records (ltb-true room records_room e) (ltb max_records (length ls)) refl
      by-room false e = omega (arith, k, ltb-false room records_room e)

-- what a call answers and writes by a verdict
module _ (n : ℕ) (h : n ≤ 1024) (v : Verdict (List Link)) where
  pub refused-told : {r : Answer} (why : _) → v ≡ refused why → r ≡ answer_of (Err why) → r ≡ records_of (counted (λ x. x) (given n v))
  unfolding counted
  refused-told why e f = rw (few-given n v h, e) f

  refused-kept : (why : _) (o : LinkColumns) → v ≡ refused why → o ≡ links_after (λ x. x) (given n v) o
  unfolding links_after
  refused-kept why o e = rw (few-given n v h, e)

  pub given-told : {r : Answer} (u : Verdict (List Link)) → v ≡ u → r ≡ records_of (counted (λ x. x) u) → r ≡ records_of (counted (λ x. x) (given n v))
  given-told u e f = f ∙ ap (λ t. records_of (counted (λ x. x) t)) (sym e ∙ sym (few-given n v h))

  pub given-written : {o' : LinkColumns} (u : Verdict (List Link)) (o : LinkColumns) → v ≡ u → o' ≡ links_after (λ x. x) u o → o' ≡ links_after (λ x. x) (given n v) o
  given-written u o e f = f ∙ ap (λ t. links_after (λ x. x) t o) (sym e ∙ sym (few-given n v h))

module _ (n : ℕ) (h : n ≤ 1024) (ls : List Link) (few : length ls ≤ 1024) (chains : List ℕ) (room : ℕ) (o : LinkColumns) where
  pub numbers-kept : 4096 < length chains → o ≡ links_after (λ x. x) (given n (chain_lent ls chains room)) o
  numbers-kept l = refused-kept n h (chain_lent ls chains room) OverNumbers o (numbers-over ls chains room few l)

  pub short-kept : length chains ≤ 4096 → room < 1024 → o ≡ links_after (λ x. x) (given n (chain_lent ls chains room)) o
  short-kept l m = refused-kept n h (chain_lent ls chains room) SliceShort o (room-short ls chains room few l m)
