-- What the calls of a walk make of links: columns that were taken apart hold the links that the records mean, and records that are put together mean the answer.
--     taken-links      the first links of columns that links were taken apart into
--     given-all        a verdict over them is the verdict over all links, where that refuses more than 1,024
--     answer-few       an answer fits the columns that it was written into
--     put-means        what the records mean that an answer was put over
--     Done, Answered, done-few, done-answered      from what a call over columns does to what the call over records does
use mathlib.Core.Path.{◌≡◌, refl, sym, ◌∙◌, ap, subst}
use mathlib.Core.Bool.{Bool, true, false}
use mathlib.Core.List.{List, [], ◌∷◌, map, map-append}
use Prim.Native.Nat.{ℕ, zero, suc, ◌≤◌, ◌<◌, zero-le}
use native.Mathlib.Nat.{not-suc-le-zero, le_of_suc-le-suc}
use native.Mathlib.Omega.{arith}
use lib.Dec.{ltb}
use lib.ListN.{length, get_or, take, drop, length-append, length-map, get_or-append, get_or-map}
use lib.Seq.{length-take-le, take-length, take-append-le, get_or-take, ext_get_or}
use borrow.Author.Tests.{ltb-true, ltb-false}
use Rattle.columns.specs.Limits.{max_records}
use Rattle.columns.specs.Refusal.{Verdict, refused, accepted}
use Rattle.columns.specs.declared.refusal.Refusal.TheVariants.{OverRecords}
use Rattle.cover.specs.Chains.{Link}
use Rattle.cover.specs.Cover.{LinkColumns}
use Rattle.cover.specs.Answers as answers
use Rattle.cover.specs.Answers.{link, link_columns, counted, links_over, links_after}
use Rattle.cover_links.specs.Links.{meant, over, least, carried, from_chain_of, from_seq_of, to_chain_of, to_seq_of, link_in, places}
use Rattle.cover_links.specs.declared.Link as records
use Rattle.cover_links.proofs.Meant.{columns-mean}
use Rattle.cover_links.proofs.Written.{length-places, place_at}
use Rattle.ffi.specs.declared.answer.Answer.{Answer}
use Rattle.ffi.specs.Numbers.{answer_of}
use Rattle.ffi_cover.specs.Numbers.{records_of}
use Rattle.ffi_links.specs.Records.{records_after, first_links, given}
use Rattle.ffi_links.proofs.Four.{Quad, Long}
use Rattle.ffi_links.proofs.Taken.{Taken, Put}
use Rattle.ffi_links.proofs.Sorting.{over-given, few-given}

abbrev pub columns : Quad (List ℕ) → LinkColumns
columns x = link_columns x.a x.b x.c x.d

-- ── lists written over others ────────────────────────────────────────────────────────────────

module _ {X : Type 0} where
  front-is : (xs old : List X) (n : ℕ) → length xs ≡ n → take n (over xs old) ≡ xs
  unfolding over
  front-is xs old n e = take-append-le n xs (drop (length xs) old) (omega arith) ∙ ap (λ m. take m xs) (sym e) ∙ take-length xs

map-drop : {X Y : Type 0} (f : X → Y) (n : ℕ) (xs : List X) → map f (drop n xs) ≡ drop n (map f xs)
map-drop f zero xs = refl
map-drop f (suc n) [] = refl
map-drop f (suc n) (x ∷ xs) = map-drop f n xs

over_none : {X : Type 0} (f : ℕ → X) (old : List X) → over (map f (places 0)) old ≡ old
unfolding over places
over_none f old = refl

map_at : {X Y : Type 0} (f : X → Y) (xs : List X) (i : ℕ) (d' : Y) (d : X) → i < length xs → get_or (map f xs) i d' ≡ f (get_or xs i d)
map_at f [] i d' d h = absurd (not-suc-le-zero h)
map_at f (x ∷ xs) zero d' d h = refl
map_at f (x ∷ xs) (suc i) d' d h = map_at f xs i d' d (le_of_suc-le-suc h)

map-over : {X Y : Type 0} (f : X → Y) (xs old : List X) → map f (over xs old) ≡ over (map f xs) (map f old)
unfolding over
map-over f xs old = rw (map-append, map-drop, length-map)

-- ── taken apart ──────────────────────────────────────────────────────────────────────────────

module _ (ys : List records.Link) (x y : Quad (List ℕ)) (r : ℕ) (long : Long 1024 x) (t : Taken ys x r y) (few : length ys ≤ 1024) where
  all : carried ys x.a x.b x.c x.d ≡ length ys
  unfolding least
  all = omega (arith, long)

  whole : take (carried ys x.a x.b x.c x.d) ys ≡ ys
  whole = ap (λ n. take n ys) all ∙ take-length ys

  front : (f : records.Link → ℕ) (old : List ℕ) → take (length ys) (over (map f ys) old) ≡ map f ys
  front f old = front-is (map f ys) old (length ys) (length-map ys f)

  pub taken-links : first_links (length ys) (columns y) ≡ map meant ys
  taken-links = rw (t.1.0, t.1.1.0, t.1.1.1.0, t.1.1.1.1, whole) (rw (front from_chain_of x.a, front from_seq_of x.b, front to_chain_of x.c, front to_seq_of x.d) (columns-mean ys))

-- ── given ────────────────────────────────────────────────────────────────────────────────────

module _ {A : Type 0} (f : List Link → Verdict A) (n : ℕ) (ks ls : List Link) (same : n ≤ 1024 → ks ≡ ls) (many : 1024 < n → f ls ≡ refused OverRecords) where
  by-test : (b : Bool) → ltb max_records n ≡ b → given n (f ks) ≡ f ls
  by-test true e = let h = ltb-true max_records n e in over-given n (f ks) h ∙ sym (many h)
  by-test false e = let h = ltb-false max_records n e in few-given n (f ks) h ∙ ap f (same h)

  pub given-all : given n (f ks) ≡ f ls
  given-all = by-test (ltb max_records n) refl

-- ── put together ─────────────────────────────────────────────────────────────────────────────

-- a column with numbers written from its start on is as long as they are many
module _ (ls : List Link) (f : Link → ℕ) (old now : List ℕ) (e : now ≡ answers.over (map f ls) old) where
  pub over-few : length now ≡ 1024 → length ls ≤ 1024
  unfolding answers.over
  over-few l = omega (arith, simp (length-append, length-map) at (ap length e), l)

  over-at : (i : ℕ) (d : Link) → f d ≡ 0 → i < length ls → get_or now i 0 ≡ f (get_or ls i d)
  unfolding answers.over
  over-at i d z h =
      ap (λ l. get_or l i 0) e ∙ get_or-append (map f ls) (drop (length (map f ls)) old) 0 i (rw (length-map ls f) h) ∙ ap (λ n. get_or (map f ls) i n) (sym z) ∙ get_or-map f ls i d

pub answer-few : (v : Verdict (List Link)) (y w : Quad (List ℕ)) → columns w ≡ links_after (λ x. x) v (columns y) → Long 1024 w → (records_of (counted (λ x. x) v)).length ≤ 1024
unfolding answer_of counted links_after links_over
answer-few (refused r) y w e long = zero-le
answer-few (accepted ls) y w e long = over-few ls (λ l. l.from_chain) y.a w.a (ap (λ c. c.from_chains) e) long.0

module _ (ls : List Link) (y w : Quad (List ℕ)) (e : columns w ≡ links_over ls (columns y)) where
  abbrev k : ℕ
  k = length ls

  abbrev at : ℕ → records.Link
  at = link_in (take k w.a) w.b w.c w.d

  abbrev none : Link
  none = link 0 0 0 0

  at-means : (i : ℕ) → i < k → meant (at i) ≡ get_or ls i none
  unfolding links_over
  at-means i h =
      rw (
        get_or-take k w.a i 0 h,
        over-at ls (λ l. l.from_chain) y.a w.a (ap (λ c. c.from_chains) e) i none refl h,
        over-at ls (λ l. l.from_seq) y.b w.b (ap (λ c. c.from_seqs) e) i none refl h,
        over-at ls (λ l. l.to_chain) y.c w.c (ap (λ c. c.to_chains) e) i none refl h,
        over-at ls (λ l. l.to_seq) y.d w.d (ap (λ c. c.to_seqs) e) i none refl h,
      )

  rows-mean : map meant (map at (places k)) ≡ ls
  rows-mean =
      let count : length (map at (places k)) ≡ k = length-map (places k) at ∙ length-places k in
      ext_get_or none (map meant (map at (places k))) ls (length-map (map at (places k)) meant ∙ count) (λ i h.
      let l : i < k = rw (length-map (map at (places k)) meant, count) at h in
      map_at meant (map at (places k)) i none (at 0) (rw count l) ∙ ap meant (map_at at (places k) i (at 0) 0 (rw (length-places k) l) ∙ ap at (place_at k i 0 l)) ∙ at-means i l)

  pub rows-over : (ys : List records.Link) → map meant (over (map at (places k)) ys) ≡ over ls (map meant ys)
  rows-over ys = map-over meant (map at (places k)) ys ∙ ap (λ l. over l (map meant ys)) rows-mean

carried-all : (k : ℕ) (w : Quad (List ℕ)) (ys : List records.Link) → Long 1024 w → k ≤ 1024 → k ≤ length ys → carried ys (take k w.a) w.b w.c w.d ≡ k
unfolding least
carried-all k w ys long few room = omega (arith, length-take-le k w.a (omega arith), long)

pub put-means : (v : Verdict (List Link)) (y w : Quad (List ℕ)) (ys zs : List records.Link) (r : ℕ) → columns w ≡ links_after (λ x. x) v (columns y) → Long 1024 w
    → (records_of (counted (λ x. x) v)).length ≤ length ys → Put (records_of (counted (λ x. x) v)).length w ys r zs → map meant zs ≡ records_after v (map meant ys)
unfolding answer_of counted links_after records_after
put-means (refused why) y w ys zs r e long room put = ap (map meant) (put.1
    ∙ ap (λ n. over (map (link_in (take 0 w.a) w.b w.c w.d) (places n)) ys) (carried-all 0 w ys long zero-le zero-le) ∙ over_none (link_in (take 0 w.a) w.b w.c w.d) ys)
put-means (accepted ls) y w ys zs r e long room put =
    ap (map meant) (put.1 ∙ ap (λ n. over (map (link_in (take (length ls) w.a) w.b w.c w.d) (places n)) ys) (carried-all (length ls) w ys long (answer-few (accepted ls) y w e long) room))
    ∙ rows-over ls y w e ys

-- ── a call over links that were taken apart ──────────────────────────────────────────────────

module _ (f : List Link → Verdict (List Link)) (ys : List records.Link) where
  abbrev pub verdict : Quad (List ℕ) → Verdict (List Link)
  verdict x = given (length ys) (f (first_links (length ys) (columns x)))

  -- the columns x became y, and the answer is r
  abbrev pub Done : Quad (List ℕ) → Answer → Quad (List ℕ) → Type 0
  Done x r y = (r ≡ records_of (counted (λ l. l) (verdict x))) × (columns y ≡ links_after (λ l. l) (verdict x) (columns x))

  -- the answer r of the call, and the records zs where os stood
  abbrev pub Answered : List records.Link → Answer → List records.Link → Type 0
  Answered os r zs = (r ≡ records_of (counted (λ l. l) (f (map meant ys)))) × (map meant zs ≡ records_after (f (map meant ys)) (map meant os))

  pub done-few : (x : Quad (List ℕ)) (r : Answer) (y : Quad (List ℕ)) → Done x r y → Long 1024 y → r.length ≤ 1024
  done-few x r y e long = subst (λ (a : Answer). a.length ≤ 1024) (sym e.0) (answer-few (verdict x) x y e.1 long)

  pub done-answered : ((ls : List Link) → 1024 < length ls → f ls ≡ refused OverRecords) → (n : ℕ) (w x : Quad (List ℕ)) → Long 1024 w → Taken ys w n x → (r : Answer) (y : Quad (List ℕ)) → Done x r y
      → Long 1024 y → (k : ℕ) (os zs : List records.Link) → ((records_of (counted (λ l. l) (f (map meant ys)))).length ≤ 1024 → (records_of (counted (λ l. l) (f (map meant ys)))).length ≤ length os)
      → Put r.length y os k zs → Answered os r zs
  done-answered many n w x even taken r y e long k os zs fits put =
      let same : verdict x ≡ f (map meant ys) = given-all f (length ys) (first_links (length ys) (columns x)) (map meant ys) (λ h. taken-links ys w x n even taken h)
      (λ h. many (map meant ys) (omega (arith, h, length-map ys meant))) in
      let room : (records_of (counted (λ l. l) (verdict x))).length ≤ length os = rw same (fits (rw same at (answer-few (verdict x) x y e.1 long))) in (
        e.0 ∙ ap (λ v. records_of (counted (λ l. l) v)) same,
        put-means (verdict x) x y os zs k e.1 long room (subst (λ (a : Answer). Put a.length y os k zs) e.0 put) ∙ ap (λ v. records_after v (map meant os)) same,
      )
