-- Building over links that were taken apart: the verdict of columns is that of links, and what each way out of the functions over columns does.
use Rattle.std.specs.Prelude.{Err}
use mathlib.Core.Path.{◌≡◌, refl, sym, ◌∙◌, ap, subst}
use mathlib.Core.Bool.{Bool, true, false, or-true}
use mathlib.Core.List.{List, [], ◌∷◌}
use Prim.Native.Nat.{ℕ, ◌≤◌, ◌<◌, zero-le}
use native.Mathlib.Omega.{arith}
use lib.Dec.{ltb}
use lib.ListN.{length, take}
use borrow.Author.Tests.{lt-ltb, le-ltb, ltb-true, ltb-false, eq-eqb}
use Rattle.lists.specs.Lists.{any}
use Rattle.columns.specs.Limits.{max_records, records_room}
use Rattle.columns.specs.Refusal.{Verdict, refused, unless, short, limits}
use Rattle.columns.specs.Reading.{Labels, labels_of}
use Rattle.columns.specs.declared.refusal.Refusal.{Refusal}
use Rattle.columns.specs.declared.refusal.Refusal.TheVariants.{OverRecords, SliceShort}
use Rattle.cover.specs.Chains.{Link}
use Rattle.cover.specs.Cover.{LinkColumns, Cover, even_columns, cover_of, build_cover}
use Rattle.cover.specs.Answers.{RangeColumns, link_columns, for_records, counted, links_after}
use Rattle.cover_rows.proofs.limits.Anyone.{any-nil, few-first, short-here}
use Rattle.cover_rows.proofs.limits.Verdicts.{limits-records, limits-short, first-refuses}
use Rattle.cover_build.specs.Built.{built_of, ranges_after}
use Rattle.ffi.specs.Numbers.{answer_of}
use Rattle.ffi_cover.specs.Numbers.{records_of, covered_of}
use Rattle.ffi_cover.specs.declared.covers.Covered.{Covered}
use Rattle.ffi_links.specs.Records.{first_links, given}
use Rattle.ffi_links.proofs.Sorting.{front_long, over-given, few-given}
use Rattle.ffi_links.proofs.Asking.{count, kept-last}
use Rattle.ffi_links_build.specs.Covers.{build_lent, links_in, Wrote}

-- ── by a verdict ─────────────────────────────────────────────────────────────────────────────

module _ {r : Covered} {o o' : RangeColumns} {k k' : LinkColumns} where
  pub same-wrote : (u v : Verdict Cover) → u ≡ v → Wrote u r o o' k k' → Wrote v r o o' k k'
  same-wrote u v e w = subst (λ (t : Verdict Cover). Wrote t r o o' k k') e w

  -- of the same links
  pub links-wrote : (l : Labels) (rooms : List ℕ) (ks ls : List Link) → ks ≡ ls → Wrote (build_lent l ks rooms) r o o' k k' → Wrote (build_lent l ls rooms) r o o' k k'
  links-wrote l rooms ks ls e w = same-wrote (build_lent l ks rooms) (build_lent l ls rooms) (ap (λ t. build_lent l t rooms) e) w

-- nothing is written
refused-wrote : {r : Covered} (o : RangeColumns) (k : LinkColumns) (v : Verdict Cover) (why : Refusal) → v ≡ refused why → r ≡ covered_of (Err why) → Wrote v r o o k k
unfolding built_of ranges_after links_after
refused-wrote o k v why e f = same-wrote (refused why) v (sym e) (record { answer = f; leaves = refl; writes = refl })

-- ── columns and links ────────────────────────────────────────────────────────────────────────

module _ (n : ℕ) (h : n ≤ 1024) (x y z w : List ℕ) (px : length x ≡ 1024) (py : length y ≡ 1024) (pz : length z ≡ 1024) (pw : length w ≡ 1024) (l : Labels) (i m g : ℕ)
    (a b c d : List ℕ) (pa : length a ≡ 1024) (pb : length b ≡ 1024) (pc : length c ≡ 1024) (pd : length d ≡ 1024) where
  abbrev cover : Cover
  cover = cover_of (labels_of l.chains l.seqs) (first_links n (link_columns x y z w))

  same-limits : limits (length l.chains ∷ length l.seqs ∷ n ∷ n ∷ n ∷ n ∷ []) [] (for_records (i ∷ m ∷ g ∷ length a ∷ length b ∷ length c ∷ length d ∷ []))
      ≡ limits (length l.chains ∷ length l.seqs ∷ n ∷ []) [] (for_records (i ∷ m ∷ g ∷ 1024 ∷ []))
  unfolding limits any short for_records
  same-limits = simp (le-ltb max_records n h, pa, pb, pc, pd)

  builds : build_cover l (link_columns (take n x) (take n y) (take n z) (take n w)) (for_records (i ∷ m ∷ g ∷ length a ∷ length b ∷ length c ∷ length d ∷ []))
      ≡ build_lent l (first_links n (link_columns x y z w)) (i ∷ m ∷ g ∷ 1024 ∷ [])
  unfolding build_cover build_lent even_columns
  builds =
      simp (
        count n h x y z w px py pz pw,
        front_long n h x px,
        front_long n h y py,
        front_long n h z pz,
        front_long n h w pw,
        eq-eqb n n refl,
        same-limits,
      )
      (ap (λ t. unless t cover) (kept-last (limits (length l.chains ∷ length l.seqs ∷ n ∷ []) [] (for_records (i ∷ m ∷ g ∷ 1024 ∷ [])))))

  pub part-wrote : {r : Covered} {o o' : RangeColumns} {k' : LinkColumns}
      → r ≡ covered_of (built_of (build_cover l (link_columns (take n x) (take n y) (take n z) (take n w)) (for_records (i ∷ m ∷ g ∷ length a ∷ length b ∷ length c ∷ length d ∷ []))))
      → o' ≡ ranges_after (build_cover l (link_columns (take n x) (take n y) (take n z) (take n w)) (for_records (i ∷ m ∷ g ∷ length a ∷ length b ∷ length c ∷ length d ∷ []))) o
      → k' ≡ links_after (λ t. t.links)
      (build_cover l (link_columns (take n x) (take n y) (take n z) (take n w)) (for_records (i ∷ m ∷ g ∷ length a ∷ length b ∷ length c ∷ length d ∷ []))) (link_columns a b c d)
      → Wrote (build_lent l (first_links n (link_columns x y z w)) (i ∷ m ∷ g ∷ 1024 ∷ [])) r o o' (link_columns a b c d) k'
  part-wrote e f t = same-wrote _ _ builds (record { answer = e; leaves = f; writes = t })

-- ── limits ───────────────────────────────────────────────────────────────────────────────────

-- the third of three numbers is too great
over-third : (p q x : ℕ) → 1024 < x → any (ltb max_records) (p ∷ q ∷ x ∷ []) ≡ true
unfolding any
over-third p q x h = simp (lt-ltb max_records x h, or-true)

-- or it is not
pub links-given : (p q x : ℕ) {t : Bool} → t ≡ any (ltb max_records) (p ∷ q ∷ x ∷ []) → t ≡ false → x ≤ 1024
links-given p q x e f =
    let g = few-first max_records p _ (sym e ∙ f) in
    let h = few-first max_records q _ g.1 in
    (few-first max_records x _ h.1).0

-- a slice behind others is too short
short-behind : (x : ℕ) (xs : List ℕ) → any short (for_records xs) ≡ true → any short (for_records (x ∷ xs)) ≡ true
unfolding any for_records
short-behind x xs e = rw e (or-true (short (record { has = x; needs = records_room })))

module _ (l : Labels) (i m g room : ℕ) where
  abbrev rooms : List ℕ
  rooms = i ∷ m ∷ g ∷ room ∷ []

  abbrev numbers : ℕ → List ℕ
  numbers n = length l.chains ∷ length l.seqs ∷ n ∷ []

  module _ (ls : List Link) where
    many-built : any (ltb max_records) (numbers (length ls)) ≡ true → build_lent l ls rooms ≡ refused OverRecords
    unfolding build_lent
    many-built e = first-refuses _ OverRecords _ _ (limits-records (numbers (length ls)) [] (for_records rooms) e)

    short-built : any (ltb max_records) (numbers (length ls)) ≡ false → room < 1024 → build_lent l ls rooms ≡ refused SliceShort
    unfolding build_lent
    short-built e h = first-refuses _ SliceShort _ _ (limits-short (numbers (length ls)) [] (for_records rooms) e (any-nil _)
        (short-behind i _ (short-behind m _ (short-behind g _ (sym (short-here room [] h))))))

    -- more links than the columns hold
    pub links-over : 1024 < length ls → build_lent l ls rooms ≡ refused OverRecords
    links-over h = many-built (over-third (length l.chains) (length l.seqs) (length ls) h)

    long-built : 1024 ≤ room → build_lent l ls (i ∷ m ∷ g ∷ 1024 ∷ []) ≡ build_lent l ls rooms
    unfolding build_lent limits any short for_records
    long-built h = simp (le-ltb room records_room h)

    -- the answer has room: none is given where one slice of 1,024 is not lent
    pub build-room : (records_of (counted (λ k. k) (links_in (build_lent l ls rooms)))).length ≤ 1024 → (records_of (counted (λ k. k) (links_in (build_lent l ls rooms)))).length ≤ room
    unfolding answer_of counted links_in
    build-room k = by-room (ltb room records_room) refl
      where
        by-records : room < 1024 → (t : Bool) → any (ltb max_records) (numbers (length ls)) ≡ t → (records_of (counted (λ k. k) (links_in (build_lent l ls rooms)))).length ≤ room
        by-records h true e = rw (many-built e) zero-le
        by-records h false e = rw (short-built e h) zero-le

        by-room : (t : Bool) → ltb room records_room ≡ t → (records_of (counted (λ k. k) (links_in (build_lent l ls rooms)))).length ≤ room
        by-room true e = by-records (ltb-true room records_room e) (any (ltb max_records) (numbers (length ls))) refl
        by-room false e = omega (arith, k, ltb-false room records_room e)

-- ── where n links were given ─────────────────────────────────────────────────────────────────

module _ (n : ℕ) (a b c d : List ℕ) (pa : length a ≡ 1024) (pb : length b ≡ 1024) (pc : length c ≡ 1024) (pd : length d ≡ 1024) (l : Labels) (i m g room : ℕ) {t : Bool}
    (e : t ≡ any (ltb max_records) (length l.chains ∷ length l.seqs ∷ n ∷ [])) where
  abbrev links : List Link
  links = first_links n (link_columns a b c d)

  abbrev verdict : Verdict Cover
  verdict = build_lent l links (i ∷ m ∷ g ∷ room ∷ [])

  -- as many links are there as were given
  counted-so : n ≤ 1024 → t ≡ any (ltb max_records) (length l.chains ∷ length l.seqs ∷ length links ∷ [])
  counted-so h = e ∙ ap (λ k. any (ltb max_records) (length l.chains ∷ length l.seqs ∷ k ∷ [])) (sym (count n h a b c d pa pb pc pd))

  refuses-over : t ≡ true → given n verdict ≡ refused OverRecords
  refuses-over f = by-test (ltb max_records n) refl
    where
      by-test : (s : Bool) → ltb max_records n ≡ s → given n verdict ≡ refused OverRecords
      by-test true h = over-given n verdict (ltb-true max_records n h)
      by-test false h = let few = ltb-false max_records n h in few-given n verdict few ∙ many-built l i m g room links (sym (counted-so few) ∙ f)

  pub over-wrote : t ≡ true → {r : Covered} (o : RangeColumns) (k : LinkColumns) → r ≡ covered_of (Err OverRecords)
      → Wrote (given n (build_lent l (first_links n (link_columns a b c d)) (i ∷ m ∷ g ∷ room ∷ []))) r o o k k
  over-wrote f o k q = refused-wrote o k (given n verdict) OverRecords (refuses-over f) q

  module _ (f : t ≡ false) where
    few : n ≤ 1024
    few = links-given (length l.chains) (length l.seqs) n e f

    pub short-wrote : room < 1024 → {r : Covered} (o : RangeColumns) (k : LinkColumns) → r ≡ covered_of (Err SliceShort)
        → Wrote (given n (build_lent l (first_links n (link_columns a b c d)) (i ∷ m ∷ g ∷ room ∷ []))) r o o k k
    short-wrote h o k q =
        refused-wrote o k (given n verdict) SliceShort (few-given n verdict few ∙ short-built l i m g room links (sym (counted-so few) ∙ f) h) q

    pub taken-wrote : 1024 ≤ room → {r : Covered} {o o' : RangeColumns} {k k' : LinkColumns} → Wrote (build_lent l (first_links n (link_columns a b c d)) (i ∷ m ∷ g ∷ 1024 ∷ [])) r o o' k k'
        → Wrote (given n (build_lent l (first_links n (link_columns a b c d)) (i ∷ m ∷ g ∷ room ∷ []))) r o o' k k'
    taken-wrote h w = same-wrote _ _ (long-built l i m g room links h ∙ sym (few-given n verdict few)) w
