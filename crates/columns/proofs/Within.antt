-- A table's lists cut down to the numbers from one up to another: slot after slot, and no more of them than the table has.
use mathlib.Core.Path.{◌≡◌, refl, ◌∙◌}
use mathlib.Core.Bool.{Bool, true, false}
use mathlib.Core.Logic.{inl, inr}
use mathlib.Core.List.{List, [], ◌∷◌, ◌++◌, map, map-append}
use Prim.Native.Nat.{ℕ, zero, suc, ◌+◌, ◌*◌, ◌/◌, ◌≤◌, ◌<◌}
use native.Mathlib.Numerals.{add-one}
use native.Mathlib.Omega.{arith}
use lib.Dec.{ltb}
use lib.ListN.{length, get_or, take, drop, drop_of_length-le, length-append, length-map, length-take, length-drop}
use lib.Seq.{slice, slice-cons, drop-cons, get_or-take, get_or-drop}
use borrow.Author.Tests.{lt-leb, le-leb}
use Rattle.lists.specs.Lists.{all, filter, joined, part}
use Rattle.lists.proofs.Tests.{tested, both, all_append}
use Rattle.lists.proofs.Slices.{slice-none}
use Rattle.lists.proofs.Filters.{filter-append}
use Rattle.columns.specs.EdgeSet.{from_to, cut, event_of, delta_of, deltas_from}
use Rattle.columns.specs.Building.{in_file, within, rows_within, deltas_within, fits63, deltas_fit}
use Rattle.columns.proofs.Offsets.{cut-length, joined-cut}

-- ── one number ───────────────────────────────────────────────────────────────────────────────

module _ (x low high : ℕ) where
  pub under : x < low → false ≡ in_file low high x
  unfolding in_file
  under h = rw (lt-leb low x h)

  pub from_low : low ≤ x → ltb x high ≡ in_file low high x
  unfolding in_file
  from_low h = rw (le-leb low x h)

-- ── one list ─────────────────────────────────────────────────────────────────────────────────

module _ (low high event : ℕ) where
  pub deltas-none : deltas_within low high event [] ≡ []
  unfolding deltas_within filter
  deltas-none = refl

  pub deltas-length : (ts : List ℕ) → length (deltas_within low high event ts) ≡ length (filter (in_file low high) ts)
  unfolding deltas_within
  deltas-length ts = length-map (filter (in_file low high) ts) (delta_of event)

  pub deltas-append : (xs ys : List ℕ) → deltas_within low high event (xs ++ ys) ≡ deltas_within low high event xs ++ deltas_within low high event ys
  unfolding deltas_within
  deltas-append xs ys = rw (filter-append (in_file low high) xs ys) (map-append (delta_of event) (filter (in_file low high) xs) (filter (in_file low high) ys))

  module _ (j b : ℕ) (l : List ℕ) where
    pub slice-left : j < b → b ≤ length l → deltas_within low high event (slice j b l) ≡ deltas_within low high event (get_or l j 0 ∷ []) ++ deltas_within low high event (slice (j + 1) b l)
    slice-left h k = rw (slice-cons j b l 0, add-one) (deltas-append (get_or l j 0 ∷ []) (slice (suc j) b l))

    pub slice_over : b ≤ j → deltas_within low high event (slice j b l) ≡ []
    slice_over h = rw (slice-none j b l h) deltas-none

  module _ (t : ℕ) where
    pub delta-in : true ≡ in_file low high t → deltas_within low high event (t ∷ []) ≡ delta_of event t ∷ []
    unfolding deltas_within filter
    delta-in e = rw (← e)

    pub delta-out : false ≡ in_file low high t → deltas_within low high event (t ∷ []) ≡ []
    unfolding deltas_within filter
    delta-out e = rw (← e)

filter-few : {A : Type 0} (p : A → Bool) (xs : List A) → length (filter p xs) ≤ length xs
unfolding filter
filter-few p [] = omega arith
filter-few p (x ∷ xs) = elim (tested (p x)) [ inl e ↦ rw e (omega (arith, filter-few p xs)) | inr e ↦ rw e (omega (arith, filter-few p xs)) ]

-- ── lists ────────────────────────────────────────────────────────────────────────────────────

within-few : (low high : ℕ) (ls : List (List ℕ)) → length (joined (within low high ls)) ≤ length (joined ls)
unfolding within joined
within-few low high [] = omega arith
within-few low high (l ∷ ls) =
    omega (arith, length-append (filter (in_file low high) l) (joined (within low high ls)), length-append l (joined ls), filter-few (in_file low high) l, within-few low high ls)

part-few : (i n : ℕ) (ls : List (List ℕ)) → length (joined (part i n ls)) ≤ length (joined ls)
unfolding part joined
part-few zero zero [] = omega arith
part-few zero zero (l ∷ ls) = omega arith
part-few zero (suc n) [] = omega arith
part-few zero (suc n) (l ∷ ls) = omega (arith, length-append l (joined (take n ls)), length-append l (joined ls), part-few zero n ls)
part-few (suc i) zero [] = omega arith
part-few (suc i) (suc n) [] = omega arith
part-few (suc i) n (l ∷ ls) = omega (arith, length-append l (joined ls), part-few i n ls)

get_or_map : {A B : Type 0} (f : List A → List B) (ls : List (List A)) (q : ℕ) → q < length ls → get_or (map f ls) q [] ≡ f (get_or ls q [])
get_or_map f [] q h = absurd (omega arith)
get_or_map f (l ∷ ls) zero h = refl
get_or_map f (l ∷ ls) (suc q) h = get_or_map f ls q (omega arith)

-- where every delta of lists is in reach, so is every one of the lists cut down
all_filter : {A B : Type 0} (q : B → Bool) (f : A → B) (p : A → Bool) (xs : List A) → all q (map f xs) ≡ true → all q (map f (filter p xs)) ≡ true
unfolding all filter
all_filter q f p [] h = refl
all_filter q f p (x ∷ xs) h =
    let b = both (q (f x)) (all q (map f xs)) h in
    elim (tested (p x)) [ inl e ↦ rw (e, b.0) (all_filter q f p xs b.1) | inr e ↦ rw e (all_filter q f p xs b.1) ]

within-reach : (K low high first slot : ℕ) (ls : List (List ℕ)) → all fits63 (joined (deltas_from K first slot ls)) ≡ true → all fits63 (joined (deltas_from K first slot (within low high ls))) ≡ true
unfolding within joined deltas_from
within-reach K low high first slot [] h = h
within-reach K low high first slot (l ∷ ls) h =
    let f = delta_of (event_of K first slot) in
    let b = both (all fits63 (map f l)) (all fits63 (joined (deltas_from K first (suc slot) ls))) (rw (all_append fits63 (map f l) (joined (deltas_from K first (suc slot) ls))) at h) in
    rw (all_append fits63 (map f (filter (in_file low high) l)) (joined (deltas_from K first (suc slot) (within low high ls))), all_filter fits63 f (in_file low high) l b.0)
    (within-reach K low high first (suc slot) ls b.1)

pub within-fits : (K low high first : ℕ) (ls : List (List ℕ)) → deltas_fit K first ls ≡ true → deltas_fit K first (within low high ls) ≡ true
unfolding deltas_fit
within-fits K low high first ls h = within-reach K low high first 0 ls h

-- ── the rows of a section ────────────────────────────────────────────────────────────────────

module _ (K low high from n : ℕ) (offsets targets : List ℕ) where
  -- no more numbers than the table has
  pub section-few : from_to 0 (length targets) offsets ≡ true → length (joined (rows_within K low high from n offsets targets)) ≤ length targets
  section-few e =
      let z : length (joined (cut offsets targets)) ≡ length targets = rw (joined-cut targets offsets e) in
      omega (arith, within-few low high (part (K * from) (K * n) (cut offsets targets)), part-few (K * from) (K * n) (cut offsets targets))

  module _ (h : K * (from + n) < length offsets) where
    pub section-long : length (rows_within K low high from n offsets targets) ≡ K * n
    unfolding within part
    section-long = rw length-map (simp (length-take, length-drop) (omega (arith, cut-length offsets targets)))

    module _ (q : ℕ) where
      pub section-over : K * n ≤ q → drop q (rows_within K low high from n offsets targets) ≡ []
      section-over k = drop_of_length-le (rows_within K low high from n offsets targets) {i = q} (omega (arith, section-long))

      pub section-left : q < K * n → drop q (rows_within K low high from n offsets targets)
          ≡ filter (in_file low high) (get_or (cut offsets targets) (K * from + q) []) ∷ drop (q + 1) (rows_within K low high from n offsets targets)
      unfolding within part
      section-left k =
          drop-cons (rows_within K low high from n offsets targets) q [] (omega (arith, section-long))
          ∙ rw (
            get_or_map (filter (in_file low high)) (take (K * n) (drop (K * from) (cut offsets targets))) q (simp (length-take, length-drop) (omega (arith, cut-length offsets targets))),
            get_or-take (K * n) (drop (K * from) (cut offsets targets)) q [] k,
            get_or-drop (K * from) (cut offsets targets) q [],
            add-one,
          )

      pub deltas-left : (first : ℕ) → q < K * n → joined (deltas_from K first q (drop q (rows_within K low high from n offsets targets)))
          ≡ deltas_within low high (first + q / K) (get_or (cut offsets targets) (K * from + q) [])
          ++ joined (deltas_from K first (q + 1) (drop (q + 1) (rows_within K low high from n offsets targets)))
      unfolding joined deltas_from deltas_within
      deltas-left first k = rw (section-left k, add-one)

      pub deltas-over : (first : ℕ) → K * n ≤ q → joined (deltas_from K first q (drop q (rows_within K low high from n offsets targets))) ≡ []
      unfolding joined deltas_from
      deltas-over first k = rw (section-over k)
