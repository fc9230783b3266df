-- A built granule's columns are no longer than the columns that building was given.
use mathlib.Core.Path.{◌≡◌, refl}
use mathlib.Core.Bool.{Bool, true, false, cond, ◌&&◌}
use mathlib.Core.List.{List, [], ◌∷◌, ◌++◌}
use Prim.Native.Nat.{ℕ, zero, suc, ◌+◌, ◌-◌, ◌*◌, ◌≤◌}
use native.Mathlib.Omega.{arith}
use lib.Dec.{leb, eqb}
use lib.ListN.{length, get_or, take, drop, length-take, length-drop, length-append}
use lib.Seq.{slice}
use borrow.Author.Tests.{leb-true, le-ltb, ne_eqb}
use Rattle.columns.specs.Limits.{kinds}
use Rattle.lists.specs.Lists.{mem, filter, joined, part, up_from, sum}
use Rattle.lists.specs.Order.{climbs_to, sort}
use Rattle.lists.proofs.Tests.{both}
use Rattle.lists.proofs.Flat.{length-joined}
use Rattle.lists.proofs.Sums.{sum_both}
use Rattle.lists.proofs.Counting.{bit, sum-zero, sum-swap, sum_below, sum-equal, length-filter, members-counted, equal-once}
use Rattle.lists.proofs.Rising.{length-sort}
use Rattle.columns.specs.EdgeSet.{from_to, cut_from, cut}
use Rattle.columns.specs.Questions.{list_of}
use Rattle.columns.specs.Building.{InboundColumns, children_to, slot_table, naming, reverse_lists, inbound_lists}
use Rattle.columns.proofs.Offsets.{low-high}

-- ── parts, and lists cut out ─────────────────────────────────────────────────────────────────

module _ {A : Type 0} where
  take-fewer : (n : ℕ) (ls : List (List A)) → sum length (take n ls) ≤ sum length ls
  unfolding sum
  take-fewer zero ls = omega arith
  take-fewer (suc n) [] = omega arith
  take-fewer (suc n) (l ∷ ls) = omega (arith, take-fewer n ls)

  drop-fewer : (n : ℕ) (ls : List (List A)) → sum length (drop n ls) ≤ sum length ls
  unfolding sum
  drop-fewer zero ls = omega arith
  drop-fewer (suc n) [] = omega arith
  drop-fewer (suc n) (l ∷ ls) = omega (arith, drop-fewer n ls)

  pub part-fewer : (i n : ℕ) (ls : List (List A)) → length (joined (part i n ls)) ≤ length (joined ls)
  unfolding part
  part-fewer i n ls = omega (arith, length-joined (take n (drop i ls)), length-joined ls, take-fewer n (drop i ls), drop-fewer i ls)

  slice-fewer : (a b : ℕ) (column : List A) → length (slice a b column) ≤ b - a
  slice-fewer a b column = simp (length-drop, length-take) (omega arith)

  cut_from-fewer : (high a : ℕ) (bs : List ℕ) (column : List A) → climbs_to high a bs ≡ true → length (joined (cut_from a bs column)) ≤ high - a
  unfolding climbs_to cut_from joined
  cut_from-fewer high a [] column e = omega arith
  cut_from-fewer high a (b ∷ bs) column e =
      let p = both (leb a b) (climbs_to high b bs) e in
      omega (
        arith,
        length-append (slice a b column) (joined (cut_from b bs column)),
        slice-fewer a b column,
        leb-true a b p.0,
        low-high high b bs p.1,
        cut_from-fewer high b bs column p.1,
      )

  pub cut-fewer : (high : ℕ) (offsets : List ℕ) (column : List A) → from_to 0 high offsets ≡ true → length (joined (cut offsets column)) ≤ high
  unfolding from_to cut joined
  cut-fewer high [] column e = omega arith
  cut-fewer high (a ∷ bs) column e = omega (arith, cut_from-fewer high a bs column (both (eqb a 0) (climbs_to high a bs) e).1)

-- ── a table of lists ─────────────────────────────────────────────────────────────────────────

table-total : (f : ℕ → ℕ → List ℕ) (first rows : ℕ) → length (joined (slot_table kinds f first rows)) ≡ sum (λ n. length (f n 0) + length (f n 1)) (up_from first rows)
unfolding slot_table up_from joined sum
table-total f first zero = refl
table-total f first (suc n) =
    omega (
      arith,
      length-append (f first 0) (f first 1 ++ joined (slot_table kinds f (suc first) n)),
      length-append (f first 1) (joined (slot_table kinds f (suc first) n)),
      table-total f (suc first) n,
    )

-- ── reverse ──────────────────────────────────────────────────────────────────────────────────

drop-total : (i : ℕ) (ls : List (List ℕ)) → sum length (drop i ls) ≡ length (get_or ls i []) + sum length (drop (suc i) ls)
unfolding sum
drop-total zero [] = refl
drop-total (suc i) [] = refl
drop-total zero (l ∷ ls) = refl
drop-total (suc i) (l ∷ ls) = drop-total i ls

module _ (first rows : ℕ) (lists : List (List ℕ)) where
  list-here : (r k : ℕ) → list_of kinds first lists k (first + r) ≡ get_or lists (2 * r + k) []
  unfolding list_of
  list-here r k = let z : first + r - first ≡ r = omega arith in rw (le-ltb (first + r) first (omega arith), z)

  listed : (r n : ℕ) → sum (λ e. length (list_of kinds first lists 0 e) + length (list_of kinds first lists 1 e)) (up_from (first + r) n) ≤ sum length (drop (2 * r) lists)
  unfolding sum up_from
  listed r zero = omega arith
  listed r (suc n) =
      let z : suc (first + r) ≡ first + suc r = omega arith in
      let a : 2 * r + 0 ≡ 2 * r = omega arith in
      let b : 2 * r + 1 ≡ suc (2 * r) = omega arith in
      let c : 2 * suc r ≡ suc (suc (2 * r)) = omega arith in
      let rest = rw c at (listed (suc r) n) in
      rw (z, list-here r 0, list-here r 1, a, b) (omega (arith, drop-total (2 * r) lists, drop-total (suc (2 * r)) lists, rest))

  -- an event is in no more lists of a kind than its own list of that kind is long
  named : (k : ℕ) → sum (λ n. length (naming kinds first rows lists n k)) (up_from first rows) ≤ sum (λ e. length (list_of kinds first lists k e)) (up_from first rows)
  unfolding naming
  named k =
      omega (
        arith,
        sum-equal (λ n. length (filter (λ e. mem n (list_of kinds first lists k e)) (up_from first rows))) (λ n. sum (λ e. bit (mem n (list_of kinds first lists k e))) (up_from first rows))
            (λ n. length-filter (λ e. mem n (list_of kinds first lists k e)) (up_from first rows)) (up_from first rows),
        sum-swap (λ n e. bit (mem n (list_of kinds first lists k e))) (up_from first rows) (up_from first rows),
        sum_below (λ e. sum (λ n. bit (mem n (list_of kinds first lists k e))) (up_from first rows)) (λ e. length (list_of kinds first lists k e))
            (λ e. members-counted (list_of kinds first lists k e) first rows) (up_from first rows),
      )

  pub reverse-fewer : length (joined (reverse_lists kinds first rows lists)) ≤ length (joined lists)
  unfolding reverse_lists
  reverse-fewer =
      let z : first + 0 ≡ first = omega arith in
      omega (
        arith,
        table-total (naming kinds first rows lists) first rows,
        sum_both (λ n. length (naming kinds first rows lists n 0)) (λ n. length (naming kinds first rows lists n 1)) (up_from first rows),
        named 0,
        named 1,
        sum_both (λ e. length (list_of kinds first lists 0 e)) (λ e. length (list_of kinds first lists 1 e)) (up_from first rows),
        rw z at (listed 0 rows),
        length-joined lists,
      )

-- ── inbound ──────────────────────────────────────────────────────────────────────────────────

one_more : (b : Bool) (c : ℕ) (rest : List ℕ) → length (cond b (c ∷ rest) rest) ≡ bit b + length rest
one_more true c rest = omega arith
one_more false c rest = omega arith

-- an edge has one kind
one-kind : (b : Bool) (k : ℕ) → bit (b && eqb k 0) + bit (b && eqb k 1) ≤ bit b
one-kind false k = omega arith
one-kind true zero = omega arith
one-kind true (suc zero) = omega arith
one-kind true (suc (suc k)) = rw (ne_eqb (suc (suc k)) 0 (λ e. omega arith), ne_eqb (suc (suc k)) 1 (λ e. omega arith)) (omega arith)

module _ (first rows : ℕ) where
  given : (cs ps ks : List ℕ) → sum (λ n. length (children_to n 0 cs ps ks) + length (children_to n 1 cs ps ks)) (up_from first rows) ≤ length cs
  unfolding children_to
  given [] ps ks = omega (arith, sum-zero (up_from first rows))
  given (c ∷ cs) [] ks = omega (arith, sum-zero (up_from first rows))
  given (c ∷ cs) (p ∷ ps) [] = omega (arith, sum-zero (up_from first rows))
  given (c ∷ cs) (p ∷ ps) (k ∷ ks) =
      omega (
        arith,
        sum_below (λ n. length (children_to n 0 (c ∷ cs) (p ∷ ps) (k ∷ ks)) + length (children_to n 1 (c ∷ cs) (p ∷ ps) (k ∷ ks)))
            (λ n. bit (eqb p n) + (length (children_to n 0 cs ps ks) + length (children_to n 1 cs ps ks)))
            (λ n.
            omega (
              arith,
              one_more (eqb p n && eqb k 0) c (children_to n 0 cs ps ks),
              one_more (eqb p n && eqb k 1) c (children_to n 1 cs ps ks),
              one-kind (eqb p n) k,
            ))
            (up_from first rows),
        sum_both (λ n. bit (eqb p n)) (λ n. length (children_to n 0 cs ps ks) + length (children_to n 1 cs ps ks)) (up_from first rows),
        equal-once p first rows,
        given cs ps ks,
      )

  pub inbound-fewer : (e : InboundColumns) → length (joined (inbound_lists kinds first rows e)) ≤ length e.children
  unfolding inbound_lists
  inbound-fewer e =
      omega (
        arith,
        table-total (λ n k. sort (children_to n k e.children e.parents e.kinds_given)) first rows,
        sum-equal (λ n. length (sort (children_to n 0 e.children e.parents e.kinds_given)) + length (sort (children_to n 1 e.children e.parents e.kinds_given)))
            (λ n. length (children_to n 0 e.children e.parents e.kinds_given) + length (children_to n 1 e.children e.parents e.kinds_given))
            (λ n. rw (length-sort (children_to n 0 e.children e.parents e.kinds_given), length-sort (children_to n 1 e.children e.parents e.kinds_given))) (up_from first rows),
        given e.children e.parents e.kinds_given,
      )
