-- Edges counted: lists turned round hold no more entries than the lists, and inbound lists no more than there are edges.
use mathlib.Core.Path.{◌≡◌, refl, ap, sym, ◌∙◌}
use mathlib.Core.Bool.{Bool, true, false, ◌&&◌, not}
use mathlib.Core.Logic.{inl, inr}
use mathlib.Core.List.{List, [], ◌∷◌, map}
use Prim.Native.Nat.{ℕ, suc, ◌+◌, ◌-◌, ◌*◌, ◌/◌, ◌%◌, ◌≤◌}
use native.Mathlib.Omega.{arith}
use borrow.Author.Tests.{le-ltb}
use lib.Dec.{eqb}
use lib.ListN.{length, get_or, length-append, length-map}
use lib.Seq.{ext_get_or}
use Rattle.lists.specs.Lists.{flat, filter, joined, mem, sum, up_from}
use Rattle.lists.specs.Order.{sort}
use Rattle.lists.proofs.Slots.{slot-parts, row_under, kind-under}
use Rattle.lists.proofs.Tests.{tested}
use Rattle.lists.proofs.Flat.{length-flat, sum-append}
use Rattle.columns.specs.Limits.{Served}
use Rattle.columns.specs.Questions.{list_of}
use Rattle.columns.specs.Building.{in_file, children_to, slot_table, naming, reverse_lists, inbound_lists}
use Rattle.columns.proofs.Turned.{length-table, list-table}
use Rattle.cleaning.specs.Summary.{Summary}
use Rattle.cleaning.specs.Writing.{Numbered, numbered, group_is, Edge, edges_into, edges_of, inbound_columns}
use Rattle.lists.proofs.Sums.{sum-map, sum-flat, sum-filter}
use Rattle.lists.proofs.Counting.{sum_below, sum-equal, sum_ones, sum-swap, sum-zero, bit, length-filter, members-counted, equal-once}
use Rattle.lists.proofs.Rising.{length-sort}

-- ── tables ───────────────────────────────────────────────────────────────────────────────────

-- the entries of a table, kind by kind
table-entries : (K : ℕ) (served : Served K) (f : ℕ → ℕ → List ℕ) (first rows : ℕ)
    → sum length (slot_table K f first rows) ≡ sum (λ k. sum (λ n. length (f n k)) (up_from first rows)) (up_from 0 K)
unfolding slot_table
table-entries K served f first rows =
    sum-flat length (λ n. map (f n) (up_from 0 K)) (up_from first rows)
    ∙ sum-equal (λ n. sum length (map (f n) (up_from 0 K))) (λ n. sum (λ k. length (f n k)) (up_from 0 K))
    (λ n. sum-map length (f n) (up_from 0 K)) (up_from first rows)
    ∙ sum-swap (λ n k. length (f n k)) (up_from first rows) (up_from 0 K)

-- the list of the number and the kind of a slot
list-slot : (K : ℕ) (served : Served K) (first : ℕ) (lists : List (List ℕ)) (j : ℕ) → list_of K first lists (j % K) (first + j / K) ≡ get_or lists j []
unfolding list_of
list-slot K served first lists j =
    rw (le-ltb (first + j / K) first (omega arith))
    (ap (λ i. get_or lists i []) {x = K * (first + j / K - first) + j % K} {y = j} (let z : first + j / K - first ≡ j / K = omega arith in rw z (slot-parts K j)))

-- lists are the table of the lists of their numbers
table-back : (K : ℕ) (served : Served K) (first rows : ℕ) (lists : List (List ℕ)) → length lists ≡ K * rows → slot_table K (λ n k. list_of K first lists k n) first rows ≡ lists
table-back K served first rows lists e =
    let f : ℕ → ℕ → List ℕ = λ n k. list_of K first lists k n in
    ext_get_or [] (slot_table K f first rows) lists (length-table K f first rows ∙ sym e)
    (λ j h. sym (list-slot K served first (slot_table K f first rows) j)
    ∙ list-table K f first rows (first + j / K) (j % K) (omega arith) (omega (arith, row_under K rows j served.some (omega (arith, length-table K f first rows)))) (kind-under K j served.some)
    ∙ list-slot K served first lists j)

-- ── reverse lists ────────────────────────────────────────────────────────────────────────────

pub reverse-entries : (K : ℕ) (served : Served K) (first rows : ℕ) (lists : List (List ℕ)) → length lists ≡ K * rows
    → sum length (reverse_lists K first rows lists) ≤ sum length lists
unfolding reverse_lists naming
reverse-entries K served first rows lists e =
    omega (
      arith,
      table-entries K served (naming K first rows lists) first rows,
      table-entries K served list first rows,
      ap (sum length) (table-back K served first rows lists e),
      sum_below (λ k. sum (λ n. length (naming K first rows lists n k)) numbers) (λ k. sum (λ n. length (list n k)) numbers) one-kind (up_from 0 K),
    )
  where
    list : ℕ → ℕ → List ℕ
    list n k = list_of K first lists k n

    numbers : List ℕ
    numbers = up_from first rows

    one-kind : (k : ℕ) → sum (λ n. length (naming K first rows lists n k)) numbers ≤ sum (λ n. length (list n k)) numbers
    one-kind k =
        omega (
          arith,
          sum-equal (λ n. length (naming K first rows lists n k)) (λ n. sum (λ m. bit (mem n (list m k))) numbers)
              (λ n. length-filter (λ m. mem n (list m k)) numbers) numbers,
          sum-swap (λ n m. bit (mem n (list m k))) numbers numbers,
          sum_below (λ m. sum (λ n. bit (mem n (list m k))) numbers) (λ m. length (list m k)) (λ m. members-counted (list m k) first rows) numbers,
        )

-- ── inbound lists ────────────────────────────────────────────────────────────────────────────

-- an edge to a parent by a kind
abbrev is_to : ℕ → ℕ → Edge → Bool
is_to n k e = eqb e.parent n && eqb e.kind k

length-children : (n k : ℕ) (es : List Edge)
    → length (children_to n k (map (λ e. e.child) es) (map (λ e. e.parent) es) (map (λ e. e.kind) es)) ≡ sum (λ e. bit (is_to n k e)) es
unfolding children_to sum
length-children n k [] = refl
length-children n k (e ∷ es) = elim (tested (is_to n k e)) [
  | inl q ↦ rw q (omega (arith, length-children n k es))
  | inr q ↦ rw q (omega (arith, length-children n k es))
]

-- an edge is in one list
one_list : (K : ℕ) (served : Served K) (e : Edge) (first rows : ℕ) → sum (λ n. sum (λ k. bit (is_to n k e)) (up_from 0 K)) (up_from first rows) ≤ 1
one_list K served e first rows =
    omega (
      arith,
      equal-once e.parent first rows,
      sum_below (λ n. sum (λ k. bit (is_to n k e)) (up_from 0 K)) (λ n. bit (eqb e.parent n)) (λ n. of-kind (eqb e.parent n)) (up_from first rows),
    )
  where
    of-kind : (b : Bool) → sum (λ k. bit (b && eqb e.kind k)) (up_from 0 K) ≤ bit b
    of-kind true = equal-once e.kind 0 K
    of-kind false = omega (arith, sum-zero (up_from 0 K))

pub inbound-entries : (K : ℕ) (served : Served K) (first rows : ℕ) (es : List Edge) → sum length (inbound_lists K first rows (inbound_columns es)) ≤ length es
unfolding inbound_lists inbound_columns
inbound-entries K served first rows es =
    omega (
      arith,
      table-entries K served list first rows,
      sum-equal (λ k. sum (λ n. length (list n k)) numbers) (λ k. sum (λ e. sum (λ n. bit (is_to n k e)) numbers) es) one-kind (up_from 0 K),
      sum-swap (λ k e. sum (λ n. bit (is_to n k e)) numbers) (up_from 0 K) es,
      sum_below (λ e. sum (λ k. sum (λ n. bit (is_to n k e)) numbers) (up_from 0 K)) (λ e. 1) one-edge es,
      sum_ones es,
    )
  where
    numbers : List ℕ
    numbers = up_from first rows

    to : ℕ → ℕ → List ℕ
    to n k = children_to n k (map (λ e. e.child) es) (map (λ e. e.parent) es) (map (λ e. e.kind) es)

    list : ℕ → ℕ → List ℕ
    list n k = sort (to n k)

    one-kind : (k : ℕ) → sum (λ n. length (list n k)) numbers ≡ sum (λ e. sum (λ n. bit (is_to n k e)) numbers) es
    one-kind k =
        sum-equal (λ n. length (list n k)) (λ n. sum (λ e. bit (is_to n k e)) es) (λ n. length-sort (to n k) ∙ length-children n k es) numbers
        ∙ sum-swap (λ n e. bit (is_to n k e)) numbers es

    one-edge : (e : Edge) → sum (λ k. sum (λ n. bit (is_to n k e)) numbers) (up_from 0 K) ≤ 1
    one-edge e = omega (arith, sum-swap (λ k n. bit (is_to n k e)) (up_from 0 K) numbers, one_list K served e first rows)

-- ── edges into some numbers ──────────────────────────────────────────────────────────────────

length-edges_into : (first end child k : ℕ) (lists : List (List ℕ))
    → length (edges_into first end child k lists) ≡ sum (λ p. bit (in_file first end p)) (joined lists)
unfolding edges_into joined sum
length-edges_into first end child k [] = refl
length-edges_into first end child k (ps ∷ lists) =
    let edge : ℕ → Edge = λ p. record { child = child; parent = p; kind = k } in
    omega (
      arith,
      length-append (map edge (filter (in_file first end) ps)) (edges_into first end child (suc k) lists),
      length-map (filter (in_file first end) ps) edge,
      length-filter (in_file first end) ps,
      sum-append (λ p. bit (in_file first end p)) ps (joined lists),
      length-edges_into first end child (suc k) lists,
    )

-- all entries of a summary's lists
abbrev pub targets : Summary → List ℕ
targets S = flat (λ r. joined r.row.parents) (numbered S)

pub edges-entries : (S : Summary) (g first end : ℕ) → length (edges_of S g first end) ≤ sum (λ p. bit (in_file first end p)) (targets S)
unfolding edges_of
edges-entries S g first end =
    let into : Numbered → List Edge = λ r. edges_into first end r.number 0 r.row.parents in
    let others : List Numbered = filter (λ r. not (group_is g r)) (numbered S) in
    omega (
      arith,
      length-flat into others,
      sum-filter (λ r. length (into r)) (λ r. not (group_is g r)) (numbered S),
      sum-equal (λ r. length (into r)) (λ r. sum (λ p. bit (in_file first end p)) (joined r.row.parents))
          (λ r. length-edges_into first end r.number 0 r.row.parents) (numbered S),
      sum-flat (λ p. bit (in_file first end p)) (λ r. joined r.row.parents) (numbered S),
    )
