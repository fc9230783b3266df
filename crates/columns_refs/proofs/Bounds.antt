-- What references make: no more parents than references, a record for each unresolved one, and both in the form that building asks for.
use mathlib.Core.Path.{◌≡◌, refl, ◌∙◌, ap}
use mathlib.Core.Bool.{true, ◌&&◌}
use mathlib.Core.Logic.{inl, inr}
use mathlib.Core.List.{List, [], ◌∷◌, ◌++◌}
use Prim.Native.Nat.{ℕ, suc, ◌+◌, ◌≤◌, ◌<◌}
use native.Mathlib.Omega.{arith}
use lib.Dec.{ltb, eqb}
use lib.ListN.{length, length-append}
use borrow.Author.Tests.{lt-ltb, le-leb, eqb-true, eqb-false}
use Rattle.lists.specs.Lists.{filter, is_empty, joined, starts, up_from, Each}
use Rattle.lists.proofs.Tests.{tested, both}
use Rattle.lists.proofs.Each.{each_append}
use Rattle.lists.proofs.Filters.{filter-append}
use Rattle.columns.specs.Limits.{kinds}
use Rattle.columns.specs.EdgeSet.{offsets_form, cut}
use Rattle.columns.specs.Building.{in_file}
use Rattle.columns.proofs.Offsets.{joined-cut}
use Rattle.columns.proofs.ReadBack.{starts-form}
use Rattle.columns_refs.specs.References.{names, is_unresolved, parents_of, parent_lists, Unresolved, records_from, unresolved_from}
use Rattle.columns_refs.specs.Resolved.{RowsForm}
use Rattle.columns_refs.specs.declared.refs.Reference.{Reference}
use Rattle.columns_refs.proofs.Slots.{other-kind, parents-append, length-rows, length-lists}

-- ── parents ──────────────────────────────────────────────────────────────────────────────────

one_name : (x : Reference) → length (names x) ≤ 1
unfolding names
one_name x = elim (tested (eqb x.space 3)) [
  | inl e ↦ rw e (omega arith)
  | inr e ↦ elim (tested (eqb x.known 0)) [ inl f ↦ rw (e, f) (omega arith) | inr f ↦ rw (e, f) (omega arith) ]
]

one_parent : (kind : ℕ) (x : Reference) → length (parents_of kind (x ∷ [])) ≤ 1
unfolding parents_of filter
one_parent kind x = elim (tested (eqb x.kind kind)) [
  | inl e ↦ rw e (omega (arith, length-append (names x) [], one_name x))
  | inr e ↦ rw e (omega arith)
]

-- a reference is of one kind
one-slot : (x : Reference) → length (parents_of 0 (x ∷ [])) + length (parents_of 1 (x ∷ [])) ≤ 1
one-slot x = elim (tested (eqb x.kind 0)) [
  | inl e ↦ let k = eqb-true x.kind 0 e in omega (arith, one_parent 0 x, ap length (other-kind x 1 (λ f. omega arith)))
  | inr e ↦ omega (arith, one_parent 1 x, ap length (other-kind x 0 (eqb-false x.kind 0 e)))
]

row-few : (xs : List Reference) → length (parents_of 0 xs) + length (parents_of 1 xs) ≤ length xs
unfolding parents_of filter
row-few [] = omega arith
row-few (x ∷ xs) =
    omega (
      arith,
      one-slot x,
      row-few xs,
      ap length (parents-append 0 (x ∷ []) xs),
      ap length (parents-append 1 (x ∷ []) xs),
      length-append (parents_of 0 (x ∷ [])) (parents_of 0 xs),
      length-append (parents_of 1 (x ∷ [])) (parents_of 1 xs),
    )

lists-few : (rows : List (List Reference)) → length (joined (parent_lists rows)) ≤ length (joined rows)
unfolding parent_lists joined up_from
lists-few [] = omega arith
lists-few (row ∷ rows) =
    omega (
      arith,
      lists-few rows,
      row-few row,
      length-append row (joined rows),
      length-append (parents_of 0 row) (parents_of 1 row ++ joined (parent_lists rows)),
      length-append (parents_of 1 row) (joined (parent_lists rows)),
    )

-- ── records ──────────────────────────────────────────────────────────────────────────────────

row-records : (event place : ℕ) (xs : List Reference) → length (records_from event place xs) ≡ length (filter is_unresolved xs)
unfolding records_from filter
row-records event place [] = refl
row-records event place (x ∷ xs) = elim (tested (is_unresolved x)) [
  | inl e ↦ rw e (ap suc (row-records event (suc place) xs))
  | inr e ↦ rw e (row-records event (suc place) xs)
]

all-records : (event place : ℕ) (rows : List (List Reference)) → length (unresolved_from event place rows) ≡ length (filter is_unresolved (joined rows))
unfolding unresolved_from joined filter
all-records event place [] = refl
all-records event place (row ∷ rows) =
    rw (
      filter-append is_unresolved row (joined rows),
      length-append (filter is_unresolved row) (filter is_unresolved (joined rows)),
      length-append (records_from event place row),
      row-records event place row,
      all-records (suc event) (place + length row) rows,
    )

-- a record that building's 6 and 7 accept: its child is an event of the file, its kind one of the kinds
abbrev pub Accepted : ℕ → ℕ → Unresolved → Type 0
Accepted first end u = (in_file first end u.child ≡ true) × (ltb u.kind kinds ≡ true)

module _ (first end : ℕ) where
  row-accepted : (event place : ℕ) (xs : List Reference) → in_file first end event ≡ true → Each (Accepted first end) (records_from event place xs)
  unfolding records_from is_unresolved
  row-accepted event place [] h = tt
  row-accepted event place (x ∷ xs) h = elim (tested (ltb x.kind kinds && is_empty (names x))) [
    | inl e ↦ rw e ((h, (both (ltb x.kind kinds) _ e).0), row-accepted event (suc place) xs h)
    | inr e ↦ rw e (row-accepted event (suc place) xs h)
  ]

  pub all-accepted : (event place : ℕ) (rows : List (List Reference)) → first ≤ event → event + length rows ≤ end → Each (Accepted first end) (unresolved_from event place rows)
  unfolding unresolved_from in_file
  all-accepted event place [] l h = tt
  all-accepted event place (row ∷ rows) l h =
      let k : event < end = omega arith in
      each_append (Accepted first end) (records_from event place row) (unresolved_from (suc event) (place + length row) rows)
      (row-accepted event place row (rw (le-leb first event l, lt-ltb event end k)))
      (all-accepted (suc event) (place + length row) rows (omega arith) (omega arith))

-- ── rows in form ─────────────────────────────────────────────────────────────────────────────

module _ (rows : ℕ) (offsets : List ℕ) (xs : List Reference) (f : RowsForm rows offsets xs) where
  pub parents-few : length (joined (parent_lists (cut offsets xs))) ≤ length xs
  parents-few = omega (arith, lists-few (cut offsets xs), ap length (joined-cut xs offsets f.climbs))

  pub records-many : (first : ℕ) → length (unresolved_from first 0 (cut offsets xs)) ≡ length (filter is_unresolved xs)
  records-many first = all-records first 0 (cut offsets xs) ∙ rw (joined-cut xs offsets f.climbs)

  pub records-accepted : (first : ℕ) → Each (Accepted first (first + rows)) (unresolved_from first 0 (cut offsets xs))
  records-accepted first = all-accepted first (first + rows) first 0 (cut offsets xs) (omega arith) (omega (arith, length-rows rows offsets xs f))

  -- the offsets of the parent lists are in the form that building asks for
  pub lists-form : offsets_form kinds rows (length (joined (parent_lists (cut offsets xs)))) (starts 0 (parent_lists (cut offsets xs))) ≡ true
  lists-form = starts-form kinds rows (parent_lists (cut offsets xs)) (length-lists rows offsets xs f)
