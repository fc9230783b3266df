-- New lists: the table holds them, and each has its numbers once and below its event's new number.
use mathlib.Core.Path.{◌≡◌, sym}
use mathlib.Core.List.{[], map}
use Prim.Native.Nat.{ℕ, ◌+◌, ◌-◌, ◌≤◌, ◌<◌}
use native.Mathlib.Omega.{arith}
use native.Mathlib.Nat.{zero-add}
use mathlib.Core.Bool.{true}
use lib.ListN.{length, get_or}
use Rattle.lists.specs.Lists.{once, distinct, Each}
use Rattle.lists.proofs.Each.{each-imp, each_map}
use Rattle.lists.proofs.Once.{each-once, once-map, distinct-once}
use Rattle.lists.proofs.Flat.{get_or-map-up_from}
use Rattle.columns.specs.Limits.{Served}
use Rattle.cleaning.specs.Archive.{Archive}
use Rattle.cleaning.specs.Routes.{ends, Valid}
use Rattle.cleaning.specs.Cleaning.{renumber, new_parents}
use Rattle.cleaning.specs.Memo.{memo, tables}
use Rattle.cleaning.proofs.Ends.{Stop, ends-stop}
use Rattle.cleaning.proofs.Inj.{renumber-lt, renumber-inj}
use Rattle.cleaning.proofs.Table.{get_or-lists, memo-right}

module _ (K : ℕ) (served : Served K) (A : Archive) (k : ℕ) (v : Valid A) (p : ℕ) (l : A.start ≤ p) (h : p < A.start + length A.events) where
  ends-within : Each (Stop A (A.start + length A.events)) (ends A k p)
  ends-within = each-imp (Stop A p) (Stop A (A.start + length A.events)) (ends A k p) (λ x s. (s.0, omega arith)) (ends-stop A k v p l)

  -- each end once and then renumbered, or renumbered and then each number once: the same
  pub new-once : new_parents A k p ≡ once (map (renumber A) (ends A k p))
  unfolding new_parents
  new-once = sym (once-map (Stop A (A.start + length A.events)) (renumber A) (renumber-inj A) (ends A k p) ends-within)

  pub memo-new : get_or (memo A k (length A.events)) (p - A.start) [] ≡ new_parents A k p
  memo-new = rw (memo-right A k v (length A.events), new-once) (get_or-lists A k (length A.events) p l h)

  pub tables-new : k < K → get_or (get_or (tables K A) k []) (p - A.start) [] ≡ new_parents A k p
  unfolding tables
  tables-new b = rw (get_or-map-up_from (λ j. memo A j (length A.events)) 0 K k [] b, zero-add k) memo-new

  pub new-distinct : distinct (new_parents A k p) ≡ true
  new-distinct = rw new-once (distinct-once (map (renumber A) (ends A k p)))

  pub new-below : Each (λ q. q < renumber A p) (new_parents A k p)
  unfolding new_parents
  new-below =
      each_map (λ q. q < renumber A p) (renumber A) (once (ends A k p))
      (each-once (λ q. renumber A q < renumber A p) (ends A k p)
      (each-imp (Stop A p) (λ q. renumber A q < renumber A p) (ends A k p)
      (λ q s. renumber-lt A q p (s.0, omega arith) s.1) (ends-stop A k v p l)))
