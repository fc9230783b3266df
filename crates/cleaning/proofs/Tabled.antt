-- Resolving's tables hold the new lists: an archive cleaned out of its tables is the archive cleaned by the routes.
use mathlib.Core.Path.{◌≡◌, ap, ◌∙◌}
use mathlib.Core.List.{[], map, map-map}
use Prim.Native.Nat.{ℕ, ◌-◌}
use lib.ListN.{length, get_or}
use Rattle.lists.specs.Lists.{up_from}
use Rattle.lists.proofs.Each.{each-imp, each_all}
use Rattle.lists.proofs.Flat.{map-ext}
use Rattle.columns.specs.Limits.{Served}
use Rattle.cleaning.specs.Archive.{Archive, at}
use Rattle.cleaning.specs.Routes.{Valid}
use Rattle.cleaning.specs.Cleaning.{new_parents, survivors}
use Rattle.cleaning.specs.Memo.{memo, tables}
use Rattle.cleaning.specs.Summary.{kept, kept_by, summary, kept_in, tabled, group_summary}
use Rattle.cleaning.proofs.Survivors.{Within, within}
use Rattle.cleaning.proofs.New.{memo-new}

module _ (K : ℕ) (served : Served K) (A : Archive) (v : Valid A) where
  kept_in_lem : (p : ℕ) → Within A.start A.events p → kept_in A (tables K A) p ≡ kept_by K A p
  unfolding kept_in kept_by tables
  kept_in_lem p w = ap (kept (at A p).body)
      (map-map (λ t. get_or t (p - A.start) []) (λ k. memo A k (length A.events)) (up_from 0 K)
      ∙ map-ext (λ k. get_or (memo A k (length A.events)) (p - A.start) []) (λ k. new_parents A k p) (up_from 0 K)
      (each_all (λ k. get_or (memo A k (length A.events)) (p - A.start) [] ≡ new_parents A k p) (λ k. memo-new K served A k v p w.0 w.1) (up_from 0 K)))

  pub tabled-summary : tabled A (tables K A) ≡ summary K A
  unfolding tabled summary
  tabled-summary = ap (λ rs. record { start = A.start; subject = A.subject; groups = map group_summary A.groups; rows = rs })
      (map-ext (kept_in A (tables K A)) (kept_by K A) (survivors A)
      (each-imp (Within A.start A.events) (λ p. kept_in A (tables K A) p ≡ kept_by K A p) (survivors A) kept_in_lem (within A)))
