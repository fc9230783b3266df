-- The records that are kept are those of the rows that survive.
use mathlib.Core.Path.{◌≡◌, refl, ap, sym, ◌∙◌}
use mathlib.Core.Bool.{Bool, true, false, cond, not}
use mathlib.Core.List.{List, [], ◌∷◌, map, map-map}
use Prim.Native.Nat.{ℕ, ◌-◌, ◌≤◌}
use native.Mathlib.Omega.{arith}
use lib.Dec.{eqb}
use lib.ListN.{length, get_or, take, length-map, get_or-map}
use lib.Seq.{length-take-le}
use Rattle.lists.specs.Lists.{filter, up_from}
use Rattle.run_state.specs.declared.Unresolved.{Unresolved}
use Rattle.run_state.specs.declared.Roots.{Roots}
use Rattle.run_state.specs.View.{listed, unresolved_at, root_at}
use Rattle.run_state.proofs.order.TidySheets.{column-listed}
use Rattle.cleaning.specs.Survivors.{keep}
use Rattle.run_compact.specs.Columns.{gone, flags_of}
use Rattle.run_resolve.specs.sheet.Kept.{UnresolvedKept, RootsKept}
use Rattle.run_resolve.proofs.sheet.KeptViews.{unresolved-kept, roots_kept}

-- records that name rows counted from `base`, and the places of these rows
module _ {A : Type 0} (row place : A → ℕ) (base : ℕ) (e : (x : A) → row x - base ≡ place x) (flags : List ℕ) where
  flag-says : (i : ℕ) → get_or (gone flags) i false ≡ not (eqb (get_or flags i 0) 0)
  unfolding gone
  flag-says i = get_or-map (λ f. not (eqb f 0)) flags i 0

  flags-filter : (xs : List A) → keep (gone (flags_of base flags (map row xs))) xs ≡ filter (λ x. not (get_or (gone flags) (place x) false)) xs
  unfolding gone flags_of keep filter
  flags-filter [] = refl
  flags-filter (x ∷ xs) = rw (e x, flag-says (place x), flags-filter xs) (go (eqb (get_or flags (place x) 0) 0))
    where
      rest : List A
      rest = filter (λ x. not (get_or (gone flags) (place x) false)) xs

      go : (b : Bool) → cond (not b) rest (x ∷ rest) ≡ cond (not (not b)) (x ∷ rest) rest
      go true = refl
      go false = refl

flags-length : (base : ℕ) (flags rows : List ℕ) (n : ℕ) → n ≤ length rows → length (flags_of base flags (take n rows)) ≡ n
unfolding flags_of
flags-length base flags rows n h = length-map (take n rows) (λ x. get_or flags (x - base) 0) ∙ length-take-le n rows h

pub unresolved-survive : (start : ℕ) (flags : List ℕ) (u q : Unresolved) → u.count ≤ length u.children
    → UnresolvedKept (flags_of start flags (take u.count u.children)) u q
    → listed (unresolved_at q) q.count ≡ filter (λ x. not (get_or (gone flags) (x.child - start) false)) (listed (unresolved_at u) u.count)
unfolding unresolved_at
unresolved-survive start flags u q l k =
    let us = listed (unresolved_at u) u.count in
    let column : take u.count u.children ≡ map (λ x. x.child) us =
    sym (map-map (λ x. x.child) (unresolved_at u) (up_from 0 u.count) ∙ column-listed u.count u.children l) in
    unresolved-kept (flags_of start flags (take u.count u.children)) u q (flags-length start flags u.children u.count l) k
    ∙ ap (λ c. keep (gone (flags_of start flags c)) us) column ∙ flags-filter (λ x. x.child) (λ x. x.child - start) start (λ x. refl) flags us

pub roots-survive : (flags : List ℕ) (r q : Roots) → r.count ≤ length r.rows → RootsKept (flags_of 0 flags (take r.count r.rows)) r q
    → listed (root_at q) q.count ≡ filter (λ x. not (get_or (gone flags) x.row false)) (listed (root_at r) r.count)
unfolding root_at
roots-survive flags r q l k =
    let rs = listed (root_at r) r.count in
    let column : take r.count r.rows ≡ map (λ x. x.row) rs =
    sym (map-map (λ x. x.row) (root_at r) (up_from 0 r.count) ∙ column-listed r.count r.rows l) in
    roots_kept (flags_of 0 flags (take r.count r.rows)) r q (flags-length 0 flags r.rows r.count l) k
    ∙ ap (λ c. keep (gone (flags_of 0 flags c)) rs) column ∙ flags-filter (λ x. x.row) (λ x. x.row) 0 (λ x. omega arith) flags rs
