-- The table that is kept event by event holds, for each event, the ends of its routes under their new numbers, each number once.
use mathlib.Core.Path.{◌≡◌, refl, ap, ◌∙◌}
use mathlib.Core.Bool.{Bool, true, false, cond}
use mathlib.Core.List.{List, [], ◌∷◌, ◌++◌, map, foldl, foldl-append, map-append}
use Prim.Native.Nat.{ℕ, zero, suc, ◌+◌, ◌-◌, ◌≤◌, ◌<◌}
use native.Mathlib.Omega.{arith}
use native.Mathlib.Nat.{zero-add}
use borrow.Author.Tests.{ltb-false}
use lib.Dec.{ltb}
use lib.ListN.{get_or}
use Rattle.lists.specs.Lists.{flat, add, once, up_from}
use Rattle.lists.proofs.Once.{fold-once}
use Rattle.lists.proofs.Flat.{get_or-map-up_from, map-up_from-snoc}
use Rattle.cleaning.specs.Archive.{Archive, at, parents_of}
use Rattle.cleaning.specs.Routes.{passes, ends, AllBelow, Valid}
use Rattle.cleaning.specs.Cleaning.{rank, renumber}
use Rattle.cleaning.specs.Memo.{add_parent, memo}
use Rattle.cleaning.proofs.Ends.{from, ends-step}

-- the list of the i-th event
unfoldable pub list_of : Archive → ℕ → ℕ → List ℕ
list_of A k i = once (map (renumber A) (ends A k (A.start + i)))

-- the lists of the first n events
abbrev pub lists : Archive → ℕ → ℕ → List (List ℕ)
lists A k n = map (list_of A k) (up_from 0 n)

pub get_or-lists : (A : Archive) (k n q : ℕ) → A.start ≤ q → q < A.start + n → get_or (lists A k n) (q - A.start) [] ≡ once (map (renumber A) (ends A k q))
unfolding list_of
get_or-lists A k n q l h =
    get_or-map-up_from (list_of A k) 0 n (q - A.start) [] (omega arith) ∙ ap (λ p. once (map (renumber A) (ends A k p))) (omega arith)

add-parent : (A : Archive) (k n : ℕ) (acc : List ℕ) (q : ℕ) → q < A.start + n
    → add_parent A (lists A k n) acc q ≡ foldl add acc (map (renumber A) (from A k q))
unfolding add_parent from passes renumber
add-parent A k n acc q h = go (ltb q A.start) refl
  where
    kept : (c : Bool) → ltb q A.start ≡ false →
        cond c (foldl add acc (get_or (lists A k n) (q - A.start) [])) (add acc (A.start + rank A q))
        ≡ foldl add acc (map (renumber A) (cond c (ends A k q) (q ∷ [])))
    kept true l = rw (get_or-lists A k n q (ltb-false q A.start l) h) (fold-once acc (map (renumber A) (ends A k q)))
    kept false l = rw l

    go : (b : Bool) → ltb q A.start ≡ b → add_parent A (lists A k n) acc q ≡ foldl add acc (map (renumber A) (from A k q))
    go true e = rw e (rw e)
    go false e = rw e (kept (at A q).erased e)

add-parents : (A : Archive) (k n : ℕ) (acc ps : List ℕ) → AllBelow (A.start + n) ps
    → foldl (add_parent A (lists A k n)) acc ps ≡ foldl add acc (map (renumber A) (flat (from A k) ps))
add-parents A k n acc [] h = refl
add-parents A k n acc (p ∷ ps) h =
    rw (add-parent A k n acc p h.0, map-append, foldl-append)
    (add-parents A k n (foldl add acc (map (renumber A) (from A k p))) ps h.1)

pub memo-right : (A : Archive) (k : ℕ) → Valid A → (n : ℕ) → memo A k n ≡ lists A k n
unfolding memo list_of once up_from Valid
memo-right A k v zero = refl
memo-right A k v (suc n) =
    rw (memo-right A k v n, map-up_from-snoc (list_of A k) 0 n, zero-add n)
    (ap (λ x. lists A k n ++ (x ∷ []))
    (add-parents A k n [] (parents_of k (at A (A.start + n))) (v k (A.start + n) (omega arith))
    ∙ rw (ends-step A k v (A.start + n) (omega arith))))
