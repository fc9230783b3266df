-- New numbers: what they are before the start and from it on, and that two ends never get the same one.
use mathlib.Core.Path.{◌≡◌, refl}
use mathlib.Core.Bool.{Bool, true, false, cond}
use mathlib.Core.List.{List, [], ◌∷◌}
use mathlib.Core.Logic.{◌⊎◌, inl, inr}
use Prim.Native.Nat.{ℕ, zero, suc, ◌+◌, ◌-◌, ◌≤◌, ◌<◌}
use native.Mathlib.Omega.{arith}
use native.Mathlib.Nat.{not-suc-le-zero, le_of_suc-le-suc}
use borrow.Author.Tests.{ltb-true, ltb-false, lt-ltb, le-ltb}
use lib.Dec.{ltb}
use lib.ListN.{length, get_or, take}
use Rattle.lists.proofs.Once.{InjOn}
use Rattle.cleaning.specs.Archive.{Event, Archive, blank, at}
use Rattle.cleaning.specs.Routes.{passes}
use Rattle.cleaning.specs.Cleaning.{count, rank, renumber}
use Rattle.cleaning.proofs.Ends.{Stop}

pub renumber-before : (A : Archive) (p : ℕ) → p < A.start → renumber A p ≡ p
unfolding renumber
renumber-before A p h = rw (lt-ltb p A.start h)

pub renumber-past : (A : Archive) (p : ℕ) → A.start ≤ p → renumber A p ≡ A.start + rank A p
unfolding renumber
renumber-past A p h = rw (le-ltb p A.start h)

-- ── ranks rise ───────────────────────────────────────────────────────────────────────────────

-- a survivor counts
pub count-lt : (es : List Event) (i j : ℕ) → i < j → i < length es → (get_or es i blank).erased ≡ false → count (take i es) < count (take j es)
unfolding count
count-lt [] i j h l e = absurd (not-suc-le-zero l)
count-lt (a ∷ es) i zero h l e = absurd (not-suc-le-zero h)
count-lt (a ∷ es) zero (suc j) h l e = rw e (omega arith)
count-lt (a ∷ es) (suc i) (suc j) h l e = go a.erased (count-lt es i j (le_of_suc-le-suc h) (le_of_suc-le-suc l) e)
  where
    go : (b : Bool) → count (take i es) < count (take j es)
        → cond b (count (take i es)) (suc (count (take i es))) < cond b (count (take j es)) (suc (count (take j es)))
    go true h = h
    go false h = omega arith

pub rank_lt : (A : Archive) (p q : ℕ) → A.start ≤ p → (at A p).erased ≡ false → p < q → p < A.start + length A.events → rank A p < rank A q
unfolding at rank
rank_lt A p q s e l h = count-lt A.events (p - A.start) (q - A.start) (omega arith) (omega arith) e

-- ── new numbers rise ─────────────────────────────────────────────────────────────────────────

-- where a route may end: before the start, or at a survivor
pub stop-cases : (A : Archive) (p : ℕ) → passes A p ≡ false → (p < A.start) ⊎ ((A.start ≤ p) × ((at A p).erased ≡ false))
unfolding passes
stop-cases A p h = go (ltb p A.start) refl h
  where
    go : (b : Bool) → ltb p A.start ≡ b → cond b false (at A p).erased ≡ false → (p < A.start) ⊎ ((A.start ≤ p) × ((at A p).erased ≡ false))
    go true e g = inl (ltb-true p A.start e)
    go false e g = inr (ltb-false p A.start e, g)

pub renumber-lt : (A : Archive) (p q : ℕ) → Stop A (A.start + length A.events) p → p < q → renumber A p < renumber A q
renumber-lt A p q s l = go (stop-cases A p s.0) (ltb q A.start) refl
  where
    go : (p < A.start) ⊎ ((A.start ≤ p) × ((at A p).erased ≡ false)) → (b : Bool) → ltb q A.start ≡ b → renumber A p < renumber A q
    go (inl a) true e = omega (arith, renumber-before A p a, renumber-before A q (ltb-true q A.start e))
    go (inl a) false e = omega (arith, renumber-before A p a, renumber-past A q (ltb-false q A.start e))
    go (inr a) b e = omega (arith, renumber-past A p a.0, renumber-past A q (omega arith), rank_lt A p q a.0 a.1 l s.1)

pub renumber-inj : (A : Archive) → InjOn (Stop A (A.start + length A.events)) (renumber A)
renumber-inj A x y hx hy e = go (ltb x y) refl (ltb y x) refl
  where
    go : (c : Bool) → ltb x y ≡ c → (d : Bool) → ltb y x ≡ d → x ≡ y
    go true p d q = absurd (omega (arith, renumber-lt A x y hx (ltb-true x y p)))
    go false p true q = absurd (omega (arith, renumber-lt A y x hy (ltb-true y x q)))
    go false p false q = omega (arith, ltb-false x y p, ltb-false y x q)
