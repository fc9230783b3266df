-- The ends of routes without the bound: a route ends at an entry that it does not pass, or goes on as a route from that entry; and where routes end.
use mathlib.Core.Path.{◌≡◌, refl}
use mathlib.Core.Bool.{Bool, true, false, cond, false≢true}
use mathlib.Core.List.{List, [], ◌∷◌}
use Prim.Native.Nat.{ℕ, zero, suc, ◌-◌, ◌≤◌, ◌<◌}
use native.Mathlib.Omega.{arith}
use native.Mathlib.Nat.{not-suc-le-zero}
use borrow.Author.Tests.{ltb-false}
use lib.Dec.{ltb}
use Rattle.lists.specs.Lists.{flat, Each}
use Rattle.lists.proofs.Each.{each-flat, each-imp}
use Rattle.lists.proofs.Flat.{flat-ext}
use Rattle.cleaning.specs.Archive.{Archive, at, parents_of}
use Rattle.cleaning.specs.Routes.{passes, through, ends, Valid}

-- an entry that a route passes is at or past the start
pub passes-start : (A : Archive) (p : ℕ) → passes A p ≡ true → A.start ≤ p
unfolding passes
passes-start A p h = go (ltb p A.start) refl h
  where
    go : (b : Bool) → ltb p A.start ≡ b → cond b false (at A p).erased ≡ true → A.start ≤ p
    go true e h = absurd (false≢true h)
    go false e h = ltb-false p A.start e

-- ── the bound ────────────────────────────────────────────────────────────────────────────────

-- n is above the number of events up to q: no route that has come to q passes more
abbrev pub Bounds : Archive → ℕ → ℕ → Type 0
Bounds A n q = suc q - A.start < n

-- a bound above an event's place bounds the routes from its parents
pub bounds-parents : (A : Archive) (k : ℕ) → Valid A → (n p : ℕ) → A.start ≤ p → p - A.start < n → Each (Bounds A n) (parents_of k (at A p))
unfolding Valid
bounds-parents A k v n p l h = each-imp (λ q. q < p) (Bounds A n) (parents_of k (at A p)) (λ q b. omega arith) (v k p l)

-- any bound gives the same
pub fuel : (A : Archive) (k : ℕ) → Valid A → (n m q : ℕ) → Bounds A n q → Bounds A m q → through A k n q ≡ through A k m q
unfolding through Valid
fuel A k v zero m q h₁ h₂ = absurd (not-suc-le-zero h₁)
fuel A k v (suc n) zero q h₁ h₂ = absurd (not-suc-le-zero h₂)
fuel A k v (suc n) (suc m) q h₁ h₂ = go (passes A q) refl (λ r a b. fuel A k v n m r a b)
  where
    ps : List ℕ
    ps = parents_of k (at A q)

    go : (b : Bool) → passes A q ≡ b → ((r : ℕ) → Bounds A n r → Bounds A m r → through A k n r ≡ through A k m r)
        → cond b (flat (through A k n) ps) (q ∷ []) ≡ cond b (flat (through A k m) ps) (q ∷ [])
    go true e ih =
        let s : A.start ≤ q = passes-start A q e in
        flat-ext (through A k n) (through A k m) ps
        (each-imp (λ r. r < q) (λ r. through A k n r ≡ through A k m r) ps (λ r h. ih r (omega arith) (omega arith)) (v k q s))
    go false e ih = refl

-- ── one step ─────────────────────────────────────────────────────────────────────────────────

-- the ends of the routes whose first step is to q
unfoldable pub from : Archive → ℕ → ℕ → List ℕ
from A k q = cond (passes A q) (ends A k q) (q ∷ [])

pub ends-step : (A : Archive) (k : ℕ) → Valid A → (p : ℕ) → A.start ≤ p → ends A k p ≡ flat (from A k) (parents_of k (at A p))
unfolding ends from through
ends-step A k v p h =
    flat-ext (through A k (suc (p - A.start))) (from A k) (parents_of k (at A p))
    (each-imp (Bounds A (suc (p - A.start))) (λ q. through A k (suc (p - A.start)) q ≡ from A k q) (parents_of k (at A p))
    (λ q b. fuel A k v (suc (p - A.start)) (suc (suc (q - A.start))) q b (omega arith))
    (bounds-parents A k v (suc (p - A.start)) p h (omega arith)))

-- ── where routes end ─────────────────────────────────────────────────────────────────────────

-- a number at which a route may end, below n
abbrev pub Stop : Archive → ℕ → ℕ → Type 0
Stop A n p = (passes A p ≡ false) × (p < n)

-- routes from an event's parents end below it, if those from each parent end at or below the parent
parents-stop : (A : Archive) (k : ℕ) → Valid A → (f : ℕ → List ℕ) → ((q : ℕ) → Each (Stop A (suc q)) (f q)) → (p : ℕ) → A.start ≤ p
    → Each (Stop A p) (flat f (parents_of k (at A p)))
unfolding Valid
parents-stop A k v f h p l =
    each-flat (Stop A p) f (parents_of k (at A p))
    (each-imp (λ q. q < p) (λ q. Each (Stop A p) (f q)) (parents_of k (at A p))
    (λ q b. each-imp (Stop A (suc q)) (Stop A p) (f q) (λ x s. (s.0, omega arith)) (h q))
    (v k p l))

through-stop : (A : Archive) (k : ℕ) → Valid A → (n q : ℕ) → Each (Stop A (suc q)) (through A k n q)
unfolding through
through-stop A k v zero q = tt
through-stop A k v (suc n) q = go (passes A q) refl (λ r. through-stop A k v n r)
  where
    ps : List ℕ
    ps = parents_of k (at A q)

    go : (b : Bool) → passes A q ≡ b → ((r : ℕ) → Each (Stop A (suc r)) (through A k n r)) → Each (Stop A (suc q)) (cond b (flat (through A k n) ps) (q ∷ []))
    go true e ih =
        each-imp (Stop A q) (Stop A (suc q)) (flat (through A k n) ps) (λ x s. (s.0, omega arith))
        (parents-stop A k v (through A k n) ih q (passes-start A q e))
    go false e ih = ((e, omega arith), tt)

pub ends-stop : (A : Archive) (k : ℕ) → Valid A → (p : ℕ) → A.start ≤ p → Each (Stop A p) (ends A k p)
unfolding ends
ends-stop A k v p l = parents-stop A k v (through A k (suc (p - A.start))) (through-stop A k v (suc (p - A.start))) p l
