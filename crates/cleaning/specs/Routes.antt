-- Document 01, "Cleaning": routes through erased events, and their ends.
use Rattle.std.specs.Prelude.{◌≡◌, Bool, true, false, cond, ◌⊎◌, ◌↔◌, ℕ, zero, suc, ◌-◌, ◌≤◌, ◌<◌, ltb}
use mathlib.Core.List.{List, [], ◌∷◌, map, Memᴰ}
use Rattle.std.proofs.Math.Option.{some}
use Rattle.std.proofs.Math.ListN.{get_elem?}
use Rattle.lists.specs.Lists.{flat, Each}
use Rattle.cleaning.specs.Archive.{Archive, at, parents_of}

-- whether a route goes on through an entry: it is an erased event. Numbers before the start always end a route
unfoldable pub passes : Archive → ℕ → Bool
passes A p = cond (ltb p A.start) false (at A p).erased

-- ── routes ───────────────────────────────────────────────────────────────────────────────────

-- a route from a list of entries: the positions of its steps, and its end. Each step goes to an entry of the list; the route ends there, or the
-- entry is an erased event and the route goes on through that event's list of the same kind
pub data Route (A : Archive) (k : ℕ) : List ℕ → List ℕ → ℕ → Type 0 where
  stop : {ps : List ℕ} {i p : ℕ} → get_elem? ps i ≡ some p → passes A p ≡ false → Route A k ps (i ∷ []) p
  on : {ps is : List ℕ} {i p e : ℕ} → get_elem? ps i ≡ some p → passes A p ≡ true → Route A k (parents_of k (at A p)) is e → Route A k ps (i ∷ is) e

-- routes compare by positions, first step first
abbrev pub Less : List ℕ → List ℕ → Type 0
Less [] ys = ⊥
Less (x ∷ xs) [] = ⊥
Less (x ∷ xs) (y ∷ ys) = (x < y) ⊎ ((x ≡ y) × Less xs ys)

-- a route's positions and its end
pub record Way : Type 0 where
  pub steps : List ℕ
  pub last : ℕ

-- each before all that follow it
abbrev pub Rising : List Way → Type 0
Rising [] = Unit {0}
Rising (w ∷ ws) = Each (λ v. Less w.steps v.steps) ws × Rising ws

-- `es` are the ends of all routes from `ps`, in the order of the routes
pub record EndsOf (A : Archive) (k : ℕ) (ps es : List ℕ) : Type 0 where
  pub ways : List Way
  pub rising : Rising ways
  pub all_routes : (w : Way) → Memᴰ w ways ↔ Route A k ps w.steps w.last
  pub their_ends : map (λ w. w.last) ways ≡ es

-- ── ends, computed ───────────────────────────────────────────────────────────────────────────

-- the ends of all routes that come to p, in order; n bounds how many events they pass
unfoldable pub through : Archive → ℕ → ℕ → ℕ → List ℕ
through A k zero p = []
through A k (suc n) p = let farther = flat (through A k n) (parents_of k (at A p)) in cond (passes A p) farther (p ∷ [])

-- the ends of all routes from the event of number p, in order. A route passes only events before p, so p's place bounds them
unfoldable pub ends : Archive → ℕ → ℕ → List ℕ
ends A k p = flat (through A k (suc (p - A.start))) (parents_of k (at A p))

-- ── valid archives ───────────────────────────────────────────────────────────────────────────

-- every number of a list is below n
abbrev pub AllBelow : ℕ → List ℕ → Type 0
AllBelow n ps = Each (λ p. p < n) ps

-- parents are below their event
unfoldable pub Valid : Archive → Type 0
Valid A = (k p : ℕ) → A.start ≤ p → AllBelow p (parents_of k (at A p))
