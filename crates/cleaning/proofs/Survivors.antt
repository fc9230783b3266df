-- Survivors: each is an event of the archive that is not erased, their ranks are the numbers from 0 on, their new numbers those from the start on.
use mathlib.Core.Path.{◌≡◌, refl, ap, ap₂, ◌∙◌}
use mathlib.Core.Bool.{Bool, true, false, cond}
use mathlib.Core.List.{List, [], ◌∷◌, map}
use Prim.Native.Nat.{ℕ, suc, ◌+◌, ◌-◌, ◌≤◌, ◌<◌}
use native.Mathlib.Omega.{arith}
use native.Mathlib.Nat.{add-zero}
use lib.ListN.{length, get_or, take}
use Rattle.lists.specs.Lists.{up_from, Each}
use Rattle.lists.proofs.Each.{each-imp, each_all}
use Rattle.lists.proofs.Flat.{map-ext}
use Rattle.cleaning.specs.Archive.{Event, Archive, blank, at}
use Rattle.cleaning.specs.Cleaning.{count, rank, renumber, survivors_from, survivors}
use Rattle.cleaning.proofs.Inj.{renumber-past}

-- ── where they stand ─────────────────────────────────────────────────────────────────────────

-- p is the number of an event, of those from number n on
abbrev pub Within : ℕ → List Event → ℕ → Type 0
Within n es p = (n ≤ p) × (p < n + length es)

-- and that event is not erased
abbrev pub Survives : ℕ → List Event → ℕ → Type 0
Survives n es p = Within n es p × ((get_or es (p - n) blank).erased ≡ false)

-- the event of a number past the first is among the others
pub get_or-past : (n : ℕ) (e : Event) (es : List Event) (p : ℕ) → suc n ≤ p → get_or (e ∷ es) (p - n) blank ≡ get_or es (p - suc n) blank
get_or-past n e es p h = ap (λ i. get_or (e ∷ es) i blank) {x = p - n} {y = suc (p - suc n)} (omega arith)

pub survive-from : (n : ℕ) (es : List Event) → Each (Survives n es) (survivors_from n es)
unfolding survivors_from
survive-from n [] = tt
survive-from n (e ∷ es) =
    go e.erased refl
    (each-imp (Survives (suc n) es) (Survives n (e ∷ es)) (survivors_from (suc n) es)
    (λ p s. (omega arith, rw (get_or-past n e es p s.0.0) s.1)) (survive-from (suc n) es))
  where
    go : (b : Bool) → e.erased ≡ b → Each (Survives n (e ∷ es)) (survivors_from (suc n) es)
        → Each (Survives n (e ∷ es)) (cond b (survivors_from (suc n) es) (n ∷ survivors_from (suc n) es))
    go true q h = h
    go false q h = ((omega arith, ap (λ i. (get_or (e ∷ es) i blank).erased) {x = n - n} {y = 0} (omega arith) ∙ q), h)

pub within : (A : Archive) → Each (Within A.start A.events) (survivors A)
unfolding survivors
within A = each-imp (Survives A.start A.events) (Within A.start A.events) (survivors A) (λ p s. s.0) (survive-from A.start A.events)

pub survivor-kept : (A : Archive) → Each (λ p. (at A p).erased ≡ false) (survivors A)
unfolding survivors at
survivor-kept A =
    each-imp (Survives A.start A.events) (λ p. (at A p).erased ≡ false) (survivors A) (λ p s. s.1) (survive-from A.start A.events)

-- ── their ranks and new numbers ──────────────────────────────────────────────────────────────

pub length-survivors_from : (n : ℕ) (es : List Event) → length (survivors_from n es) ≡ count es
unfolding survivors_from count
length-survivors_from n [] = refl
length-survivors_from n (e ∷ es) = go e.erased (length-survivors_from (suc n) es)
  where
    go : (b : Bool) → length (survivors_from (suc n) es) ≡ count es
        → length (cond b (survivors_from (suc n) es) (n ∷ survivors_from (suc n) es)) ≡ cond b (count es) (suc (count es))
    go true h = h
    go false h = rw h

pub length-survivors : (A : Archive) → length (survivors A) ≡ count A.events
unfolding survivors
length-survivors A = length-survivors_from A.start A.events

-- the rank among events from number n on, counted from a on
abbrev rank_from : ℕ → ℕ → List Event → ℕ → ℕ
rank_from a n es p = a + count (take (p - n) es)

rank-past : (a n : ℕ) (e : Event) (es : List Event) (p : ℕ) → suc n ≤ p → rank_from a n (e ∷ es) p ≡ rank_from (cond e.erased a (suc a)) (suc n) es p
unfolding count
rank-past a n e es p h = ap (λ i. a + count (take i (e ∷ es))) {x = p - n} {y = suc (p - suc n)} (omega arith) ∙ go e.erased
  where
    c : ℕ
    c = count (take (p - suc n) es)

    go : (b : Bool) → a + cond b c (suc c) ≡ cond b a (suc a) + c
    go true = refl
    go false = omega arith

ranks-from : (a n : ℕ) (es : List Event) → map (rank_from a n es) (survivors_from n es) ≡ up_from a (length (survivors_from n es))
unfolding survivors_from up_from count
ranks-from a n [] = refl
ranks-from a n (e ∷ es) =
    go e.erased
    (map-ext (rank_from a n (e ∷ es)) (rank_from (cond e.erased a (suc a)) (suc n) es) (survivors_from (suc n) es)
    (each-imp (Survives (suc n) es) (λ p. rank_from a n (e ∷ es) p ≡ rank_from (cond e.erased a (suc a)) (suc n) es p) (survivors_from (suc n) es)
    (λ p s. rank-past a n e es p s.0.0) (survive-from (suc n) es)))
    (λ b. ranks-from b (suc n) es)
  where
    ps : List ℕ
    ps = survivors_from (suc n) es

    go : (b : Bool) → map (rank_from a n (e ∷ es)) ps ≡ map (rank_from (cond b a (suc a)) (suc n) es) ps
        → ((c : ℕ) → map (rank_from c (suc n) es) ps ≡ up_from c (length ps))
        → map (rank_from a n (e ∷ es)) (cond b ps (n ∷ ps)) ≡ up_from a (length (cond b ps (n ∷ ps)))
    go true h ih = h ∙ ih a
    go false h ih = ap₂ (λ x xs. x ∷ xs) (ap (λ i. a + count (take i (e ∷ es))) {x = n - n} {y = 0} (omega arith) ∙ add-zero a) (h ∙ ih (suc a))

pub map-rank-survivors : (A : Archive) → map (rank A) (survivors A) ≡ up_from 0 (length (survivors A))
unfolding survivors rank
map-rank-survivors A =
    map-ext (rank A) (rank_from 0 A.start A.events) (survivors A) (each_all (λ p. rank A p ≡ rank_from 0 A.start A.events p) (λ p. omega arith) (survivors A))
    ∙ ranks-from 0 A.start A.events

pub map-renumber-survivors : (A : Archive) → map (renumber A) (survivors A) ≡ up_from A.start (length (survivors A))
unfolding survivors rank
map-renumber-survivors A =
    map-ext (renumber A) (rank_from A.start A.start A.events) (survivors A)
    (each-imp (Within A.start A.events) (λ p. renumber A p ≡ A.start + rank A p) (survivors A) (λ p w. renumber-past A p w.0) (within A))
    ∙ ranks-from A.start A.start A.events
