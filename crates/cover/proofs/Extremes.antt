-- The ranges of labels are what their name says: every label lies in its chain's range, and both ends of a range are seqs of labels of that chain.
use mathlib.Core.Path.{◌≡◌, refl, sym, ◌∙◌, ap}
use mathlib.Core.Bool.{Bool, true, false, cond}
use mathlib.Core.Logic.{◌⊎◌, inl, inr}
use mathlib.Core.List.{List, [], ◌∷◌, foldl, Memᴰ}
use Prim.Native.Nat.{ℕ, ◌≤◌}
use native.Mathlib.Omega.{arith}
use lib.Dec.{ltb, eqb}
use borrow.Author.Tests.{ltb-true, ltb-false, eqb-true}
use Rattle.lists.specs.Lists.{Each}
use Rattle.lists.proofs.Tests.{tested}
use Rattle.lists.proofs.Each.{mem-each}
use Rattle.columns.specs.Reading.{Label}
use Rattle.cover.specs.Chains.{Range, range_of, widen, add_label, ranges_of}

-- ── labels lie in ranges ─────────────────────────────────────────────────────────────────────

-- the range is the label's chain's, and the label lies in it
abbrev pub Holds : Label → Range → Type 0
Holds l r = (r.chain ≡ l.chain) × (r.least ≤ l.seq) × (l.seq ≤ r.greatest)

-- one of the ranges holds the label
abbrev pub Within : Label → List Range → Type 0
Within l [] = ⊥
Within l (r ∷ rs) = Holds l r ⊎ Within l rs

widen-new : (r : Range) (l : Label) → r.chain ≡ l.chain → Holds l (widen r l.seq)
unfolding widen
widen-new r l e = (e, low (ltb l.seq r.least) refl, high (ltb r.greatest l.seq) refl)
  where
    low : (b : Bool) → ltb l.seq r.least ≡ b → cond b l.seq r.least ≤ l.seq
    low true f = omega arith
    low false f = ltb-false l.seq r.least f

    high : (b : Bool) → ltb r.greatest l.seq ≡ b → l.seq ≤ cond b l.seq r.greatest
    high true f = omega arith
    high false f = ltb-false r.greatest l.seq f

widen-old : (r : Range) (s : ℕ) (k : Label) → Holds k r → Holds k (widen r s)
unfolding widen
widen-old r s k h = (h.0, low (ltb s r.least) refl, high (ltb r.greatest s) refl)
  where
    low : (b : Bool) → ltb s r.least ≡ b → cond b s r.least ≤ k.seq
    low true f = omega (arith, ltb-true s r.least f, h.1)
    low false f = h.1

    high : (b : Bool) → ltb r.greatest s ≡ b → k.seq ≤ cond b s r.greatest
    high true f = omega (arith, ltb-true r.greatest s f, h.2)
    high false f = h.2

within_new : (l : Label) (rs : List Range) → Within l (add_label rs l)
unfolding add_label
within_new l [] = inl (refl, omega arith, omega arith)
within_new l (r ∷ rs) =
    elim (tested (ltb r.chain l.chain)) [
      | inl e ↦ rw e (inr (within_new l rs))
      | inr e ↦ elim (tested (eqb r.chain l.chain)) [
        | inl f ↦ rw (e, f) (inl (widen-new r l (eqb-true r.chain l.chain f)))
        | inr f ↦ rw (e, f) (inl (refl, omega arith, omega arith))
      ]
    ]

within-old : (l k : Label) (rs : List Range) → Within k rs → Within k (add_label rs l)
unfolding add_label
within-old l k [] h = absurd h
within-old l k (r ∷ rs) h =
    elim (tested (ltb r.chain l.chain)) [
      | inl e ↦ rw e (elim h [ inl m ↦ inl m | inr m ↦ inr (within-old l k rs m) ])
      | inr e ↦ elim (tested (eqb r.chain l.chain)) [
        | inl f ↦ rw (e, f) (elim h [ inl m ↦ inl (widen-old r l.seq k m) | inr m ↦ inr m ])
        | inr f ↦ rw (e, f) (inr h)
      ]
    ]

within-stays : (k : Label) (rs : List Range) (ls : List Label) → Within k rs → Within k (foldl add_label rs ls)
within-stays k rs [] h = h
within-stays k rs (l ∷ ls) h = within-stays k (add_label rs l) ls (within-old l k rs h)

within_all : (rs : List Range) (ls : List Label) → Each (λ l. Within l (foldl add_label rs ls)) ls
within_all rs [] = tt
within_all rs (l ∷ ls) = (within-stays l (add_label rs l) ls (within_new l rs), within_all (add_label rs l) ls)

-- every label lies in its chain's range
pub labels-within : (ls : List Label) → Each (λ l. Within l (ranges_of ls)) ls
unfolding ranges_of
labels-within ls = within_all [] ls

-- ── ends of ranges are labels ────────────────────────────────────────────────────────────────

abbrev label : ℕ → ℕ → Label
label c s = record { chain = c; seq = s }

-- both ends of the range are seqs of labels of its chain
abbrev pub Ends : List Label → Range → Type 0
Ends ls r = Memᴰ (label r.chain r.least) ls × Memᴰ (label r.chain r.greatest) ls

module _ (all : List Label) where
  widen-ends : (r : Range) (l : Label) → r.chain ≡ l.chain → Ends all r → Memᴰ l all → Ends all (widen r l.seq)
  unfolding widen
  widen-ends r l e h m = (low (ltb l.seq r.least), high (ltb r.greatest l.seq))
    where
      here : Memᴰ (label r.chain l.seq) all
      here = rw e m

      low : (b : Bool) → Memᴰ (label r.chain (cond b l.seq r.least)) all
      low true = here
      low false = h.0

      high : (b : Bool) → Memᴰ (label r.chain (cond b l.seq r.greatest)) all
      high true = here
      high false = h.1

  add-ends : (l : Label) (rs : List Range) → Memᴰ l all → Each (Ends all) rs → Each (Ends all) (add_label rs l)
  unfolding add_label
  add-ends l [] m h = ((m, m), tt)
  add-ends l (r ∷ rs) m h =
      elim (tested (ltb r.chain l.chain)) [
        | inl e ↦ rw e (h.0, add-ends l rs m h.1)
        | inr e ↦ elim (tested (eqb r.chain l.chain)) [
          | inl f ↦ rw (e, f) (widen-ends r l (eqb-true r.chain l.chain f) h.0 m, h.1)
          | inr f ↦ rw (e, f) ((m, m), h)
        ]
      ]

  fold-ends : (rs : List Range) (ls : List Label) → Each (λ l. Memᴰ l all) ls → Each (Ends all) rs → Each (Ends all) (foldl add_label rs ls)
  fold-ends rs [] m h = h
  fold-ends rs (l ∷ ls) m h = fold-ends (add_label rs l) ls m.1 (add-ends l rs m.0 h)

-- both ends of every range are seqs of labels of its chain
pub ranges-ends : (ls : List Label) → Each (Ends ls) (ranges_of ls)
unfolding ranges_of
ranges-ends ls = fold-ends ls [] ls (mem-each (λ l. Memᴰ l ls) ls (λ l m. m)) tt
