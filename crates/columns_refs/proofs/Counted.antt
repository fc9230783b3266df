-- References out of their columns: how many there are, the one at a place, and the unresolved ones counted.
use mathlib.Core.Path.{◌≡◌, refl, sym, ◌∙◌, ap}
use mathlib.Core.Bool.{Bool, true, false}
use mathlib.Core.Logic.{inl, inr}
use mathlib.Core.List.{List, [], ◌∷◌}
use Prim.Native.Nat.{ℕ, zero, suc, ◌+◌, ◌≤◌, ◌<◌}
use native.Mathlib.Numerals.{add-one}
use native.Mathlib.Omega.{arith}
use lib.Dec.{ltb, eqb}
use lib.ListN.{length, get_or, drop, drop_of_length-le}
use lib.Seq.{drop-cons}
use borrow.Author.Tests.{lt-ltb, le-ltb, ltb-true, ltb-false, eq-eqb, ne_eqb}
use Rattle.lists.specs.Lists.{filter, is_empty}
use Rattle.lists.proofs.Tests.{tested}
use Rattle.std.specs.Prelude.{min}
use Rattle.std.proofs.Math.Nat.{min-eq_left, min-eq_right}
use Rattle.columns_refs.specs.References.{references_of, names, is_unresolved}
use Rattle.columns_refs.specs.Resolved.{absent, lesser}
use Rattle.columns_refs.specs.declared.refs.Reference.{Reference}

-- ── the lesser of two ────────────────────────────────────────────────────────────────────────

module _ (a b : ℕ) where
  lesser-first : a ≤ b → a ≡ lesser a b
  unfolding lesser
  lesser-first h = rw (le-ltb b a h)

  lesser-second : b < a → b ≡ lesser a b
  unfolding lesser
  lesser-second h = rw (lt-ltb b a h)

min-lesser : (a b : ℕ) → min a b ≡ lesser a b
min-lesser a b = elim (tested (ltb b a)) [
  | inl e ↦ let h = ltb-true b a e in min-eq_right {n = b} {m = a} (omega arith) ∙ lesser-second a b h
  | inr e ↦ let h = ltb-false b a e in min-eq_left h ∙ lesser-first a b h
]

lesser-zero : (b : ℕ) → lesser 0 b ≡ 0
lesser-zero b = sym (lesser-first 0 b (omega arith))

lesser-none : (a : ℕ) → lesser a 0 ≡ 0
lesser-none zero = lesser-zero 0
lesser-none (suc a) = sym (lesser-second (suc a) 0 (omega arith))

lesser-suc : (a b : ℕ) → lesser (suc a) (suc b) ≡ suc (lesser a b)
lesser-suc a b = elim (tested (ltb b a)) [
  | inl e ↦ let h = ltb-true b a e in sym (lesser-second (suc a) (suc b) (omega arith)) ∙ ap suc (lesser-second a b h)
  | inr e ↦ let h = ltb-false b a e in sym (lesser-first (suc a) (suc b) (omega arith)) ∙ ap suc (lesser-first a b h)
]

-- ── how many ─────────────────────────────────────────────────────────────────────────────────

references-many : (ks ss ts vs ns : List ℕ)
    → length (references_of ks ss ts vs ns) ≡ lesser (length ks) (lesser (length ss) (lesser (length ts) (lesser (length vs) (length ns))))
unfolding references_of
references-many [] ss ts vs ns = sym (lesser-zero _)
references-many (k ∷ ks) [] ts vs ns = sym (rw lesser-zero (lesser-none _))
references-many (k ∷ ks) (s ∷ ss) [] vs ns = sym (rw (lesser-zero, lesser-none) (lesser-none _))
references-many (k ∷ ks) (s ∷ ss) (t ∷ ts) [] ns = sym (rw (lesser-zero, lesser-none (suc (length ts)), lesser-none (suc (length ss))) (lesser-none _))
references-many (k ∷ ks) (s ∷ ss) (t ∷ ts) (v ∷ vs) [] =
    sym (rw (lesser-none (suc (length vs)), lesser-none (suc (length ts)), lesser-none (suc (length ss))) (lesser-none _))
references-many (k ∷ ks) (s ∷ ss) (t ∷ ts) (v ∷ vs) (n ∷ ns) =
    rw (
      lesser-suc (length vs) (length ns),
      lesser-suc (length ts) (lesser (length vs) (length ns)),
      lesser-suc (length ss) (lesser (length ts) (lesser (length vs) (length ns))),
      lesser-suc (length ks) (lesser (length ss) (lesser (length ts) (lesser (length vs) (length ns)))),
    )
    (ap suc (references-many ks ss ts vs ns))

pub given-many : (ks ss ts vs ns : List ℕ) (a b c r : ℕ) → a ≡ min (length vs) (length ns) → b ≡ min (length ts) a → c ≡ min (length ss) b → r ≡ min (length ks) c
    → r ≡ length (references_of ks ss ts vs ns)
given-many ks ss ts vs ns a b c r e f g h = h ∙ rw (g, f, e, min-lesser, min-lesser, min-lesser, min-lesser) (sym (references-many ks ss ts vs ns))

-- columns of one length hold as many references
pub even-many : (ks ss ts vs ns : List ℕ) → length ss ≡ length ks → length ts ≡ length ks → length vs ≡ length ks → length ns ≡ length ks
    → length (references_of ks ss ts vs ns) ≡ length ks
even-many ks ss ts vs ns e f g h =
    let s : lesser (length ks) (length ks) ≡ length ks = sym (lesser-first (length ks) (length ks) (omega arith)) in
    references-many ks ss ts vs ns ∙ rw (e, f, g, h, s, s, s) s

-- no column has fewer entries
pub record Within (ks ss ts vs ns : List ℕ) (i : ℕ) : Type 0 where
  pub kinds : i ≤ length ks
  pub spaces : i ≤ length ss
  pub targets : i ≤ length ts
  pub known : i ≤ length vs
  pub numbers : i ≤ length ns

within : (ks ss ts vs ns : List ℕ) → Within ks ss ts vs ns (length (references_of ks ss ts vs ns))
unfolding references_of
within [] ss ts vs ns = record { kinds = omega arith; spaces = omega arith; targets = omega arith; known = omega arith; numbers = omega arith }
within (k ∷ ks) [] ts vs ns = record { kinds = omega arith; spaces = omega arith; targets = omega arith; known = omega arith; numbers = omega arith }
within (k ∷ ks) (s ∷ ss) [] vs ns = record { kinds = omega arith; spaces = omega arith; targets = omega arith; known = omega arith; numbers = omega arith }
within (k ∷ ks) (s ∷ ss) (t ∷ ts) [] ns = record { kinds = omega arith; spaces = omega arith; targets = omega arith; known = omega arith; numbers = omega arith }
within (k ∷ ks) (s ∷ ss) (t ∷ ts) (v ∷ vs) [] = record { kinds = omega arith; spaces = omega arith; targets = omega arith; known = omega arith; numbers = omega arith }
within (k ∷ ks) (s ∷ ss) (t ∷ ts) (v ∷ vs) (n ∷ ns) =
    let w = within ks ss ts vs ns in
    record { kinds = omega arith; spaces = omega arith; targets = omega arith; known = omega arith; numbers = omega arith }

-- ── the one at a place ───────────────────────────────────────────────────────────────────────

module _ (ks ss ts vs ns : List ℕ) (i : ℕ) (h : i < length (references_of ks ss ts vs ns)) where
  pub in-kinds : i < length ks
  in-kinds = omega (arith, (within ks ss ts vs ns).kinds)

  pub in-spaces : i < length ss
  in-spaces = omega (arith, (within ks ss ts vs ns).spaces)

  pub in-targets : i < length ts
  in-targets = omega (arith, (within ks ss ts vs ns).targets)

  pub in-known : i < length vs
  in-known = omega (arith, (within ks ss ts vs ns).known)

  pub in-numbers : i < length ns
  in-numbers = omega (arith, (within ks ss ts vs ns).numbers)

pub reference-is : (ks ss ts vs ns : List ℕ) (i : ℕ) → i < length (references_of ks ss ts vs ns)
    → record { kind = get_or ks i 0; space = get_or ss i 0; target = get_or ts i 0; known = get_or vs i 0; number = get_or ns i 0 } ≡ get_or (references_of ks ss ts vs ns) i absent
unfolding references_of
reference-is [] ss ts vs ns i h = absurd (omega arith)
reference-is (k ∷ ks) [] ts vs ns i h = absurd (omega arith)
reference-is (k ∷ ks) (s ∷ ss) [] vs ns i h = absurd (omega arith)
reference-is (k ∷ ks) (s ∷ ss) (t ∷ ts) [] ns i h = absurd (omega arith)
reference-is (k ∷ ks) (s ∷ ss) (t ∷ ts) (v ∷ vs) [] i h = absurd (omega arith)
reference-is (k ∷ ks) (s ∷ ss) (t ∷ ts) (v ∷ vs) (n ∷ ns) zero h = refl
reference-is (k ∷ ks) (s ∷ ss) (t ∷ ts) (v ∷ vs) (n ∷ ns) (suc i) h = reference-is ks ss ts vs ns i (omega arith)

-- ── unresolved ───────────────────────────────────────────────────────────────────────────────

module _ (x : Reference) where
  pub no-parent : 1 < x.kind → false ≡ is_unresolved x
  unfolding is_unresolved
  no-parent h = rw (le-ltb x.kind 2 h)

  module _ (h : x.kind ≤ 1) where
    pub by-sequence : x.space ≡ 3 → false ≡ is_unresolved x
    unfolding is_unresolved names is_empty
    by-sequence s = let k : x.kind < 2 = omega arith in rw (lt-ltb x.kind 2 k, eq-eqb x.space 3 s)

    pub by_answer : (x.space ≡ 3 → ⊥) → eqb x.known 0 ≡ is_unresolved x
    unfolding is_unresolved names is_empty
    by_answer s = let k : x.kind < 2 = omega arith in elim (tested (eqb x.known 0)) [
      | inl e ↦ rw (lt-ltb x.kind 2 k, ne_eqb x.space 3 s, e)
      | inr e ↦ rw (lt-ltb x.kind 2 k, ne_eqb x.space 3 s, e)
    ]

module _ {t : ℕ} (xs : List Reference) (n i count : ℕ) (m : n ≡ length xs) (e : t ≡ count + length (filter is_unresolved (drop i xs))) where
  pub counted-all : n ≤ i → count ≡ t
  unfolding filter
  counted-all h = rw (e, drop_of_length-le xs {i = i} (omega arith)) (omega arith)

  module _ (h : i < n) (x : Reference) (f : x ≡ get_or xs i absent) {r : Bool} (g : r ≡ is_unresolved x) where
    pub counted-one : r ≡ true → (now : ℕ) → now ≡ count + 1 → t ≡ now + length (filter is_unresolved (drop (i + 1) xs))
    unfolding filter
    counted-one q now u = let k : i < length xs = omega arith in rw (u, e, drop-cons xs i absent k, ← f, ← g, q, add-one i) (omega arith)

    pub counted_none : r ≡ false → (now : ℕ) → now ≡ count → t ≡ now + length (filter is_unresolved (drop (i + 1) xs))
    unfolding filter
    counted_none q now u = let k : i < length xs = omega arith in rw (u, e, drop-cons xs i absent k, ← f, ← g, q, add-one i)
