-- The tests of a head: each answer of each of them.
use Rattle.std.specs.Prelude.{Err, Ok}
use mathlib.Core.Path.{◌≡◌, refl, ap}
use mathlib.Core.Bool.{Bool, true, false, not, ◌&&◌, ◌||◌, beq}
use mathlib.Core.List.{List, [], ◌∷◌}
use Prim.Native.Nat.{ℕ, suc, ◌+◌, ◌-◌, ◌≤◌, ◌<◌}
use native.Mathlib.Numerals.{add-one}
use native.Mathlib.Omega.{arith}
use lib.Dec.{leb, eqb}
use lib.ListN.{length, get_or, drop, drop_of_length-le}
use lib.Seq.{drop-cons}
use borrow.Author.Tests.{eq-eqb, ne_eqb, not-true, not-false}
use Rattle.lists.specs.Lists.{same}
use Rattle.lists.proofs.Once.{eqb-iff}
use Rattle.columns.specs.Building.{depth_ok}
use Rattle.columns.specs.Refusal.{refuse}
use Rattle.columns.specs.declared.refusal.Refusal.TheVariants.{GroupOrder}
use Rattle.columns.specs.Answers.{ruling}
use Rattle.archive.specs.Parse.{depth_read}
use Rattle.run_rules.specs.parts.Back.{groups_near}

-- ── depth ────────────────────────────────────────────────────────────────────────────────────

module _ (flag least greatest : ℕ) where
  pub depth-unknown : (flag ≡ 1 → ⊥) → true ≡ depth_ok (depth_read flag least greatest)
  depth-unknown h = rw (ne_eqb flag 1 h)

  pub depth-known : flag ≡ 1 → leb least greatest ≡ depth_ok (depth_read flag least greatest)
  depth-known h = rw (eq-eqb flag 1 h)

-- ── the same bytes ───────────────────────────────────────────────────────────────────────────

pub other_length : (xs ys : List ℕ) → (length xs ≡ length ys → ⊥) → false ≡ same xs ys
unfolding same
other_length [] [] h = absurd (h refl)
other_length [] (y ∷ ys) h = refl
other_length (x ∷ xs) [] h = refl
other_length (x ∷ xs) (y ∷ ys) h = go (eqb x y) (other_length xs ys (λ e. h (ap suc e)))
  where
    go : (t : Bool) {r : Bool} → false ≡ r → false ≡ (t && r)
    go false e = refl
    go true e = e

module _ {t : Bool} (i : ℕ) (xs ys : List ℕ) (e : t ≡ same (drop i xs) (drop i ys)) (d : length xs ≡ length ys) where
  pub same-done : length xs ≤ i → true ≡ t
  unfolding same
  same-done h = rw (e, drop_of_length-le xs {i = i} h, drop_of_length-le ys {i = i} (omega arith))

  module _ (h : i < length xs) where
    first_of : i < length ys
    first_of = omega arith

    pub same_not : (get_or xs i 0 ≡ get_or ys i 0 → ⊥) → false ≡ t
    unfolding same
    same_not k = rw (e, drop-cons xs i 0 h, drop-cons ys i 0 first_of, ne_eqb (get_or xs i 0) (get_or ys i 0) k)

    pub same-on : get_or xs i 0 ≡ get_or ys i 0 → t ≡ same (drop (i + 1) xs) (drop (i + 1) ys)
    unfolding same
    same-on k = rw (e, drop-cons xs i 0 h, drop-cons ys i 0 first_of, eq-eqb (get_or xs i 0) (get_or ys i 0) k, add-one)

-- ── groups ───────────────────────────────────────────────────────────────────────────────────

module _ (group last : ℕ) where
  pub near_same : group ≡ last → true ≡ groups_near group last
  unfolding groups_near
  near_same h = rw (eq-eqb group last h)

  module _ (h : group ≡ last → ⊥) where
    pub near_none : group ≡ 0 → false ≡ groups_near group last
    unfolding groups_near
    near_none k = rw (ne_eqb group last h, ne_eqb group (last + 1) (λ e. omega arith))

    pub near_next : (group ≡ 0 → ⊥) → eqb (group - 1) last ≡ groups_near group last
    unfolding groups_near
    near_next k = rw (ne_eqb group last h) (eqb-iff (group - 1) last group (last + 1) (λ e. omega arith) (λ e. omega arith))

pub group-late : (group : ℕ) → (group ≡ 0 → ⊥) → Err GroupOrder ≡ ruling (refuse GroupOrder (not (eqb group 0)))
group-late group h = rw (ne_eqb group 0 h)

pub group-first : (group : ℕ) → group ≡ 0 → (Ok tt) ≡ ruling (refuse GroupOrder (not (eqb group 0)))
group-first group h = rw (eq-eqb group 0 h)

-- ── source and cover ─────────────────────────────────────────────────────────────────────────

module _ (xs ys : List ℕ) (first end : ℕ) {a : Bool} (d : a ≡ same xs ys) where
  pub not_same : not a ≡ true → false ≡ (same xs ys && eqb first end)
  not_same h = rw (← d, not-true a h)

  pub then-end : not a ≡ false → eqb first end ≡ (same xs ys && eqb first end)
  then-end h = rw (← d, not-false a h)

pub beq-true : (a b : Bool) → a ≡ true → b ≡ beq a b
beq-true a true e = rw e
beq-true a false e = rw e

pub beq-false : (a b : Bool) → a ≡ false → not b ≡ beq a b
beq-false a true e = rw e
beq-false a false e = rw e

module _ (group last : ℕ) (covered was : Bool) where
  pub other-group : (group ≡ last → ⊥) → true ≡ (not (eqb group last) || beq covered was)
  other-group h = rw (ne_eqb group last h)

  pub same_group : {r : Bool} → group ≡ last → r ≡ beq covered was → r ≡ (not (eqb group last) || beq covered was)
  same_group h k = rw (eq-eqb group last h) k
