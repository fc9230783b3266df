-- What the stores of each function leave is its definition.
use mathlib.Core.Path.{◌≡◌}
use mathlib.Core.Bool.{Bool, cond}
use mathlib.Core.List.{List}
use Prim.Native.Nat.{ℕ, ◌≤◌, ◌+◌}
use lib.Dec.{eqb}
use lib.ListN.{length, get_or, set, take, drop, length-drop}
use lib.Seq.{sets, length-take-le}
use native.Mathlib.Omega.{arith}
use borrow.Author.Tests.{eq-eqb, ne_eqb}
use Rattle.run_store.specs.grow.Column.{bit}
use Rattle.run_state.specs.declared.Subject.{Subject}
use Rattle.run_state.specs.declared.Groups.{Groups}
use Rattle.run_store.specs.parts.Grown.{smaller, greater, groups_new, groups_joined, groups_with, subject_new}

pub new-made : (g : Groups) (at flag least greatest : ℕ) (covered : Bool) {v w : ℕ} → v ≡ bit (eqb flag 1) → w ≡ bit covered
    → record { count = g.count + 1; known = set g.known at v; least = set g.least at least; greatest = set g.greatest at greatest; covered = set g.covered at w }
    ≡ groups_new g at flag least greatest covered
unfolding groups_new
new-made g at flag least greatest covered e f = rw (e, f)

pub joined_made : (g : Groups) (at flag least greatest : ℕ) {v x y : ℕ} → v ≡ cond (eqb flag 1) (get_or g.known at 0) 0 → x ≡ smaller (get_or g.least at 0) least
    → y ≡ greater (get_or g.greatest at 0) greatest
    → record { count = g.count; known = set g.known at v; least = set g.least at x; greatest = set g.greatest at y; covered = g.covered }
    ≡ groups_joined g at flag least greatest
unfolding groups_joined
joined_made g at flag least greatest e f h = rw (e, f, h)

module _ (g : Groups) (group flag least greatest : ℕ) (covered : Bool) {q : Groups} where
  pub is-new : group ≡ g.count → q ≡ groups_new g group flag least greatest covered → q ≡ groups_with g group flag least greatest covered
  unfolding groups_with
  is-new h e = rw (eq-eqb group g.count h) e

  pub is-joined : (group ≡ g.count → ⊥) → q ≡ groups_joined g group flag least greatest → q ≡ groups_with g group flag least greatest covered
  unfolding groups_with
  is-joined h e = rw (ne_eqb group g.count h) e

pub flag_is : (flag x : ℕ) → flag ≡ 1 → x ≡ cond (eqb flag 1) x 0
flag_is flag x h = rw (eq-eqb flag 1 h)

pub flag-is-not : (flag x : ℕ) → (flag ≡ 1 → ⊥) → 0 ≡ cond (eqb flag 1) x 0
flag-is-not flag x h = rw (ne_eqb flag 1 h)

pub subject-made : (s : Subject) (n : ℕ) (l : List ℕ) {a : List ℕ} → 14 + n ≤ length l → a ≡ sets s.bytes 0 (take n (drop 14 l))
    → record { length = n; bytes = a } ≡ subject_new s (take n (drop 14 l))
unfolding subject_new
subject-made s n l h e = let z : length (take n (drop 14 l)) ≡ n = length-take-le n (drop 14 l) (simp length-drop (omega arith)) in rw (z, e)
