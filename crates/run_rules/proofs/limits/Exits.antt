-- What the tests of the limits answer, test after test.
use Rattle.std.specs.Prelude.{Err, Ok}
use mathlib.Core.Path.{◌≡◌, refl, sym}
use mathlib.Core.Bool.{Bool, true, false}
use Prim.Native.Nat.{ℕ, ◌+◌, ◌-◌, ◌≤◌, ◌<◌}
use native.Mathlib.Omega.{arith}
use lib.Dec.{ltb}
use borrow.Author.Tests.{lt-ltb, le-ltb, ltb-true, ltb-false}
use Rattle.columns.specs.Limits.{max_records, max_numbers}
use Rattle.columns.specs.Refusal.{first_of}
use Rattle.columns.specs.declared.refusal.Refusal.TheVariants.{OverRecords, OverNumbers, RecordBroken}
use Rattle.archive_read.specs.declared.files.Totals.{Totals}
use Rattle.columns.specs.Answers.{ruling}
use Rattle.run_state.specs.declared.Held.{Held}
use Rattle.run_rules.specs.limits.Figures.{figures, many_records, many_numbers, limit_rules}

module _ (most held more : ℕ) where
  pub over-already : most < held → true ≡ ltb most (held + more)
  over-already h = sym (lt-ltb most (held + more) (omega arith))

  pub over-with : held ≤ most → ltb (most - held) more ≡ ltb most (held + more)
  over-with h = go (ltb (most - held) more) refl
    where
      go : (b : Bool) → ltb (most - held) more ≡ b → b ≡ ltb most (held + more)
      go true e = let q = ltb-true (most - held) more e in sym (lt-ltb most (held + more) (omega arith))
      go false e = let q = ltb-false (most - held) more e in sym (le-ltb most (held + more) (omega arith))

module _ (a b : Totals) (groups : Bool) {x : Bool} (p : x ≡ ltb max_records (a.events + b.events)) where
  pub many-events : x ≡ true → true ≡ many_records a b groups
  unfolding many_records
  many-events h = rw (← p, h)

  module _ (h : x ≡ false) {y : Bool} (q : y ≡ ltb max_records (a.roots + b.roots)) where
    pub many-roots : y ≡ true → true ≡ many_records a b groups
    unfolding many_records
    many-roots k = rw (← p, h, ← q, k)

    module _ (k : y ≡ false) {z : Bool} (r : z ≡ ltb max_records (a.unresolved + b.unresolved)) where
      pub many-unresolved : z ≡ true → true ≡ many_records a b groups
      unfolding many_records
      many-unresolved l = rw (← p, h, ← q, k, ← r, l)

      module _ (l : z ≡ false) {v : Bool} (s : v ≡ ltb max_records (a.ranges + b.ranges)) where
        pub many-ranges : v ≡ true → true ≡ many_records a b groups
        unfolding many_records
        many-ranges m = rw (← p, h, ← q, k, ← r, l, ← s, m)

        module _ (m : v ≡ false) {w : Bool} (t : w ≡ ltb max_records (a.links + b.links)) where
          pub many-links : w ≡ true → true ≡ many_records a b groups
          unfolding many_records
          many-links n = rw (← p, h, ← q, k, ← r, l, ← s, m, ← t, n)

          pub only-groups : w ≡ false → groups ≡ many_records a b groups
          unfolding many_records
          only-groups n = rw (← p, h, ← q, k, ← r, l, ← s, m, ← t, n)

module _ (a b : Totals) {x : Bool} (p : x ≡ ltb max_numbers (a.forward + b.forward)) where
  pub many-forward : x ≡ true → true ≡ many_numbers a b
  unfolding many_numbers
  many-forward h = rw (← p, h)

  module _ (h : x ≡ false) {y : Bool} (q : y ≡ ltb max_numbers (a.reverse + b.reverse)) where
    pub many-reverse : y ≡ true → true ≡ many_numbers a b
    unfolding many_numbers
    many-reverse k = rw (← p, h, ← q, k)

    pub only-inbound : y ≡ false → {r : Bool} → r ≡ ltb max_numbers (a.inbound + b.inbound) → r ≡ many_numbers a b
    unfolding many_numbers
    only-inbound k e = rw (← p, h, ← q, k) e

pub references-there : (h : Held) (t : Totals) (groups : Bool) → 0 < t.references → Err RecordBroken ≡ ruling (limit_rules h t groups)
unfolding limit_rules first_of
references-there h t groups l = rw (lt-ltb 0 t.references l)

module _ (h : Held) (t a : Totals) (groups : Bool) (n : t.references ≤ 0) (e : a ≡ figures h) {x : Bool} (p : x ≡ many_records a t groups) where
  pub records-many : x ≡ true → Err OverRecords ≡ ruling (limit_rules h t groups)
  unfolding limit_rules first_of
  records-many k = rw (le-ltb 0 t.references n, ← e, ← p, k)

  module _ (k : x ≡ false) {y : Bool} (q : y ≡ many_numbers a t) where
    pub numbers-many : y ≡ true → Err OverNumbers ≡ ruling (limit_rules h t groups)
    unfolding limit_rules first_of
    numbers-many l = rw (le-ltb 0 t.references n, ← e, ← p, k, ← q, l)

    pub limits-kept : y ≡ false → (Ok tt) ≡ ruling (limit_rules h t groups)
    unfolding limit_rules first_of
    limits-kept l = rw (le-ltb 0 t.references n, ← e, ← p, k, ← q, l)
