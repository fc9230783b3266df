-- The rules of records, one after another.
use Rattle.std.specs.Prelude.{Err, Ok, Result}
use Prim.Native.Nat.{ℕ, ◌+◌}
use Rattle.columns.specs.Building.{Depth, record_count, depth_ok, labels_rules}
use Rattle.columns.specs.Reading.{Labels}
use Rattle.columns.specs.Refusal.{first_of}
use Rattle.columns.specs.declared.refusal.Refusal.TheVariants.{DepthOrder}
use Rattle.columns.specs.declared.refusal.Refusal.{Refusal}
use Rattle.columns.proofs.Told.{last-rule, goes_on, stops-here}
use Rattle.columns.specs.Answers.{ruling}
use Rattle.columns_rules.specs.records.Recorded.{depth_of, unresolved_from, depth_rules, record_rules}
use Rattle.columns.specs.declared.depth.Depth.TheVariants.{Unknown, Between}
use borrow.Author.Tests.{not-true, not-false}
use lib.Dec.{leb}
use mathlib.Core.Bool.{Bool, true, false, not}
use mathlib.Core.List.{List}
use mathlib.Core.Option.{Option}
use mathlib.Core.Path.{◌≡◌, sym, ◌∙◌, ap}
use Rattle.columns.specs.declared.depth.Depth as given

pub depth-unknown : (d : given.Depth) → d ≡ Unknown → true ≡ depth_ok (depth_of d)
unfolding depth_of
depth-unknown d e = rw e

pub depth-known : (d : given.Depth) (a b : ℕ) → d ≡ Between a b → leb a b ≡ depth_ok (depth_of d)
unfolding depth_of
depth-known d a b e = rw e

-- ── 8 to 10 ──────────────────────────────────────────────────────────────────────────────────

module _ (rows : ℕ) (depth : Option Depth) (labels : Option Labels) {a : Bool} (e : a ≡ depth_ok depth) where
  pub depth-bad : not a ≡ true → Err DepthOrder ≡ ruling (depth_rules rows depth labels)
  unfolding depth_rules first_of
  depth-bad p = rw (← e, not-true a p)

  pub then-labels : not a ≡ false → {s : Result (Unit {0}) Refusal} → s ≡ ruling (labels_rules rows labels) → s ≡ ruling (depth_rules rows depth labels)
  unfolding depth_rules first_of
  then-labels p k = rw (← e, not-false a p) (k ∙ ap ruling (sym (last-rule (labels_rules rows labels))))

-- ── 6 to 10 ──────────────────────────────────────────────────────────────────────────────────

module _ (first rows : ℕ) (cs ks fs : List ℕ) (depth : Option Depth) (labels : Option Labels) {r : Result (Unit {0}) Refusal}
    (e : r ≡ ruling (unresolved_from first (first + rows) cs ks fs 0 (record_count cs ks fs))) where
  pub records-stop : (x : Refusal) → r ≡ Err x → Err x ≡ ruling (record_rules first rows cs ks fs depth labels)
  unfolding record_rules
  records-stop x f = stops-here (unresolved_from first (first + rows) cs ks fs 0 (record_count cs ks fs)) (depth_rules rows depth labels) e x f

  pub records-then : r ≡ Ok tt → {s : Result (Unit {0}) Refusal} → s ≡ ruling (depth_rules rows depth labels) → s ≡ ruling (record_rules first rows cs ks fs depth labels)
  unfolding record_rules
  records-then f k = goes_on (unresolved_from first (first + rows) cs ks fs 0 (record_count cs ks fs)) (depth_rules rows depth labels) e f k
