-- The invariant: the table with all ranges is this one with those that are left.
use mathlib.Core.Path.{◌≡◌}
use Prim.Native.Nat.{◌≤◌, ◌-◌}
use Rattle.run_section.specs.Covers.{ranges_in, laid}
use Rattle.run_section.proofs.covers.Laying.{laid_from}
use Rattle.run_section.proofs.covers.lay_ranges.Given as goal

abbrev pub invariant-loop-i : goal.invariant-loop-i
invariant-loop-i l = (l.i ≤ l.r.count) × (laid l.at (ranges_in l.r) l.initial.table ≡ laid_from l.r l.at l.table l.i)
