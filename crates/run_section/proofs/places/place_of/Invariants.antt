use Prim.Native.Nat.{◌-◌, ◌≤◌}
use Rattle.cleaning.specs.Sections.{place}
use Rattle.run_section.specs.Tables.{keys}
use Rattle.run_section.proofs.places.place_of.Given as goal

abbrev pub invariant-loop-low : goal.invariant-loop-low
invariant-loop-low l =
    (l.low ≤ place l.x (keys l.width l.n l.table)) × (place l.x (keys l.width l.n l.table) ≤ l.high) × (l.high ≤ l.n)

abbrev pub decreases-loop-low : goal.decreases-loop-low
decreases-loop-low l = l.high - l.low
