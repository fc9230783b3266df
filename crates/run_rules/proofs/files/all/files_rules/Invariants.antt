use mathlib.Core.Path.{◌≡◌}
use Prim.Native.Nat.{◌≤◌, ◌-◌}
use lib.ListN.{length}
use Rattle.columns.specs.Limits.{kinds}
use Rattle.archive.specs.Parse.{parse, files}
use Rattle.archive_read.specs.Sums.{totals_of}
use Rattle.columns.specs.Answers.{ruling}
use Rattle.run_rules.specs.files.Archive.{rules_of, Within, seen_of}
use Rattle.run_rules.proofs.files.all.files_rules.Given as goal

abbrev pub invariant-loop-p : goal.invariant-loop-p
invariant-loop-p l =
    (l.p ≤ length l.bytes) × (l.k ≤ l.p) × (l.s.length ≤ length l.s.subject) × Within (totals_of (files kinds (length l.bytes - l.k) l.bytes l.p))
    × (ruling (rules_of (seen_of l.initial.s) (parse kinds l.bytes)) ≡ ruling (rules_of (seen_of l.s) (files kinds (length l.bytes - l.k) l.bytes l.p)))

abbrev pub decreases-loop-p : goal.decreases-loop-p
decreases-loop-p l = length l.bytes - l.p
