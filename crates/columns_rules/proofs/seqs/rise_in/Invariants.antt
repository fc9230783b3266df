-- The invariant: the table has the chains of the rows so far, and the rest of the labels
-- decides.
use mathlib.Core.Path.{◌≡◌}
use mathlib.Core.List.{[]}
use lib.ListN.{length, drop}
use Rattle.columns.specs.Reading.{labels_of}
use Rattle.columns.specs.Building.{seqs_rise}
use Rattle.columns_rules.specs.seqs.Earlier.{earlier_labels, Held}
use Rattle.columns_rules.proofs.seqs.rise_in.Given as goal

abbrev pub invariant-loop-n : goal.invariant-loop-n
invariant-loop-n l =
    (length l.keys ≡ length l.initial.keys) × (length l.links ≡ length l.initial.links) × (length l.heads ≡ length l.initial.heads) × Held l.chains l.keys l.links l.heads l.n
    × (seqs_rise [] (labels_of l.chains l.seqs) ≡ seqs_rise (earlier_labels l.chains l.seqs l.n) (labels_of (drop l.n l.chains) (drop l.n l.seqs)))
