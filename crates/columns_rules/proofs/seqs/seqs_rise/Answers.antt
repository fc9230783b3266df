use native.Mathlib.Omega.{arith}
use Rattle.columns_rules.proofs.seqs.LabelTurns.{none-held}
use Rattle.columns_rules.proofs.seqs.seqs_rise.Goals as goal

pub rise_in-requires-clause-held : goal.rise_in-requires-clause-held
rise_in-requires-clause-held c = none-held _ 1024 1031 (omega arith)
