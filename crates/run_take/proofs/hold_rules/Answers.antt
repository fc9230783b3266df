use Rattle.columns.proofs.Handed.{handed-on}
use Rattle.run_take.proofs.Rulings.{within_both, over-limits, then-files}
use borrow.Author.Rules.{rules}
use Rattle.run_take.proofs.hold_rules.Goals as goal

pub known_rules-requires : goal.known_rules-requires
known_rules-requires c = (search rules, search (within_both, c.in_ok-limits.was))

pub returns-in_err-limits : goal.returns-in_err-limits
returns-in_err-limits c = handed-on _ c.from_residual.ensures (search (over-limits, c.in_err-limits.was))

pub returns : goal.returns
returns c = search (then-files, c.in_ok-limits.was)
