use Rattle.run_rules.proofs.limits.Exits.{many-forward, many-reverse, only-inbound}
use Rattle.run_rules.proofs.limits.many_numbers.Goals as goal

pub returns-then-is_over : goal.returns-then-is_over
returns-then-is_over c = search many-forward

pub returns-then-is_over-2 : goal.returns-then-is_over-2
returns-then-is_over-2 c = search many-reverse

pub returns : goal.returns
returns c = search only-inbound
