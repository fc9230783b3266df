use Rattle.run_rules.proofs.limits.Exits.{many-events, many-roots, many-unresolved, many-ranges, many-links, only-groups}
use Rattle.run_rules.proofs.limits.many_records.Goals as goal

pub returns-then-is_over : goal.returns-then-is_over
returns-then-is_over c = search many-events

pub returns-then-is_over-2 : goal.returns-then-is_over-2
returns-then-is_over-2 c = search many-roots

pub returns-then-is_over-3 : goal.returns-then-is_over-3
returns-then-is_over-3 c = search many-unresolved

pub returns-then-is_over-4 : goal.returns-then-is_over-4
returns-then-is_over-4 c = search many-ranges

pub returns-then-is_over-5 : goal.returns-then-is_over-5
returns-then-is_over-5 c = search many-links

pub returns : goal.returns
returns c = search only-groups
