use Rattle.run_state.proofs.Verdicts.{long-subject, many-groups, many-rows, many-unresolved, many-roots, many-links, counts-last}
use Rattle.run_state.proofs.valid.counts_ok.Goals as goal

pub returns-then-s-gt255 : goal.returns-then-s-gt255
returns-then-s-gt255 c = search long-subject

pub returns-then-s-gt16 : goal.returns-then-s-gt16
returns-then-s-gt16 c = search many-groups

pub returns-then-s-gt1024 : goal.returns-then-s-gt1024
returns-then-s-gt1024 c = search many-rows

pub returns-then-s-gt1024-2 : goal.returns-then-s-gt1024-2
returns-then-s-gt1024-2 c = search many-unresolved

pub returns-then-s-gt1024-3 : goal.returns-then-s-gt1024-3
returns-then-s-gt1024-3 c = search many-roots

pub returns-then-s-gt1024-4 : goal.returns-then-s-gt1024-4
returns-then-s-gt1024-4 c = search many-links

pub returns : goal.returns
returns c = search counts-last
