use Rattle.columns_slots.proofs.sets.Turns.{bad-chains, bad-seqs, long-chain, long-seq, labels_kept}
use Rattle.columns_slots.proofs.sets.label_rules.Goals as goal

pub returns-then-chains-rows : goal.returns-then-chains-rows
returns-then-chains-rows c = search bad-chains

pub returns-then-seqs-rows : goal.returns-then-seqs-rows
returns-then-seqs-rows c = search bad-seqs

pub returns-then-not-all_short : goal.returns-then-not-all_short
returns-then-not-all_short c = search long-chain

pub returns-then-not-all_short-2 : goal.returns-then-not-all_short-2
returns-then-not-all_short-2 c = search long-seq

pub returns : goal.returns
returns c = search labels_kept
