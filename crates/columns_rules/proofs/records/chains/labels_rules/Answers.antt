use Rattle.columns_rules.proofs.records.LabelOrder.{labels-none, chains-count, seqs-count, seqs-fall, labels_kept}
use Rattle.columns_rules.proofs.records.chains.labels_rules.Goals as goal

pub returns-then-not-labelled : goal.returns-then-not-labelled
returns-then-not-labelled c = search labels-none

pub returns-then-chains-rows : goal.returns-then-chains-rows
returns-then-chains-rows c = search chains-count

pub returns-then-seqs-rows : goal.returns-then-seqs-rows
returns-then-seqs-rows c = search seqs-count

pub returns-then-not-seqs_rise : goal.returns-then-not-seqs_rise
returns-then-not-seqs_rise c = search seqs-fall

pub returns : goal.returns
returns c = search labels_kept
