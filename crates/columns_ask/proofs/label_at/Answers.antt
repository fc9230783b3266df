use Rattle.columns_ask.proofs.Labels.{short-beside, short-at, label-below, label-past, label-told}
use Rattle.columns_ask.proofs.label_at.Goals as goal

pub returns-then-number-first : goal.returns-then-number-first
returns-then-number-first c = search label-below

pub returns-then-chains-row : goal.returns-then-chains-row
returns-then-chains-row c = search label-past

pub overflow_cast-chain : goal.overflow_cast-chain
overflow_cast-chain c = search short-at

pub overflow_cast-seq : goal.overflow_cast-seq
overflow_cast-seq c = search short-beside

pub returns : goal.returns
returns c = search label-told
