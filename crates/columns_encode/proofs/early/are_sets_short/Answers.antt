use Rattle.columns_encode.proofs.Limited.{forward-short, reverse-short, inbound-short}
use Rattle.columns_encode.proofs.early.are_sets_short.Goals as goal

pub returns-then-is_set_short : goal.returns-then-is_set_short
returns-then-is_set_short c = search forward-short

pub returns-then-is_set_short-2 : goal.returns-then-is_set_short-2
returns-then-is_set_short-2 c = search reverse-short

pub returns : goal.returns
returns c = search inbound-short
