use Rattle.columns_encode.proofs.Limited.{offsets-short, deltas-short}
use Rattle.columns_encode.proofs.early.is_set_short.Goals as goal

pub returns-then-offsets-lt2049 : goal.returns-then-offsets-lt2049
returns-then-offsets-lt2049 c = search offsets-short

pub returns : goal.returns
returns c = search deltas-short
