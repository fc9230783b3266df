use Rattle.arrays.proofs.table.Chains.{bucket-end, bucket-hit, bucket-on, falls, falls-in}
use Rattle.arrays.proofs.table.follow.Goals as goal

pub returns-then-keys-j : goal.returns-then-keys-j
returns-then-keys-j c = search bucket-hit

pub loop-i-smaller : goal.loop-i-smaller
loop-i-smaller c = search falls

pub loop-i-preserved : goal.loop-i-preserved
loop-i-preserved c = (search falls-in, search bucket-on)

pub returns : goal.returns
returns c = search bucket-end
