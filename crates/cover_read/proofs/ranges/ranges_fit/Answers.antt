use Rattle.cover_read.proofs.Ranged.{few-minima, few-maxima, ids-fall, then-ordered}
use Rattle.cover_read.proofs.ranges.ranges_fit.Goals as goal

pub returns-then-minima-ids : goal.returns-then-minima-ids
returns-then-minima-ids c = search few-minima

pub returns-then-maxima-ids : goal.returns-then-maxima-ids
returns-then-maxima-ids c = search few-maxima

pub returns-then-not-ids_rise : goal.returns-then-not-ids_rise
returns-then-not-ids_rise c = search ids-fall

pub returns : goal.returns
returns c = search then-ordered
