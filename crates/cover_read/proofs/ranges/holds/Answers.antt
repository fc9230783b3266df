use Rattle.cover_read.proofs.Ranged.{fit-level, in-minima, in-maxima, window-past, window-other, window-under, window-meets}
use Rattle.cover_read.proofs.ranges.holds.Goals as goal

pub place_in_narrow-p-requires : goal.place_in_narrow-p-requires
place_in_narrow-p-requires c = search fit-level

pub returns-then-ids-p : goal.returns-then-ids-p
returns-then-ids-p c = search window-past

pub returns-then-ids-p-2 : goal.returns-then-ids-p-2
returns-then-ids-p-2 c = search window-other

pub bounds-minima-p : goal.bounds-minima-p
bounds-minima-p c = search in-minima

pub returns-then-high-minima : goal.returns-then-high-minima
returns-then-high-minima c = search window-under

pub bounds-maxima-p : goal.bounds-maxima-p
bounds-maxima-p c = search in-maxima

pub returns : goal.returns
returns c = search window-meets
