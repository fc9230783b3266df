use Rattle.archive_bytes.proofs.number_columns.Turns.{no_start, by-division}
use Rattle.archive_bytes.proofs.number_columns.fits.Goals as goal

pub returns-then-len-at : goal.returns-then-len-at
returns-then-len-at c = search no_start

pub returns : goal.returns
returns c = search by-division
