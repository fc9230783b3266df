use Rattle.cover_rows.proofs.Rowed.{row_told}
use Rattle.cover_rows.proofs.Links.is_less.Goals as goal

pub returns : goal.returns
returns c = search row_told
