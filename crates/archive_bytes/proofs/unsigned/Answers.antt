use Rattle.archive_bytes.proofs.Twos.{neg-back, pos-back}
use Rattle.archive_bytes.proofs.unsigned.Goals as goal

pub returns-then-x-lt0 : goal.returns-then-x-lt0
returns-then-x-lt0 c = search neg-back

pub returns : goal.returns
returns c = search pos-back
