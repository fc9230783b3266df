use Rattle.archive_bytes.proofs.Twos.{low, high}
use Rattle.archive_bytes.proofs.signed.Goals as goal

pub returns-then-n-lt9223372036854775808 : goal.returns-then-n-lt9223372036854775808
returns-then-n-lt9223372036854775808 c = search low

pub returns : goal.returns
returns c = search high
