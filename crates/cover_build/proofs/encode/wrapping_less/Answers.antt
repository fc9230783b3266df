use Rattle.std.proofs.Common.{arith}
use Rattle.cover.specs.Cover.{wrapping_less}
use Rattle.cover_build.proofs.encode.wrapping_less.Goals as goal

pub returns : goal.returns
unfolding wrapping_less
returns c = omega arith
