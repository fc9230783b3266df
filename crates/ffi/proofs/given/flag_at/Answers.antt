use mathlib.Core.Path.{refl}
use Rattle.ffi.specs.Numbers.{flag_at}
use Rattle.ffi.proofs.given.flag_at.Goals as goal

pub returns : goal.returns
unfolding flag_at
returns c = refl
