use Rattle.ffi_build.specs.Numbers.{depth_at}
use Rattle.ffi.proofs.Told.{flag-set, flag-unset}
use Rattle.ffi_build.proofs.depth_at.Goals as goal

pub returns-then-flag_at : goal.returns-then-flag_at
unfolding depth_at
returns-then-flag_at c = search flag-set

pub returns : goal.returns
unfolding depth_at
returns c = search flag-unset
