use Rattle.ffi.proofs.Told.{told-arm}
use Rattle.ffi_build.specs.Numbers.{built_of}
use Rattle.ffi_build.proofs.built_of.Goals as goal

pub returns-in-Ok : goal.returns-in-Ok
unfolding built_of
returns-in-Ok c = cc

pub returns-in-Err : goal.returns-in-Err
unfolding built_of
returns-in-Err c = search (told-arm built_of)
