use Rattle.run.specs.Promises.{replied}
use Rattle.ffi.specs.Numbers.{refusal_of}
use Rattle.ffi.proofs.Told.{told-arm}
use Rattle.ffi_run.proofs.reply_number.Goals as goal

pub returns-in-Ok : goal.returns-in-Ok
unfolding refusal_of
returns-in-Ok c = cc

pub returns-in-Err : goal.returns-in-Err
unfolding refusal_of
returns-in-Err c = search (told-arm (λ a. refusal_of (replied a)))
