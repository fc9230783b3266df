use Rattle.ffi.proofs.Told.{told-refused}
use Rattle.ffi_columns.specs.Numbers.{walked_of}
use Rattle.ffi_columns.proofs.walks.WalkedFromResultTuple2UsizeUsizeRefusal.from.Goals as goal

pub returns-in-Ok : goal.returns-in-Ok
unfolding walked_of
returns-in-Ok c = cc

pub returns-in-Err : goal.returns-in-Err
unfolding walked_of
returns-in-Err c = search (told-refused walked_of (λ n. record { refusal = n; levels = 0; handed = 0 }))
