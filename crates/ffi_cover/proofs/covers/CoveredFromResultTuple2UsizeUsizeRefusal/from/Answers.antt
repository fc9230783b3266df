use Rattle.ffi.proofs.Told.{told-refused}
use Rattle.ffi_cover.specs.Numbers.{covered_of}
use Rattle.ffi_cover.proofs.covers.CoveredFromResultTuple2UsizeUsizeRefusal.from.Goals as goal

pub returns-in-Ok : goal.returns-in-Ok
unfolding covered_of
returns-in-Ok c = cc

pub returns-in-Err : goal.returns-in-Err
unfolding covered_of
returns-in-Err c = search (told-refused covered_of (λ n. record { refusal = n; ranges = 0; links = 0 }))
