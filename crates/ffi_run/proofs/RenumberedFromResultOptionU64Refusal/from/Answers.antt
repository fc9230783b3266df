use Rattle.run.specs.Promises.{numbered}
use Rattle.ffi.proofs.Told.{told-refused}
use Rattle.ffi_run.specs.Steps.{told_of}
use Rattle.ffi_run.proofs.RenumberedFromResultOptionU64Refusal.from.Goals as goal

pub returns-in-Ok-Some : goal.returns-in-Ok-Some
unfolding told_of
returns-in-Ok-Some c = let known = rw c.in-Ok-Some.is at c.in-Ok-Some.field-0-is in rw (c.in-Ok-Some.is, known)

pub returns-in-Ok-None : goal.returns-in-Ok-None
unfolding told_of
returns-in-Ok-None c = let known = rw c.in-Ok-None.is at c.in-Ok-None.field-0-is in rw (c.in-Ok-None.is, known)

pub returns-in-Err : goal.returns-in-Err
unfolding told_of
returns-in-Err c = search (told-refused (λ a. told_of (numbered a)) (λ n. record { refusal = n; known = 0; number = 0 }))
