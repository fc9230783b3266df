use Rattle.ffi.proofs.Told.{told-refused}
use Rattle.ffi_columns.specs.Numbers.{ancestor_of}
use Rattle.ffi_columns.proofs.walks.AncestorFromResultOptionU64Refusal.from.Goals as goal

pub returns-in-Ok-Some : goal.returns-in-Ok-Some
unfolding ancestor_of
returns-in-Ok-Some c = let found = rw c.in-Ok-Some.is at c.in-Ok-Some.field-0-is in rw (c.in-Ok-Some.is, found)

pub returns-in-Ok-None : goal.returns-in-Ok-None
unfolding ancestor_of
returns-in-Ok-None c = let found = rw c.in-Ok-None.is at c.in-Ok-None.field-0-is in rw (c.in-Ok-None.is, found)

pub returns-in-Err : goal.returns-in-Err
unfolding ancestor_of
returns-in-Err c = search (told-refused ancestor_of (λ n. record { refusal = n; found = 0; number = 0 }))
