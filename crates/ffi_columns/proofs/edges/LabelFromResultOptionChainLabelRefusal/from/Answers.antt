use Rattle.ffi.proofs.Told.{told-refused}
use Rattle.ffi_columns.specs.Numbers.{label_of}
use Rattle.ffi_columns.proofs.edges.LabelFromResultOptionChainLabelRefusal.from.Goals as goal

pub returns-in-Ok-Some : goal.returns-in-Ok-Some
unfolding label_of
returns-in-Ok-Some c = let found = rw c.in-Ok-Some.is at c.in-Ok-Some.field-0-is in rw (c.in-Ok-Some.is, found)

pub returns-in-Ok-None : goal.returns-in-Ok-None
unfolding label_of
returns-in-Ok-None c = let found = rw c.in-Ok-None.is at c.in-Ok-None.field-0-is in rw (c.in-Ok-None.is, found)

pub returns-in-Err : goal.returns-in-Err
unfolding label_of
returns-in-Err c = search (told-refused label_of (λ n. record { refusal = n; found = 0; chain = 0; seq = 0 }))
