use Rattle.ffi.proofs.Told.{told-refused}
use Rattle.ffi_refs.specs.Numbers.{told_of}
use Rattle.ffi_refs.proofs.ResolvedFromResultMadeRefusal.from.Goals as goal

pub returns-in-Ok : goal.returns-in-Ok
unfolding told_of
returns-in-Ok c = cc

pub returns-in-Err : goal.returns-in-Err
unfolding told_of
returns-in-Err c = search (told-refused told_of (λ n. record { refusal = n; parents = 0; unresolved = 0 }))
