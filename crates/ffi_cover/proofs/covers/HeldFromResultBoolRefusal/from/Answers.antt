use Rattle.std.specs.Prelude.{◌≡◌, ℕ, Bool, true, false, Ok, Result}
use Rattle.std.specs.Int.{from_bool}
use Rattle.columns.specs.declared.refusal.Refusal.{Refusal}
use Rattle.ffi.proofs.Told.{told-refused}
use Rattle.ffi_cover.specs.Numbers.{held_of}
use Rattle.ffi_cover.proofs.covers.HeldFromResultBoolRefusal.from.Goals as goal

-- 1 for yes, 0 for no
held_told : (w : Result Bool Refusal) (holds : Bool) {n : ℕ} → w ≡ Ok holds → n ≡ from_bool holds → record { refusal = 0; holds = n } ≡ held_of w
unfolding held_of
held_told w true e h = rw (e, h)
held_told w false e h = rw (e, h)

pub returns-in-Ok : goal.returns-in-Ok
returns-in-Ok c = search held_told

pub returns-in-Err : goal.returns-in-Err
unfolding held_of
returns-in-Err c = search (told-refused held_of (λ n. record { refusal = n; holds = 0 }))
