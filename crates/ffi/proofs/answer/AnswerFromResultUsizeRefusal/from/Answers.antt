use Rattle.ffi.proofs.Told.{told-refused}
use Rattle.ffi.specs.Numbers.{answer_of}
use Rattle.ffi.proofs.answer.AnswerFromResultUsizeRefusal.from.Goals as goal

pub returns-in-Ok : goal.returns-in-Ok
unfolding answer_of
returns-in-Ok c = cc

pub returns-in-Err : goal.returns-in-Err
unfolding answer_of
returns-in-Err c = search (told-refused answer_of (λ n. record { refusal = n; length = 0 }))
