-- What `?` answers: the refusal that a callee gave, as it came.
use Rattle.std.proofs.Common.{◌≡◌, Result, Err, IsErr, IsErrAnd}
use Rattle.std.proofs.lemmas.Result.{err_from_is_err_and}

-- a goal on what `?` answers is one on the callee's refusal
pub handed-on : {T E : Type 0} {x : E} (r : Result T E) {t : Result T E} → IsErr r × IsErrAnd r (λ y. y ≡ x) → Err x ≡ t → r ≡ t
handed-on r refused e = let p = err_from_is_err_and r refused.1 in rw (p.1, p.2) e
