-- A cleaned archive, taken again, is written as the same bytes.
use mathlib.Core.Path.{◌≡◌, ap, subst}
use mathlib.Core.List.{[], ◌∷◌}
use Prim.Native.Nat.{ℕ, ◌≤◌}
use lib.ListN.{length}
use Rattle.columns.specs.Limits.{Served}
use Rattle.archive.specs.Encode.{encode}
use Rattle.cleaning.specs.Summary.{Summary, summary}
use Rattle.cleaning.specs.Writing.{bytes_of, outputs}
use Rattle.cleaning.specs.Step.{takes, resolves, writes, all_of, fresh}
use Rattle.cleaning.specs.History.{archive_of_files, history, Wrote, cleaned}
use Rattle.cleaning.specs.Accepted.{Idempotent}
use Rattle.cleaning.proofs.Good.{Good}
use Rattle.cleaning.proofs.Goodness.{good}
use Rattle.cleaning.proofs.Written.{accepted}
use Rattle.cleaning.proofs.Again.{summary-again}
use Rattle.cleaning.proofs.TakenAgain.{cleanable-again}

-- the output files of a good summary, cleaned, are their own bytes
pub cleaned-again : (K : ℕ) (served : Served K) (S : Summary) → Good K S → cleaned K (archive_of_files K (outputs K S)) ≡ bytes_of K S
unfolding cleaned
cleaned-again K served S g = ap (bytes_of K) (summary-again K served S g)

pub idempotent : (K : ℕ) (served : Served K) → Idempotent K
unfolding cleaned bytes_of
idempotent K served fs c room l =
    let S : Summary = summary K (archive_of_files K fs) in
    let same = cleaned-again K served S (good K served fs c) in
    subst (λ w. length w ≤ room → Wrote (history K fresh (takes (encode (outputs K S)) ∷ resolves ∷ writes room ∷ [])) (all_of w)) same
    (accepted K served (outputs K S) (cleanable-again K served S (good K served fs c) (c.chains, c.spans)) room) l
