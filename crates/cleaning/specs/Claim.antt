-- Demand 3: the one claim, over two whole lists of calls, each from a fresh run. proofs/Claim has its proof.
use Rattle.std.specs.Prelude.{ℕ, List, ◌≡◌}
use Rattle.cleaning.specs.Step.{Call, Bytes, all_of, fresh}
use Rattle.cleaning.specs.History.{Did, history, archive_in, Wrote, cleaned}
use Rattle.cleaning.specs.Alike.{Alike}

-- every accepted write of a list is the cleaned archive of the list: all its bytes, and as many as the write answers
abbrev pub Cleans : (K : ℕ) → List Did → Type 0
Cleans K h = (w : Bytes) → Wrote h w → w ≡ all_of (cleaned K (archive_in K h))

-- every accepted write of one list is of the same length and the same bytes as every accepted write of the other
abbrev pub SameWrites : List Did → List Did → Type 0
SameWrites h g = (w v : Bytes) → Wrote h w → Wrote g v → (w.length ≡ v.length) × (w.bytes ≡ v.bytes)

-- what is claimed of two histories: each list by itself, and both where their archives are alike
pub record Claimed (K : ℕ) (h g : List Did) : Type 0 where
  pub left : Cleans K h
  pub right : Cleans K g
  pub same : Alike K (archive_in K h) (archive_in K g) → SameWrites h g

abbrev pub Claim : (K : ℕ) → Type 0
Claim K = (cs ds : List Call) → Claimed K (history K fresh cs) (history K fresh ds)
