-- Demand 3 over the cleaner of one call: it takes an archive's bytes, resolves and writes, so that the claim is over two archives' bytes.
use Rattle.std.specs.Prelude.{◌≡◌, List, ℕ, ◌≤◌, ◌<◌, length, take, Ok}
use Rattle.columns.specs.Limits.{kinds}
use Rattle.cleaning.specs.Step.{Bytes, all_of, wrote}
use Rattle.cleaning.specs.History.{archive_of_bytes, cleaned}
use Rattle.cleaning.specs.Alike.{Alike}
use Rattle.cleaning.specs.Listing.{cleaned_bytes}
use Rattle.run_write.specs.Answers.{Gives}
use Rattle.run_clean.specs.Cleans.{cleaned_from}

-- an accepted cleaning of bytes has written w: literally what the contract of `run_clean::clean` says of an answer that is a length
pub data CleanedTo (bytes : List ℕ) : Bytes → Type 0 where
  gave : (was is : List ℕ) (n : ℕ) → Gives wrote (cleaned_from bytes) was is (Ok n) → CleanedTo bytes (record { length = n; bytes = take n is })

-- what is claimed of two archives' bytes, by what an accepted cleaning of bytes has written: each by itself, and both where they are alike
pub record CleaningsClaimed (To : List ℕ → Bytes → Type 0) (a b : List ℕ) : Type 0 where
  pub left : (w : Bytes) → To a w → w ≡ all_of (cleaned kinds (archive_of_bytes kinds a))
  pub right : (w : Bytes) → To b w → w ≡ all_of (cleaned kinds (archive_of_bytes kinds b))
  pub same : Alike kinds (archive_of_bytes kinds a) (archive_of_bytes kinds b) → (w v : Bytes) → To a w → To b v → (w.length ≡ v.length) × (w.bytes ≡ v.bytes)

abbrev pub ClaimOfCleanings : Type 0
ClaimOfCleanings = (a b : List ℕ) → CleaningsClaimed CleanedTo a b

-- the definition that computes is what an accepted cleaning has written; and where it gives bytes that have room, the cleaning is accepted
pub record Computed (bytes : List ℕ) : Type 0 where
  pub written : (w : Bytes) → CleanedTo bytes w → w ≡ all_of (cleaned_bytes kinds bytes)
  pub accepted : (room : ℕ) → 0 < length (cleaned_bytes kinds bytes) → length (cleaned_bytes kinds bytes) ≤ room → cleaned_from bytes room ≡ wrote (all_of (cleaned_bytes kinds bytes))

abbrev pub CleaningComputes : Type 0
CleaningComputes = (bytes : List ℕ) → Computed bytes
