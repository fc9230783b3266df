-- Document 01, the worked run: all that the listing program prints of the bytes that it has read.
use Rattle.std.specs.Prelude.{◌≡◌, List, ℕ, take}
use Rattle.columns.specs.Limits.{kinds}
use Rattle.io.specs.Counts.{IsPrefixLen}
use Rattle.cleaning.specs.Listing.{listing}

-- so many of the lent bytes, which are the listing
pub record Printed (bytes is : List ℕ) (r : ℕ) : Type 0 where
  pub within : IsPrefixLen r is
  pub text : take r is ≡ listing kinds bytes
