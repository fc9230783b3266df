-- What holds of the sheet that a run holds: as many groups, tags, labels and flags as rows, a list of each kind for every row, and records of its
-- own rows alone.
use mathlib.Core.Path.{◌≡◌}
use Prim.Native.Nat.{ℕ, ◌+◌, ◌*◌, ◌≤◌, ◌<◌}
use lib.ListN.{length}
use Rattle.lists.specs.Lists.{Each}
use Rattle.cleaning.specs.Held.{Held}

-- the rows are as many as the flags
pub record Rows (K : ℕ) (h : Held) : Type 0 where
  pub groups : length h.sheet.row_groups ≡ length h.erased
  pub tags : length h.sheet.tags ≡ length h.erased
  pub labels : length h.sheet.labels ≡ length h.erased
  pub lists : length h.sheet.lists ≡ K * length h.erased
  pub roots : Each (λ r. r.row < length h.erased) h.sheet.roots
  pub unresolved : Each (λ u. (h.sheet.start ≤ u.child) × (u.child < h.sheet.start + length h.erased)) h.sheet.unresolved
