-- Document 01, "Archive records": the deltas of a set, 8 bytes each.
use Rattle.std.specs.Prelude.{ℕ, List, map, ℤ}
use Rattle.archive.specs.Bytes.{unsigned_of}
use Rattle.archive.specs.Encode.{column_bytes}

unfoldable pub delta_bytes : List ℤ → List ℕ
delta_bytes ds = column_bytes 8 (map unsigned_of ds)
