-- A beginning of a list has as many elements as it is asked for.
use mathlib.Core.Path.{◌≡◌, sym}
use mathlib.Core.List.{List}
use Prim.Native.Nat.{ℕ, ◌<◌}
use native.Mathlib.Omega.{arith}
use lib.ListN.{length, take}
use lib.Seq.{length-take-le}

pub begins : (k : ℕ) (l : List ℕ) → k < length l → k ≡ length (take k l)
begins k l h = sym (length-take-le k l (omega arith))
