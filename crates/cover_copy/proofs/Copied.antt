-- The fronts of columns that were copied.
use mathlib.Core.Path.{◌≡◌}
use mathlib.Core.List.{List}
use Prim.Native.Nat.{ℕ, ◌≤◌}
use native.Mathlib.Omega.{arith}
use lib.ListN.{length, take}
use lib.Seq.{length-take-le}
use Rattle.cover.specs.Cover.{links_of}
use Rattle.cover.specs.Answers.{over}
use Rattle.cover_rows.proofs.Columned.{take-over}

pub copied : (n : ℕ) (column out now : List ℕ) → now ≡ over (take n column) out → n ≤ length column → take n now ≡ take n column
copied n column out now e le = rw e (take-over (take n column) out n (length-take-le n column le))

pub front_fits : (n : ℕ) (column out : List ℕ) → n ≤ length column → n ≤ length out → length (take n column) ≤ length out
front_fits n column out h l = omega (arith, length-take-le n column h)

-- links of columns with the same fronts
pub fronts-same : (n : ℕ) (a b c d x y z w : List ℕ) → take n x ≡ take n a → take n y ≡ take n b → take n z ≡ take n c → take n w ≡ take n d
    → links_of (take n x) (take n y) (take n z) (take n w) ≡ links_of (take n a) (take n b) (take n c) (take n d)
fronts-same n a b c d x y z w ea eb ec ed = rw (ea, eb, ec, ed)
