-- Text as bytes: what the listing program prints, and the words of its lines.
use Rattle.std.specs.Prelude.{List, ℕ}
use mathlib.Core.List
use Prim.Native.Char.{code}
use Prim.Native.String.{String, [], ◌∷◌}

-- the bytes of a text in ASCII
unfoldable pub text : String → List ℕ
text [] = List.[]
text (c ∷ s) = List.◌∷◌ (code c) (text s)
