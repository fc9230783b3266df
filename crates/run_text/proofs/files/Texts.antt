-- The lines of a set: what each function that writes some of them has written.
use mathlib.Core.Path.{refl}
use mathlib.Core.List.{List, [], ◌∷◌, map}
use Prim.Native.Nat.{ℕ, ◌+◌, ◌*◌}
use native.Mathlib.Omega.{arith}
use lib.IntN.{ℤ}
use lib.ListN.{length}
use Rattle.lists.specs.Text.{text}
use Rattle.cleaning.specs.Lines.{decimal, signed, line, set_lines}
use Rattle.run_text.specs.numbers.Wrote.{Wrote}
use Rattle.run_text.proofs.numbers.Joined.{then, renamed}
use Rattle.run_text.proofs.lines.Lines.{ending, whole-line}
use Rattle.run_text.specs.lines.Parts.{spaced}
use Rattle.run_text.specs.files.Files.{columns_of, set_size}

module _ {l i : List ℕ} {at p : ℕ} where
  pub name-written : {k : List ℕ} {r : ℕ} (name : List ℕ) → Wrote (32 ∷ []) 1 l at i p → Wrote name (length name) i p k r → Wrote (32 ∷ name) (1 + length name) l at k r
  name-written name a b = then a b

  module _ {j k m : List ℕ} {q r s : ℕ} (name : List ℕ) where
    pub offsets-written : (xs : List ℕ) → Wrote (111 ∷ 102 ∷ 102 ∷ 115 ∷ 101 ∷ 116 ∷ 115 ∷ []) 7 l at i p → Wrote (32 ∷ name) (1 + length name) i p j q
        → Wrote (spaced (map decimal xs)) (21 * length xs) j q k r → Wrote (10 ∷ []) 1 k r m s
        → Wrote (line (text "offsets") (name ∷ map decimal xs)) (9 + (length name + 21 * length xs)) l at m s
    unfolding text
    offsets-written xs a b c d = renamed (whole-line (text "offsets") (name ∷ map decimal xs) a (ending name (map decimal xs) b (then c d))) refl (omega arith)

    pub deltas-written : (ds : List ℤ) → Wrote (100 ∷ 101 ∷ 108 ∷ 116 ∷ 97 ∷ 115 ∷ []) 6 l at i p → Wrote (32 ∷ name) (1 + length name) i p j q
        → Wrote (spaced (map signed ds)) (21 * length ds) j q k r → Wrote (10 ∷ []) 1 k r m s
        → Wrote (line (text "deltas") (name ∷ map signed ds)) (8 + (length name + 21 * length ds)) l at m s
    unfolding text
    deltas-written ds a b c d = renamed (whole-line (text "deltas") (name ∷ map signed ds) a (ending name (map signed ds) b (then c d))) refl (omega arith)

  pub set-written : {k : List ℕ} {r : ℕ} (name os : List ℕ) (ds : List ℤ) → Wrote (line (text "offsets") (name ∷ map decimal os)) (9 + (length name + 21 * length os)) l at i p
      → Wrote (line (text "deltas") (name ∷ map signed ds)) (8 + (length name + 21 * length ds)) i p k r
      → Wrote (set_lines name (columns_of os ds)) (set_size (length name) (length os) (length ds)) l at k r
  unfolding set_lines
  set-written name os ds a b = renamed (then a b) refl (omega arith)
