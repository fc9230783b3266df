-- Lines of words: what each function that writes one has written.
use mathlib.Core.Path.{◌≡◌, refl, sym}
use mathlib.Core.Bool.{Bool, true, false}
use mathlib.Core.List.{List, [], ◌∷◌, ◌++◌, append_assoc}
use Prim.Native.Nat.{ℕ, ◌+◌}
use native.Mathlib.Omega.{arith}
use lib.IntN.{ℤ}
use lib.ListN.{length}
use mir.Syntax.{w64}
use mir.Val.{SFits, to_z, of_z}
use mir.ValLaws.{to_z-of_z}
use Rattle.lists.specs.Text.{text}
use Rattle.columns.specs.Refusal.{number_of}
use Rattle.columns.specs.declared.refusal.Refusal.{Refusal}
use Rattle.cleaning.specs.Lines.{decimal, signed, line, refused_line}
use Rattle.run_text.specs.numbers.Wrote.{Wrote}
use Rattle.run_text.proofs.numbers.Joined.{then, renamed}
use Rattle.run_text.specs.lines.Parts.{spaced, new_text, map_text, head_text}

-- ── words one after the other ────────────────────────────────────────────────────────────────

module _ {l i k : List ℕ} {at p r : ℕ} where
  pub spaced-written : {w : List ℕ} → Wrote (32 ∷ []) 1 l at i p → Wrote w 20 i p k r → Wrote (32 ∷ w) 21 l at k r
  spaced-written a b = then a b

  -- a signed number, as it is read back
  pub delta-written : (d : ℤ) → SFits w64 d → Wrote (32 ∷ []) 1 l at i p → Wrote (signed (to_z w64 (of_z w64 d))) 20 i p k r → Wrote (32 ∷ signed d) 21 l at k r
  delta-written d s a b = then a (rw (to_z-of_z w64 d s) at b)

  -- the words of a line up to its end, from its end on
  pub ending : (w : List ℕ) (ws : List (List ℕ)) {a b : ℕ} → Wrote (32 ∷ w) a l at i p → Wrote (spaced ws ++ (10 ∷ [])) b i p k r → Wrote (spaced (w ∷ ws) ++ (10 ∷ [])) (a + b) l at k r
  ending w ws v u = renamed (then v u) (sym (append_assoc (32 ∷ w) (spaced ws) (10 ∷ []))) (omega arith)

  pub whole-line : (word : List ℕ) (ws : List (List ℕ)) {a b : ℕ} → Wrote word a l at i p → Wrote (spaced ws ++ (10 ∷ [])) b i p k r → Wrote (line word ws) (a + b) l at k r
  unfolding line
  whole-line word ws v u = then v u

-- ── the lines ────────────────────────────────────────────────────────────────────────────────

module _ {l i j : List ℕ} {at p q : ℕ} where
  pub line-written : (word : List ℕ) (n : ℕ) {k : List ℕ} {r : ℕ} → Wrote word (length word) l at i p → Wrote (32 ∷ decimal n) 21 i p j q → Wrote (10 ∷ []) 1 j q k r
      → Wrote (line word (decimal n ∷ [])) (length word + 22) l at k r
  line-written word n a b c = whole-line word (decimal n ∷ []) a (ending (decimal n) [] b c)

  pub map-written : (old : ℕ) (erased : Bool) (new : ℕ) {k m : List ℕ} {r s : ℕ} → Wrote (109 ∷ 97 ∷ 112 ∷ []) 3 l at i p → Wrote (32 ∷ decimal old) 21 i p j q
      → Wrote (32 ∷ new_text erased new) 21 j q k r → Wrote (10 ∷ []) 1 k r m s → Wrote (map_text old erased new) 46 l at m s
  unfolding text
  map-written old erased new a b c d =
      let new = new_text erased new in
      whole-line (text "map") (decimal old ∷ new ∷ []) a (ending (decimal old) (new ∷ []) b (ending new [] c d))

  pub head-written : (group first rows : ℕ) {k m o : List ℕ} {r s t : ℕ} → Wrote (102 ∷ 105 ∷ 108 ∷ 101 ∷ []) 4 l at i p → Wrote (32 ∷ decimal group) 21 i p j q
      → Wrote (32 ∷ decimal first) 21 j q k r → Wrote (32 ∷ decimal rows) 21 k r m s → Wrote (10 ∷ []) 1 m s o t → Wrote (head_text group first rows) 68 l at o t
  unfolding text
  head-written group first rows a b c d e =
      let rest = ending (decimal first) (decimal rows ∷ []) c (ending (decimal rows) [] d e) in
      whole-line (text "file") (decimal group ∷ decimal first ∷ decimal rows ∷ []) a (ending (decimal group) (decimal first ∷ decimal rows ∷ []) b rest)

module _ {was is : List ℕ} {at r : ℕ} where
  pub refused-written : {n : ℕ} (x : Refusal) → n ≡ number_of x → Wrote (line (114 ∷ 101 ∷ 102 ∷ 117 ∷ 115 ∷ 101 ∷ 100 ∷ []) (decimal n ∷ [])) 29 was at is r → Wrote (refused_line x) 29 was at is r
  unfolding refused_line text
  refused-written x e w = rw e at w

  pub reparented-written : (n : ℕ) → Wrote (line (114 ∷ 101 ∷ 112 ∷ 97 ∷ 114 ∷ 101 ∷ 110 ∷ 116 ∷ 101 ∷ 100 ∷ []) (decimal n ∷ [])) 32 was at is r
      → Wrote (line (text "reparented") (decimal n ∷ [])) 32 was at is r
  unfolding text
  reparented-written n w = w

  module _ (erased : Bool) (new : ℕ) where
    pub none_written : erased ≡ true → Wrote (32 ∷ 45 ∷ []) 2 was at is r → Wrote (32 ∷ new_text erased new) 21 was at is r
    unfolding text
    none_written e w = rw e (renamed w refl (omega arith))

    pub new-written : erased ≡ false → Wrote (32 ∷ decimal new) 21 was at is r → Wrote (32 ∷ new_text erased new) 21 was at is r
    new-written e w = rw e w
