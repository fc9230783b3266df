-- A text that is written part by part: one more part, and the end.
use mathlib.Core.Path.{◌≡◌, sym, ◌∙◌}
use mathlib.Core.List.{List, [], ◌++◌}
use Prim.Native.Nat.{ℕ, ◌+◌, ◌≤◌}
use native.Mathlib.Omega.{arith}
use lib.ListN.{length-append}
use Rattle.lists.proofs.Slices.{sets-append}
use Rattle.run_text.specs.numbers.Wrote.{Wrote}
use Rattle.run_text.proofs.lines.Columns.{Going}

module _ {text was is rest : List ℕ} {at p : ℕ} (g : Going text was at is p rest) where
  pub part-more : {word more k : List ℕ} {r n : ℕ} → rest ≡ word ++ more → Wrote word n is p k r → Going text was at k r more
  part-more {word} {more} e w =
      let q = rw e at g.next in
      record {
        stored = rw e at g.stored ∙ sets-append is p word more ∙ rw (w.next, w.stored);
        next = omega (arith, q, length-append word more, w.next);
      }

  pub parts_end : {size : ℕ} → rest ≡ [] → p ≤ at + size → Wrote text size was at is p
  parts_end e h =
      let n = rw e at g.next in
      record { stored = sym (rw e at g.stored); next = omega (arith, n); short = omega (arith, n) }
