-- The three parts of a listing, one after the other: each has room, and together they are the text.
use mathlib.Core.Path.{◌≡◌}
use mathlib.Core.List.{List, [], ◌∷◌}
use Prim.Native.Nat.{ℕ, ◌+◌, ◌*◌, ◌≤◌}
use native.Mathlib.Omega.{arith}
use lib.ListN.{length}
use Rattle.lists.specs.Text.{text}
use Rattle.cleaning.specs.Cleaning.{reparented}
use Rattle.cleaning.specs.Lines.{decimal, line}
use Rattle.run_state.specs.declared.Held.{Held}
use Rattle.run_resolve.specs.Outcome.{archive_in}
use Rattle.run_text.specs.numbers.Wrote.{Wrote}
use Rattle.run_text.proofs.numbers.Joined.{then}
use Rattle.run_list.specs.Rows.{maps_text}
use Rattle.run_list.specs.Listed.{text_with}
use Rattle.run_list.proofs.OneFile.{same_length}

module _ (h : Held) (lines : List ℕ) (need : ℕ) {was mid : List ℕ} {p : ℕ} (a : Wrote (maps_text (archive_in h)) (46 * h.sheet.rows.count) was 0 mid p)
    (room : 46 * h.sheet.rows.count + (need + 32) ≤ length was) where
  pub files-fit : p + need ≤ length mid
  files-fit = omega (arith, same_length a, a.next, a.short)

  module _ {last : List ℕ} {q : ℕ} (b : Wrote lines need mid p last q) where
    pub last_fits : q + 32 ≤ length last
    last_fits = omega (arith, same_length a, same_length b, a.next, a.short, b.next, b.short)

    pub text-written : {is : List ℕ} {r n : ℕ} → n ≡ reparented (archive_in h) → Wrote (line (text "reparented") (decimal n ∷ [])) 32 last q is r
        → Wrote (text_with (archive_in h) lines) (46 * h.sheet.rows.count + (need + 32)) was 0 is r
    unfolding text_with
    text-written e w = then a (then b (rw e at w))
