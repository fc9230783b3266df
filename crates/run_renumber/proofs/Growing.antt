-- A list that grows in place at the end of a column: one number more, each of a part more.
use Rattle.std.specs.Prelude.{None, Some, Option}
use mathlib.Core.Path.{◌≡◌, refl, sym, ◌∙◌, ap}
use mathlib.Core.Bool.{Bool, true, false}
use mathlib.Core.List.{List, [], ◌∷◌, foldl}
use Prim.Native.Nat.{ℕ, suc, ◌≤◌, ◌<◌, ◌+◌}
use native.Mathlib.Nat.{le_trans}
use native.Mathlib.Numerals.{add-one}
use native.Mathlib.Omega.{arith}
use lib.ListN.{length, take, get_or, set, length-set, length-take, length-append}
use lib.Seq.{slice, slice-cons, length-slice, take-suc-set, drop-append-le, take-set-le, get_or-take}
use Rattle.lists.specs.Lists.{mem, add}
use Rattle.lists.proofs.Slices.{slice-none}
use Rattle.lists.proofs.Once.{fold-grows}
use Rattle.run_renumber.specs.Answers.{Grew, Exact}

-- ── one number more ──────────────────────────────────────────────────────────────────────────

module _ {b : Bool} (x base end : ℕ) (l : List ℕ) (o : base ≤ end) (h : end ≤ length l) (e : b ≡ mem x (slice base end l)) where
  pub was-there : b ≡ true → Grew base l l end (add (slice base end l) x)
  unfolding add
  was-there f = record { room = h; above = o; kept = refl; holds = rw (← e, f) }

  pub put-after : b ≡ false → end < length l → Grew base l (set l end x) (end + 1) (add (slice base end l) x)
  unfolding add
  put-after f i = record {
    room = simp length-set (omega arith);
    above = omega arith;
    kept = take-set-le base l end x o;
    holds = rw (← e, f, add-one, take-suc-set l end x i) (drop-append-le base (take end l) (x ∷ []) (simp length-take (omega arith)));
  }

  pub no_room : b ≡ false → length l ≤ end → length l < base + length (add (slice base end l) x)
  unfolding add
  no_room f i = rw (← e, f) (omega (arith, length-append (slice base end l) (x ∷ []), length-slice base end l h))

-- ── what a call left ─────────────────────────────────────────────────────────────────────────

module _ (r : Option ℕ) (m base : ℕ) (was is list : List ℕ) (k : Exact r base was is list) (e : r ≡ Some m) where
  pub grew : Grew base was is m list
  grew = rw e at k

  pub above-now : base ≤ m
  above-now = grew.above

  pub room-now : m ≤ length is
  room-now = grew.room

  pub kept-now : (first : List ℕ) → take base was ≡ take base first → take base is ≡ take base first
  kept-now first q = grew.kept ∙ q

pub too_long : (r : Option ℕ) (base : ℕ) (was is list : List ℕ) → Exact r base was is list → r ≡ None → length is < base + length list
too_long r base was is list k e = rw e at k

-- ── each of a part more ──────────────────────────────────────────────────────────────────────

same-below : (base i : ℕ) (x y : List ℕ) → take base x ≡ take base y → i < base → get_or x i 0 ≡ get_or y i 0
same-below base i x y e h = sym (get_or-take base x i 0 h) ∙ ap (λ (l : List ℕ). get_or l i 0) e ∙ get_or-take base y i 0 h

-- `was` is the column at the start, `l` before a turn
module _ {t : List ℕ} (base n i b : ℕ) (was l : List ℕ) (k : take base l ≡ take base was) (above : base ≤ n) (room : n ≤ length l) (len : length l ≡ length was)
    (e : t ≡ foldl add (slice base n l) (slice i b was)) where
  pub merge-done : b ≤ i → Grew base was l n t
  merge-done h = record { room = room; above = above; kept = k; holds = rw (e, slice-none i b was h) }

  module _ (h : i < b) (o : b ≤ base) (r : Option ℕ) (is : List ℕ) (x : Exact r base l is (add (slice base n l) (get_or l i 0))) where
    turned : t ≡ foldl add (add (slice base n l) (get_or l i 0)) (slice (suc i) b was)
    turned = rw (e, slice-cons i b was 0 h (omega arith), same-below base i l was k (omega arith))

    pub merge-more : (m : ℕ) → r ≡ Some m → t ≡ foldl add (slice base m is) (slice (i + 1) b was)
    merge-more m f = rw ((grew r m base l is (add (slice base n l) (get_or l i 0)) x f).holds, add-one) turned

    pub merge-full : r ≡ None → length is < base + length t
    merge-full f =
        rw turned
        (le_trans (too_long r base l is (add (slice base n l) (get_or l i 0)) x f)
        (omega (arith, fold-grows (add (slice base n l) (get_or l i 0)) (slice (suc i) b was))))
