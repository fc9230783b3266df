-- Joined lists as columns: where the lists start climbs to where the last one ends, and lists of one width stand at its multiples.
use mathlib.Core.Path.{◌≡◌}
use mathlib.Core.Bool.{true}
use mathlib.Core.List.{List, [], ◌∷◌}
use Prim.Native.Nat.{ℕ, zero, suc, ◌+◌, ◌*◌, ◌≤◌, ◌<◌}
use native.Mathlib.Omega.{arith}
use native.Mathlib.Nat.{not-suc-le-zero, le_of_suc-le-suc, mul-zero, mul-suc}
use lib.ListN.{length, get_or, length-append, get_or-append}
use lib.Seq.{get_or-append-add}
use borrow.Author.Tests.{le-leb, eq-eqb}
use Rattle.lists.specs.Lists.{flat, joined, starts}
use Rattle.lists.specs.Order.{climbs_to}

-- ── where lists start ────────────────────────────────────────────────────────────────────────

pub starts-climb : {A : Type 0} (low a high : ℕ) (ls : List (List A)) → low ≤ a → a + length (joined ls) ≡ high → climbs_to high low (starts a ls) ≡ true
unfolding climbs_to starts joined
starts-climb low a high [] h e = rw (le-leb low a h, eq-eqb a high (omega arith))
starts-climb low a high (l ∷ ls) h e =
    rw (le-leb low a h) (starts-climb a (a + length l) high ls (omega arith) (omega (arith, e, length-append l (joined ls))))

-- ── lists of one width ───────────────────────────────────────────────────────────────────────

module _ {A B : Type 0} (g : A → List B) (w : ℕ) (wide : (x : A) → length (g x) ≡ w) where
  pub length-blocks : (xs : List A) → length (flat g xs) ≡ w * length xs
  length-blocks [] = omega (arith, mul-zero w)
  length-blocks (x ∷ xs) = omega (arith, length-append (g x) (flat g xs), wide x, length-blocks xs, mul-suc w (length xs))

  pub get_or-blocks : (xs : List A) (r k : ℕ) (a : A) (d : B) → r < length xs → k < w → get_or (flat g xs) (w * r + k) d ≡ get_or (g (get_or xs r a)) k d
  get_or-blocks [] r k a d h l = absurd (not-suc-le-zero h)
  get_or-blocks (x ∷ xs) zero k a d h l =
      let e : w * 0 + k ≡ k = omega (arith, mul-zero w) in
      rw e (get_or-append (g x) (flat g xs) d k (omega (arith, wide x)))
  get_or-blocks (x ∷ xs) (suc r) k a d h l =
      let e : w * suc r + k ≡ length (g x) + (w * r + k) = omega (arith, mul-suc w r, wide x) in
      rw (e, get_or-append-add (g x) (flat g xs) (w * r + k) d) (get_or-blocks xs r k a d (le_of_suc-le-suc h) l)
