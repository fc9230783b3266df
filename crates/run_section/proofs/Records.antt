-- Records one after the other in a table: the one at a place, and the records from a place on.
use mathlib.Core.Path.{◌≡◌, refl, ap, ap₂, ◌∙◌}
use mathlib.Core.List.{List, [], ◌∷◌, ◌++◌, map}
use Prim.Native.Nat.{ℕ, zero, suc, ◌+◌, ◌-◌, ◌*◌, ◌≤◌, ◌<◌}
use native.Mathlib.Omega.{arith}
use native.Mathlib.Nat.{mul-le-mul_right, add-zero, zero-mul}
use lib.ListN.{length, get_or, drop, take}
use lib.Seq.{drop-drop, get_or-drop}
use Rattle.lists.specs.Lists.{part}
use Rattle.archive_bytes.specs.Bytes.{several}
use Rattle.archive.proofs.Back.{length-several}
use Rattle.run_section.specs.Tables.{field, keys}

-- ── one record ───────────────────────────────────────────────────────────────────────────────

module _ {A : Type 0} (w : ℕ) (f : List ℕ → A) where
  pub several-at : (n i : ℕ) (t : List ℕ) (d : A) → i < n → get_or (several w f n t) i d ≡ f (drop (i * w) t)
  unfolding several
  several-at zero i t d h = absurd (omega arith)
  several-at (suc n) zero t d h = rw (zero-mul w)
  several-at (suc n) (suc i) t d h =
      let e : w + i * w ≡ suc i * w = omega arith in
      several-at n i (drop w t) d (omega arith) ∙ ap f (drop-drop (i * w) w t ∙ ap (λ k. drop k t) e)

  several-front : (n m : ℕ) (t : List ℕ) → m ≤ n → take m (several w f n t) ≡ several w f m t
  unfolding several
  several-front n zero t h = refl
  several-front zero (suc m) t h = absurd (omega arith)
  several-front (suc n) (suc m) t h = ap (λ l. f t ∷ l) (several-front n m (drop w t) (omega arith))

  several-behind : (n i : ℕ) (t : List ℕ) → i ≤ n → drop i (several w f n t) ≡ several w f (n - i) (drop (i * w) t)
  unfolding several
  several-behind n zero t h = let e : n - 0 ≡ n = omega arith in rw (zero-mul w, e)
  several-behind zero (suc i) t h = absurd (omega arith)
  several-behind (suc n) (suc i) t h =
      let e : w + i * w ≡ suc i * w = omega arith in
      let d : n - i ≡ suc n - suc i = omega arith in
      several-behind n i (drop w t) (omega arith) ∙ rw d (ap (several w f (suc n - suc i)) (drop-drop (i * w) w t ∙ ap (λ k. drop k t) e))

  -- a record more
  pub several-snoc : (n : ℕ) (t : List ℕ) → several w f (suc n) t ≡ several w f n t ++ (f (drop (n * w) t) ∷ [])
  unfolding several
  several-snoc zero t = rw (zero-mul w)
  several-snoc (suc n) t =
      let e : w + n * w ≡ suc n * w = omega arith in
      rw (several-snoc n (drop w t), drop-drop (n * w) w t, e)

  -- the m records from record i on
  pub several-from : (n i m : ℕ) (t : List ℕ) → i + m ≤ n → part i m (several w f n t) ≡ several w f m (drop (i * w) t)
  unfolding part
  several-from n i m t h = rw (several-behind n i t (omega arith)) (several-front (n - i) m (drop (i * w) t) (omega arith))

-- what a figure of the records makes of them
pub several-map : {A B : Type 0} (w : ℕ) (f : List ℕ → A) (g : A → B) (h : List ℕ → B) → ((r : List ℕ) → g (f r) ≡ h r)
    → (n : ℕ) (t : List ℕ) → map g (several w f n t) ≡ several w h n t
unfolding several
several-map w f g h e zero t = refl
several-map w f g h e (suc n) t = ap₂ ◌∷◌ (e t) (several-map w f g h e n (drop w t))

-- ── keys ─────────────────────────────────────────────────────────────────────────────────────

module _ (w n i : ℕ) (table : List ℕ) (h : i < n) where
  pub key-at : get_or (keys w n table) i 0 ≡ get_or table (i * w) 0
  unfolding keys
  key-at = several-at w (field 0) n i table 0 h ∙ get_or-drop (i * w) table 0 0 ∙ ap (λ k. get_or table k 0) (add-zero (i * w))

  -- the record is there
  pub record-there : n * w ≤ length table → i * w + w ≤ length table
  record-there r = omega (arith, r, mul-le-mul_right w h)

pub keys-count : (w n : ℕ) (table : List ℕ) → length (keys w n table) ≡ n
unfolding keys
keys-count w n table = length-several w (field 0) n table
