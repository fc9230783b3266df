-- Slots of rows, K to a row: slot `K * row + k` is the one of row `row` and kind k. Laws for any K; those on `/ K` and `% K` ask that there is a kind.
use mathlib.Core.Path.{◌≡◌, sym, ◌∙◌, ap}
use Prim.Native.Nat.{ℕ, zero, suc, ◌+◌, ◌-◌, ◌*◌, ◌/◌, ◌%◌, ◌≤◌, ◌<◌}
use native.Mathlib.Nat.{zero-mul, add-zero, mod-eq_of_lt, div-eq_of_lt, div-add-mod, mul-add-mod_self_left, mul-add-div, mul-le-mul_left, lt_of_mul-lt-mul_left}
use native.Mathlib.Nat.{le_of_suc-le-suc, div-lt_iff_lt-mul, mod-lt}
use native.Mathlib.Omega.{arith}

-- where there is a slot, there is a kind
pub kind-some : (K s n : ℕ) → s < K * n → 0 < K
kind-some zero s n h = absurd (omega (arith, zero-mul n))
kind-some (suc K) s n h = omega arith

-- a slot's row and kind
pub slot_row : (K row k : ℕ) → k < K → (K * row + k) / K ≡ row
slot_row K row k h = mul-add-div (omega arith) row k ∙ rw (div-eq_of_lt h) (add-zero row)

pub slot-kind : (K row k : ℕ) → k < K → (K * row + k) % K ≡ k
slot-kind K row k h = mul-add-mod_self_left K row k ∙ mod-eq_of_lt h

pub slot_same : (K a m b k : ℕ) → m < K → k < K → K * a + m ≡ K * b + k → (a ≡ b) × (m ≡ k)
slot_same K a m b k h l e = (sym (slot_row K a m h) ∙ ap (λ (x : ℕ). x / K) e ∙ slot_row K b k l, sym (slot-kind K a m h) ∙ ap (λ (x : ℕ). x % K) e ∙ slot-kind K b k l)

pub slot-parts : (K q : ℕ) → K * (q / K) + q % K ≡ q
slot-parts K q = div-add-mod q K

pub kind-under : (K q : ℕ) → 0 < K → q % K < K
kind-under K q h = mod-lt q h

-- slots below those of all rows
pub slot-under : (K rows row k : ℕ) → row < rows → k < K → K * row + k < K * rows
slot-under K rows row k h l = omega (arith, mul-le-mul_left K h)

pub row_under : (K rows q : ℕ) → 0 < K → q < K * rows → q / K < rows
row_under K rows q p h = (div-lt_iff_lt-mul p).1 (omega arith)

-- ── from row to row ──────────────────────────────────────────────────────────────────────────

module _ (K slot row : ℕ) (e : slot ≡ K * row) where
  pub row_room : (rows : ℕ) → row < rows → slot + K ≤ K * rows
  row_room rows h = omega (arith, mul-le-mul_left K h)

  pub row_next : slot + K ≡ K * (row + 1)
  row_next = omega arith

  -- the end of a loop that knows no rows
  pub rows-past : (rows : ℕ) → K * rows < slot + K → K * rows ≤ slot
  rows-past rows h =
      let less : rows < suc row = lt_of_mul-lt-mul_left K (omega arith) in
      rw e (mul-le-mul_left K (le_of_suc-le-suc less))

  pub row-down : 0 < row → slot - K ≡ K * (row - 1)
  row-down h = rw e (down row h)
    where
      down : (n : ℕ) → 0 < n → K * n - K ≡ K * (n - 1)
      down zero h = absurd (omega arith)
      down (suc n) h = let less : suc n - 1 ≡ n = omega arith in rw less (omega arith)
