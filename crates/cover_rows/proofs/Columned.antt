-- Columns that are written from their start on, and the sums of a difference column.
use mathlib.Core.Path.{◌≡◌, refl, sym, ◌∙◌, ap}
use mathlib.Core.Bool.{Bool, true, false}
use mathlib.Core.List.{List, ◌∷◌, ◌++◌}
use Prim.Native.Nat.{ℕ, suc, ◌+◌, ◌-◌, ◌≤◌, ◌<◌}
use native.Mathlib.Numerals.{add-one}
use native.Mathlib.Omega.{arith}
use lib.Dec.{ltb}
use lib.ListN.{length, take, drop, get_or, set, drop_of_length-le}
use lib.Seq.{drop-cons, sets, sets-eq, take_at}
use mir.Syntax.{w32}
use mir.Val.{Fits}
use borrow.Author.Tests.{lt-ltb, le-ltb, ltb-true}
use Rattle.lists.specs.Lists.{all}
use Rattle.lists.proofs.Tests.{both}
use Rattle.columns.specs.Limits.{end32}
use Rattle.cover.specs.Cover.{sums, sums_fit}
use Rattle.cover.specs.Answers.{over}
use Rattle.cover.proofs.Stored.{length-sums}

-- ── stores from the start on ─────────────────────────────────────────────────────────────────

pub over-sets : (vs l : List ℕ) → length vs ≤ length l → over vs l ≡ sets l 0 vs
unfolding over
over-sets vs l h =
    let z : 0 + length vs ≡ length vs = omega arith in
    sym (sets-eq vs l 0 (omega arith) ∙ ap (λ k. vs ++ drop k l) z)

pub take-over : (vs l : List ℕ) (n : ℕ) → length vs ≡ n → take n (over vs l) ≡ vs
unfolding over
take-over vs l n h = take_at vs (drop (length vs) l) n h

module _ {t : List ℕ} (i : ℕ) (vs out : List ℕ) (e : t ≡ sets out i (drop i vs)) where
  pub copied : length vs ≤ i → out ≡ t
  copied h = rw (e, drop_of_length-le vs {i = i} h)

  pub copies : i < length vs → t ≡ sets (set out i (get_or vs i 0)) (i + 1) (drop (i + 1) vs)
  copies h = rw (e, drop-cons vs i 0 h, add-one)

-- ── sums ─────────────────────────────────────────────────────────────────────────────────────

abbrev pub all_fit : List ℕ → Bool
all_fit ss = all (λ s. ltb s end32) ss

pub fit-start : (ds : List ℕ) → sums_fit ds ≡ all_fit (sums 0 ds)
unfolding sums_fit
fit-start ds = refl

pub fits-start : (ds : List ℕ) → sums_fit ds ≡ true → all_fit (sums 0 ds) ≡ true
fits-start ds e = sym (fit-start ds) ∙ e

pub sums-over : (ds out : List ℕ) → length ds ≤ length out → over (sums 0 ds) out ≡ sets out 0 (sums 0 ds)
sums-over ds out h = over-sets (sums 0 ds) out (rw (length-sums 0 ds) h)

module _ (sum i : ℕ) (ds : List ℕ) where
  sums-cons : i < length ds → sums sum (drop i ds) ≡ (sum + get_or ds i 0) ∷ sums (sum + get_or ds i 0) (drop (suc i) ds)
  unfolding sums
  sums-cons h = rw (drop-cons ds i 0 h)

  module _ {t : Bool} (e : t ≡ all_fit (sums sum (drop i ds))) where
    pub fit-done : length ds ≤ i → true ≡ t
    unfolding all sums
    fit-done h = rw (e, drop_of_length-le ds {i = i} h)

    module _ (h : i < length ds) (k : sum ≤ 4294967295) where
      pub fit-not : 4294967295 - sum < get_or ds i 0 → false ≡ t
      unfolding all
      fit-not m = rw (e, sums-cons h, le-ltb (sum + get_or ds i 0) end32 (omega arith))

      pub fit_on : get_or ds i 0 ≤ 4294967295 - sum → t ≡ all_fit (sums (sum + get_or ds i 0) (drop (i + 1) ds))
      unfolding all
      fit_on m = rw (e, sums-cons h, lt-ltb (sum + get_or ds i 0) end32 (omega arith), add-one)

  module _ (h : i < length ds) (e : all_fit (sums sum (drop i ds)) ≡ true) where
    apart : (ltb (sum + get_or ds i 0) end32 ≡ true) × (all_fit (sums (sum + get_or ds i 0) (drop (suc i) ds)) ≡ true)
    unfolding all
    apart = both (ltb (sum + get_or ds i 0) end32) (all_fit (sums (sum + get_or ds i 0) (drop (suc i) ds))) (rw (sums-cons h) at e)

    pub sum_fits : Fits w32 (sum + get_or ds i 0)
    sum_fits = record { fits = omega (arith, ltb-true (sum + get_or ds i 0) end32 apart.0) }

    pub fits_on : all_fit (sums (sum + get_or ds i 0) (drop (i + 1) ds)) ≡ true
    fits_on = rw add-one apart.1

  module _ {t : List ℕ} (out : List ℕ) (e : t ≡ sets out i (sums sum (drop i ds))) where
    pub summed : length ds ≤ i → out ≡ t
    unfolding sums
    summed h = rw (e, drop_of_length-le ds {i = i} h)

    pub sums_on : i < length ds → t ≡ sets (set out i (sum + get_or ds i 0)) (i + 1) (sums (sum + get_or ds i 0) (drop (i + 1) ds))
    sums_on h = rw (e, sums-cons h, add-one)
