-- One turn of the loop that numbers the events.
use mathlib.Core.Path.{◌≡◌}
use mathlib.Core.List.{List}
use Prim.Native.Nat.{ℕ, ◌≤◌, ◌<◌, ◌+◌}
use native.Mathlib.Nat.{add-zero, add_assoc}
use native.Mathlib.Numerals.{add-one}
use native.Mathlib.Omega.{arith}
use lib.ListN.{length, get_or, set, drop, drop_of_length-le}
use lib.Seq.{sets, drop-cons}
use borrow.Author.Tests.{eq-eqb, ne_eqb}
use Rattle.lists.specs.Lists.{sum}
use Rattle.run_renumber.specs.Numbers.{takes, numbers_from, survivors}

pub takes_one : (f : ℕ) → f ≡ 0 → 1 ≡ takes f
unfolding takes
takes_one f h = rw (eq-eqb f 0 h)

pub takes_none : (f : ℕ) → (f ≡ 0 → ⊥) → 0 ≡ takes f
unfolding takes
takes_none f h = rw (ne_eqb f 0 h)

pub numbers-begin : (d : List ℕ) (start : ℕ) (fs : List ℕ) → sets d 0 (numbers_from start fs) ≡ sets d 0 (numbers_from (start + 0) fs)
numbers-begin d start fs = rw add-zero

module _ {t : List ℕ} (d : List ℕ) (i start n : ℕ) (fs : List ℕ) (e : t ≡ sets d i (numbers_from (start + n) (drop i fs))) where
  pub numbers-done : length fs ≤ i → d ≡ t
  unfolding numbers_from
  numbers-done h = rw (e, drop_of_length-le fs {i = i} h)

  pub numbers_on : i < length fs → (m : ℕ) → m ≡ takes (get_or fs i 0) → t ≡ sets (set d i (start + n)) (i + 1) (numbers_from (start + (n + m)) (drop (i + 1) fs))
  unfolding numbers_from
  numbers_on h m f = rw (e, add-one, drop-cons fs i 0 h, ← add_assoc start n m, f)

module _ {t : ℕ} (i n : ℕ) (fs : List ℕ) (e : t ≡ n + survivors (drop i fs)) where
  pub count_done : length fs ≤ i → n ≡ t
  unfolding survivors sum
  count_done h = rw (e, drop_of_length-le fs {i = i} h) (omega arith)

  pub count-on : i < length fs → (m : ℕ) → m ≡ takes (get_or fs i 0) → t ≡ n + m + survivors (drop (i + 1) fs)
  unfolding survivors sum
  count-on h m f = rw (e, add-one, drop-cons fs i 0 h) (omega arith)
