-- Parts of a list: its front, a slice from one place up to another, and lists that are written over it.
use mathlib.Core.Path.{◌≡◌, refl, sym, ◌∙◌, ap}
use mathlib.Core.List.{List, [], ◌∷◌, ◌++◌}
use Prim.Native.Nat.{ℕ, suc, ◌≤◌, ◌<◌, ◌+◌, ◌-◌}
use native.Mathlib.Nat.{zero-add, add-zero, add-suc, suc-add}
use native.Mathlib.Omega.{arith}
use lib.ListN.{length, get_or, take, drop, set, length-take, length-drop, take-append-drop, drop_of_length-le, get_or-eq_default}
use lib.Seq.{slice, sets, sets-eq, set_comm, take-take, take-suc, take-append-add, take_at, drop-append-le, drop-append_seam, length-take-le}

module _ {A : Type 0} where
  -- ── fronts ─────────────────────────────────────────────────────────────────────────────────

  pub take_none : (l : List A) → take 0 l ≡ []
  take_none [] = refl
  take_none (x ∷ xs) = refl

  pub prefix-count : (n : ℕ) (l : List A) → n ≤ length l → n ≡ length (take n l)
  prefix-count n l h = sym (length-take-le n l h)

  pub prefix-short : (n k : ℕ) (l : List A) → n ≤ k → length (take n l) ≤ k
  prefix-short n k l h = simp length-take (omega arith)

  -- a list read past its end
  pub get_or-past : (l : List A) (i : ℕ) (d : A) → length l ≤ i → d ≡ get_or l i d
  get_or-past l i d h = sym (get_or-eq_default l d {n = i} h)

  -- ── slices ─────────────────────────────────────────────────────────────────────────────────

  pub slice-none : (i to : ℕ) (l : List A) → to ≤ i → slice i to l ≡ []
  slice-none i to l h = drop_of_length-le (take to l) {i = i} (simp length-take (omega arith))

  pub slice-short : (a b : ℕ) (l : List A) → length (slice a b l) ≤ b - a
  slice-short a b l = simp (length-drop, length-take) (omega arith)

  pub slice_snoc : (i p : ℕ) (l : List A) (d : A) → i ≤ p → p < length l → slice i (suc p) l ≡ slice i p l ++ (get_or l p d ∷ [])
  slice_snoc i p l d h k = rw (take-suc l p d k) (drop-append-le i (take p l) (get_or l p d ∷ []) (omega (arith, length-take-le p l (omega arith))))

  pub slice-join : (a b c : ℕ) (l : List A) → a ≤ b → b ≤ c → c ≤ length l → slice a b l ++ slice b c l ≡ slice a c l
  slice-join a b c l h i j =
      let whole : take b (take c l) ++ drop b (take c l) ≡ take c l = take-append-drop b (take c l) in
      rw (← take-take b c l i) (sym (drop-append-le a (take b (take c l)) (drop b (take c l)) (simp (length-take, length-take) (omega arith))) ∙ ap (drop a) whole)

  pub slice-rest : (f t : ℕ) (l : List A) → f ≤ t → t ≤ length l → slice f t l ++ drop t l ≡ drop f l
  slice-rest f t l p q = sym (drop-append-le f (take t l) (drop t l) (simp length-take (omega arith))) ∙ ap (drop f) (take-append-drop t l)

  -- a slice behind the front, and one behind a list
  pub front-back : (base e : ℕ) (l : List A) → base ≤ e → take base l ++ slice base e l ≡ take e l
  front-back base e l h = ap (λ (j : List A). j ++ slice base e l) (sym (take-take base e l h)) ∙ take-append-drop base (take e l)

  pub slice-behind : (a b : List A) (m : ℕ) → slice (length a) (length a + m) (a ++ b) ≡ take m b
  slice-behind a b m = rw (take-append-add a b m) (drop-append_seam a (take m b))

  -- ── lists written over a list ──────────────────────────────────────────────────────────────

  pub sets-append : (l : List A) (i : ℕ) (xs ys : List A) → sets l i (xs ++ ys) ≡ sets (sets l i xs) (i + length xs) ys
  sets-append l i [] ys = rw (add-zero i)
  sets-append l i (x ∷ xs) ys = rw (add-suc i (length xs), ← suc-add i (length xs)) (sets-append (set l i x) (suc i) xs ys)

  pub take-sets : (l vs : List A) (n : ℕ) → length vs ≡ n → n ≤ length l → take n (sets l 0 vs) ≡ vs
  take-sets l vs n e h = rw (sets-eq vs l 0 (omega arith)) (take_at vs _ n e)

  -- a list written from the start on, and what stays behind it
  pub sets-front : (l vs : List A) → length vs ≤ length l → sets l 0 vs ≡ vs ++ drop (length vs) l
  sets-front l vs h = sets-eq vs l 0 (omega arith) ∙ ap (λ (k : ℕ). vs ++ drop k l) (zero-add (length vs))

  -- what is written first and stands behind may as well be written last
  set_before : (l : List A) (i p : ℕ) (x : A) (ys : List A) → i < p → set (sets l p ys) i x ≡ sets (set l i x) p ys
  set_before l i p x [] h = refl
  set_before l i p x (y ∷ ys) h = set_before (set l p y) i (suc p) x ys (omega arith) ∙ ap (λ (m : List A). sets m (suc p) ys) (set_comm l p i y x (λ e. omega arith))

  pub sets-before : (l : List A) (i p : ℕ) (xs ys : List A) → i + length xs ≤ p → sets (sets l p ys) i xs ≡ sets (sets l i xs) p ys
  sets-before l i p [] ys h = refl
  sets-before l i p (x ∷ xs) ys h =
      ap (λ (m : List A). sets m (suc i) xs) (set_before l i p x ys (omega arith)) ∙ sets-before (set l i x) (suc i) p xs ys (omega arith)
