-- One turn of the loop that compacts a column: an element stays, in front, or goes.
use mathlib.Core.Path.{◌≡◌, sym, ap, ◌∙◌}
use mathlib.Core.Bool.{not}
use mathlib.Core.List.{List, [], ◌∷◌, ◌++◌, append-nil, append_assoc}
use Prim.Native.Nat.{ℕ, suc, ◌+◌, ◌≤◌, ◌<◌}
use native.Mathlib.Numerals.{add-one}
use native.Mathlib.Omega.{arith}
use lib.Dec.{eqb}
use lib.ListN.{length, length-map, get_or, set, take, drop, drop_of_length-le}
use lib.Seq.{slice, length-take-le, slice-cons, drop-cons, take-suc-set, take-set-lt, drop-set-lt}
use borrow.Author.Tests.{eq-eqb, ne_eqb}
use Rattle.cleaning.specs.Survivors.{keep}
use Rattle.cleaning.proofs.Ranks.{length-keep}
use Rattle.run_compact.specs.Columns.{gone, survive, kept_in}

-- some element, where there is one
some_of : {A : Type 0} (xs : List A) → 0 < length xs → A
some_of [] h = absurd (omega arith)
some_of (x ∷ xs) h = x

module _ {A : Type 0} {t : List A} (xs : List A) (fs : List ℕ) (n i : ℕ) (e : t ≡ take n xs ++ kept_in (drop i fs) (slice i (length fs) xs)) where
  pub all-kept : length fs ≤ i → take n xs ≡ t
  unfolding gone keep
  all-kept h = rw (e, drop_of_length-le fs {i = i} h, append-nil)

  pub counted : length fs ≤ i → n ≤ i → i ≤ length fs → length fs ≤ 1024 → length xs ≡ 1024 → (ys : List A) → length ys ≡ 1024 → t ≡ kept_in fs (take (length fs) ys) → n ≡ survive fs
  unfolding survive gone
  counted h l k b p ys q s =
      sym (length-take-le n xs (omega arith)) ∙ ap length (all-kept h ∙ s)
      ∙ length-keep (gone fs) (take (length fs) ys) (length-take-le (length fs) ys (omega arith) ∙ sym (length-map fs (λ f. not (eqb f 0))))

  module _ (h : i < length fs) (b : length fs ≤ 1024) (p : length xs ≡ 1024) where
    pub one-gone : (get_or fs i 0 ≡ 0 → ⊥) → t ≡ take n xs ++ kept_in (drop (i + 1) fs) (slice (i + 1) (length fs) xs)
    unfolding gone keep
    one-gone f = rw (e, drop-cons fs i 0 h, slice-cons i (length fs) xs (some_of xs (omega arith)) h (omega arith), ne_eqb (get_or fs i 0) 0 f, add-one)

    pub one_kept : (d : A) → n ≤ i → get_or fs i 0 ≡ 0
        → t ≡ take (n + 1) (set xs n (get_or xs i d)) ++ kept_in (drop (i + 1) fs) (slice (i + 1) (length fs) (set xs n (get_or xs i d)))
    unfolding gone keep
    one_kept d l f =
        let x = get_or xs i d in
        let a : n < length xs = omega arith in
        let c : n < length fs = omega arith in
        let m : n < suc i = omega arith in
        rw (
          e,
          drop-cons fs i 0 h,
          slice-cons i (length fs) xs d h (omega arith),
          eq-eqb (get_or fs i 0) 0 f,
          add-one,
          add-one,
          take-suc-set xs n x a,
          take-set-lt (length fs) xs n x c,
          drop-set-lt (suc i) (take (length fs) xs) n x m,
          append_assoc,
        )
