-- A list that is written from its start on, one element a turn.
--     put_next         one more is written
--     column f xs old i        the list old with f of the first i of xs written from its start on.        column-length    the length stays.        column-in    so place i is within it
--     column-next      one turn.        column-all       when all are written
--     length-places, place_at      the places below n: there are n, and place i is i
--     turned, all_turned           of the first n of a list: one turn, and all of them.        placed, all_placed    of the places below n
-- Assumes nothing.
use mathlib.Core.Path.{◌≡◌, refl, sym, ◌∙◌, ap, subst⁻¹}
use mathlib.Core.Logic.{⊎_elim}
use Prim.Native.Nat.{ℕ, zero, suc, ◌+◌, ◌≤◌, ◌<◌}
use native.Mathlib.Nat.{eq-or-lt_of_le, not-suc-le-zero, le_of_suc-le-suc}
use native.Mathlib.Numerals.{add-one}
use native.Mathlib.Omega.{arith}
use mathlib.Core.List.{List, [], ◌∷◌, ◌++◌, map, map-append}
use lib.ListN.{length, get_or, set, take, drop, length-append, length-drop, length-map, get_or-append}
use lib.Seq.{drop-cons, set_at, append_snoc, take-suc, length-take-le, take-length, get_or_at, get_or-take}
use Rattle.cover_links.specs.Links.{over, places}

module _ {X : Type 0} where
  pub put_next : (p old : List X) (i : ℕ) (v : X) → length p ≡ i → i < length old → set (p ++ drop i old) i v ≡ (p ++ (v ∷ [])) ++ drop (i + 1) old
  put_next p old i v e lt = rw (add-one, drop-cons old i v) (set_at p (get_or old i v) (drop (suc i) old) v i e ∙ sym (append_snoc p v (drop (suc i) old)))

module _ {X Y : Type 0} (f : X → Y) (xs : List X) (old : List Y) where
  -- the first i are written
  abbrev pub column : ℕ → List Y
  column i = map f (take i xs) ++ drop i old

  pub column-length : (i : ℕ) → i ≤ length xs → length xs ≤ length old → length (column i) ≡ length old
  column-length i a b = simp (length-append, length-map, length-drop, length-take-le i xs a) (omega arith)

  pub column-in : (i : ℕ) → i < length xs → length xs ≤ length old → i < length (column i)
  column-in i a b = omega (arith, column-length i (omega arith) b)

  pub column-next : (d : X) (i : ℕ) → i < length xs → length xs ≤ length old → set (column i) i (f (get_or xs i d)) ≡ column (i + 1)
  column-next d i a b =
      let e : map f (take (i + 1) xs) ≡ map f (take i xs) ++ (f (get_or xs i d) ∷ []) = rw (add-one, take-suc xs i d, map-append) in
      put_next (map f (take i xs)) old i (f (get_or xs i d)) (length-map (take i xs) f ∙ length-take-le i xs (omega arith)) (omega arith) ∙ ap (λ (l : List Y). l ++ drop (i + 1) old) (sym e)

  pub column-all : column (length xs) ≡ over (map f xs) old
  unfolding over
  column-all = rw (take-length, length-map)

-- ---- the places below n
pub length-places : (n : ℕ) → length (places n) ≡ n
unfolding places
length-places zero = refl
length-places (suc n) = length-append (places n) (n ∷ []) ∙ add-one (length (places n)) ∙ ap suc (length-places n)

pub place_at : (n i d : ℕ) → i < n → get_or (places n) i d ≡ i
unfolding places
place_at zero i d lt = absurd (not-suc-le-zero lt)
place_at (suc n) i d lt =
    ⊎_elim (λ e. ap (λ (j : ℕ). get_or (places n ++ (n ∷ [])) j d) e ∙ get_or_at (places n) n [] d n (length-places n) ∙ sym e)
    (λ l. get_or-append (places n) (n ∷ []) d i (subst⁻¹ (λ (m : ℕ). i < m) (length-places n) l) ∙ place_at n i d l) (eq-or-lt_of_le (le_of_suc-le-suc lt))

-- ---- the first n of a list: one turn, and all of them
module _ {X Y : Type 0} (f : X → Y) (ys : List X) (old : List Y) (n : ℕ) (le : n ≤ length ys) (fit : n ≤ length old) where
  few : length (take n ys) ≡ n
  few = length-take-le n ys le

  pub turned : (d : X) (i : ℕ) (l : List Y) → i < n → l ≡ column f (take n ys) old i → set l i (f (get_or ys i d)) ≡ column f (take n ys) old (i + 1)
  turned d i l lt e =
      ap (λ (k : List Y). set k i (f (get_or ys i d))) e
      ∙ ap (λ (x : X). set (column f (take n ys) old i) i (f x)) (sym (get_or-take n ys i d lt))
      ∙ column-next f (take n ys) old d i (rw few lt) (rw few fit)

  pub all_turned : (i : ℕ) (l : List Y) → n ≤ i → i ≤ n → l ≡ column f (take n ys) old i → l ≡ over (map f (take n ys)) old
  all_turned i l a b e = e ∙ ap (λ (k : ℕ). column f (take n ys) old k) (few-is i a b) ∙ column-all f (take n ys) old
    where
      few-is : (i : ℕ) → n ≤ i → i ≤ n → i ≡ length (take n ys)
      few-is i a b = omega (arith, few)

-- ---- the places below n: one turn, and all of them
module _ {Y : Type 0} (f : ℕ → Y) (old : List Y) (n : ℕ) (fit : n ≤ length old) where
  pub placed : (i : ℕ) (l : List Y) → i < n → l ≡ column f (places n) old i → set l i (f i) ≡ column f (places n) old (i + 1)
  placed i l lt e =
      ap (λ (k : List Y). set k i (f i)) e
      ∙ ap (λ (x : ℕ). set (column f (places n) old i) i (f x)) (sym (place_at n i 0 lt))
      ∙ column-next f (places n) old 0 i (rw (length-places n) lt) (rw (length-places n) fit)

  pub all_placed : (i : ℕ) (l : List Y) → n ≤ i → i ≤ n → l ≡ column f (places n) old i → l ≡ over (map f (places n)) old
  all_placed i l a b e = e ∙ ap (λ (k : ℕ). column f (places n) old k) (few-is i a b) ∙ column-all f (places n) old
    where
      few-is : (i : ℕ) → n ≤ i → i ≤ n → i ≡ length (places n)
      few-is i a b = omega (arith, length-places n)
