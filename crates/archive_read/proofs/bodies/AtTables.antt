-- Records 3, 4 and 5: one turn of each loop that tests them, and each answer of the functions that read them.
use mathlib.Core.Path.{◌≡◌, refl, sym, ◌∙◌, ap}
use mathlib.Core.Bool.{Bool, true, false, not}
use mathlib.Core.List.{List, map}
use Prim.Native.Nat.{ℕ, zero, suc, ◌≤◌, ◌<◌, ◌+◌, ◌-◌, ◌*◌}
use native.Mathlib.Nat.{add-zero, sub-zero}
use native.Mathlib.Omega.{arith}
use lib.Dec.{leb}
use lib.ListN.{length, get_or, drop}
use lib.Seq.{get_or-drop, drop-drop}
use borrow.Author.Tests.{le-leb, lt-leb, lt-ltb, le-ltb, eq-eqb, ne_eqb, not-true, not-false}
use Rattle.lists.specs.Lists.{all}
use Rattle.lists.specs.Order.{rising, rises_above, not_falling, level_above}
use Rattle.archive_bytes.proofs.Several.{be-front, several-none, several-cons}
use Rattle.archive.specs.Bytes.{be, several}
use Rattle.archive.specs.Reader.{broken, got, ◌>>=◌, table, whole, counted}
use Rattle.archive.specs.Parse
use Rattle.archive.specs.Parse.{unresolved_at, root_at}
use Rattle.archive_read.specs.bodies.View.{rows_of, RowsInside}

-- ── 3 rows ───────────────────────────────────────────────────────────────────────────────────

abbrev flags_of : ℕ → List ℕ → List ℕ
flags_of n b = several 9 (λ l. get_or l 0 0) n b

front : (b : List ℕ) (p : ℕ) → get_or (drop p b) 0 0 ≡ get_or b p 0
front b p = get_or-drop p b 0 0 ∙ ap (λ i. get_or b i 0) (add-zero p)

module _ {t : Bool} (n i : ℕ) (b : List ℕ) (p : ℕ) (e : t ≡ all (λ flag. leb flag 1) (flags_of (n - i) (drop p b))) where
  pub flags-done : n ≤ i → true ≡ t
  unfolding all
  flags-done h = rw (e, several-none 9 (λ l. get_or l 0 0) n i b p h)

  pub flag-bad : i < n → 1 < get_or b p 0 → false ≡ t
  unfolding all
  flag-bad h f = rw (e, several-cons 9 (λ l. get_or l 0 0) n i b p h, front b p, lt-leb (get_or b p 0) 1 f)

  pub flag-good : {q : ℕ} → i < n → get_or b p 0 ≤ 1 → q ≡ p + 9 → t ≡ all (λ flag. leb flag 1) (flags_of (n - (i + 1)) (drop q b))
  unfolding all
  flag-good h f y = rw (y, e, several-cons 9 (λ l. get_or l 0 0) n i b p h, front b p, le-leb (get_or b p 0) 1 f)

module _ (b : List ℕ) (n : ℕ) where
  pub rows-length : (length b ≡ n * 9 → ⊥) → broken ≡ whole (Parse.rows n) b
  unfolding whole Parse.rows table ◌>>=◌
  rows-length h = go (leb (0 + n * 9) (length b)) (all (λ flag. leb flag 1) (flags_of n b)) refl refl
    where
      k : length b ≡ 0 + n * 9 → ⊥
      k e = h (omega arith)

      go : (s t : Bool) → leb (0 + n * 9) (length b) ≡ s → all (λ flag. leb flag 1) (flags_of n b) ≡ t → broken ≡ whole (Parse.rows n) b
      go false t e f = rw e
      go true false e f = rw (e, e, f)
      go true true e f = rw (e, e, f, ne_eqb (length b) (0 + n * 9) k)

  pub rows-flags : (r : Bool) → length b ≡ n * 9 → r ≡ all (λ flag. leb flag 1) (flags_of n b) → rows_of b n r ≡ whole (Parse.rows n) b
  unfolding whole Parse.rows table ◌>>=◌
  rows-flags r h e = go r e
    where
      z : 0 + n * 9 ≡ length b
      z = omega arith

      k : leb (0 + n * 9) (length b) ≡ true
      k = le-leb (0 + n * 9) (length b) (omega arith)

      go : (r : Bool) → r ≡ all (λ flag. leb flag 1) (flags_of n b) → rows_of b n r ≡ whole (Parse.rows n) b
      go true e = rw (k, k, ← e, eq-eqb (length b) (0 + n * 9) (sym z), z)
      go false e = rw (k, k, ← e)

  pub rows_inside : (r : Bool) → length b ≡ n * 9 → RowsInside b n r
  rows_inside true h = omega arith
  rows_inside false h = tt

-- ── a count and as many things ───────────────────────────────────────────────────────────────

module _ {A : Type 0} (w : ℕ) (f : List ℕ → A) (test : List A → Bool) (b : List ℕ) where
  counted-length : (length b ≡ 4 + be 4 b 0 * w → ⊥) → broken ≡ whole (counted w f test) b
  unfolding whole table ◌>>=◌
  counted-length h = go (leb (4 + be 4 b 0 * w) (length b)) (test (several w f (be 4 b 0) (drop 4 b))) refl refl
    where
      go : (s t : Bool) → leb (4 + be 4 b 0 * w) (length b) ≡ s → test (several w f (be 4 b 0) (drop 4 b)) ≡ t → broken ≡ whole (counted w f test) b
      go false t e k = rw e
      go true false e k = rw (e, k)
      go true true e k = rw (e, k, ne_eqb (length b) (4 + be 4 b 0 * w) h)

  module _ {m n : ℕ} (d : m ≡ be 4 b 0) (e : n ≡ m) where
    is-count : n ≡ be 4 b 0
    is-count = e ∙ d

    counted-other : (length b ≡ 4 + n * w → ⊥) → broken ≡ whole (counted w f test) b
    counted-other h = counted-length (λ k. h (rw is-count k))

    module _ (h : length b ≡ 4 + n * w) where
      counted-refused : test (several w f n (drop 4 b)) ≡ false → broken ≡ whole (counted w f test) b
      unfolding whole table ◌>>=◌
      counted-refused k = rw (← is-count, le-leb (4 + n * w) (length b) (omega arith), k)

      counted-taken : test (several w f n (drop 4 b)) ≡ true → got (several w f n (drop 4 b)) (length b) ≡ whole (counted w f test) b
      unfolding whole table ◌>>=◌
      counted-taken k = rw (← is-count, le-leb (4 + n * w) (length b) (omega arith), k, eq-eqb (length b) (4 + n * w) h, h)

-- ── 4 unresolved ─────────────────────────────────────────────────────────────────────────────

abbrev children_of : ℕ → List ℕ → List ℕ
children_of n b = map (λ u. u.child) (several 13 unresolved_at n b)

pub children-start : (n : ℕ) (b : List ℕ) → not_falling (children_of n (drop 4 b)) ≡ level_above 0 (children_of (n - 0) (drop 4 b))
unfolding not_falling
children-start n b = rw sub-zero

module _ {t : Bool} (low n i : ℕ) (b : List ℕ) (p : ℕ) (e : t ≡ level_above low (children_of (n - i) (drop p b))) where
  pub level-done : n ≤ i → true ≡ t
  unfolding level_above
  level-done h = rw (e, several-none 13 unresolved_at n i b p h)

  pub falling : {x : ℕ} → i < n → x ≡ be 8 b p → x < low → false ≡ t
  unfolding level_above unresolved_at
  falling {x} h d f = rw (e, several-cons 13 unresolved_at n i b p h, be-front 8 b p, ← d, lt-leb low x f)

  pub level : {x q : ℕ} → i < n → x ≡ be 8 b p → low ≤ x → q ≡ p + 13 → t ≡ level_above x (children_of (n - (i + 1)) (drop q b))
  unfolding level_above unresolved_at
  level {x} h d f y = rw (y, e, several-cons 13 unresolved_at n i b p h, be-front 8 b p, ← d, le-leb low x f)

module _ (b : List ℕ) where
  pub unresolved-short : length b < 4 → broken ≡ whole Parse.unresolved b
  unfolding Parse.unresolved
  unresolved-short h = counted-length 13 unresolved_at (λ us. not_falling (map (λ u. u.child) us)) b (λ e. omega arith)

  module _ {m n : ℕ} (d : m ≡ be 4 b 0) (e : n ≡ m) where
    pub unresolved-other : (length b ≡ 4 + n * 13 → ⊥) → broken ≡ whole Parse.unresolved b
    unfolding Parse.unresolved
    unresolved-other h = counted-other 13 unresolved_at (λ us. not_falling (map (λ u. u.child) us)) b d e h

    module _ {r : Bool} (h : length b ≡ 4 + n * 13) (k : r ≡ not_falling (children_of n (drop 4 b))) where
      pub unresolved-fall : not r ≡ true → broken ≡ whole Parse.unresolved b
      unfolding Parse.unresolved
      unresolved-fall f = counted-refused 13 unresolved_at (λ us. not_falling (map (λ u. u.child) us)) b d e h (sym k ∙ not-true r f)

      pub is-unresolved : not r ≡ false → got (several 13 unresolved_at n (drop 4 b)) (length b) ≡ whole Parse.unresolved b
      unfolding Parse.unresolved
      is-unresolved f = counted-taken 13 unresolved_at (λ us. not_falling (map (λ u. u.child) us)) b d e h (sym k ∙ not-false r f)

-- ── 5 roots ──────────────────────────────────────────────────────────────────────────────────

abbrev rows_in : ℕ → List ℕ → List ℕ
rows_in n b = map (λ t. t.row) (several 16 root_at n b)

pub first-root : {x : ℕ} (n : ℕ) (b : List ℕ) → 0 < n → x ≡ be 8 b 4 → rising (rows_in n (drop 4 b)) ≡ rises_above x (rows_in (n - 1) (drop 20 b))
unfolding rising several root_at
first-root zero b h d = absurd (omega arith)
first-root (suc n) b h d = let z : suc n - 1 ≡ n = omega arith in rw (z, d, be-front 8 b 4, drop-drop 16 4 b)

pub no-roots : (n : ℕ) (b : List ℕ) → n ≡ 0 → true ≡ rising (rows_in n (drop 4 b))
unfolding rising several
no-roots n b h = rw h

module _ {t : Bool} (low n i : ℕ) (b : List ℕ) (p : ℕ) (e : t ≡ rises_above low (rows_in (n - i) (drop p b))) where
  pub above-done : n ≤ i → true ≡ t
  unfolding rises_above
  above-done h = rw (e, several-none 16 root_at n i b p h)

  pub not-above : {x : ℕ} → i < n → x ≡ be 8 b p → x ≤ low → false ≡ t
  unfolding rises_above root_at
  not-above {x} h d f = rw (e, several-cons 16 root_at n i b p h, be-front 8 b p, ← d, le-ltb low x f)

  pub is-above : {x q : ℕ} → i < n → x ≡ be 8 b p → low < x → q ≡ p + 16 → t ≡ rises_above x (rows_in (n - (i + 1)) (drop q b))
  unfolding rises_above root_at
  is-above {x} h d f y = rw (y, e, several-cons 16 root_at n i b p h, be-front 8 b p, ← d, lt-ltb low x f)

module _ (b : List ℕ) where
  pub roots-short : length b < 4 → broken ≡ whole Parse.roots b
  unfolding Parse.roots
  roots-short h = counted-length 16 root_at (λ rs. rising (map (λ r. r.row) rs)) b (λ e. omega arith)

  module _ {m n : ℕ} (d : m ≡ be 4 b 0) (e : n ≡ m) where
    pub roots-other : (length b ≡ 4 + n * 16 → ⊥) → broken ≡ whole Parse.roots b
    unfolding Parse.roots
    roots-other h = counted-other 16 root_at (λ rs. rising (map (λ r. r.row) rs)) b d e h

    module _ {r : Bool} (h : length b ≡ 4 + n * 16) (k : r ≡ rising (rows_in n (drop 4 b))) where
      pub roots-fall : not r ≡ true → broken ≡ whole Parse.roots b
      unfolding Parse.roots
      roots-fall f = counted-refused 16 root_at (λ rs. rising (map (λ r. r.row) rs)) b d e h (sym k ∙ not-true r f)

      pub are-roots : not r ≡ false → got (several 16 root_at n (drop 4 b)) (length b) ≡ whole Parse.roots b
      unfolding Parse.roots
      are-roots f = counted-taken 16 root_at (λ rs. rising (map (λ r. r.row) rs)) b d e h (sym k ∙ not-false r f)
