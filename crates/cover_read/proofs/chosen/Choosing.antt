-- The loops that find each chain's run and write its places.
use mathlib.Core.Path.{◌≡◌, refl, sym, ◌∙◌, ap}
use mathlib.Core.Bool.{true}
use mathlib.Core.List.{List, [], ◌∷◌, ◌++◌, append_assoc, append-nil}
use Prim.Native.Nat.{ℕ, zero, suc, ◌+◌, ◌-◌, ◌≤◌, ◌<◌}
use native.Mathlib.Numerals.{add-one}
use native.Mathlib.Nat.{not-suc-le-zero, le_of_suc-le-suc}
use native.Mathlib.Omega.{arith}
use lib.Dec.{leb}
use lib.ListN.{length, take, drop, get_or, set, drop_of_length-le, length-drop}
use lib.Seq.{drop-cons, take-suc-set, drop-drop, take_all, take_at, drop_at, sets}
use borrow.Author.Tests.{eq-eqb, ne_eqb}
use Rattle.lists.specs.Lists.{up_from}
use Rattle.lists.specs.Order.{level_above, not_falling, sort}
use Rattle.lists.proofs.Tests.{both}
use Rattle.lists.proofs.Rising.{sort-level, length-sort}
use Rattle.lists.proofs.Flat.{up_from-snoc}
use Rattle.cover.specs.Answers.{over}
use Rattle.arrays.specs.searching.Place.{place_of}
use Rattle.cover_rows.proofs.Columned.{copies, take-over}
use Rattle.cover_read.specs.chosen.Chosen.{run_of, rows_of}
use Rattle.cover_read.proofs.chosen.Runs.{level-drop, rows-turn, rows_none, rows-sorted}

-- ── where a run starts ───────────────────────────────────────────────────────────────────────

module _ (p : ℕ) (l : List ℕ) where
  tail : take (length l - p) (drop p l) ≡ drop p l
  tail = take_all (length l - p) (drop p l) (omega (arith, length-drop p l))

  pub tail-level : not_falling l ≡ true → not_falling (take (length l - p) (drop p l)) ≡ true
  unfolding not_falling
  tail-level a = rw tail (level-drop 0 p l a)

  pub tail-place : (x r : ℕ) → r ≡ place_of x (take (length l - p) (drop p l)) → p + r ≡ p + place_of x (drop p l)
  tail-place x r e = rw (e, tail)

  pub tail_within : (r : ℕ) → r ≤ length (take (length l - p) (drop p l)) → p ≤ length l → p + r ≤ length l
  tail_within r h k = omega (arith, ap length tail, length-drop p l)

-- ── one run ──────────────────────────────────────────────────────────────────────────────────

module _ {t : ℕ} (x i : ℕ) (l : List ℕ) (e : t ≡ i + run_of x (drop i l)) where
  pub run_ends : length l ≤ i → i ≡ t
  unfolding run_of
  run_ends h = rw (e, drop_of_length-le l {i = i} h) (omega arith)

  pub run-past : length l ≤ i → i ≤ length l → length l ≡ t
  run-past h k = let z : length l ≡ i = omega arith in z ∙ run_ends h

  module _ (y : ℕ) (f : y ≡ get_or l i 0) (h : i < length l) where
    pub run-stops : (y ≡ x → ⊥) → i ≡ t
    unfolding run_of
    run-stops k = rw (e, drop-cons l i 0 h, ← f, ne_eqb y x k) (omega arith)

    pub run-goes : y ≡ x → t ≡ (i + 1) + run_of x (drop (i + 1) l)
    unfolding run_of
    run-goes k = rw (e, drop-cons l i 0 h, ← f, eq-eqb y x k, add-one) (omega arith)

pub put-start : (rows : List ℕ) (k start : ℕ) → take k rows ≡ take k rows ++ up_from start (start - start)
unfolding up_from
put-start rows k start = let z : start - start ≡ 0 = omega arith in rw z (sym (append-nil (take k rows)))

pub put-told : {t : List ℕ} (rows : List ℕ) (at m : ℕ) → at ≡ m → take at rows ≡ t → take m rows ≡ t
put-told rows at m e f = rw e at f

pub put_more : (rows rows₀ from old : List ℕ) (at k start i : ℕ) → take at rows ≡ old ++ up_from start (i - start) → at ≡ k + (i - start) → k ≤ start → start ≤ i
    → i < length from → length from ≤ length rows₀ → length rows ≡ length rows₀ → take (at + 1) (set rows at i) ≡ old ++ up_from start (i + 1 - start)
put_more rows rows₀ from old at k start i e f g h l m n =
    let z : i + 1 - start ≡ suc (i - start) = omega arith in
    let y : start + (i - start) ≡ i = omega arith in
    rw (add-one at, take-suc-set rows at i (omega arith), e, z, up_from-snoc start (i - start), y) (append_assoc old (up_from start (i - start)) (i ∷ []))

-- ── all runs ─────────────────────────────────────────────────────────────────────────────────

level-past : (low i : ℕ) (l : List ℕ) → level_above low l ≡ true → i < length l → level_above (get_or l i 0) (drop (suc i) l) ≡ true
unfolding level_above
level-past low i [] a h = absurd (not-suc-le-zero h)
level-past low zero (x ∷ xs) a h = (both (leb low x) (level_above x xs) a).1
level-past low (suc i) (x ∷ xs) a h = level-past x i xs (both (leb low x) (level_above x xs) a).1 (le_of_suc-le-suc h)

module _ {t : List ℕ} (from chains rows : List ℕ) (k p i : ℕ) (e : t ≡ take k rows ++ rows_of (drop i chains) p (drop p from)) where
  pub chosen-all : length chains ≤ i → take k rows ≡ t
  chosen-all h = rw (e, drop_of_length-le chains {i = i} h, rows_none p (drop p from)) (sym (append-nil (take k rows)))

  pub chosen_more : (rows' : List ℕ) (start stop : ℕ) → start ≡ p + place_of (get_or chains i 0) (drop p from) → stop ≡ start + run_of (get_or chains i 0) (drop start from)
      → take (k + (stop - start)) rows' ≡ take k rows ++ up_from start (stop - start) → i < length chains → not_falling from ≡ true → not_falling chains ≡ true
      → t ≡ take (k + (stop - start)) rows' ++ rows_of (drop (i + 1) chains) stop (drop stop from)
  unfolding not_falling
  chosen_more rows' start stop f g m h a b =
      let c = get_or chains i 0 in
      let s : drop (place_of c (drop p from)) (drop p from) ≡ drop start from = rw f (drop-drop (place_of c (drop p from)) p from) in
      let r : drop (run_of c (drop start from)) (drop start from) ≡ drop stop from = rw g (drop-drop (run_of c (drop start from)) start from) in
      let z : stop - start ≡ run_of c (drop start from) = omega arith in
      let u : rows_of (c ∷ drop (suc i) chains) p (drop p from) ≡ up_from start (stop - start) ++ rows_of (drop (suc i) chains) stop (drop stop from) =
      rows-turn c (drop (suc i) chains) 0 p (drop p from) (level-past 0 i chains b h) (level-drop 0 p from a) ∙ rw (s, r, ← f, ← g, z) in
      e ∙ rw (drop-cons chains i 0 h, u, m, add-one) (sym (append_assoc (take k rows) (up_from start (stop - start)) (rows_of (drop (suc i) chains) stop (drop stop from))))

-- ── wider numbers ────────────────────────────────────────────────────────────────────────────

pub widens : {t : List ℕ} (i : ℕ) (vs out : List ℕ) (x : ℕ) → t ≡ sets out i (drop i vs) → x ≡ get_or vs i 0 → i < length vs → t ≡ sets (set out i x) (i + 1) (drop (i + 1) vs)
widens i vs out x e f h = rw f (copies i vs out e h)

-- ── chains in order ──────────────────────────────────────────────────────────────────────────

module _ (chains out out' : List ℕ) (e : out' ≡ over chains out) where
  pub chains-sorted : {q : List ℕ} → q ≡ sort (take (length chains) out') → q ++ drop (length chains) out' ≡ over (sort chains) out
  unfolding over
  chains-sorted f = rw (f, e, take_at chains (drop (length chains) out) (length chains) refl, drop_at chains (drop (length chains) out) (length chains) refl, length-sort chains)

module _ (chains out out' : List ℕ) (e : out' ≡ over (sort chains) out) where
  front : take (length chains) out' ≡ sort chains
  front = rw e (take-over (sort chains) out (length chains) (length-sort chains))

  pub sorted-count : length chains ≡ length (take (length chains) out')
  sorted-count = sym (ap length front ∙ length-sort chains)

  pub sorted-level : not_falling (take (length chains) out') ≡ true
  sorted-level = rw front (sort-level chains)

  pub sorted-rows : {r : List ℕ} (p : ℕ) (l : List ℕ) → r ≡ rows_of (take (length chains) out') p l → r ≡ rows_of chains p l
  sorted-rows p l f = f ∙ ap (λ c. rows_of c p l) front ∙ rows-sorted chains p l
