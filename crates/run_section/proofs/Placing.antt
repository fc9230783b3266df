-- Where a number stands in a column that does not fall, seen at one place of it.
use mathlib.Core.Path.{◌≡◌, sym}
use mathlib.Core.Bool.{true}
use mathlib.Core.Logic.{inl, inr}
use mathlib.Core.List.{List, [], ◌∷◌}
use Prim.Native.Nat.{ℕ, zero, suc, ◌+◌, ◌*◌, ◌^◌, ◌≤◌, ◌<◌}
use native.Mathlib.Omega.{arith}
use mir.Val.{Fits}
use mir.Syntax.{w64}
use lib.Dec.{leb, ltb}
use lib.ListN.{length, get_or}
use borrow.Author.Tests.{lt-ltb, le-ltb, leb-true, ltb-true, ltb-false}
use Rattle.lists.specs.Lists.{filter}
use Rattle.lists.specs.Order.{level_above, not_falling}
use Rattle.lists.proofs.Tests.{tested, both}
use Rattle.cleaning.specs.Sections.{place}
use Rattle.cleaning.proofs.Places.{place-within, place-rises}
use Rattle.run_section.specs.Sections.{SortedTable, SpanAt}
use Rattle.run_section.specs.Tables.{keys}
use Rattle.run_section.proofs.Records.{key-at, keys-count, record-there}

-- ── one place ────────────────────────────────────────────────────────────────────────────────

module _ (low y : ℕ) (ys : List ℕ) (h : level_above low (y ∷ ys) ≡ true) where
  tail-level : level_above y ys ≡ true
  unfolding level_above
  tail-level = (both (leb low y) (level_above y ys) h).1

  head-least : low ≤ y
  unfolding level_above
  head-least = leb-true low y (both (leb low y) (level_above y ys) h).0

level-least : (low : ℕ) (xs : List ℕ) (i : ℕ) → level_above low xs ≡ true → i < length xs → low ≤ get_or xs i 0
level-least low [] i h l = absurd (omega arith)
level-least low (y ∷ ys) zero h l = head-least low y ys h
level-least low (y ∷ ys) (suc i) h l = omega (arith, head-least low y ys h, level-least y ys i (tail-level low y ys h) (omega arith))

-- a number below x stands before the place of x
before : (x low : ℕ) (xs : List ℕ) (i : ℕ) → level_above low xs ≡ true → i < length xs → get_or xs i 0 < x → i < place x xs
unfolding place filter
before x low [] i h l b = absurd (omega arith)
before x low (y ∷ ys) zero h l b = rw (lt-ltb y x b) (omega arith)
before x low (y ∷ ys) (suc i) h l b =
    let r = tail-level low y ys h in
    let t : y < x = omega (arith, level-least y ys i r (omega arith)) in
    rw (lt-ltb y x t) (omega (arith, before x y ys i r (omega arith) b))

one_more : (x y : ℕ) (ys : List ℕ) → place x (y ∷ ys) ≤ suc (place x ys)
unfolding place filter
one_more x y ys = elim (tested (ltb y x)) [ inl e ↦ rw e (omega arith) | inr e ↦ rw e (omega arith) ]

-- one that is not stands there or after it
not-before : (x low : ℕ) (xs : List ℕ) (i : ℕ) → level_above low xs ≡ true → i < length xs → x ≤ get_or xs i 0 → place x xs ≤ i
unfolding place filter
not-before x low [] i h l b = absurd (omega arith)
not-before x low (y ∷ []) zero h l b = rw (le-ltb y x b) (omega arith)
not-before x low (y ∷ (z ∷ zs)) zero h l b =
    let r = tail-level low y (z ∷ zs) h in
    rw (le-ltb y x b) (not-before x y (z ∷ zs) 0 r (omega arith) (omega (arith, head-least y z zs r)))
not-before x low (y ∷ ys) (suc i) h l b =
    omega (arith, one_more x y ys, not-before x y ys i (tail-level low y ys h) (omega arith) b)

-- ── a search by halves ───────────────────────────────────────────────────────────────────────

module _ (w n x m high : ℕ) (table : List ℕ) (t : SortedTable w n table) (q : m < high) (l : high ≤ n) where
  h : m < n
  h = omega arith

  counted : m < length (keys w n table)
  counted = omega (arith, h, keys-count w n table)

  key : get_or table (m * w) 0 ≡ get_or (keys w n table) m 0
  key = sym (key-at w n m table h)

  pub above-middle : {y : ℕ} → y ≡ get_or table (m * w) 0 → y < x → m + 1 ≤ place x (keys w n table)
  unfolding not_falling
  above-middle e b = omega (arith, before x 0 (keys w n table) m t.level counted (omega (arith, e, key, b)))

  pub up-to-middle : {y : ℕ} → y ≡ get_or table (m * w) 0 → x ≤ y → place x (keys w n table) ≤ m
  unfolding not_falling
  up-to-middle e b = not-before x 0 (keys w n table) m t.level counted (omega (arith, e, key, b))

-- a record between the place of a number and that of the next has it as its key
pub key_here : (w n x i : ℕ) (table : List ℕ) → SortedTable w n table → place x (keys w n table) ≤ i → i < place (suc x) (keys w n table) → get_or table (i * w) 0 ≡ x
unfolding not_falling
key_here w n x i table t p q =
    let ks = keys w n table in
    let c = keys-count w n table in
    let l : i < length ks = omega (arith, place-within (suc x) ks) in
    let e = key-at w n i table (omega arith) in
    elim (tested (ltb (get_or ks i 0) x)) [
      | inl b ↦ absurd (omega (arith, before x 0 ks i t.level l (ltb-true (get_or ks i 0) x b)))
      | inr b ↦ elim (tested (ltb x (get_or ks i 0))) [
        | inl d ↦ absurd (omega (arith, not-before (suc x) 0 ks i t.level l (ltb-true x (get_or ks i 0) d)))
        | inr d ↦ omega (arith, ltb-false (get_or ks i 0) x b, ltb-false x (get_or ks i 0) d, e)
      ]
    ]

pub at_most : (w n x : ℕ) (table : List ℕ) → place x (keys w n table) ≤ n
at_most w n x table = omega (arith, place-within x (keys w n table), keys-count w n table)

module _ (w n m high : ℕ) (table : List ℕ) (t : SortedTable w n table) (q : m < high) (l : high ≤ n) where
  pub middle-there : m * w < length table
  middle-there = omega (arith, record-there w n m table (omega arith) t.there, t.wide)

  pub middle-fits : length table * 8 < 2 ^ 63 → Fits w64 (m * w)
  middle-fits b = record { fits = omega (arith, middle-there) }

  pub byte_fits : length table * 8 < 2 ^ 63 → Fits w64 (m * w * 8)
  byte_fits b = record { fits = omega (arith, middle-there) }

-- ── spans ────────────────────────────────────────────────────────────────────────────────────

pub span-at : (w n low high : ℕ) (table : List ℕ) → low ≤ high → (from to : ℕ) → from ≡ place low (keys w n table) → to ≡ place high (keys w n table)
    → SpanAt w n table low high (record { from = from; to = to })
span-at w n low high table h from to e f = record {
  from_is = e;
  to_is = f;
  rises = omega (arith, e, f, place-rises low high (keys w n table) h);
  within = omega (arith, f, at_most w n high table);
}
