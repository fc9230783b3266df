-- A table of lists, one for each number and kind, tested as a whole: what the test says when one edge more stands in the table, and of the three sets of a granule.
use mathlib.Core.Path.{◌≡◌, refl, sym, ◌∙◌, ap}
use mathlib.Core.Bool.{Bool, true, ◌&&◌}
use mathlib.Core.Logic.{inl, inr}
use mathlib.Core.List.{List, ◌∷◌}
use Prim.Native.Nat.{ℕ, zero, suc, ◌+◌, ◌-◌, ◌*◌, ◌/◌, ◌≤◌, ◌<◌}
use native.Mathlib.Omega.{arith}
use native.Mathlib.Nat.{not-suc-le-zero}
use lib.Dec.{leb}
use lib.ListN.{take, drop}
use borrow.Author.Tests.{lt-ltb, le-leb, leb-true, leb-false}
use Rattle.columns.specs.Limits.{kinds}
use Rattle.lists.specs.Lists.{all, mem, part, up_from, filter}
use Rattle.lists.proofs.Tests.{tested}
use Rattle.columns.specs.EdgeSet.{delta_of}
use Rattle.columns.specs.Questions.{list_of}
use Rattle.columns.specs.Building.{slot_table, naming, reverse_lists, fits63, deltas_fit}
use Rattle.columns_rules.specs.spans.Spanned.{spans_fit, slots_fit}
use Rattle.columns_rules.proofs.spans.SpanTurns.{deltas-slots, span-down, span-up}

-- ── a table as a whole ───────────────────────────────────────────────────────────────────────

-- a test of every list of a table, with the number and the kind that it stands for
unfoldable all_table : (ℕ → ℕ → List ℕ → Bool) → (ℕ → ℕ → List ℕ) → ℕ → ℕ → Bool
all_table q f first zero = true
all_table q f first (suc n) = q first 0 (f first 0) && (q first 1 (f first 1) && all_table q f (suc first) n)

fit-table : (f : ℕ → ℕ → List ℕ) (first m n : ℕ) → slots_fit first (2 * m) (slot_table kinds f (first + m) n) ≡ all_table (λ e k l. spans_fit e l) f (first + m) n
unfolding slots_fit slot_table up_from all_table
fit-table f first m zero = refl
fit-table f first m (suc n) =
    let a : 2 * m / 2 ≡ m = omega arith in
    let b : suc (2 * m) / 2 ≡ m = omega arith in
    let d : suc (suc (2 * m)) ≡ 2 * suc m = omega arith in
    let e : suc (first + m) ≡ first + suc m = omega arith in
    rw (a, b, d, e, fit-table f first (suc m) n)

module _ (q : ℕ → ℕ → List ℕ → Bool) where
  table-true : (f : ℕ → ℕ → List ℕ) (first n : ℕ) → ((m k : ℕ) → first ≤ m → m < first + n → q m k (f m k) ≡ true) → all_table q f first n ≡ true
  unfolding all_table
  table-true f first zero h = refl
  table-true f first (suc n) h =
      rw (h first 0 (omega arith) (omega arith), h first 1 (omega arith) (omega arith)) (table-true f (suc first) n (λ m k a b. h m k (omega arith) (omega arith)))

-- ── the granule's part of a table ────────────────────────────────────────────────────────────

drop-table : (f : ℕ → ℕ → List ℕ) (a first rows : ℕ) → a ≤ rows → drop (2 * a) (slot_table kinds f first rows) ≡ slot_table kinds f (first + a) (rows - a)
unfolding slot_table up_from
drop-table f zero first rows h = let a : first + 0 ≡ first = omega arith in let b : rows - 0 ≡ rows = omega arith in rw (a, b)
drop-table f (suc a) first zero h = absurd (not-suc-le-zero h)
drop-table f (suc a) first (suc rows) h =
    let x : 2 * suc a ≡ suc (suc (2 * a)) = omega arith in
    let y : suc first + a ≡ first + suc a = omega arith in
    let z : suc rows - suc a ≡ rows - a = omega arith in
    rw (x, z, ← y) (drop-table f a (suc first) rows (omega arith))

take-table : (f : ℕ → ℕ → List ℕ) (n first rows : ℕ) → n ≤ rows → take (2 * n) (slot_table kinds f first rows) ≡ slot_table kinds f first n
unfolding slot_table up_from
take-table f zero first rows h = refl
take-table f (suc n) first zero h = absurd (not-suc-le-zero h)
take-table f (suc n) first (suc rows) h =
    let x : 2 * suc n ≡ suc (suc (2 * n)) = omega arith in
    rw x (ap (λ l. f first 0 ∷ (f first 1 ∷ l)) (take-table f n (suc first) rows (omega arith)))

pub part-table : (f : ℕ → ℕ → List ℕ) (a n first rows : ℕ) → a + n ≤ rows → part (2 * a) (2 * n) (slot_table kinds f first rows) ≡ slot_table kinds f (first + a) n
unfolding part
part-table f a n first rows h = rw (drop-table f a first rows (omega arith)) (take-table f n (first + a) (rows - a) (omega arith))

-- ── 15 of the granule's sets ─────────────────────────────────────────────────────────────────

fit-whole : (f : ℕ → ℕ → List ℕ) (first n : ℕ) → deltas_fit kinds first (slot_table kinds f first n) ≡ all_table (λ e k l. spans_fit e l) f first n
fit-whole f first n =
    let z : first + 0 ≡ first = omega arith in
    deltas-slots first (slot_table kinds f first n) ∙ (rw z at (fit-table f first 0 n))

near : (m x : ℕ) → m < x + 1024 → x < m + 1024 → fits63 (delta_of m x) ≡ true
near m x a b = elim (tested (leb x m)) [
  | inl t ↦ let h = leb-true x m t in sym (span-down m x h) ∙ lt-ltb (m - x) 9223372036854775808 (omega arith)
  | inr t ↦ let h = leb-false x m t in sym (span-up m x h) ∙ le-leb (x - m) 9223372036854775808 (omega arith)
]

near-list : (p : ℕ → Bool) (m a r : ℕ) → m < a + 1024 → a + r ≤ m + 1024 → spans_fit m (filter p (up_from a r)) ≡ true
unfolding spans_fit all filter up_from
near-list p m a zero h k = refl
near-list p m a (suc r) h k = elim (tested (p a)) [
  | inl t ↦ rw (t, near m a h (omega arith)) (near-list p m (suc a) r (omega arith) (omega arith))
  | inr t ↦ rw t (near-list p m (suc a) r (omega arith) (omega arith))
]

-- 15 of reverse edges: both ends are events of one file
pub fit_reverse : (first rows from n : ℕ) (lists : List (List ℕ)) → rows ≤ 1024 → from + n ≤ rows
    → deltas_fit kinds (first + from) (part (2 * from) (2 * n) (reverse_lists kinds first rows lists)) ≡ true
unfolding reverse_lists naming
fit_reverse first rows from n lists h m =
    rw (part-table (naming kinds first rows lists) from n first rows m)
    (fit-whole (naming kinds first rows lists) (first + from) n
    ∙ table-true (λ e k l. spans_fit e l) (naming kinds first rows lists) (first + from) n
    (λ e k a b. near-list (λ event. mem e (list_of kinds first lists k event)) e first rows (omega arith) (omega arith)))
