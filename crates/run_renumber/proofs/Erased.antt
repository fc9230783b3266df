-- Survivors that name an erased parent: one turn of the loop over an event's parents, and of the loop over the events.
use mathlib.Core.Path.{◌≡◌, ◌∙◌}
use mathlib.Core.Bool.{Bool, true, false, not}
use mathlib.Core.List.{List}
use Prim.Native.Nat.{ℕ, suc, ◌≤◌, ◌<◌, ◌+◌, ◌-◌, ◌*◌}
use native.Mathlib.Nat.{mul-le-mul_left}
use native.Mathlib.Numerals.{add-one}
use native.Mathlib.Omega.{arith}
use lib.Dec.{eqb}
use lib.ListN.{length, get_or}
use lib.Seq.{slice, slice-cons}
use borrow.Author.Tests.{lt-ltb, le-ltb, eq-eqb, ne_eqb}
use Rattle.lists.specs.Lists.{any, filter, joined, part, up_from}
use Rattle.lists.proofs.Slices.{slice-none}
use Rattle.columns.specs.EdgeSet.{from_to, offsets_form, cut}
use Rattle.run_renumber.specs.Reparented.{is_erased, is_reparented, reparented}
use Rattle.run_renumber.proofs.Tables.{table-rises, table-within, joined-slots, form-length, form-table}

-- ── a parent ─────────────────────────────────────────────────────────────────────────────────

module _ (start : ℕ) (flags : List ℕ) (p : ℕ) where
  pub none_before : p < start → false ≡ is_erased start flags p
  unfolding is_erased
  none_before h = rw (lt-ltb p start h)

  pub by_flag : (q x : ℕ) → start ≤ p → q ≡ p - start → x ≡ get_or flags q 0 → not (eqb x 0) ≡ is_erased start flags p
  unfolding is_erased
  by_flag q x h e f = rw (le-ltb p start h, ← e, f)

-- ── the parents of an event ──────────────────────────────────────────────────────────────────

module _ {t : Bool} (start : ℕ) (flags : List ℕ) (i b : ℕ) (ps : List ℕ) (e : t ≡ any (is_erased start flags) (slice i b ps)) where
  pub none-erased : b ≤ i → false ≡ t
  unfolding any
  none-erased h = rw (e, slice-none i b ps h)

  module _ (h : i < b) (k : b ≤ length ps) (r : Bool) (f : r ≡ is_erased start flags (get_or ps i 0)) where
    pub this-erased : r ≡ true → true ≡ t
    unfolding any
    this-erased g = rw (e, slice-cons i b ps 0, ← f, g)

    pub next-erased : r ≡ false → t ≡ any (is_erased start flags) (slice (i + 1) b ps)
    unfolding any
    next-erased g = rw (e, slice-cons i b ps 0, ← f, g, add-one)

-- ── an event ─────────────────────────────────────────────────────────────────────────────────

module _ (K start : ℕ) (flags offsets targets : List ℕ) (i : ℕ) where
  pub not-erased : (get_or flags i 0 ≡ 0 → ⊥) → false ≡ is_reparented K start flags (cut offsets targets) i
  unfolding is_reparented
  not-erased h = rw (ne_eqb (get_or flags i 0) 0 h)

  module _ (ok : offsets_form K (length flags) (length targets) offsets ≡ true) (h : i < length flags) where
    far : (j : ℕ) → j ≤ K → K * i + j < length offsets
    far j w = omega (arith, mul-le-mul_left K h, form-length K (length flags) (length targets) offsets ok)

    table : from_to 0 (length targets) offsets ≡ true
    table = form-table K (length flags) (length targets) offsets ok

    -- up to the end of any of the event's slots
    pub event-within : (b j : ℕ) → b ≡ get_or offsets (K * i + j) 0 → j ≤ K → b ≤ length targets
    event-within b j f w = rw f (table-within (length targets) offsets table (K * i + j) (far j w))

    module _ (a b : ℕ) (e : a ≡ get_or offsets (K * i) 0) where
      pub event-ordered : (j : ℕ) → b ≡ get_or offsets (K * i + j) 0 → j ≤ K → a ≤ b
      event-ordered j f w = rw (e, f) (table-rises (length targets) offsets table (K * i) (K * i + j) (omega arith) (far j w))

      pub event-named : (r : Bool) → b ≡ get_or offsets (K * i + K) 0 → r ≡ any (is_erased start flags) (slice a b targets)
          → get_or flags i 0 ≡ 0 → r ≡ is_reparented K start flags (cut offsets targets) i
      unfolding is_reparented
      event-named r f g z =
          let w : joined (part (K * i) K (cut offsets targets)) ≡ slice a b targets =
          joined-slots (length targets) offsets targets table (omega arith) K (K * i) (far K (omega arith)) ∙ rw (e, f) in
          rw (eq-eqb (get_or flags i 0) 0 z, w) g

-- ── all events ───────────────────────────────────────────────────────────────────────────────

module _ (K start : ℕ) (flags : List ℕ) (slots : List (List ℕ)) where
  pub count-begins : reparented K start flags slots ≡ 0 + length (filter (is_reparented K start flags slots) (up_from 0 (length flags - 0)))
  unfolding reparented
  count-begins =
      let z : length flags - 0 ≡ length flags = omega arith in
      rw z (omega arith)

module _ (K start : ℕ) (flags : List ℕ) (slots : List (List ℕ)) (n i : ℕ) {t : ℕ}
    (e : t ≡ n + length (filter (is_reparented K start flags slots) (up_from i (length flags - i)))) where
  pub count-ends : length flags ≤ i → n ≡ t
  unfolding up_from filter
  count-ends h =
      let z : length flags - i ≡ 0 = omega arith in
      rw (e, z) (omega arith)

  module _ (h : i < length flags) (r : Bool) (f : r ≡ is_reparented K start flags slots i) where
    one_on : length flags - i ≡ suc (length flags - (i + 1))
    one_on = omega arith

    rest : ℕ
    rest = length (filter (is_reparented K start flags slots) (up_from (suc i) (length flags - (i + 1))))

    pub counted : (m : ℕ) → r ≡ true → m ≡ n + 1 → t ≡ m + length (filter (is_reparented K start flags slots) (up_from (i + 1) (length flags - (i + 1))))
    unfolding up_from filter
    counted m g k = rw (e, one_on, add-one i, ← f, g, k) (omega arith)

    pub passed : (m : ℕ) → r ≡ false → m ≡ n → t ≡ m + length (filter (is_reparented K start flags slots) (up_from (i + 1) (length flags - (i + 1))))
    unfolding up_from filter
    passed m g k = rw (e, one_on, add-one i, ← f, g, k)
