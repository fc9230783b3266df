-- Columns tested for their order: one turn of each loop, and each of its answers.
use mathlib.Core.Path.{◌≡◌, sym, ◌∙◌}
use mathlib.Core.Bool.{Bool, true, false, not}
use mathlib.Core.List.{List}
use Prim.Native.Nat.{ℕ, suc, ◌+◌, ◌≤◌, ◌<◌}
use native.Mathlib.Numerals.{add-one}
use native.Mathlib.Omega.{arith}
use lib.Dec.{leb, eqb}
use lib.ListN.{length, get_or, take}
use lib.Seq.{slice, slice-cons}
use borrow.Author.Tests.{leb-true, eq-eqb, ne_eqb, not-true, not-false}
use Rattle.lists.specs.Lists.{all}
use Rattle.lists.specs.Order.{rising, not_falling}
use Rattle.lists.proofs.Tests.{both}
use Rattle.lists.proofs.Slices.{slice-none}
use Rattle.columns.specs.Limits.{max_records, max_groups, max_subject}
use Rattle.cleaning.specs.Sections.{reaches}
use Rattle.run_state.specs.declared.Sheet.{Sheet}
use Rattle.run_state.specs.Valid.{below, counts_ok}
use Rattle.run_state.specs.declared.order.Counts.{Counts}
use Rattle.run_state.specs.order.Long.{LongSheet}
use Rattle.run_state.specs.order.Ordered.{groups_ordered, counts_in, columns_ordered, ordered, filled}

module _ {t : Bool} (n seen i to : ℕ) (l : List ℕ) (e : t ≡ reaches n seen (slice i to l)) where
  pub reach-done : to ≤ i → eqb seen n ≡ t
  unfolding reaches
  reach-done h = rw (e, slice-none i to l h)

  module _ (h : i < to) (k : to ≤ length l) (x m : ℕ) (d : x ≡ get_or l i 0) where
    pub reach-next : x ≡ seen → m ≡ seen + 1 → t ≡ reaches n m (slice (i + 1) to l)
    unfolding reaches
    reach-next f g = let z : m ≡ suc seen = omega arith in rw (e, slice-cons i to l 0, eq-eqb (get_or l i 0) seen (sym d ∙ f), z, add-one)

    pub reach-on : (x ≡ seen → ⊥) → m ≡ seen → t ≡ reaches n m (slice (i + 1) to l)
    unfolding reaches
    reach-on f g = rw (e, slice-cons i to l 0, ne_eqb (get_or l i 0) seen (λ q. f (d ∙ q)), g, add-one)

pub groups-fall : (n count : ℕ) (l : List ℕ) {r : Bool} → r ≡ not_falling (take count l) → r ≡ false → r ≡ groups_ordered n count l
unfolding groups_ordered
groups-fall n count l e h = rw (← e, h)

pub groups-rest : (n count : ℕ) (l : List ℕ) {r q : Bool} → r ≡ not_falling (take count l) → r ≡ true → q ≡ all (below n) (take count l) → q ≡ groups_ordered n count l
unfolding groups_ordered
groups-rest n count l e h f = rw (← e, h) f

-- ── a sheet ──────────────────────────────────────────────────────────────────────────────────

module _ (s : Sheet) (h : counts_ok s ≡ true) where
  few : (s.rows.count ≤ 1024) × (s.unresolved.count ≤ 1024) × (s.roots.count ≤ 1024) × (s.links.count ≤ 1024)
  unfolding counts_ok
  few =
      let a = both (leb s.subject.length max_subject) _ h in
      let b = both (leb s.groups.count max_groups) _ a.1 in
      let d = both (leb s.rows.count max_records) _ b.1 in
      let e = both (leb s.unresolved.count max_records) _ d.1 in
      let f = both (leb s.roots.count max_records) _ e.1 in
      let g = both (leb s.links.count max_records) _ f.1 in
      (leb-true s.rows.count max_records d.0, leb-true s.unresolved.count max_records e.0, leb-true s.roots.count max_records f.0, leb-true s.links.count max_records g.0)

  pub rows_few : s.rows.count ≤ 1024
  rows_few = few.0

  pub children-few : s.unresolved.count ≤ 1024
  children-few = few.1

  pub roots_few : s.roots.count ≤ 1024
  roots_few = few.2

  pub links_few : s.links.count ≤ 1024
  links_few = few.3

  module _ (z : Counts) (y : z ≡ counts_in s) where
    pub rows_counted : z.rows ≤ 1024
    rows_counted = rw y few.0

    pub children-counted : z.unresolved ≤ 1024
    children-counted = rw y few.1

    pub roots-counted : z.roots ≤ 1024
    roots-counted = rw y few.2

    pub links-counted : z.links ≤ 1024
    links-counted = rw y few.3

module _ (s : Sheet) (l : LongSheet s) where
  pub groups-long : length s.rows.groups ≡ 1024
  groups-long = l.rows.groups

  pub links-long : length s.links.groups ≡ 1024
  links-long = l.links.groups

  pub roots-long : length s.roots.rows ≡ 1024
  roots-long = l.roots.rows

  pub children-long : length s.unresolved.children ≡ 1024
  children-long = l.unresolved.children

  -- a count within the limit, over a column as long as that
  pub rows_within : counts_ok s ≡ true → s.rows.count ≤ length s.rows.groups
  rows_within h = rw groups-long (rows_few s h)

module _ (z : Counts) (rows links roots children : List ℕ) {a : Bool} (e : a ≡ groups_ordered z.groups z.rows rows) where
  pub rows-unordered : not a ≡ true → false ≡ columns_ordered z rows links roots children
  unfolding columns_ordered
  rows-unordered h = rw (← e, not-true a h)

  module _ (h : not a ≡ false) {b : Bool} (f : b ≡ groups_ordered z.groups z.links links) where
    pub links-unordered : not b ≡ true → false ≡ columns_ordered z rows links roots children
    unfolding columns_ordered
    links-unordered k = rw (← e, not-false a h, ← f, not-true b k)

    module _ (k : not b ≡ false) {d : Bool} (g : d ≡ rising (take z.roots roots)) where
      pub roots-unordered : not d ≡ true → false ≡ columns_ordered z rows links roots children
      unfolding columns_ordered
      roots-unordered m = rw (← e, not-false a h, ← f, not-false b k, ← g, not-true d m)

      pub all-ordered : not d ≡ false → {r : Bool} → r ≡ not_falling (take z.unresolved children) → r ≡ columns_ordered z rows links roots children
      unfolding columns_ordered
      all-ordered m q = rw (← e, not-false a h, ← f, not-false b k, ← g, not-false d m) q

pub ordered-by : (s : Sheet) (z : Counts) → z ≡ counts_in s → {r : Bool}
    → r ≡ columns_ordered z s.rows.groups s.links.groups s.roots.rows s.unresolved.children → r ≡ ordered s
unfolding ordered columns_ordered
ordered-by s z y e = rw y at e

pub filled_is : (s : Sheet) {r : Bool} → r ≡ reaches s.groups.count 0 (take s.rows.count s.rows.groups) → r ≡ filled s
unfolding filled
filled_is s e = e
