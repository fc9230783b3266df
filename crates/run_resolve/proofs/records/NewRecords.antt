-- Records kept and then moved are the survivors' records: the new numbers of rows are their ranks.
use mathlib.Core.Path.{◌≡◌, ap, sym, ◌∙◌}
use mathlib.Core.Bool.{Bool, true, false, cond, not, ◌&&◌}
use mathlib.Core.List.{List, [], ◌∷◌, map}
use Prim.Native.Nat.{ℕ, zero, suc, ◌+◌, ◌-◌, ◌≤◌, ◌<◌}
use native.Mathlib.Nat.{not-suc-le-zero, le_of_suc-le-suc}
use native.Mathlib.Omega.{arith}
use lib.Dec.{eqb, leb, ltb}
use lib.ListN.{length, get_or, take, length-map}
use lib.Seq.{get_or-take, length-take-le}
use borrow.Author.Tests.{leb-true, ltb-true}
use Rattle.lists.specs.Lists.{all, filter, up_from, Each}
use Rattle.lists.proofs.Tests.{both, all-each}
use Rattle.lists.proofs.Each.{each-imp, each-get_or}
use Rattle.columns.specs.Building.{in_file}
use Rattle.archive.specs.File
use Rattle.run_renumber.specs.Numbers.{takes, numbers_from}
use Rattle.cleaning.specs.Survivors.{rank_in, keep_unresolved, keep_roots}
use Rattle.cleaning.proofs.Ranks.{length-keep, each_keep}
use Rattle.run_state.specs.declared.Unresolved.{Unresolved}
use Rattle.run_state.specs.declared.Roots.{Roots}
use Rattle.run_state.specs.View.{listed, unresolved_at, root_at}
use Rattle.run_state.specs.Valid.{below}
use Rattle.run_state.specs.ByColumns.{unresolved_of, roots_of}
use Rattle.run_compact.specs.Columns.{gone, survive, kept_in, flags_of, new_rows}
use Rattle.run_resolve.specs.sheet.Kept.{UnresolvedKept, RootsKept}
use Rattle.run_resolve.proofs.sheet.KeptRecords.{unresolved-survive, roots-survive}
use Rattle.run_resolve.proofs.sheet.MovedRecords.{children-moved, roots-moved}

-- ── numbers and ranks ────────────────────────────────────────────────────────────────────────

rank-number : (n : ℕ) (fs : List ℕ) (i : ℕ) → i < length fs → get_or (numbers_from n fs) i 0 ≡ n + rank_in (gone fs) i
unfolding numbers_from rank_in gone filter takes
rank-number n [] i h = absurd (not-suc-le-zero h)
rank-number n (f ∷ fs) zero h = omega arith
rank-number n (f ∷ fs) (suc i) h = rank-number (n + takes f) fs i (le_of_suc-le-suc h) ∙ go (eqb f 0) (filter not (take i (gone fs)))
  where
    go : (b : Bool) (xs : List Bool) → n + cond b 1 0 + length xs ≡ n + length (cond (not (not b)) (not b ∷ xs) xs)
    go true xs = omega arith
    go false xs = omega arith

front-rank : (start : ℕ) (flags ns : List ℕ) → take (length flags) ns ≡ numbers_from start flags → (i : ℕ) → i < length flags → get_or ns i 0 ≡ start + rank_in (gone flags) i
front-rank start flags ns e i h = sym (get_or-take (length flags) ns i 0 h) ∙ ap (λ l. get_or l i 0) e ∙ rank-number start flags i h

-- ── columns that are kept ────────────────────────────────────────────────────────────────────

long_of : (c : ℕ) (col : List ℕ) → length (take c col) ≡ c → c ≤ length col
long_of zero col e = omega arith
long_of (suc c) [] e = absurd (omega (arith, e))
long_of (suc c) (x ∷ col) e = omega (arith, long_of c col (omega (arith, e)))

pub filter-few : (es : List Bool) → length (filter not es) ≤ length es
unfolding filter
filter-few [] = omega arith
filter-few (true ∷ es) = omega (arith, filter-few es)
filter-few (false ∷ es) = omega (arith, filter-few es)

module _ (base : ℕ) (flags xs col : List ℕ) (c : ℕ) (h : c ≡ survive (flags_of base flags xs)) (e : take c col ≡ kept_in (flags_of base flags xs) xs) where
  flags-length : length (gone (flags_of base flags xs)) ≡ length xs
  unfolding gone flags_of
  flags-length = length-map (map (λ x. get_or flags (x - base) 0) xs) (λ f. not (eqb f 0)) ∙ length-map xs (λ x. get_or flags (x - base) 0)

  kept-length : length (take c col) ≡ c
  unfolding survive
  kept-length = ap length e ∙ length-keep (gone (flags_of base flags xs)) xs (sym flags-length) ∙ sym h

  kept-few : c ≤ length xs
  unfolding survive
  kept-few = omega (arith, h, filter-few (gone (flags_of base flags xs)), flags-length)

  kept-each : (P : ℕ → Type 0) → Each P xs → (j : ℕ) → j < c → P (get_or col j 0)
  kept-each P p j l =
      let q : Each P (take c col) = rw e (each_keep P (gone (flags_of base flags xs)) xs p) in
      rw (get_or-take c col j 0 l) at (each-get_or P (take c col) j 0 q (omega (arith, kept-length)))

-- ── records ──────────────────────────────────────────────────────────────────────────────────

module _ (start : ℕ) (flags ns : List ℕ) (n : take (length flags) ns ≡ numbers_from start flags) where
  pub children-new : (c m : ℕ) (cs ks hs cs' ks' hs' ys : List ℕ) → c ≤ 1024 → length cs ≡ 1024
      → all (in_file start (start + length flags)) (take c cs) ≡ true
      → UnresolvedKept (flags_of start flags (take c cs)) (unresolved_of c cs ks hs) (unresolved_of m cs' ks' hs') → take m ys ≡ new_rows start 0 ns (take m cs')
      → listed (unresolved_at (unresolved_of m ys ks' hs')) m ≡ keep_unresolved start (gone flags) (listed (unresolved_at (unresolved_of c cs ks hs)) c)
  unfolding keep_unresolved in_file
  children-new c m cs ks hs cs' ks' hs' ys h l o kept moved =
      let xs = take c cs in
      let inside = each-imp (λ x. (leb start x && ltb x (start + length flags)) ≡ true) (λ x. x - start < length flags) xs
      (λ x b. let t = both (leb start x) (ltb x (start + length flags)) b in omega (arith, leb-true start x t.0, ltb-true x (start + length flags) t.1))
      (all-each (in_file start (start + length flags)) xs o) in
      let f : List File.Unresolved → List File.Unresolved = map (λ x. record { child = start + rank_in (gone flags) (x.child - start); kind = x.kind; handle = x.handle }) in
      children-moved (gone flags) (length flags) start ns (front-rank start flags ns n) m cs' ys ks' hs' moved
      (long_of m cs' (kept-length start flags xs cs' m kept.count kept.children))
      (kept-each start flags xs cs' m kept.count kept.children (λ x. x - start < length flags) inside)
      ∙ ap f (unresolved-survive start flags (unresolved_of c cs ks hs) (unresolved_of m cs' ks' hs') (omega arith) kept)

  pub roots-new : (c m : ℕ) (rs hs rs' hs' ys : List ℕ) → c ≤ 1024 → length rs ≡ 1024 → all (below (length flags)) (take c rs) ≡ true
      → RootsKept (flags_of 0 flags (take c rs)) (roots_of c rs hs) (roots_of m rs' hs') → take m ys ≡ new_rows 0 start ns (take m rs')
      → listed (root_at (roots_of m ys hs')) m ≡ keep_roots (gone flags) (listed (root_at (roots_of c rs hs)) c)
  unfolding keep_roots below
  roots-new c m rs hs rs' hs' ys h l o kept moved =
      let xs = take c rs in
      let inside = each-imp (λ x. ltb x (length flags) ≡ true) (λ x. x < length flags) xs (λ x b. ltb-true x (length flags) b) (all-each (below (length flags)) xs o) in
      let f : List File.Root → List File.Root = map (λ x. record { row = rank_in (gone flags) x.row; handle = x.handle }) in
      roots-moved (gone flags) (length flags) start ns (front-rank start flags ns n) m rs' ys hs' moved
      (long_of m rs' (kept-length 0 flags xs rs' m kept.count kept.rows))
      (kept-each 0 flags xs rs' m kept.count kept.rows (λ x. x < length flags) inside)
      ∙ ap f (roots-survive flags (roots_of c rs hs) (roots_of m rs' hs') (omega arith) kept)

-- of no records none is left
pub children-none : (start c : ℕ) (es : List Bool) (u q : Unresolved) → c ≡ 0 → listed (unresolved_at q) 0 ≡ keep_unresolved start es (listed (unresolved_at u) c)
unfolding keep_unresolved filter up_from
children-none start c es u q e = rw e

pub roots-none : (c : ℕ) (es : List Bool) (r q : Roots) → c ≡ 0 → listed (root_at q) 0 ≡ keep_roots es (listed (root_at r) c)
unfolding keep_roots filter up_from
roots-none c es r q e = rw e

-- no more records than there were
module _ (base : ℕ) (flags : List ℕ) (c m : ℕ) (h : c ≤ 1024) where
  module _ (cs ks hs cs' ks' hs' : List ℕ) (l : length cs ≡ 1024) (kept : UnresolvedKept (flags_of base flags (take c cs)) (unresolved_of c cs ks hs) (unresolved_of m cs' ks' hs')) where
    pub children-few : m ≤ c
    children-few = omega (arith, kept-few base flags (take c cs) cs' m kept.count kept.children, length-take-le c cs (omega arith))

    pub children-room : m ≤ 1024
    children-room = omega (arith, children-few)

  module _ (rs hs rs' hs' : List ℕ) (l : length rs ≡ 1024) (kept : RootsKept (flags_of base flags (take c rs)) (roots_of c rs hs) (roots_of m rs' hs')) where
    pub roots_few : m ≤ c
    roots_few = omega (arith, kept-few base flags (take c rs) rs' m kept.count kept.rows, length-take-le c rs (omega arith))

    pub roots-room : m ≤ 1024
    roots-room = omega (arith, roots_few)
