-- The columns that compacting leaves, under the counts of their records.
use mathlib.Core.Path.{◌≡◌, sym, ◌∙◌}
use mathlib.Core.List.{List}
use Prim.Native.Nat.{ℕ, ◌≤◌}
use native.Mathlib.Omega.{arith}
use lib.ListN.{length, take}
use lib.Seq.{length-take-le}
use Rattle.run_state.specs.declared.Rows.{Rows}
use Rattle.run_state.specs.declared.Unresolved.{Unresolved}
use Rattle.run_state.specs.declared.Roots.{Roots}
use Rattle.run_compact.specs.Columns.{survive, kept_in}
use Rattle.run_state.specs.ByColumns.{rows_of, unresolved_of, roots_of}
use Rattle.run_resolve.specs.sheet.Kept.{RowsKept, UnresolvedKept, RootsKept}

pub column-kept : (n r m : ℕ) (fs xs was : List ℕ) → n ≡ survive fs → r ≡ survive fs → length fs ≡ m → take r xs ≡ kept_in fs (take (length fs) was)
    → take n xs ≡ kept_in fs (take m was)
column-kept n r m fs xs was e f l h = let q : n ≡ r = e ∙ sym f in rw (q, ← l) h

pub front_length : (n : ℕ) (xs : List ℕ) → n ≤ 1024 → length xs ≡ 1024 → length (take n xs) ≡ n
front_length n xs h l = length-take-le n xs (omega arith)

pub front-count : (n : ℕ) (xs : List ℕ) → n ≤ 1024 → length xs ≡ 1024 → n ≡ length (take n xs)
front-count n xs h l = sym (front_length n xs h l)

pub front-few : (n : ℕ) (xs : List ℕ) → n ≤ 1024 → length xs ≡ 1024 → length (take n xs) ≤ 1024
front-few n xs h l = omega (arith, front_length n xs h l)

pub rows_counted : (fs : List ℕ) (r q : Rows) → length fs ≡ r.count → RowsKept fs (rows_of (length fs) r.groups r.tags r.chains r.seqs) q → RowsKept fs r q
rows_counted fs r q e k = rw e at k

-- the flags of the records, under their count
module _ (n : ℕ) (col fs : List ℕ) (h : n ≤ 1024) (l : length col ≡ 1024) (e : take n col ≡ fs) where
  pub unresolved-named : (cs ks hs : List ℕ) (q : Unresolved) → UnresolvedKept (take n col) (unresolved_of (length (take n col)) cs ks hs) q → UnresolvedKept fs (unresolved_of n cs ks hs) q
  unresolved-named cs ks hs q k = rw e at (rw (front_length n col h l) at k)

  pub roots-named : (rs hs : List ℕ) (q : Roots) → RootsKept (take n col) (roots_of (length (take n col)) rs hs) q → RootsKept fs (roots_of n rs hs) q
  roots-named rs hs q k = rw e at (rw (front_length n col h l) at k)
