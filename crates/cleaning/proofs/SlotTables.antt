-- Tables of lists, one for each number and kind: a part of a table, a table whose lists are made anew, and tables of the same lists.
use mathlib.Core.Path.{◌≡◌, ap, ◌∙◌}
use mathlib.Core.List.{List, [], ◌++◌, map, map-map}
use Prim.Native.Nat.{ℕ, ◌+◌, ◌-◌, ◌*◌, ◌≤◌, ◌<◌}
use native.Mathlib.Omega.{arith}
use lib.ListN.{length, drop}
use lib.Seq.{take_at, drop_at, get_or-take, get_or-drop}
use borrow.Author.Tests.{le-ltb}
use Rattle.lists.specs.Lists.{flat, part, up_from}
use Rattle.lists.proofs.Slots.{slot-under}
use Rattle.lists.proofs.Each.{each-imp, each_all}
use Rattle.lists.proofs.Flat.{flat_append, flat-ext, map-ext, map-flat, length-up_from, length-map-up_from, up_from-append}
use Rattle.lists.proofs.Filters.{each_below}
use Rattle.lists.proofs.Pairs.{each-up_from}
use Rattle.lists.proofs.Cut.{length-blocks}
use Rattle.columns.specs.Limits.{Served}
use Rattle.columns.specs.Questions.{list_of}
use Rattle.columns.specs.Building.{slot_table}

-- the lists of one number, a list for each kind
abbrev row : (K : ℕ) → (ℕ → ℕ → List ℕ) → ℕ → List (List ℕ)
row K f n = map (f n) (up_from 0 K)

module _ (K : ℕ) (served : Served K) (f : ℕ → ℕ → List ℕ) where
  rows-wide : (first n : ℕ) → length (flat (row K f) (up_from first n)) ≡ K * n
  rows-wide first n = length-blocks (row K f) K (λ m. length-map-up_from (f m) 0 K) (up_from first n) ∙ ap (λ m. K * m) (length-up_from first n)

  -- some numbers' part of a table is their table
  pub table-part : (first a n rows : ℕ) → a + n ≤ rows → part (K * a) (K * n) (slot_table K f first rows) ≡ slot_table K f (first + a) n
  unfolding part slot_table
  table-part first a n rows l =
      let r = rows - (a + n) in
      let lists : ℕ → ℕ → List (List ℕ) = λ i m. flat (row K f) (up_from i m) in
      let e : rows ≡ a + (n + r) = omega arith in
      rw (
        e,
        up_from-append first a (n + r),
        up_from-append (first + a) n r,
        flat_append (row K f) (up_from first a) (up_from (first + a) n ++ up_from (first + a + n) r),
        drop_at (lists first a) (flat (row K f) (up_from (first + a) n ++ up_from (first + a + n) r)) (K * a) (rows-wide first a),
        flat_append (row K f) (up_from (first + a) n) (up_from (first + a + n) r),
      )
      (take_at (lists (first + a) n) (lists (first + a + n) r) (K * n) (rows-wide (first + a) n))

  -- each list made anew
  pub map-table : (g : List ℕ → List ℕ) (first rows : ℕ) → map g (slot_table K f first rows) ≡ slot_table K (λ n k. g (f n k)) first rows
  unfolding slot_table
  map-table g first rows =
      map-flat g (row K f) (up_from first rows)
      ∙ flat-ext (λ n. map g (row K f n)) (row K (λ n k. g (f n k))) (up_from first rows)
      (each_all (λ n. map g (row K f n) ≡ row K (λ n k. g (f n k)) n) (λ n. map-map g (f n) (up_from 0 K)) (up_from first rows))

  pub table-ext : (g : ℕ → ℕ → List ℕ) (first rows : ℕ) → ((n k : ℕ) → first ≤ n → n < first + rows → k < K → f n k ≡ g n k)
      → slot_table K f first rows ≡ slot_table K g first rows
  unfolding slot_table
  table-ext g first rows h =
      flat-ext (row K f) (row K g) (up_from first rows)
      (each-imp (λ n. (first ≤ n) × (n < first + rows)) (λ n. row K f n ≡ row K g n) (up_from first rows)
      (λ n w. map-ext (f n) (g n) (up_from 0 K) (each_below (λ k. f n k ≡ g n k) K (λ k l. h n k w.0 w.1 l))) (each-up_from first rows))

-- the list of a number out of the part that starts at some number before it
pub list-part : (K : ℕ) (served : Served K) (start a n : ℕ) (lists : List (List ℕ)) (k e : ℕ) → k < K → start + a ≤ e → e < start + a + n
    → list_of K (start + a) (part (K * a) (K * n) lists) k e ≡ list_of K start lists k e
unfolding list_of part
list-part K served start a n lists k e j l h =
    let i : K * a + (K * (e - (start + a)) + k) ≡ K * (e - start) + k = let z : e - start ≡ a + (e - (start + a)) = omega arith in rw z (omega arith) in
    rw (
      le-ltb e (start + a) l,
      le-ltb e start (omega arith),
      get_or-take (K * n) (drop (K * a) lists) (K * (e - (start + a)) + k) [] (slot-under K n (e - (start + a)) k (omega arith) j),
      get_or-drop (K * a) lists (K * (e - (start + a)) + k) [],
      i,
    )
