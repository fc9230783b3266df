-- The lists of the survivors, by the table that is built of them.
use Rattle.std.specs.Prelude.{None, Some, Option}
use mathlib.Core.Path.{◌≡◌, refl, sym, ap, ◌∙◌}
use mathlib.Core.Bool.{true, not}
use mathlib.Core.List.{List}
use Prim.Native.Nat.{ℕ, ◌+◌, ◌*◌, ◌^◌, ◌-◌, ◌≤◌, ◌<◌}
use native.Mathlib.Omega.{arith}
use lib.Dec.{eqb}
use lib.ListN.{length, take, length-map}
use lib.Seq.{length-take-le}
use borrow.Author.Tests.{le-leb}
use Rattle.lists.specs.Lists.{part, joined, up_from}
use Rattle.lists.proofs.Flat.{length-up_from}
use Rattle.lists.proofs.Filters.{each_below}
use Rattle.columns.specs.Limits.{kinds, max_numbers}
use Rattle.columns.proofs.Served.{kinds-served}
use Rattle.columns.specs.EdgeSet.{offsets_form, cut}
use Rattle.run_renumber.specs.NewLists.{new_lists}
use Rattle.run_renumber.specs.Answers.{Built, Result}
use Rattle.run_renumber.proofs.Slots.{built-form, built-cut, built-fits, rows-length}
use Rattle.cleaning.specs.Survivors.{keep, keep_slots}
use Rattle.cleaning.proofs.Parts.{length_part, length-wide}
use Rattle.cleaning.proofs.Ranks.{length-keep, each_keep, keep-slots}
use Rattle.run_state.specs.declared.Edges.{Edges}
use Rattle.run_state.specs.View.{slots_in}
use Rattle.run_state.specs.Valid.{edges_ok}
use Rattle.run_compact.specs.Columns.{gone, survive}
use Rattle.run_resolve.proofs.sheet.KeptColumns.{front_length}
use Rattle.run_resolve.proofs.sheet.Asking.{form-here, edges_few, edges-table}
use Rattle.run_state.specs.ByColumns.{edges_of}
use Rattle.run_resolve.specs.parents.Renewal.{EdgesKept, RenewedTo, Renewal, renewed_of}

-- ── rows under their count ───────────────────────────────────────────────────────────────────

module _ (n : ℕ) (flags : List ℕ) (h : n ≤ 1024) (l : length flags ≡ 1024) where
  pub numbers_fit : (start : ℕ) → start + n ≤ 2 ^ 64 - 1 → start + length (take n flags) ≤ 2 ^ 64 - 1
  numbers_fit start k = rw (front_length n flags h l) k

  pub table-room : (offs : List ℕ) → length offs ≡ 2049 → kinds * length (take n flags) < length offs
  table-room offs k = omega (arith, front_length n flags h l)

  pub numbers-room : (numbers : List ℕ) → length numbers ≡ 1024 → length (take n flags) ≤ length numbers
  numbers-room numbers k = omega (arith, front_length n flags h l)

  pub lists-counted : (r : Option ℕ) (offs all : List ℕ) (lists : List (List ℕ)) → Result r offs all (kinds * length (take n flags)) lists → Result r offs all (2 * n) lists
  lists-counted r offs all lists b = rw (front_length n flags h l) at b

pub numbers-held : (m : ℕ) (targets all : List ℕ) → m ≤ 4096 → length targets ≡ 4096 → length all ≡ 4096 → length (take m targets) ≤ length all
numbers-held m targets all h l k = omega (arith, length-take-le m targets (omega arith))

-- ── the lists that are kept ──────────────────────────────────────────────────────────────────

module _ (flags : List ℕ) (lists : List (List ℕ)) (w : length lists ≡ kinds * length flags) where
  kept-length : length (keep_slots kinds (gone flags) lists) ≡ kinds * survive flags
  unfolding survive gone
  kept-length =
      let es = gone flags in
      let m : length es ≡ length flags = length-map flags (λ f. not (eqb f 0)) in
      let f : ℕ → List (List ℕ) = λ i. part (kinds * i) kinds lists in
      rw (keep-slots kinds kinds-served es lists)
      (length-wide f kinds (keep es (up_from 0 (length es)))
      (each_keep (λ i. length (f i) ≡ kinds) es (up_from 0 (length es)) (each_below _ (length es) (λ i l. length_part (kinds * i) kinds lists (omega (arith, w, m)))))
      ∙ ap (λ k. kinds * k) (length-keep es (up_from 0 (length es)) (length-up_from 0 (length es))))

  edges-built : (offs all : List ℕ) (r : ℕ) → length all ≡ 4096 → Built offs all (length (keep_slots kinds (gone flags) lists)) r (keep_slots kinds (gone flags) lists)
      → EdgesKept flags lists (edges_of r offs all)
  unfolding slots_in edges_ok
  edges-built offs all r l b =
      let ks = keep_slots kinds (gone flags) lists in
      record {
        slots = ap (λ k. cut (take (k + 1) offs) (take r all)) (sym kept-length) ∙ built-cut offs all (length ks) r ks b;
        form = rw (le-leb r max_numbers (omega (arith, b.filled)), ← kept-length) (built-form kinds offs all (length ks) r ks b (survive flags) kept-length);
      }

pub kept-edges : (n m : ℕ) (flags offsets targets offs all : List ℕ) (r : ℕ) → n ≤ 1024 → length flags ≡ 1024 → m ≤ 4096 → length targets ≡ 4096
    → offsets_form kinds n m (take (2 * n + 1) offsets) ≡ true → length all ≡ 4096
    → Built offs all (length (keep_slots kinds (gone (take n flags)) (cut (take (2 * n + 1) offsets) (take m targets)))) r
    (keep_slots kinds (gone (take n flags)) (cut (take (2 * n + 1) offsets) (take m targets)))
    → EdgesKept (take n flags) (cut (take (2 * n + 1) offsets) (take m targets)) (edges_of r offs all)
kept-edges n m flags offsets targets offs all r h l i k f q b =
    edges-built (take n flags) (cut (take (2 * n + 1) offsets) (take m targets))
    (rows-length kinds (length (take n flags)) (take (2 * n + 1) offsets) (take m targets) (form-here n m flags offsets targets h l i k f)) offs all r q b

-- ── all new lists, then those of the survivors ───────────────────────────────────────────────

module _ (n : ℕ) (lists : List (List ℕ)) (g : Option ℕ) (offs all : List ℕ) (x : Result g offs all (2 * n) lists) (l : length all ≡ 4096) where
  module _ (m : ℕ) (e : g ≡ Some m) where
    built : Built offs all (2 * n) m lists
    built = rw e at x

    pub built-few : m ≤ 4096
    built-few = omega (arith, built.filled)

    pub built-table : offsets_form kinds n m (take (2 * n + 1) offs) ≡ true
    built-table = built-form kinds offs all (2 * n) m lists built n refl

    renewed-kept : (flags : List ℕ) (q : Edges) → EdgesKept flags (cut (take (2 * n + 1) offs) (take m all)) q → RenewedTo flags lists q
    renewed-kept flags q k = record {
      within = omega (arith, built-fits offs all (2 * n) m lists built);
      kept = rw (built-cut offs all (2 * n) m lists built) at k;
    }

  renewed-over : g ≡ None → max_numbers < length (joined lists)
  renewed-over e = let o : length all < length (joined lists) = rw e at x in omega arith

-- lists in form, by their columns
module _ (n c : ℕ) (os ts : List ℕ) (ok : edges_ok n (edges_of c os ts) ≡ true) where
  pub columns-few : c ≤ 4096
  columns-few = edges_few n (edges_of c os ts) ok

  pub columns-table : offsets_form kinds n c (take (2 * n + 1) os) ≡ true
  columns-table = edges-table n (edges_of c os ts) ok

module _ (start n c : ℕ) (flags os ts : List ℕ) (g : Option ℕ) (offs all : List ℕ)
    (x : Result g offs all (2 * n) (new_lists kinds start (take n flags) (cut (take (2 * n + 1) os) (take c ts)))) (l : length all ≡ 4096) where
  pub edges-kept : (m : ℕ) → g ≡ Some m → (k : ℕ) (os' ts' : List ℕ) → EdgesKept (take n flags) (cut (take (2 * n + 1) offs) (take m all)) (edges_of k os' ts')
      → Renewal (take n flags) (new_lists kinds start (take n flags) (slots_in n (edges_of c os ts))) (renewed_of (Some k) os' ts')
  unfolding slots_in
  edges-kept m f k os' ts' q = renewed-kept n (new_lists kinds start (take n flags) (slots_in n (edges_of c os ts))) g offs all x l m f (take n flags) (edges_of k os' ts') q

  pub edges-over : g ≡ None → (os' ts' : List ℕ) → Renewal (take n flags) (new_lists kinds start (take n flags) (slots_in n (edges_of c os ts))) (renewed_of None os' ts')
  unfolding slots_in
  edges-over f os' ts' = renewed-over n (new_lists kinds start (take n flags) (slots_in n (edges_of c os ts))) g offs all x l f

-- the answer, by its cases
module _ (flags : List ℕ) (lists : List (List ℕ)) (g : Option ℕ) (os ts : List ℕ) (x : Renewal flags lists (renewed_of g os ts)) where
  pub renewal-upto : (m : ℕ) → g ≡ Some m → Renewal flags lists (renewed_of (Some m) os ts)
  renewal-upto m e = rw e at x

  pub renewal-full : g ≡ None → Renewal flags lists (renewed_of None os ts)
  renewal-full e = rw e at x
