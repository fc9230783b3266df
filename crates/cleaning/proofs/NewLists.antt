-- The rows of a valid archive cleaned: each has its new lists, numbers once and below its own, and they hold no more entries than resolving's tables.
use mathlib.Core.Path.{◌≡◌, refl, ap, sym, ◌∙◌, subst}
use mathlib.Core.Bool.{Bool, true, false, cond}
use mathlib.Core.List.{List, [], ◌∷◌, map, head-eq_of_cons-eq, tail-eq_of_cons-eq}
use Prim.Native.Nat.{ℕ, zero, suc, ◌+◌, ◌≤◌, ◌<◌}
use native.Mathlib.Omega.{arith}
use lib.ListN.{length}
use Rattle.lists.specs.Lists.{sum, up_from, distinct, once, Each}
use Rattle.lists.proofs.Each.{each-imp, each_map, each_all}
use Rattle.lists.proofs.Flat.{length-map-up_from}
use Rattle.lists.proofs.Pairs.{each-up_from}
use Rattle.columns.specs.Limits.{Served}
use Rattle.cleaning.specs.Archive.{Event, Archive}
use Rattle.cleaning.specs.Routes.{Valid}
use Rattle.cleaning.specs.Cleaning.{renumber, new_parents, survivors_from, survivors}
use Rattle.cleaning.specs.Memo.{memo, tables}
use Rattle.cleaning.specs.Summary.{Kept, kept_by, summary}
use Rattle.cleaning.specs.Resolving.{entries}
use Rattle.cleaning.proofs.Good.{GoodLists, RowsFrom}
use Rattle.cleaning.proofs.Survivors.{Within, within, map-renumber-survivors}
use Rattle.cleaning.proofs.Table.{list_of, memo-right}
use Rattle.cleaning.proofs.New.{new-once, new-distinct, new-below}
use Rattle.lists.proofs.Sums.{sum-map, sum-ext}
use Rattle.lists.proofs.Counting.{sum_below, sum-swap}

-- ── rows and their numbers ───────────────────────────────────────────────────────────────────

rows-from : (K : ℕ) (served : Served K) (f : ℕ → ℕ) (g : ℕ → Kept) (n : ℕ) (ps : List ℕ) → map f ps ≡ up_from n (length ps) → Each (λ p. GoodLists K (f p) (g p).parents) ps
    → RowsFrom K n (map g ps)
unfolding up_from
rows-from K served f g n [] e h = tt
rows-from K served f g n (p ∷ ps) e h =
    (subst (λ m. GoodLists K m (g p).parents) (head-eq_of_cons-eq e) h.0, rows-from K served f g (suc n) ps (tail-eq_of_cons-eq e) h.1)

-- ── sums over survivors ──────────────────────────────────────────────────────────────────────

sum-survivors : (f : ℕ → ℕ) (n : ℕ) (es : List Event) → sum f (survivors_from n es) ≤ sum f (up_from n (length es))
unfolding survivors_from up_from sum
sum-survivors f n [] = omega arith
sum-survivors f n (e ∷ es) = go e.erased (sum-survivors f (suc n) es)
  where
    ps : List ℕ
    ps = survivors_from (suc n) es

    go : (b : Bool) → sum f ps ≤ sum f (up_from (suc n) (length es)) → sum f (cond b ps (n ∷ ps)) ≤ f n + sum f (up_from (suc n) (length es))
    go true h = omega arith
    go false h = omega arith

sum-shift : (f : ℕ → ℕ) (a i n : ℕ) → sum (λ j. f (a + j)) (up_from i n) ≡ sum f (up_from (a + i) n)
unfolding up_from sum
sum-shift f a i zero = refl
sum-shift f a i (suc n) = let e : a + suc i ≡ suc (a + i) = omega arith in rw (sum-shift f a (suc i) n, e)

module _ (K : ℕ) (served : Served K) (A : Archive) (v : Valid A) where
  good-lists : (p : ℕ) → Within A.start A.events p → GoodLists K (renumber A p) (kept_by K A p).parents
  unfolding kept_by
  good-lists p w = record {
    each_kind = length-map-up_from (λ k. new_parents A k p) 0 K;
    once = each_map (λ ps. distinct ps ≡ true) (λ k. new_parents A k p) (up_from 0 K)
        (each_all (λ k. distinct (new_parents A k p) ≡ true) (λ k. new-distinct K served A k v p w.0 w.1) (up_from 0 K));
    below = each_map (λ ps. Each (λ q. q < renumber A p) ps) (λ k. new_parents A k p) (up_from 0 K)
        (each_all (λ k. Each (λ q. q < renumber A p) (new_parents A k p)) (λ k. new-below K served A k v p w.0 w.1) (up_from 0 K));
  }

  pub lists-good : RowsFrom K A.start (summary K A).rows
  unfolding summary
  lists-good = rows-from K served (renumber A) (kept_by K A) A.start (survivors A) (map-renumber-survivors A)
      (each-imp (Within A.start A.events) (λ p. GoodLists K (renumber A p) (kept_by K A p).parents) (survivors A) good-lists (within A))

  -- the entries of a kind in the table, number by number
  memo-entries : (k : ℕ) → sum length (memo A k (length A.events)) ≡ sum (λ p. length (new_parents A k p)) (up_from A.start (length A.events))
  unfolding list_of
  memo-entries k =
      let n = length A.events in
      rw (memo-right A k v n, sum-map length (list_of A k) (up_from 0 n))
      (sum-ext (λ i. length (list_of A k i)) (λ i. length (new_parents A k (A.start + i))) (up_from 0 n)
      (each-imp (λ i. (0 ≤ i) × (i < 0 + n)) (λ i. length (list_of A k i) ≡ length (new_parents A k (A.start + i))) (up_from 0 n)
      (λ i b. ap length (sym (new-once K served A k v (A.start + i) (omega arith) (omega (arith, b.1))))) (each-up_from 0 n))
      ∙ sum-shift (λ p. length (new_parents A k p)) A.start 0 n
      ∙ ap (λ m. sum (λ p. length (new_parents A k p)) (up_from m n)) (omega arith))

  kind-entries : (k : ℕ) → sum (λ p. length (new_parents A k p)) (survivors A) ≤ sum length (memo A k (length A.events))
  unfolding survivors
  kind-entries k = omega (arith, memo-entries k, sum-survivors (λ p. length (new_parents A k p)) A.start A.events)

  pub entries-within : sum (λ r. sum length r.parents) (summary K A).rows ≤ entries (tables K A)
  unfolding summary kept_by entries tables
  entries-within =
      let f : ℕ → ℕ → ℕ = λ p k. length (new_parents A k p) in
      let memos : ℕ → List (List ℕ) = λ k. memo A k (length A.events) in
      omega (
        arith,
        sum-map (λ r. sum length r.parents) (kept_by K A) (survivors A),
        sum-ext (λ p. sum length (kept_by K A p).parents) (λ p. sum (f p) (up_from 0 K)) (survivors A)
            (each_all (λ p. sum length (kept_by K A p).parents ≡ sum (f p) (up_from 0 K)) (λ p. sum-map length (λ k. new_parents A k p) (up_from 0 K)) (survivors A)),
        sum-swap f (survivors A) (up_from 0 K),
        sum_below (λ k. sum (λ p. f p k) (survivors A)) (λ k. sum length (memos k)) kind-entries (up_from 0 K),
        sum-map (sum length) memos (up_from 0 K),
      )
