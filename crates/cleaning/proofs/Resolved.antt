-- A good summary as an archive, resolved: every group has a survivor, and the tables hold the rows' own lists.
use mathlib.Core.Path.{◌≡◌, ap, sym, subst, ◌∙◌}
use mathlib.Core.Bool.{true, or-true}
use mathlib.Core.Logic.{inl, inr}
use mathlib.Core.List.Memᴰ
use mathlib.Core.List.{List, [], ◌∷◌, map, Memᴰ}
use mathlib.Core.Option.{none}
use Prim.Native.Nat.{ℕ, suc, ◌+◌, ◌≤◌, ◌<◌}
use native.Mathlib.Omega.{arith}
use native.Mathlib.Nat.{zero-add}
use borrow.Author.Tests.{eq-eqb}
use lib.Dec.{eqb}
use lib.ListN.{length, get_or, length-map, get_or-map}
use Rattle.lists.specs.Lists.{any, sum, up_from, Each}
use Rattle.lists.proofs.Each.{each-imp}
use Rattle.columns.specs.Limits.{Served, max_numbers}
use Rattle.cleaning.specs.Routes.{Valid}
use Rattle.cleaning.specs.Memo.{memo, tables}
use Rattle.cleaning.specs.Summary.{Kept, Summary}
use Rattle.cleaning.specs.Resolving.{entries, survives_in, groups_survive}
use Rattle.cleaning.specs.Writing.{group_numbers, outputs}
use Rattle.cleaning.proofs.Good.{RowsFrom, Good}
use Rattle.cleaning.proofs.New.{new-once}
use Rattle.cleaning.proofs.Table.{list_of, memo-right}
use Rattle.lists.proofs.Filters.{each_below, map-places}
use Rattle.lists.proofs.Sums.{sum-map, sum-ext}
use Rattle.lists.proofs.Counting.{sum-swap}
use Rattle.cleaning.proofs.Outputs.{event_of}
use Rattle.cleaning.proofs.Unerased.{unerased, blank_row, parents-stay}
use Rattle.cleaning.proofs.Again.{again, archive-again}
use Rattle.cleaning.proofs.Taken.{taken-followed}
use Rattle.cleaning.proofs.Events.{valid-sources}
use Rattle.lists.proofs.Tests.{all-of}
use Rattle.cleaning.proofs.OutputRules.{files-rules}

-- ── survivors ────────────────────────────────────────────────────────────────────────────────

survivor-of : (g : ℕ) (rs : List Kept) → Memᴰ g (map (λ r. r.body.group) rs) → any (survives_in g) (map event_of rs) ≡ true
unfolding any survives_in
survivor-of g [] m = absurd (Memᴰ.not-nil m)
survivor-of g (r ∷ rs) m = elim (Memᴰ.cases_cons m) [
  | inl e ↦ rw (eq-eqb r.body.group g (sym e))
  | inr t ↦ rw (survivor-of g rs t) (or-true (eqb r.body.group g))
]

pub groups-survive : (K : ℕ) (served : Served K) (S : Summary) → Good K S → groups_survive (unerased S) ≡ true
unfolding groups_survive
groups-survive K served S good =
    all-of (λ g. any (survives_in g) (map event_of S.rows)) (group_numbers S)
    (each_below _ (length S.groups) (λ g l. survivor-of g S.rows (good.every g l)))

-- ── the tables ───────────────────────────────────────────────────────────────────────────────

-- a row's list of a kind
abbrev list : ℕ → Kept → List ℕ
list k r = get_or r.parents k []

rows-wide : (K : ℕ) (served : Served K) (n : ℕ) (rs : List Kept) → RowsFrom K n rs → Each (λ r. length r.parents ≡ K) rs
rows-wide K served n [] h = tt
rows-wide K served n (r ∷ rs) h = (h.0.each_kind, rows-wide K served (suc n) rs h.1)

kind-by-kind : (K : ℕ) (served : Served K) (r : Kept) → length r.parents ≡ K → sum (λ k. length (list k r)) (up_from 0 K) ≡ sum length r.parents
kind-by-kind K served r e =
    sym (sum-map length (λ k. list k r) (up_from 0 K))
    ∙ ap (λ n. sum length (map (λ k. list k r) (up_from 0 n))) (sym e)
    ∙ ap (sum length) (map-places (λ k. list k r) 0 r.parents [] (λ k l. ap (λ i. list i r) (zero-add k)))

module _ (K : ℕ) (served : Served K) (S : Summary) (good : Good K S) where
  valid-again : Valid (unerased S)
  valid-again = subst Valid (archive-again K served S good) (valid-sources K served (again K S).sources (taken-followed K served none (outputs K S) (files-rules K served S good)))

  -- the table of a kind holds the rows' lists of that kind
  memo-rows : (k : ℕ) → k < K → memo (unerased S) k (length (map event_of S.rows)) ≡ map (list k) S.rows
  unfolding list_of
  memo-rows k h =
      memo-right (unerased S) k valid-again (length (map event_of S.rows))
      ∙ ap (λ n. map (list_of (unerased S) k) (up_from 0 n)) (length-map S.rows event_of ∙ sym (length-map S.rows (list k)))
      ∙ map-places (list_of (unerased S) k) 0 (map (list k) S.rows) (list k blank_row)
      (λ i l. let b : i < length S.rows = omega (arith, length-map S.rows (list k)) in
      ap (list_of (unerased S) k) (zero-add i)
      ∙ sym (new-once K served (unerased S) k valid-again (S.start + i) (omega arith) (omega (arith, length-map S.rows event_of)))
      ∙ parents-stay K served S good i b k h
      ∙ sym (get_or-map (list k) S.rows i blank_row))

  entries-again : entries (tables K (unerased S)) ≡ sum (λ r. sum length r.parents) S.rows
  unfolding entries tables
  entries-again =
      sum-map (sum length) (λ k. memo (unerased S) k (length (map event_of S.rows))) (up_from 0 K)
      ∙ sum-ext (λ k. sum length (memo (unerased S) k (length (map event_of S.rows)))) (λ k. sum (λ r. length (list k r)) S.rows) (up_from 0 K)
      (each_below _ K (λ k h. ap (sum length) (memo-rows k h) ∙ sum-map length (list k) S.rows))
      ∙ sum-swap (λ k r. length (list k r)) (up_from 0 K) S.rows
      ∙ sum-ext (λ r. sum (λ k. length (list k r)) (up_from 0 K)) (λ r. sum length r.parents) S.rows
      (each-imp (λ r. length r.parents ≡ K) _ S.rows (kind-by-kind K served) (rows-wide K served S.start S.rows good.lists))

  pub few_entries : entries (tables K (unerased S)) ≤ max_numbers
  few_entries = omega (arith, entries-again, good.entries)
