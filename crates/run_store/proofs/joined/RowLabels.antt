-- The labels of the rows that are held, and of those of a file.
use mathlib.Core.Path.{◌≡◌, refl, sym, ◌∙◌, ap}
use mathlib.Core.Bool.{false}
use mathlib.Core.List.{List, [], ◌∷◌, ◌++◌, map}
use mathlib.Core.Option.{Option, none, some}
use Prim.Native.Nat.{ℕ, zero, suc, ◌≤◌, ◌<◌, ◌+◌}
use native.Mathlib.Nat.{zero-add}
use native.Mathlib.Omega.{arith}
use lib.ListN.{length, get_or, get_elem?}
use Rattle.lists.specs.Lists.{up_from}
use Rattle.lists.proofs.Flat.{length-map-up_from, get_or-map-up_from}
use Rattle.columns.specs.Reading.{Label, labels_of}
use Rattle.archive.specs.File.{Row, CoverColumns}
use Rattle.cleaning.specs.Source.{cover_read, is_there}
use Rattle.cleaning.specs.Archive.{label_in}
use Rattle.run_state.specs.declared.Groups.{Groups}
use Rattle.run_state.specs.declared.Rows.{Rows}
use Rattle.run_state.specs.View.{listed, has_cover, label_at}
use Rattle.run_store.specs.parts.Grown.{rows_with, labels_with}
use Rattle.run_store.specs.joined.Joined.{labels_more}
use Rattle.run_store.proofs.joined.Grows.{sets-before, sets-at, listed-grown, column-at}

labels_at : (cs ss : List ℕ) (j : ℕ) → length ss ≡ length cs → j < length cs → get_elem? (labels_of cs ss) j ≡ some (record { chain = get_or cs j 0; seq = get_or ss j 0 })
unfolding labels_of
labels_at [] ss j e h = absurd (omega arith)
labels_at (c ∷ cs) [] j e h = absurd (omega arith)
labels_at (c ∷ cs) (s ∷ ss) zero e h = refl
labels_at (c ∷ cs) (s ∷ ss) (suc j) e h = labels_at cs ss j (omega arith) (omega arith)

-- a label for each of n rows, where there is a cover
abbrev pub Labelled : Option CoverColumns → ℕ → Type 0
Labelled none n = Unit {0}
Labelled (some c) n = (length c.labels.chains ≡ n) × (length c.labels.seqs ≡ n)

abbrev no_row : Row
no_row = record { erased = false; tag = 0 }

module _ (g g' : Groups) (r : Rows) (group : ℕ) (rs : List Row) (old : (i : ℕ) → i < r.count → get_or r.groups i 0 < g.count)
    (stay : (k : ℕ) → k < g.count → has_cover g' k ≡ has_cover g k) (room : r.count + length rs ≤ 1024)
    (lg : length r.groups ≡ 1024) (lc : length r.chains ≡ 1024) (ls : length r.seqs ≡ 1024) where
  grown-by : (r' : Rows) (f : ℕ → Option Label) → ((i : ℕ) → i < r.count → label_at g' r' i ≡ label_at g r i)
      → ((j : ℕ) → j < length rs → label_at g' r' (r.count + j) ≡ f j)
      → listed (label_at g' r') (r.count + length rs) ≡ listed (label_at g r) r.count ++ map f (up_from 0 (length rs))
  grown-by r' f h k =
      let len : length (map f (up_from 0 (length rs))) ≡ length rs = length-map-up_from f 0 (length rs) in
      ap (λ i. listed (label_at g' r') (r.count + i)) (sym len)
      ∙ listed-grown (label_at g' r') (label_at g r) r.count (map f (up_from 0 (length rs))) none h
      (λ j l. let q : j < length rs = rw len at l in k j q ∙ sym (get_or-map-up_from f 0 (length rs) j none q ∙ ap f (zero-add j)))

  group-room : r.count + length rs ≤ length r.groups
  group-room = rw lg room

  pub labels-grown : (cover : Option CoverColumns) → has_cover g' group ≡ is_there cover → Labelled cover (length rs)
      → listed (label_at g' (labels_more (rows_with r group rs) r.count cover)) (r.count + length rs)
      ≡ listed (label_at g r) r.count ++ map (label_in (cover_read cover)) (up_from 0 (length rs))
  unfolding labels_more rows_with labels_with label_at
  labels-grown none here l = grown-by (rows_with r group rs) (label_in none)
      (λ i h. rw (sets-before r.groups r.count (map (λ x. group) rs) i 0 h, stay (get_or r.groups i 0) (old i h)))
      (λ j h. rw (column-at (λ x. group) r.groups r.count rs j no_row h group-room, here))
  labels-grown (some c) here l = grown-by (labels_with (rows_with r group rs) r.count c.labels.chains c.labels.seqs) (label_in (cover_read (some c)))
      (λ i h. rw (
        sets-before r.groups r.count (map (λ x. group) rs) i 0 h,
        stay (get_or r.groups i 0) (old i h),
        sets-before r.chains r.count c.labels.chains i 0 h,
        sets-before r.seqs r.count c.labels.seqs i 0 h,
      ))
      (λ j h. rw (
        column-at (λ x. group) r.groups r.count rs j no_row h group-room,
        here,
        sets-at r.chains r.count c.labels.chains j 0 (rw l.0 h) (rw (l.0, lc) room),
        sets-at r.seqs r.count c.labels.seqs j 0 (rw l.1 h) (rw (l.1, ls) room),
      )
      (sym (labels_at c.labels.chains c.labels.seqs j (l.1 ∙ sym l.0) (rw l.0 h))))
