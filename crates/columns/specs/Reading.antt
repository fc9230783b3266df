-- Document 01, 17 to 21 and "Edge columns": what a reader makes of a granule's columns.
use Rattle.std.specs.Prelude.{Bool, true, false, ◌&&◌, not, List, [], ◌∷◌, ◌++◌, map, ℕ, suc, ltb, eqb, ℤ, length}
use Rattle.std.proofs.Math.Option.{Option, none, some}
use Rattle.lists.specs.Lists.{all}
use Rattle.columns.specs.Limits.{end64, end32}
use Rattle.columns.specs.Refusal.{Verdict, unless, refuse, first_of, Lent, limits}
use Rattle.columns.specs.EdgeSet.{EdgeSet, forward, reverse, inbound, offsets_form, cut, event_of, target_of, sound}
use Rattle.columns.specs.declared.refusal.Refusal.{Refusal}
use Rattle.columns.specs.declared.refusal.Refusal.TheVariants.{OffsetsForm, DeltaCount, TargetSide, LabelColumns, LabelRange}

-- ── one set: 17, 18, 19 ──────────────────────────────────────────────────────────────────────

-- every delta of the slots from `slot` on is on its set's side, and every row has a number of 64 bits
unfoldable pub sound_from : (K : ℕ) → ℕ → ℕ → ℕ → ℕ → List (List ℤ) → Bool
sound_from K set first end slot [] = true
sound_from K set first end slot (ds ∷ lists) =
    ltb (event_of K first slot) end64 && all (sound set end (event_of K first slot)) ds && sound_from K set first end (suc slot) lists

-- the targets of the slots from `slot` on
unfoldable pub targets_from : (K : ℕ) → ℕ → ℕ → List (List ℤ) → List (List ℕ)
targets_from K first slot [] = []
targets_from K first slot (ds ∷ lists) = map (target_of (event_of K first slot)) ds ∷ targets_from K first (suc slot) lists

-- a set's lists, slot by slot
unfoldable pub slots_of : (K : ℕ) → ℕ → EdgeSet → List (List ℕ)
slots_of K first s = targets_from K first 0 (cut s.offsets s.deltas)

-- the rules of one set; without edges its deltas are not looked at
unfoldable pub set_rules : (K : ℕ) → ℕ → ℕ → ℕ → ℕ → EdgeSet → Option Refusal
set_rules K set first rows end s =
    first_of (refuse OffsetsForm (not (offsets_form K rows s.count s.offsets))
    ∷ refuse DeltaCount (ltb 0 s.count && not (eqb (length s.deltas) s.count))
    ∷ refuse TargetSide (ltb 0 s.count && not (sound_from K set first end 0 (cut s.offsets s.deltas)))
    ∷ [])

-- reading one set
unfoldable pub read_set : (K : ℕ) → ℕ → ℕ → ℕ → ℕ → EdgeSet → Verdict (List (List ℕ))
read_set K set first rows end s = unless (set_rules K set first rows end s) (slots_of K first s)

unfoldable pub set_lengths : EdgeSet → List ℕ
set_lengths s = length s.offsets ∷ length s.deltas ∷ []

-- `decode_csr`: one set lent by itself, with what it is lent for its answer
unfoldable pub decode_set : (K : ℕ) → ℕ → ℕ → ℕ → ℕ → EdgeSet → List Lent → Verdict (List (List ℕ))
decode_set K set first rows end s lent = unless (first_of (limits (rows ∷ []) (set_lengths s) lent ∷ set_rules K set first rows end s ∷ [])) (slots_of K first s)

-- ── label columns: 20, 21 ────────────────────────────────────────────────────────────────────

-- an event's place in a chain cover
pub record Label : Type 0 where
  pub chain : ℕ
  pub seq : ℕ

-- labels as stored, a column for each part
pub record Labels : Type 0 where
  pub chains : List ℕ
  pub seqs : List ℕ

unfoldable pub labels_of : List ℕ → List ℕ → List Label
labels_of [] seqs = []
labels_of (c ∷ cs) [] = []
labels_of (c ∷ cs) (s ∷ ss) = record { chain = c; seq = s } ∷ labels_of cs ss

unfoldable pub label_rules : ℕ → Labels → Option Refusal
label_rules rows c =
    first_of (refuse LabelColumns (not (eqb (length c.chains) rows && eqb (length c.seqs) rows))
    ∷ refuse LabelRange (not (all (λ x. ltb x end32) c.chains && all (λ x. ltb x end32) c.seqs))
    ∷ [])

-- ── a granule ────────────────────────────────────────────────────────────────────────────────

-- the columns of a granule: three sets and, where there is a cover, labels
pub record GranuleColumns : Type 0 where
  pub forward : EdgeSet
  pub reverse : EdgeSet
  pub inbound : EdgeSet
  pub labels : Option Labels

-- a granule as read: the lists of its slots, and its labels
pub record Granule : Type 0 where
  pub forward : List (List ℕ)
  pub reverse : List (List ℕ)
  pub inbound : List (List ℕ)
  pub labels : List Label

-- the labels that a granule's columns hold: none where there is no cover
abbrev pub labels_in : Option Labels → List Label
labels_in none = []
labels_in (some c) = labels_of c.chains c.seqs

abbrev pub cover_rules : ℕ → Option Labels → Option Refusal
cover_rules rows none = none
cover_rules rows (some c) = label_rules rows c

abbrev pub label_lengths : Option Labels → List ℕ
label_lengths none = []
label_lengths (some c) = length c.chains ∷ length c.seqs ∷ []

-- how long label columns are that are lent and not read, by whether there is a cover: they count for 43 all the same
abbrev pub idle_labels : Bool → List ℕ → List ℕ → List ℕ
idle_labels true chains seqs = []
idle_labels false chains seqs = length chains ∷ length seqs ∷ []

-- how long the columns are that a reader reads
unfoldable pub column_lengths : GranuleColumns → List ℕ
column_lengths c = set_lengths c.forward ++ (set_lengths c.reverse ++ (set_lengths c.inbound ++ label_lengths c.labels))

-- set by set 17, 18, 19; then 20, 21
unfoldable pub granule_rules : (K : ℕ) → ℕ → ℕ → ℕ → GranuleColumns → Option Refusal
granule_rules K first rows end c =
    first_of (set_rules K forward first rows end c.forward
    ∷ set_rules K reverse first rows end c.reverse
    ∷ set_rules K inbound first rows end c.inbound
    ∷ cover_rules rows c.labels
    ∷ [])

unfoldable pub granule_of : (K : ℕ) → ℕ → GranuleColumns → Granule
granule_of K first c =
    record { forward = slots_of K first c.forward; reverse = slots_of K first c.reverse; inbound = slots_of K first c.inbound; labels = labels_in c.labels }

-- `decode_granule_edges`: the rows from `first` on of a file that ends before `end`; what it is lent for its answer, and the lengths of
-- columns that are lent beside those that it reads
unfoldable pub read_beside : (K : ℕ) → List ℕ → ℕ → ℕ → ℕ → GranuleColumns → List Lent → Verdict Granule
read_beside K idle first rows end c lent =
    unless (first_of (limits (rows ∷ []) (idle ++ column_lengths c) lent ∷ granule_rules K first rows end c ∷ [])) (granule_of K first c)

-- the same where no column is lent but those that are read
unfoldable pub read_granule : (K : ℕ) → ℕ → ℕ → ℕ → GranuleColumns → List Lent → Verdict Granule
read_granule K first rows end c lent = read_beside K [] first rows end c lent
