-- Document 01, 1 to 15 and "Edge columns": what building a granule's columns refuses, in order, and what it makes.
use Rattle.std.specs.Prelude.{Bool, true, false, cond, ◌&&◌, not, List, [], ◌∷◌, ◌++◌, map, ℕ, suc, ◌+◌, ◌*◌, ◌^◌, ltb, leb, eqb, ℤ, pos, negsuc, length}
use Rattle.std.proofs.Math.Option.{Option, none, some}
use Rattle.std.proofs.Math.ListN.{get_elem?}
use Rattle.lists.specs.Lists.{all, flat, filter, mem, distinct, part, up_from, joined}
use Rattle.lists.specs.Order.{sort}
use Rattle.columns.specs.Limits.{max_subject, end64, reference_kinds}
use Rattle.columns.specs.Refusal.{Verdict, unless, refuse, first_of, first_in, Lent, limits}
use Rattle.columns.specs.EdgeSet.{EdgeSet, offsets_form, cut, event_of, delta_of, deltas_from, set_of}
use Rattle.columns.specs.Reading.{Label, Labels, labels_of, label_lengths}
use Rattle.columns.specs.Questions.{list_of}
use Rattle.columns.specs.declared.refusal.Refusal.{Refusal}
use Rattle.columns.specs.declared.refusal.Refusal.TheVariants.{SubjectLength, EdgeEntries, NumberRange, ParentNotEarlier, ParentTwice, UnresolvedChild}
use Rattle.columns.specs.declared.refusal.Refusal.TheVariants.{UnresolvedKind, DepthOrder, LabelCount, SeqNotRising, InboundChild, InboundParent, InboundTwice}
use Rattle.columns.specs.declared.refusal.Refusal.TheVariants.{GranuleRows, DeltaRange}

-- ── what building is given ───────────────────────────────────────────────────────────────────

-- the least and the greatest depth of a file's events
pub record Depth : Type 0 where
  pub least : ℕ
  pub greatest : ℕ

-- unresolved records, a column for each part that building looks at
pub record UnresolvedColumns : Type 0 where
  pub children : List ℕ
  pub kinds_given : List ℕ
  pub flags : List ℕ

-- inbound edges, a column for each part
pub record InboundColumns : Type 0 where
  pub children : List ℕ
  pub parents : List ℕ
  pub kinds_given : List ℕ

-- a file to build, parents as slot offsets into targets, and the granule of it that is wanted
pub record Graph : Type 0 where
  pub subject : List ℕ
  pub first : ℕ
  pub rows : ℕ
  pub offsets : List ℕ
  pub targets : List ℕ
  pub unresolved : UnresolvedColumns
  pub depth : Option Depth
  pub labels : Option Labels
  pub inbound : InboundColumns
  pub granule_first : ℕ
  pub granule_rows : ℕ

-- one past the file's last number
abbrev pub end_of : Graph → ℕ
end_of g = g.first + g.rows

-- the parents, slot by slot
abbrev pub slots_in : Graph → List (List ℕ)
slots_in g = cut g.offsets g.targets

-- ── records in parallel columns ──────────────────────────────────────────────────────────────

-- the greater of two numbers
unfoldable pub greater : ℕ → ℕ → ℕ
greater a b = cond (ltb a b) b a

-- a part of a record passes a test; a part that a shorter column does not have passes none
unfoldable pub has : (ℕ → Bool) → Option ℕ → Bool
has p none = false
has p (some x) = p x

-- records are as many as the longest of their three columns has entries
abbrev pub record_count : List ℕ → List ℕ → List ℕ → ℕ
record_count a b c = greater (length a) (greater (length b) (length c))

-- ── 1 to 8 ───────────────────────────────────────────────────────────────────────────────────

-- a subject is 1 to 255 bytes
unfoldable pub subject_ok : List ℕ → Bool
subject_ok s = ltb 0 (length s) && leb (length s) max_subject

-- a file's numbers, and the one past them, stay below 2^64
unfoldable pub numbers_ok : ℕ → ℕ → Bool
numbers_ok first rows = ltb (first + rows) end64

-- each parent in turn: below its event (4), and not among those before it in its slot (5)
unfoldable pub parent_rules : ℕ → List ℕ → List ℕ → Option Refusal
parent_rules event seen [] = none
parent_rules event seen (p ∷ ps) =
    first_of (refuse ParentNotEarlier (leb event p) ∷ refuse ParentTwice (mem p seen) ∷ parent_rules event (p ∷ seen) ps ∷ [])

-- row by row, kinds rising
unfoldable pub slot_rules : (K : ℕ) → ℕ → ℕ → List (List ℕ) → Option Refusal
slot_rules K first slot [] = none
slot_rules K first slot (ps ∷ lists) = first_of (parent_rules (event_of K first slot) [] ps ∷ slot_rules K first (suc slot) lists ∷ [])

-- a number of the file
unfoldable pub in_file : ℕ → ℕ → ℕ → Bool
in_file first end n = leb first n && ltb n end

-- an unresolved record: its child is in the file (6), its kind is one of the kinds and its parent is not named by sequence number (7)
unfoldable pub unresolved_rules : ℕ → ℕ → Option ℕ → Option ℕ → Option ℕ → Option Refusal
unresolved_rules first end child kind flag =
    first_of (refuse UnresolvedChild (not (has (in_file first end) child))
    ∷ refuse UnresolvedKind (not (has (λ k. ltb k reference_kinds) kind && has (eqb 0) flag))
    ∷ [])

unfoldable pub all_unresolved_rules : Graph → Option Refusal
all_unresolved_rules g = let u = g.unresolved in
    first_in (λ i. unresolved_rules g.first (end_of g) (get_elem? u.children i) (get_elem? u.kinds_given i) (get_elem? u.flags i))
    (up_from 0 (record_count u.children u.kinds_given u.flags))

abbrev pub depth_ok : Option Depth → Bool
depth_ok none = true
depth_ok (some d) = leb d.least d.greatest

-- ── 9, 10 ────────────────────────────────────────────────────────────────────────────────────

-- the last seq of a chain, out of the labels so far, the latest first
unfoldable pub last_seq : ℕ → List Label → Option ℕ
last_seq chain [] = none
last_seq chain (l ∷ ls) = cond (eqb l.chain chain) (some l.seq) (last_seq chain ls)

-- a seq may follow the last one of its chain
abbrev pub follows : ℕ → Option ℕ → Bool
follows seq none = true
follows seq (some before) = ltb before seq

-- in row order every seq is above the last one of its chain
unfoldable pub seqs_rise : List Label → List Label → Bool
seqs_rise seen [] = true
seqs_rise seen (l ∷ ls) = follows l.seq (last_seq l.chain seen) && seqs_rise (l ∷ seen) ls

abbrev pub labels_rules : ℕ → Option Labels → Option Refusal
labels_rules rows none = none
labels_rules rows (some c) =
    first_of (refuse LabelCount (not (eqb (length c.chains) rows && eqb (length c.seqs) rows))
    ∷ refuse SeqNotRising (not (seqs_rise [] (labels_of c.chains c.seqs)))
    ∷ [])

-- ── 11 to 13: inbound edges ──────────────────────────────────────────────────────────────────

-- an inbound edge: its child is at or past the file's end (11), its parent is in the file and its kind is one of the kinds (12)
unfoldable pub inbound_rules : (K : ℕ) → ℕ → ℕ → Option ℕ → Option ℕ → Option ℕ → Option Refusal
inbound_rules K first end child parent kind =
    first_of (refuse InboundChild (not (has (leb end) child))
    ∷ refuse InboundParent (not (has (in_file first end) parent && has (λ k. ltb k K) kind))
    ∷ [])

unfoldable pub all_inbound_rules : (K : ℕ) → Graph → Option Refusal
all_inbound_rules K g = let e = g.inbound in
    first_in (λ i. inbound_rules K g.first (end_of g) (get_elem? e.children i) (get_elem? e.parents i) (get_elem? e.kinds_given i))
    (up_from 0 (record_count e.children e.parents e.kinds_given))

-- the children of the inbound edges to a parent by a kind, in the given order
unfoldable pub children_to : ℕ → ℕ → List ℕ → List ℕ → List ℕ → List ℕ
children_to parent kind [] ps ks = []
children_to parent kind (c ∷ cs) [] ks = []
children_to parent kind (c ∷ cs) (p ∷ ps) [] = []
children_to parent kind (c ∷ cs) (p ∷ ps) (k ∷ ks) =
    cond (eqb p parent && eqb k kind) (c ∷ children_to parent kind cs ps ks) (children_to parent kind cs ps ks)

-- ── the lists of the three sets ──────────────────────────────────────────────────────────────

-- a table of lists, one for each number from `first` on and each kind, kinds rising
unfoldable pub slot_table : (K : ℕ) → (ℕ → ℕ → List ℕ) → ℕ → ℕ → List (List ℕ)
slot_table K f first rows = flat (λ n. map (f n) (up_from 0 K)) (up_from first rows)

-- the file's events whose list of a kind names a number, rising
unfoldable pub naming : (K : ℕ) → ℕ → ℕ → List (List ℕ) → ℕ → ℕ → List ℕ
naming K first rows lists number kind = filter (λ event. mem number (list_of K first lists kind event)) (up_from first rows)

-- reverse lists: the in-file forward edges turned round, children rising
unfoldable pub reverse_lists : (K : ℕ) → ℕ → ℕ → List (List ℕ) → List (List ℕ)
reverse_lists K first rows lists = slot_table K (naming K first rows lists) first rows

-- inbound lists: children past the file's end, rising
unfoldable pub inbound_lists : (K : ℕ) → ℕ → ℕ → InboundColumns → List (List ℕ)
inbound_lists K first rows e = slot_table K (λ number kind. sort (children_to number kind e.children e.parents e.kinds_given)) first rows

-- ── lists cut down ───────────────────────────────────────────────────────────────────────────

-- of each list the numbers from low up to high
unfoldable pub within : ℕ → ℕ → List (List ℕ) → List (List ℕ)
within low high lists = map (filter (in_file low high)) lists

-- the same of the lists of the n rows from row `from` on of a table
abbrev pub rows_within : (K : ℕ) → ℕ → ℕ → ℕ → ℕ → List ℕ → List ℕ → List (List ℕ)
rows_within K low high from n offsets targets = within low high (part (K * from) (K * n) (cut offsets targets))

-- the deltas of these numbers, of one event's list
unfoldable pub deltas_within : ℕ → ℕ → ℕ → List ℕ → List ℤ
deltas_within low high event ts = map (delta_of event) (filter (in_file low high) ts)

-- ── 14, 15: the granule ──────────────────────────────────────────────────────────────────────

-- the slots of the granule's rows
abbrev pub granule_part : (K : ℕ) → Graph → List (List ℕ) → List (List ℕ)
granule_part K g lists = part (K * g.granule_first) (K * g.granule_rows) lists

-- the granule's first number
abbrev pub granule_start : Graph → ℕ
granule_start g = g.first + g.granule_first

-- a number of signed 64 bits
unfoldable pub fits63 : ℤ → Bool
fits63 (pos n) = ltb n (2 ^ 63)
fits63 (negsuc n) = ltb n (2 ^ 63)

-- every event minus target of the granule's slots is a number of signed 64 bits
unfoldable pub deltas_fit : (K : ℕ) → ℕ → List (List ℕ) → Bool
deltas_fit K first lists = all fits63 (joined (deltas_from K first 0 lists))

-- ── building ─────────────────────────────────────────────────────────────────────────────────

unfoldable pub forward_part : (K : ℕ) → Graph → List (List ℕ)
forward_part K g = granule_part K g (slots_in g)

unfoldable pub reverse_part : (K : ℕ) → Graph → List (List ℕ)
reverse_part K g = granule_part K g (reverse_lists K g.first g.rows (slots_in g))

unfoldable pub inbound_part : (K : ℕ) → Graph → List (List ℕ)
inbound_part K g = granule_part K g (inbound_lists K g.first g.rows g.inbound)

-- 1 to 15, in document 01's order
unfoldable pub build_rules : (K : ℕ) → Graph → Option Refusal
build_rules K g =
    first_of (refuse SubjectLength (not (subject_ok g.subject))
    ∷ refuse EdgeEntries (not (offsets_form K g.rows (length g.targets) g.offsets))
    ∷ refuse NumberRange (not (numbers_ok g.first g.rows))
    ∷ slot_rules K g.first 0 (slots_in g)
    ∷ all_unresolved_rules g
    ∷ refuse DepthOrder (not (depth_ok g.depth))
    ∷ labels_rules g.rows g.labels
    ∷ all_inbound_rules K g
    ∷ refuse InboundTwice (not (all distinct (inbound_lists K g.first g.rows g.inbound)))
    ∷ refuse GranuleRows (ltb g.rows (g.granule_first + g.granule_rows))
    ∷ refuse DeltaRange (not (deltas_fit K (granule_start g) (forward_part K g)))
    ∷ refuse DeltaRange (not (deltas_fit K (granule_start g) (reverse_part K g)))
    ∷ refuse DeltaRange (not (deltas_fit K (granule_start g) (inbound_part K g)))
    ∷ [])

-- the three sets of the granule
pub record Built : Type 0 where
  pub forward : EdgeSet
  pub reverse : EdgeSet
  pub inbound : EdgeSet

unfoldable pub built_of : (K : ℕ) → Graph → Built
built_of K g = record {
  forward = set_of K (granule_start g) (forward_part K g);
  reverse = set_of K (granule_start g) (reverse_part K g);
  inbound = set_of K (granule_start g) (inbound_part K g);
}

-- the lengths of the columns that building is lent to read
unfoldable pub graph_lengths : Graph → List ℕ
graph_lengths g =
    length g.offsets ∷ length g.targets
    ∷ length g.inbound.children ∷ length g.inbound.parents ∷ length g.inbound.kinds_given
    ∷ label_lengths g.labels

-- how many records of each sort building is given
unfoldable pub graph_records : Graph → List ℕ
graph_records g = let u = g.unresolved in g.rows ∷ record_count u.children u.kinds_given u.flags ∷ []

-- `encode_graph_blocks`, one granule a call; `idle` has the lengths of columns that are lent beside those of the graph
unfoldable pub build_beside : (K : ℕ) → List ℕ → Graph → List Lent → Verdict Built
build_beside K idle g lent = unless (first_of (limits (graph_records g) (idle ++ graph_lengths g) lent ∷ build_rules K g ∷ [])) (built_of K g)

-- the same where no column is lent but the graph's
unfoldable pub build : (K : ℕ) → Graph → List Lent → Verdict Built
build K g lent = build_beside K [] g lent
