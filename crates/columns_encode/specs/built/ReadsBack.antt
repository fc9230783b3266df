-- What it means that a reader of a built granule gets the lists that the granule was built from.
use Rattle.std.specs.Prelude.{◌≡◌, true, false, ◌↔◌, List, ℕ, ◌+◌, ◌≤◌, ◌<◌, length}
use Rattle.std.proofs.Math.Option.{Option, none, some}
use Rattle.lists.specs.Lists.{any, mem, part, Each}
use Rattle.lists.specs.Order.{rising}
use Rattle.columns.specs.Limits.{kinds, offsets_room, numbers_room, end32}
use Rattle.columns.specs.Refusal.{accepted, Lent, short}
use Rattle.columns.specs.EdgeSet.{EdgeSet, forward, reverse, inbound}
use Rattle.columns.specs.Reading.{GranuleColumns, Labels, labels_in, cover_rules, set_rules, slots_of, read_granule}
use Rattle.columns.specs.Questions.{list_of}
use Rattle.columns.specs.Building.{Graph, Built, end_of, slots_in, granule_start, forward_part, reverse_part, inbound_part}
use Rattle.columns.proofs.Turned.{GivenEdge}

-- the built sets as a reader is lent them, with label columns or without
abbrev pub lent_columns : Built → Option Labels → GranuleColumns
lent_columns b labels = record { forward = b.forward; reverse = b.reverse; inbound = b.inbound; labels = labels }

-- the label columns of the n rows from a row on
abbrev pub labels_part : ℕ → ℕ → Option Labels → Option Labels
labels_part from n none = none
labels_part from n (some c) = some (record { chains = part from n c.chains; seqs = part from n c.seqs })

-- labels of 32 bits, as lent columns hold them
abbrev pub Labels32 : Option Labels → Type 0
Labels32 none = Unit {0}
Labels32 (some c) = Each (λ x. x < end32) c.chains × Each (λ x. x < end32) c.seqs

-- a set whose columns have room in slices of the lengths that building is to be lent
pub record Roomy (s : EdgeSet) : Type 0 where
  pub offsets : length s.offsets ≤ offsets_room kinds
  pub deltas : length s.deltas ≤ numbers_room

-- a number of the granule
abbrev pub InGranule : Graph → ℕ → Type 0
InGranule g n = (granule_start g ≤ n) × (n < granule_start g + g.granule_rows)

pub record ReadsBack (g : Graph) (b : Built) : Type 0 where
  -- what was lent had room for the three sets
  pub forward_room : Roomy b.forward
  pub reverse_room : Roomy b.reverse
  pub inbound_room : Roomy b.inbound
  -- 17 to 19 refuse none of them
  pub forward_kept : set_rules kinds forward (granule_start g) g.granule_rows (end_of g) b.forward ≡ none
  pub reverse_kept : set_rules kinds reverse (granule_start g) g.granule_rows (end_of g) b.reverse ≡ none
  pub inbound_kept : set_rules kinds inbound (granule_start g) g.granule_rows (end_of g) b.inbound ≡ none
  -- and they hold the lists that they were built from
  pub forward_lists : slots_of kinds (granule_start g) b.forward ≡ forward_part kinds g
  pub reverse_set : slots_of kinds (granule_start g) b.reverse ≡ reverse_part kinds g
  pub inbound_set : slots_of kinds (granule_start g) b.inbound ≡ inbound_part kinds g
  -- so a reader that is lent enough room accepts them, with label columns that 20 and 21 accept or without, and answers those lists
  pub granule : (labels : Option Labels) (lent : List Lent) → cover_rules g.granule_rows labels ≡ none → any short lent ≡ false
      → read_granule kinds (granule_start g) g.granule_rows (end_of g) (lent_columns b labels) lent
      ≡ accepted (record { forward = forward_part kinds g; reverse = reverse_part kinds g; inbound = inbound_part kinds g; labels = labels_in labels })
  -- such are the columns of the granule's own labels, which give the labels that building was given for its rows
  pub labels_kept : Labels32 g.labels → cover_rules g.granule_rows (labels_part g.granule_first g.granule_rows g.labels) ≡ none
  pub labels_read : labels_in (labels_part g.granule_first g.granule_rows g.labels) ≡ part g.granule_first g.granule_rows (labels_in g.labels)
  -- a reverse list holds exactly the events of the file whose list of that kind names the number, rising
  pub turned : (k n : ℕ) → k < kinds → InGranule g n → (e : ℕ) → e < end_of g → mem e (list_of kinds (granule_start g) (reverse_part kinds g) k n) ≡ mem n (list_of kinds g.first (slots_in g) k e)
  pub turned_rising : (k n : ℕ) → k < kinds → InGranule g n → rising (list_of kinds (granule_start g) (reverse_part kinds g) k n) ≡ true
  -- an inbound list holds exactly the children of the edges that are given, rising
  pub given : (k n : ℕ) → k < kinds → InGranule g n → (c : ℕ) → (mem c (list_of kinds (granule_start g) (inbound_part kinds g) k n) ≡ true) ↔ GivenEdge g.inbound c n k
  pub given_rising : (k n : ℕ) → k < kinds → InGranule g n → rising (list_of kinds (granule_start g) (inbound_part kinds g) k n) ≡ true
