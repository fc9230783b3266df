-- What reading a granule answers and leaves in the three slices that it is lent, as a view of the verdict that the definitions give.
use Rattle.std.specs.Prelude.{Bool, true, false, List, [], ◌∷◌, ◌++◌, ℕ, zero, suc, ltb, ℤ, length, Err, Ok, Result}
use Rattle.std.proofs.Math.Option.{Option, none, some}
use Rattle.lists.specs.Lists.{any, joined}
use Rattle.columns.specs.Limits.{max_numbers, numbers_room}
use Rattle.columns.specs.Refusal.{Verdict, refused, accepted, first_of, Lent}
use Rattle.columns.specs.EdgeSet.{EdgeSet, forward, reverse, inbound}
use Rattle.columns.specs.Reading.{Labels, GranuleColumns, Granule, set_rules, idle_labels, column_lengths, granule_rules, read_beside}
use Rattle.columns.specs.Answers.{columns_of, label_columns, limits_of}
use Rattle.columns_read.specs.declared.Head.{Head}
use Rattle.columns_read.specs.declared.Counts.{Counts}
use Rattle.columns.specs.declared.refusal.Refusal.{Refusal}

-- ── what is lent ─────────────────────────────────────────────────────────────────────────────

-- label columns, which are read where there is a cover
abbrev pub cover_of : Bool → List ℕ → List ℕ → Option Labels
cover_of true chains seqs = some (label_columns chains seqs)
cover_of false chains seqs = none

-- a granule's columns: the forward, the reverse and the inbound set, chains and seqs
abbrev pub granule_columns : Head → EdgeSet → EdgeSet → EdgeSet → List ℕ → List ℕ → GranuleColumns
granule_columns h f r i chains seqs = record { forward = f; reverse = r; inbound = i; labels = cover_of h.cover chains seqs }

-- the same as they are lent: offsets and deltas of each set
abbrev pub lent_granule : Head → List ℕ → List ℤ → List ℕ → List ℤ → List ℕ → List ℤ → List ℕ → List ℕ → GranuleColumns
lent_granule h fo fd ro rd io id chains seqs = granule_columns h (columns_of h.forward fo fd) (columns_of h.reverse ro rd) (columns_of h.inbound io id) chains seqs

-- three slices of these lengths, lent for the targets of the three sets
abbrev pub rooms : ℕ → ℕ → ℕ → List Lent
rooms f r i = record { has = f; needs = numbers_room } ∷ record { has = r; needs = numbers_room } ∷ record { has = i; needs = numbers_room } ∷ []

-- ── rules ────────────────────────────────────────────────────────────────────────────────────

-- the rules of the three sets
unfoldable pub sets_rules : (K : ℕ) → Head → EdgeSet → EdgeSet → EdgeSet → Option Refusal
sets_rules K h f r i =
    first_of (set_rules K forward h.first h.rows h.end f ∷ set_rules K reverse h.first h.rows h.end r ∷ set_rules K inbound h.first h.rows h.end i ∷ [])

-- the limits, by whether a lent slice is too short, and the rules of a granule
unfoldable pub lent_granule_rules : (K : ℕ) → Head → EdgeSet → EdgeSet → EdgeSet → List ℕ → List ℕ → Bool → Option Refusal
lent_granule_rules K h f r i chains seqs tight = let c = granule_columns h f r i chains seqs in
    first_of (limits_of h.rows (any (ltb max_numbers) (idle_labels h.cover chains seqs ++ column_lengths c)) tight
    ∷ granule_rules K h.first h.rows h.end c
    ∷ [])

-- ── answers ──────────────────────────────────────────────────────────────────────────────────

-- the verdict on a granule. Label columns are lent also where there is no cover
abbrev pub read_columns : (K : ℕ) → Head → EdgeSet → EdgeSet → EdgeSet → List ℕ → List ℕ → List Lent → Verdict Granule
read_columns K h f r i chains seqs lent = read_beside K (idle_labels h.cover chains seqs) h.first h.rows h.end (granule_columns h f r i chains seqs) lent

-- the same of a granule as it is lent
abbrev pub read_lent : (K : ℕ) → Head → List ℕ → List ℤ → List ℕ → List ℤ → List ℕ → List ℤ → List ℕ → List ℕ → List Lent → Verdict Granule
read_lent K h fo fd ro rd io id chains seqs lent =
    read_columns K h (columns_of h.forward fo fd) (columns_of h.reverse ro rd) (columns_of h.inbound io id) chains seqs lent

-- how many targets the lists of each set have
abbrev pub counts_of : List (List ℕ) → List (List ℕ) → List (List ℕ) → Counts
counts_of f r i = record { forward = length (joined f); reverse = length (joined r); inbound = length (joined i) }

-- those figures, or the refusal
unfoldable pub decoded_of : Verdict Granule → Result Counts Refusal
decoded_of (refused r) = Err r
decoded_of (accepted g) = Ok (counts_of g.forward g.reverse g.inbound)

-- the lists of a set of a granule, by the set's number
abbrev pub lists_in : ℕ → Granule → List (List ℕ)
lists_in zero g = g.forward
lists_in (suc zero) g = g.reverse
lists_in (suc (suc set)) g = g.inbound

-- the targets of a set, one list after the other
unfoldable pub set_in : ℕ → Verdict Granule → Verdict (List ℕ)
set_in set (refused r) = refused r
set_in set (accepted g) = accepted (joined (lists_in set g))
