-- What a reader answers and leaves in the slices that it is lent, as a view of the verdict that the definitions give.
use Rattle.std.specs.Prelude.{Bool, List, [], ◌∷◌, ◌++◌, ℕ, ltb, ℤ, pos, ◌-ℤ◌, length, drop, Err, Ok, Result}
use Rattle.std.proofs.Math.Option.{Option, none, some}
use Rattle.lists.specs.Lists.{any, joined}
use Rattle.columns.specs.Limits.{numbers_room, max_records, end32}
use Rattle.columns.specs.Refusal.{Verdict, refused, accepted, refuse, first_of, Lent, limits}
use Rattle.columns.specs.EdgeSet.{EdgeSet, forward, reverse, inbound, is_number}
use Rattle.columns.specs.Reading.{Labels, set_rules, set_lengths}
use Rattle.columns.specs.declared.kind.Kind.{Kind}
use Rattle.columns.specs.declared.kind.Kind.TheVariants.{Prev, Auth}
use Rattle.columns.specs.declared.kind.Kinds.{Kinds}
use Rattle.columns.specs.declared.kind.Kinds.TheVariants.{Two, Three}
use Rattle.columns.specs.declared.set.Set.{Set}
use Rattle.columns.specs.declared.set.Set.TheVariants.{Forward, Reverse, Inbound}
use Rattle.columns.specs.declared.refusal.Refusal.{Refusal}
use Rattle.columns.specs.declared.refusal.Refusal.TheVariants.{SliceShort, OverRecords, OverNumbers}

-- a kind's place among the slots of a row
abbrev pub kind_of : Kind → ℕ
kind_of Prev = 0
kind_of Auth = 1

-- how many kinds a file has, which is how many slots a row has
abbrev pub width_of : Kinds → ℕ
width_of Two = 2
width_of Three = 3

-- a set's number among the three
abbrev pub set_number : Set → ℕ
set_number Forward = forward
set_number Reverse = reverse
set_number Inbound = inbound

-- whether a delta of an event names a number, on whichever side
unfoldable pub named : ℕ → ℤ → Bool
named event delta = is_number (pos event -ℤ delta)

-- a number of 32 bits
abbrev pub short32 : ℕ → Bool
short32 x = ltb x end32

-- ── what is lent ─────────────────────────────────────────────────────────────────────────────

-- a set as it is lent: a number and two columns
abbrev pub columns_of : ℕ → List ℕ → List ℤ → EdgeSet
columns_of count offsets deltas = record { count = count; offsets = offsets; deltas = deltas }

-- labels as they are lent
abbrev pub label_columns : List ℕ → List ℕ → Labels
label_columns chains seqs = record { chains = chains; seqs = seqs }

-- one slice of a length, lent for the numbers of an answer
abbrev pub room : ℕ → List Lent
room n = record { has = n; needs = numbers_room } ∷ []

-- ── rules ────────────────────────────────────────────────────────────────────────────────────

-- 42, 43 and 41, by whether a column is too long and whether a lent slice is too short
unfoldable pub limits_of : ℕ → Bool → Bool → Option Refusal
limits_of rows over short =
    first_of (refuse OverRecords (any (ltb max_records) (rows ∷ [])) ∷ refuse OverNumbers over ∷ refuse SliceShort short ∷ [])

-- the limits and the rules of one set that is lent by itself
unfoldable pub lent_rules : (K : ℕ) → ℕ → ℕ → ℕ → ℕ → EdgeSet → List Lent → Option Refusal
lent_rules K set first rows end s lent = first_of (limits (rows ∷ []) (set_lengths s) lent ∷ set_rules K set first rows end s ∷ [])

-- the rules of the two sets that children come from
unfoldable pub both_rules : (K : ℕ) → ℕ → ℕ → ℕ → EdgeSet → EdgeSet → Option Refusal
both_rules K first rows end r i = first_of (set_rules K reverse first rows end r ∷ set_rules K inbound first rows end i ∷ [])

-- what is answered of rules: the first that is broken, if one is
abbrev pub ruling : Option Refusal → Result (Unit {0}) Refusal
ruling none = Ok tt
ruling (some r) = Err r

-- ── lists of numbers as answers ──────────────────────────────────────────────────────────────

-- the lists of all slots, one after the other
unfoldable pub in_one : Verdict (List (List ℕ)) → Verdict (List ℕ)
in_one (refused r) = refused r
in_one (accepted lists) = accepted (joined lists)

-- how many numbers there are, or the refusal
unfoldable pub counted_of : Verdict (List ℕ) → Result ℕ Refusal
counted_of (refused r) = Err r
counted_of (accepted l) = Ok (length l)

-- a lent slice after numbers were written: they stand from its start on, and behind them it is as it was. A slice keeps its length, so
-- that there are no more numbers than it has places
abbrev pub written_in : {A : Type 0} → List A → List A → List A
written_in old l = l ++ drop (length l) old

-- a lent slice after the answer: the answer's numbers are written; after a refusal all is as it was
unfoldable pub written_over : List ℕ → Verdict (List ℕ) → List ℕ
written_over old (refused r) = old
written_over old (accepted l) = written_in old l
