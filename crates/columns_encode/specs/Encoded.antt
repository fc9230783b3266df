-- What building is lent and what it leaves there, as views of the verdict that the definitions give.
use Rattle.std.specs.Prelude.{◌≡◌, Bool, true, List, [], ◌∷◌, ◌++◌, ℕ, ◌+◌, ◌*◌, ◌≤◌, ◌<◌, ltb, length, take}
use Rattle.std.proofs.Math.Option.{Option, none}
use Rattle.lists.specs.Lists.{any, joined, starts}
use Rattle.columns.specs.Limits.{kinds, end64, max_records, max_numbers, offsets_room, numbers_room}
use Rattle.columns.specs.Refusal.{refuse, first_of, Lent}
use Rattle.columns.specs.EdgeSet.{EdgeSet, offsets_form, cut}
use Rattle.columns.specs.Reading.{Labels, label_lengths}
use Rattle.columns.specs.Building.{Depth, record_count, slot_rules}
use Rattle.columns.specs.declared.refusal.Refusal.{Refusal}
use Rattle.columns.specs.declared.refusal.Refusal.TheVariants.{SliceShort, OverRecords, OverNumbers}
use Rattle.columns_rules.specs.Ruled.{file_rules}
use Rattle.columns_rules.specs.records.Recorded.{record_rules}
use Rattle.columns_sets.specs.sets.Reached.{Reached, Turnable}
use Rattle.columns_encode.specs.declared.writing.Counts.{Counts}

-- ── what is lent ─────────────────────────────────────────────────────────────────────────────

-- two slices of these lengths, lent for the offsets and the deltas of a set
abbrev pub rooms : ℕ → ℕ → List Lent
rooms offsets deltas = record { has = offsets; needs = offsets_room kinds } ∷ record { has = deltas; needs = numbers_room } ∷ []

-- six slices of these lengths that are long enough
pub record Rooms (fo fd ro rd io id : ℕ) : Type 0 where
  pub forward_offsets : 2049 ≤ fo
  pub forward_deltas : 4096 ≤ fd
  pub reverse_offsets : 2049 ≤ ro
  pub reverse_deltas : 4096 ≤ rd
  pub inbound_offsets : 2049 ≤ io
  pub inbound_deltas : 4096 ≤ id

-- ── rules ────────────────────────────────────────────────────────────────────────────────────

-- 42, 43 and 41, by whether a column is too long and whether a lent slice is too short
unfoldable pub limit_rules : ℕ → ℕ → Bool → Bool → Option Refusal
limit_rules rows records over tight =
    first_of (refuse OverRecords (any (ltb max_records) (rows ∷ records ∷ [])) ∷ refuse OverNumbers over ∷ refuse SliceShort tight ∷ [])

-- 1 to 10
unfoldable pub input_rules : List ℕ → ℕ → ℕ → List ℕ → List ℕ → List ℕ → List ℕ → List ℕ → Option Depth → Option Labels → Option Refusal
input_rules subject first rows offsets targets cs ks fs depth labels =
    first_of (file_rules subject first rows offsets targets ∷ record_rules first rows cs ks fs depth labels ∷ [])

-- the limits, then 1 to 10. The inbound columns count by their lengths alone, and so do `idle` columns, which nothing reads
unfoldable pub early_rules : List ℕ → List ℕ → ℕ → ℕ → List ℕ → List ℕ → List ℕ → List ℕ → List ℕ → Option Depth → Option Labels → ℕ → ℕ → ℕ → Bool → Option Refusal
early_rules idle subject first rows offsets targets cs ks fs depth labels inbound parents kinds tight =
    first_of (limit_rules rows (record_count cs ks fs) (any (ltb max_numbers) (idle ++ (length offsets ∷ length targets ∷ inbound ∷ parents ∷ kinds ∷ label_lengths labels))) tight
    ∷ input_rules subject first rows offsets targets cs ks fs depth labels
    ∷ [])

-- ── sets ─────────────────────────────────────────────────────────────────────────────────────

-- how many edges each of three sets has
abbrev pub counts_of : EdgeSet → EdgeSet → EdgeSet → Counts
counts_of f r i = record { forward = f.count; reverse = r.count; inbound = i.count }

-- lists at the start of two longer columns
pub record Arranged (rows : ℕ) (lists : List (List ℕ)) (offs list : List ℕ) : Type 0 where
  pub long : 2 * rows + 1 ≤ length offs
  pub many : length (joined lists) ≤ length list
  pub offsets : take (2 * rows + 1) offs ≡ starts 0 lists
  pub targets : take (length (joined lists)) list ≡ joined lists
  pub short : length (joined lists) ≤ 4096

-- a file that keeps the limits and 1 to 5, and how many inbound edges it is lent
pub record Early (first rows : ℕ) (offsets targets : List ℕ) (inbound : ℕ) : Type 0 where
  pub few : rows ≤ 1024
  pub last : first + rows < end64
  pub form : offsets_form kinds rows (length targets) offsets ≡ true
  pub parents : slot_rules kinds first 0 (cut offsets targets) ≡ none
  pub short : length targets ≤ 4096
  pub edges : inbound ≤ 4096

-- what the three sets are written from
pub record Ready (first rows from n : ℕ) (offsets targets offs list : List ℕ) (m : ℕ) : Type 0 where
  pub forward : Reached first rows from n offsets targets
  pub reverse : Turnable first rows from n offsets targets
  pub inbound : Reached first rows from n (take (2 * rows + 1) offs) (take m list)
  pub long : 2 * rows + 1 ≤ length offs
  pub many : m ≤ length list
  pub short : m ≤ 4096
