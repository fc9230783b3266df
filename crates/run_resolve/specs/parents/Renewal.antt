-- Document 01, "Cleaning": the lists of the survivors, and refusal 43 where the new lists of all rows hold more numbers than a run has room for.
use Rattle.std.specs.Prelude.{◌≡◌, true, List, ℕ, ◌≤◌, ◌<◌, length, None, Some, Option}
use Rattle.lists.specs.Lists.{joined}
use Rattle.columns.specs.Limits.{kinds, max_numbers}
use Rattle.cleaning.specs.Survivors.{keep_slots}
use Rattle.run_state.specs.declared.Edges.{Edges}
use Rattle.run_state.specs.ByColumns.{edges_of}
use Rattle.run_state.specs.View.{slots_in}
use Rattle.run_state.specs.Valid.{edges_ok}
use Rattle.run_compact.specs.Columns.{gone, survive}

-- the lists of the rows that survive, by the flags of all rows and their lists
pub record EdgesKept (flags : List ℕ) (lists : List (List ℕ)) (q : Edges) : Type 0 where
  pub slots : slots_in (survive flags) q ≡ keep_slots kinds (gone flags) lists
  pub form : edges_ok (survive flags) q ≡ true

-- the same, and that the lists of all rows are within the limit
pub record RenewedTo (flags : List ℕ) (lists : List (List ℕ)) (q : Edges) : Type 0 where
  pub within : length (joined lists) ≤ max_numbers
  pub kept : EdgesKept flags lists q

-- none exactly where the lists of all rows are over the limit
abbrev pub Renewal : List ℕ → List (List ℕ) → Option Edges → Type 0
Renewal flags lists (Some q) = RenewedTo flags lists q
Renewal flags lists None = max_numbers < length (joined lists)

-- the answer over columns: how many numbers the lists hold, or that there is no room
abbrev pub renewed_of : Option ℕ → List ℕ → List ℕ → Option Edges
renewed_of (Some m) os ts = Some (edges_of m os ts)
renewed_of None os ts = None
