-- What columns must satisfy to be those of a run: counts within the limits, tables in form, records of rows that are there, parents before their
-- children. Every test computes, so that a run is tested before it is used.
use Rattle.std.specs.Prelude.{Bool, true, ◌&&◌, not, List, [], ◌∷◌, ℕ, suc, ◌+◌, ◌*◌, ltb, leb, take}
use Rattle.lists.specs.Lists.{all}
use Rattle.columns.specs.Limits.{kinds, max_records, max_numbers, max_groups, max_subject, end64}
use Rattle.columns.specs.EdgeSet.{offsets_form, cut, event_of}
use Rattle.columns.specs.Building.{in_file, slot_rules}
use Rattle.cleaning.specs.Source.{is_there}
use Rattle.run_state.specs.declared.Sheet as sheets
use Rattle.run_state.specs.declared.Edges.{Edges}
use Rattle.run_state.specs.declared.Held as holds
use Rattle.run_state.specs.declared.valid.Sizes.{Sizes}
use Rattle.run_state.specs.View.{slots_in}

-- lists of n rows: no more numbers than there is room for, offsets in form
abbrev pub table_ok : ℕ → ℕ → List ℕ → Bool
table_ok n count offsets = leb count max_numbers && offsets_form kinds n count (take (kinds * n + 1) offsets)

unfoldable pub edges_ok : ℕ → Edges → Bool
edges_ok n e = table_ok n e.count e.offsets

-- counts within the limits
unfoldable pub counts_ok : sheets.Sheet → Bool
counts_ok s =
    leb s.subject.length max_subject && (leb s.groups.count max_groups && (leb s.rows.count max_records
    && (leb s.unresolved.count max_records && (leb s.roots.count max_records && (leb s.links.count max_records
    && ltb (s.start + s.rows.count) end64)))))

-- a number is below a bound
unfoldable pub below : ℕ → ℕ → Bool
below bound n = ltb n bound

-- every number of the slots from `slot` on is below its event
unfoldable pub earlier : ℕ → ℕ → List (List ℕ) → Bool
earlier first slot [] = true
earlier first slot (ps ∷ lists) = all (below (event_of kinds first slot)) ps && earlier first (suc slot) lists

-- records belong to rows that are there
unfoldable pub records_ok : sheets.Sheet → Bool
records_ok s =
    all (in_file s.start (s.start + s.rows.count)) (take s.unresolved.count s.unresolved.children)
    && all (below s.rows.count) (take s.roots.count s.roots.rows)

-- the tests of a sheet's columns, by the numbers that they go by
abbrev pub sizes_of : sheets.Sheet → Sizes
sizes_of s = record { start = s.start; rows = s.rows.count; numbers = s.edges.count; unresolved = s.unresolved.count; roots = s.roots.count }

unfoldable pub columns_ok : Sizes → List ℕ → List ℕ → List ℕ → List ℕ → Bool
columns_ok z offsets targets children roots =
    table_ok z.rows z.numbers offsets
    && ((all (in_file z.start (z.start + z.rows)) (take z.unresolved children) && all (below z.rows) (take z.roots roots))
    && earlier z.start 0 (cut (take (kinds * z.rows + 1) offsets) (take z.numbers targets)))

unfoldable pub sheet_ok : sheets.Sheet → Bool
sheet_ok s = counts_ok s && (edges_ok s.rows.count s.edges && (records_ok s && earlier s.start 0 (slots_in s.rows.count s.edges)))

unfoldable pub held_ok : holds.Held → Bool
held_ok h = sheet_ok h.sheet && (edges_ok h.sheet.rows.count h.reverse && edges_ok h.sheet.rows.count h.inbound)

-- no parent at or above its event, none twice in a list: 4 and 5 over all rows
unfoldable pub once_ok : sheets.Sheet → Bool
once_ok s = not (is_there (slot_rules kinds s.start 0 (slots_in s.rows.count s.edges)))
