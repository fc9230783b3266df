-- Document 01, "Cleaning" and 24, 43, 27: what resolving answers, out of the columns of a run.
use Rattle.std.specs.Prelude.{◌≡◌, true, List, ℕ, ◌≤◌, ◌<◌, length, take, None, Some, Ok, Err, Result}
use Rattle.std.proofs.Math.Option.{Option, none, some}
use Rattle.std.specs.declared.option.Option as rust
use Rattle.columns.specs.Limits.{kinds, max_numbers}
use Rattle.columns.specs.declared.refusal.Refusal.{Refusal}
use Rattle.cleaning.specs.Archive.{Archive}
use Rattle.cleaning.specs.Memo.{tables}
use Rattle.cleaning.specs.Resolving.{entries, groups_survive}
use Rattle.cleaning.specs.Held.{archive_held}
use Rattle.cleaning.specs.Survivors.{survivor_sheet}
use Rattle.cleaning.specs.Runs.{slotted, held_rules}
use Rattle.run_state.specs.declared.Edges.{Edges}
use Rattle.run_state.specs.declared.Sheet.{Sheet}
use Rattle.run_state.specs.declared.Held.{Held}
use Rattle.run_state.specs.View.{sheet_in, held_in}
use Rattle.run_state.specs.Valid.{sheet_ok, once_ok}
use Rattle.run_state.specs.order.Ordered.{ordered, filled}
use Rattle.run_resolve.specs.parents.Renewal.{EdgesKept}

-- the archive that columns hold
abbrev pub archive_in : Held → Archive
archive_in h = archive_held kinds (held_in h)

-- the flags of the rows
abbrev pub flags_in : Held → List ℕ
flags_in h = take h.sheet.rows.count h.erased

-- every event's new lists, slot by slot
unfoldable pub new_in : Held → List (List ℕ)
new_in h = slotted (length (archive_in h).events) (tables kinds (archive_in h))

-- 24, 43, 27
unfoldable pub rules_in : Held → Option Refusal
rules_in h = held_rules (held_in h) (archive_in h) (tables kinds (archive_in h))

-- the survivors' lists, and that all new lists are within the limit
pub record ListsKept (h : Held) (q : Edges) : Type 0 where
  pub within : entries (tables kinds (archive_in h)) ≤ max_numbers
  pub kept : EdgesKept (flags_in h) (new_in h) q

-- none exactly where all new lists are over the limit
abbrev pub ListsRenewed : Held → rust.Option Edges → Type 0
ListsRenewed h (Some q) = ListsKept h q
ListsRenewed h None = max_numbers < entries (tables kinds (archive_in h))

-- the sheet of the survivors, valid and in order, with lists that name each parent once; every group has a row where every group has a survivor
pub record SurvivorsIn (h : Held) (s : Sheet) : Type 0 where
  pub view : sheet_in s ≡ survivor_sheet kinds (held_in h) (new_in h)
  pub valid : sheet_ok s ≡ true
  pub in_order : ordered s ≡ true
  pub once : once_ok s ≡ true
  pub reached : filled s ≡ groups_survive (archive_in h)

-- no rule is broken, and the sheet is that of the survivors, to be written group by group
pub record ResolvedTo (h : Held) (s : Sheet) : Type 0 where
  pub ruled : rules_in h ≡ none
  pub view : sheet_in s ≡ survivor_sheet kinds (held_in h) (new_in h)
  pub valid : sheet_ok s ≡ true
  pub in_order : ordered s ≡ true
  pub whole : filled s ≡ true
  pub once : once_ok s ≡ true

-- the sheet of the survivors, or the first broken rule
abbrev pub ResolvedBy : Held → Result Sheet Refusal → Type 0
ResolvedBy h (Ok s) = ResolvedTo h s
ResolvedBy h (Err x) = rules_in h ≡ some x
