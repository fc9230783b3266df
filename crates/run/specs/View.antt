-- What a run stands for. A run is a value, so its fields may be any. Its form is tested, not its history: a value of another form than a run's stands for
-- `spoiled`, and every call to it is 40; one of a run's form is taken for that run, whoever made it, and the claim speaks of runs that calls make.
use Rattle.std.specs.Prelude.{Bool, cond, ◌&&◌, ℕ, zero, suc, eqb, ltb}
use Rattle.cleaning.specs.Runs.{RunState, taking, resolved, spoiled}
use Rattle.run_state.specs.declared.Sheet.{Sheet}
use Rattle.run_state.specs.declared.Held.{Held}
use Rattle.run_state.specs.View.{sheet_in, held_in}
use Rattle.run_state.specs.Valid.{sheet_ok, held_ok, once_ok}
use Rattle.run_state.specs.order.Ordered.{ordered, filled}
use Rattle.run.specs.declared.Run.{Run}

-- columns that a run holds of its sources
unfoldable pub holdable : Held → Bool
holdable h = held_ok h && ordered h.sheet

-- a resolved run has a group, since resolving refuses one that has taken nothing (24)
unfoldable pub grouped : Sheet → Bool
grouped s = ltb 0 s.groups.count

-- columns of survivors, to be written group by group; their lists name each parent once, as those that resolving makes do
unfoldable pub writable : Sheet → Bool
writable s = sheet_ok s && (grouped s && (ordered s && (filled s && once_ok s)))

-- by phase: 0 takes sources, 1 is resolved
unfoldable pub phased : ℕ → Run → RunState
phased zero r = taking (held_in r.held)
phased (suc zero) r = cond (writable r.sheet) (resolved (held_in r.held) (sheet_in r.sheet)) spoiled
phased (suc (suc n)) r = spoiled

unfoldable pub view : Run → RunState
view r = cond (holdable r.held) (phased r.phase r) spoiled

-- a run that takes sources, and one that is resolved
abbrev pub taking_by : ℕ → Bool → Bool
taking_by phase h = eqb phase 0 && h

abbrev pub resolved_by : ℕ → Bool → Bool → Bool
resolved_by phase h w = eqb phase 1 && (h && w)

unfoldable pub is_taking : Run → Bool
is_taking r = taking_by r.phase (holdable r.held)

unfoldable pub is_resolved : Run → Bool
is_resolved r = resolved_by r.phase (holdable r.held) (writable r.sheet)
