-- Document 01, "Refused for the state" and demand 1: a run's calls, one by one. A run takes sources, in one call or several, then resolves once,
-- then writes, again if wanted, and is asked for new numbers, for the reparented and for its listing; a step out of turn is 40. A refused call leaves the run as it is.
use Rattle.std.specs.Prelude.{cond, List, [], ◌++◌, ℕ, leb, length}
use Rattle.std.proofs.Math.Option.{Option, none, some}
use Rattle.columns.specs.Refusal
use Rattle.columns.specs.Refusal.{Verdict}
use Rattle.columns.specs.declared.refusal.Refusal.{Refusal}
use Rattle.columns.specs.declared.refusal.Refusal.TheVariants.{OutOfTurn, SliceShort}
use Rattle.archive.specs.Parse.{parse}
use Rattle.cleaning.specs.Source.{Source}
use Rattle.cleaning.specs.Taking.{taken_from}
use Rattle.cleaning.specs.Archive.{Taken, archive_of}
use Rattle.cleaning.specs.Cleaning.{mapped, reparented}
use Rattle.cleaning.specs.Memo.{tables}
use Rattle.cleaning.specs.Summary.{tabled}
use Rattle.cleaning.specs.Resolving.{resolve_rules}
use Rattle.cleaning.specs.Writing.{written}
use Rattle.cleaning.specs.Listed.{listed}

-- taking an archive's bytes; resolving; writing into a slice of so many bytes; asking for the new number of an old one, and how many survivors
-- are reparented; listing into a slice of so many bytes
pub data Call : Type 0 where
  takes : List ℕ → Call
  resolves : Call
  writes : ℕ → Call
  maps : ℕ → Call
  counts : Call
  lists : ℕ → Call

-- bytes that a call has written: how many it answers, and those up to that number
pub record Bytes : Type 0 where
  pub length : ℕ
  pub bytes : List ℕ

-- all of a list
abbrev pub all_of : List ℕ → Bytes
all_of w = record { length = length w; bytes = w }

pub data Answer : Type 0 where
  refused : Refusal → Answer
  done : Answer
  wrote : Bytes → Answer
  told : Option ℕ → Answer
  counted : ℕ → Answer
  printed : Bytes → Answer

-- a run by phase: taking sources; resolved, with every event's new lists, kind by kind; and `spoiled`, which is no run that calls make
pub data State : Type 0 where
  taking : Taken → State
  resolved : Taken → List (List (List ℕ)) → State
  spoiled : State

-- a fresh run has taken nothing
abbrev pub fresh : State
fresh = taking (record { sources = [] })

-- the run and the answer that a call gives back
pub record Outcome : Type 0 where
  pub state : State
  pub answer : Answer

abbrev pub outcome : State → Answer → Outcome
outcome s a = record { state = s; answer = a }

abbrev pub take_more : Taken → Verdict (List Source) → Outcome
take_more t (Refusal.refused r) = outcome (taking t) (refused r)
take_more t (Refusal.accepted ss) = outcome (taking (record { sources = t.sources ++ ss })) done

abbrev pub resolve_by : Taken → List (List (List ℕ)) → Option Refusal → Outcome
resolve_by t ts none = outcome (resolved t ts) done
resolve_by t ts (some r) = outcome (taking t) (refused r)

-- the room of the archive bytes is tested last
abbrev pub write_into : ℕ → Verdict (List ℕ) → Answer
write_into room (Refusal.refused r) = refused r
write_into room (Refusal.accepted w) = cond (leb (length w) room) (wrote (all_of w)) (refused SliceShort)

-- a listing, which has its own room
abbrev pub list_into : Verdict (List ℕ) → Answer
list_into (Refusal.refused r) = refused r
list_into (Refusal.accepted t) = printed (all_of t)

unfoldable pub resolve : (K : ℕ) → Taken → Outcome
resolve K t = let A = archive_of K t in let ts = tables K A in resolve_by t ts (resolve_rules t A ts)

unfoldable pub step : (K : ℕ) → State → Call → Outcome
step K (taking t) (takes b) = take_more t (taken_from K t.sources (parse K b))
step K (taking t) resolves = resolve K t
step K (taking t) (writes room) = outcome (taking t) (refused OutOfTurn)
step K (taking t) (maps p) = outcome (taking t) (refused OutOfTurn)
step K (taking t) counts = outcome (taking t) (refused OutOfTurn)
step K (taking t) (lists room) = outcome (taking t) (refused OutOfTurn)
step K (resolved t ts) (takes b) = outcome (resolved t ts) (refused OutOfTurn)
step K (resolved t ts) resolves = outcome (resolved t ts) (refused OutOfTurn)
step K (resolved t ts) (writes room) = outcome (resolved t ts) (write_into room (written K (tabled (archive_of K t) ts)))
step K (resolved t ts) (maps p) = outcome (resolved t ts) (told (mapped (archive_of K t) p))
step K (resolved t ts) counts = outcome (resolved t ts) (counted (reparented (archive_of K t)))
step K (resolved t ts) (lists room) = outcome (resolved t ts) (list_into (listed K room (archive_of K t) (tabled (archive_of K t) ts)))
step K spoiled c = outcome spoiled (refused OutOfTurn)
