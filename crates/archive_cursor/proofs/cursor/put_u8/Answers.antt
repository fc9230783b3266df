use Rattle.archive_cursor.proofs.Answers.{no_room_lem, unwritten, has_room, written}
use native.Mathlib.Omega.{arith}
use Rattle.archive_cursor.proofs.cursor.put_u8.Goals as goal

pub returns-then-out-at-clause-value : goal.returns-then-out-at-clause-value
returns-then-out-at-clause-value c = no_room_lem 1 _ _ (omega arith)

pub returns-then-out-at-clause-out_after : goal.returns-then-out-at-clause-out_after
returns-then-out-at-clause-out_after c = unwritten 1 _ _ (omega arith) _

pub returns-clause-value : goal.returns-clause-value
returns-clause-value c = has_room 1 _ _ (omega arith)

pub returns-clause-out_after : goal.returns-clause-out_after
returns-clause-out_after c = written 1 _ _ (omega arith) _ c.store_u8.ensures
