-- By whether x is there, and whether there is room.
use Rattle.run_renumber.proofs.Growing.{was-there, put-after, no_room}
use Rattle.run_renumber.proofs.push.Goals as goal

pub returns-then-among : goal.returns-then-among
returns-then-among c = search was-there

pub returns-then-end-all : goal.returns-then-end-all
returns-then-end-all c = search put-after

pub returns : goal.returns
returns c = search no_room
