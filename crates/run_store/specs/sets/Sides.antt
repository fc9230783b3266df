-- One of a file's three sets: its place in the edges record, and its lists in what is held.
use Rattle.archive_read.specs.declared.bodies.EdgesAt.{EdgesAt}
use Rattle.run_state.specs.declared.Edges.{Edges}
use Rattle.run_store.specs.turns.Parts.{Parts}
use Rattle.run_store.specs.declared.sets.SetPlace.{SetPlace}
use Rattle.run_store.specs.declared.sets.Side.{Side}
use Rattle.run_store.specs.declared.sets.Side.TheVariants.{Forward, Reverse, Inbound}

abbrev pub place_of : Side → EdgesAt → SetPlace
place_of Forward c = record { at = 0; count = c.forwards }
place_of Reverse c = record { at = c.reverse; count = c.reverses }
place_of Inbound c = record { at = c.inbound; count = c.inbounds }

abbrev pub side_of : Side → Parts → Edges
side_of Forward p = p.edges
side_of Reverse p = p.reverse
side_of Inbound p = p.inbound
