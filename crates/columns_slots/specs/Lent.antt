-- Lent columns as the edge set that they are.
use Rattle.columns.specs.EdgeSet.{EdgeSet}
use Rattle.columns.specs.Answers.{columns_of}
use Rattle.columns_slots.specs.declared.sets.Columns.{Columns}

abbrev pub edges : Columns → EdgeSet
edges s = columns_of s.count s.offsets.now s.deltas.now
