use Rattle.cover_build.proofs.encode.Encoding.{even-from-room, even-to-room, even-ends-room, stored-written}
use Rattle.cover_build.proofs.encode.write_stored.Goals as goal

pub copy_column-requires : goal.copy_column-requires
copy_column-requires c = search even-from-room

pub copy_column-requires-2 : goal.copy_column-requires-2
copy_column-requires-2 c = search even-to-room

pub copy_column-requires-3 : goal.copy_column-requires-3
copy_column-requires-3 c = search even-ends-room

pub returns : goal.returns
returns c = search stored-written
