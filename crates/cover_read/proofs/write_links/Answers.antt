use Rattle.cover_rows.proofs.Fitting.{ok-sums, room-from, room-to, room-ends, ok-written}
use borrow.Author.Rules.{rules}
use Rattle.cover_read.proofs.write_links.Goals as goal

pub write_sums-requires : goal.write_sums-requires
write_sums-requires c = (search rules, search ok-sums)

pub copy_column-requires : goal.copy_column-requires
copy_column-requires c = search room-from

pub copy_column-requires-2 : goal.copy_column-requires-2
copy_column-requires-2 c = search room-to

pub copy_column-requires-3 : goal.copy_column-requires-3
copy_column-requires-3 c = search room-ends

pub returns : goal.returns
returns c = search ok-written
