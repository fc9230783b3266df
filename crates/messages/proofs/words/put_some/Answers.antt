use Rattle.std.proofs.Common.{rules}
use Rattle.messages.proofs.words.Placed.{rise, within, some-room, some_written}
use Rattle.messages.proofs.words.put_some.Goals as goal

pub slice_bounds-put_word-count : goal.slice_bounds-put_word-count
slice_bounds-put_word-count c = search (rules, rise)

pub slice_bounds-put_word-start : goal.slice_bounds-put_word-start
slice_bounds-put_word-start c = search (rules, rise)

pub slice_bounds-put_word-end : goal.slice_bounds-put_word-end
slice_bounds-put_word-end c = search (rules, within)

pub put_word-requires : goal.put_word-requires
put_word-requires c = search (rules, some-room)

pub returns : goal.returns
returns c = search (rules, some_written)
