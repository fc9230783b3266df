use Rattle.std.proofs.Common.{rules}
use Rattle.run_text.proofs.numbers.Joined.{one-room, one_written, front-room, last-room, more-written}
use Rattle.run_text.proofs.numbers.+put_digits.Goals as goal

pub put_byte-requires : goal.put_byte-requires
put_byte-requires t c = search (rules, one-room)

pub returns-then-n-lt10 : goal.returns-then-n-lt10
returns-then-n-lt10 t c = search (rules, one_written)

pub put_digits-p-requires : goal.put_digits-p-requires
put_digits-p-requires t c = (search rules, search (rules, front-room))

pub put_byte-requires-2 : goal.put_byte-requires-2
put_byte-requires-2 t c = search (rules, last-room)

pub returns : goal.returns
returns t c = search (rules, more-written)
