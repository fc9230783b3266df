use Rattle.run_text.proofs.numbers.Joined.{decimal-room, decimal-written}
use borrow.Author.Rules.{rules}
use Rattle.run_text.proofs.numbers.put_decimal.Goals as goal

pub put_digits-requires : goal.put_digits-requires
put_digits-requires c = search (rules, decimal-room)

pub returns : goal.returns
returns c = search (rules, decimal-written)
