use Rattle.run_text.proofs.numbers.Joined.{plain-written, minus-room, minus-written}
use borrow.Author.Rules.{rules}
use Rattle.run_text.proofs.numbers.put_signed.Goals as goal

pub returns-then-n-lt9223372036854775808 : goal.returns-then-n-lt9223372036854775808
returns-then-n-lt9223372036854775808 c = search (rules, plain-written)

pub put_digits-requires : goal.put_digits-requires
put_digits-requires c = search (rules, minus-room)

pub returns : goal.returns
returns c = search (rules, minus-written)
