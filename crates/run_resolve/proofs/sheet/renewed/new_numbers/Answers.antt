-- The numbers stand in front.
use Rattle.run_resolve.proofs.sheet.Renewing.{numbers-front}
use borrow.Author.Rules.{rules}
use Rattle.run_resolve.proofs.sheet.renewed.new_numbers.Goals as goal

pub returns : goal.returns
returns c = search (rules, numbers-front)
