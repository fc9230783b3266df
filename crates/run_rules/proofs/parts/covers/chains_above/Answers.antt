use Rattle.run_rules.proofs.parts.CoverTurns.{first-chain, chains-done, chain-level, chain-above}
use borrow.Author.Rules.{rules}
use Rattle.run_rules.proofs.parts.covers.chains_above.Goals as goal

pub loop-i-init : goal.loop-i-init
loop-i-init c = (search rules, search rules, search rules, search first-chain)

pub returns-then-x-last : goal.returns-then-x-last
returns-then-x-last c = search (rules, chain-level)

pub loop-i-preserved : goal.loop-i-preserved
loop-i-preserved c = search (rules, chain-above)

pub returns : goal.returns
returns c = search (rules, chains-done)
