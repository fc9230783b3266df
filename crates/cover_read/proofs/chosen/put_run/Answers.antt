use Rattle.std.proofs.Common.{◌≡◌, length, arith}
use Rattle.cover_read.proofs.chosen.Choosing.{put-start, put-told, run-past, run-stops, run-goes, put_more}
use borrow.Author.Rules.{rules}
use Rattle.cover_read.proofs.chosen.put_run.Goals as goal

pub loop-i-init : goal.loop-i-init
loop-i-init c = (search rules, search rules, search rules, search rules, search rules, search put-start)

pub returns-then-x-chain-clause-lower_bound : goal.returns-then-x-chain-clause-lower_bound
returns-then-x-chain-clause-lower_bound c = (search rules, (search rules, search run-stops))

pub returns-then-x-chain-clause-rows_after : goal.returns-then-x-chain-clause-rows_after
returns-then-x-chain-clause-rows_after c = search put-told

pub loop-i-preserved : goal.loop-i-preserved
loop-i-preserved c = (search rules, search rules, search rules, search rules, search run-goes, search put_more)

pub returns-clause-lower_bound : goal.returns-clause-lower_bound
returns-clause-lower_bound c = (search rules, (search rules, search run-past))

pub returns-clause-rows_after : goal.returns-clause-rows_after
returns-clause-rows_after c =
    let inv = c.loop-i.invariant in
    let end : length c.args.from.now ≡ c.loop-i.i = omega arith in
    rw end (put-told _ _ _ inv.2 inv.5)
