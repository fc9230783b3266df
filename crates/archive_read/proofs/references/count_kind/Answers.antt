use Rattle.std.proofs.Common.{◌≡◌, ◌+◌, ◌*◌, arith}
use Rattle.archive_read.proofs.references.AtReferences.{count-start, count_done, count_next}
use borrow.Author.Rules.{rules}
use Rattle.archive_read.proofs.references.count_kind.Goals as goal

pub loop-i-init : goal.loop-i-init
loop-i-init c = (search rules, search rules, search count-start)

pub loop-i-preserved : goal.loop-i-preserved
loop-i-preserved c =
    let moved : c.args.p + (c.loop-i.i + 1) * 10 ≡ c.args.p + c.loop-i.i * 10 + 10 = omega arith in
    (search rules, search rules, count_next _ _ _ _ _ _ c.loop-i.invariant.2 c.loop-i-test.true c.one_if-found.ensures.0 moved)

pub returns : goal.returns
returns c = search (rules, count_done)
