use Rattle.cover_rows.proofs.Columned.{over-sets, copied, copies}
use borrow.Author.Rules.{rules}
use Rattle.cover_rows.proofs.copy_column.Goals as goal

pub loop-i-init : goal.loop-i-init
loop-i-init c = (search rules, search rules, search over-sets)

pub loop-i-preserved : goal.loop-i-preserved
loop-i-preserved c = (search rules, search rules, search copies)

pub returns : goal.returns
returns c = search copied
