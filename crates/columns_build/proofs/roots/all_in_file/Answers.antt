use Rattle.columns_build.proofs.RootRows.{every-done, one_outside, every-on}
use borrow.Author.Rules.{rules}
use Rattle.columns_build.proofs.roots.all_in_file.Goals as goal

pub returns-then-not-is_in_file : goal.returns-then-not-is_in_file
returns-then-not-is_in_file c = search (rules, one_outside)

pub loop-i-preserved : goal.loop-i-preserved
loop-i-preserved c = search (rules, every-on)

pub returns : goal.returns
returns c = search (rules, every-done)
