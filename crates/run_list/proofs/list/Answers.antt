use Rattle.run_section.proofs.Covering.{covers-counted}
use borrow.Author.Rules.{rules}
use Rattle.run_list.proofs.list.Goals as goal

pub list_laid-requires-clause-laid_by : goal.list_laid-requires-clause-laid_by
list_laid-requires-clause-laid_by c = (search rules, covers-counted _ _ _ _ _ c.prepare-p.ensures.covers)
