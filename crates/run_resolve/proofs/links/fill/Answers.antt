use Rattle.run_resolve.proofs.links.Copying.{filled}
use borrow.Author.Rules.{rules}
use Rattle.run_resolve.proofs.links.fill.Goals as goal

pub returns : goal.returns
returns c = filled _ _ _ _ _ (c.fill.ensures.after (λ y h. search rules)) c.requires.0 c.requires.1
