use Rattle.run_store.proofs.links.LinkTurns.{ends-added}
use Rattle.run_store.proofs.links.cover_links.Goals as goal

pub returns : goal.returns
returns c = search ends-added
