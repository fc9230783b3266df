use Rattle.archive_store.specs.Lent.{head_from}
use Rattle.run_section.specs.Rules.{depth_in}
use borrow.Author.Rules.{rules}
use Rattle.run_records.proofs.front.put_head.Goals as goal

pub returns : goal.returns
unfolding head_from depth_in
returns c = search rules
