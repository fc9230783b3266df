use Rattle.archive_store.proofs.sizes.Sized.{with-cover, without-cover}
use Rattle.std.proofs.Common.{rules}
use Rattle.archive_store.proofs.sizes.cover_size.Goals as goal

pub returns-then-covered : goal.returns-then-covered
returns-then-covered c = (search (rules, with-cover), search rules)

pub returns : goal.returns
returns c = (search without-cover, search rules)
