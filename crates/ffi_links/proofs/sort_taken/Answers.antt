use borrow.Author.Rules.{rules}
use Rattle.ffi_links.proofs.Sorting.{links_few, over-told, over-kept, sort-told, sort-written}
use Rattle.ffi_links.proofs.sort_taken.Goals as goal

-- src/lib.rt:51:9

-- src/lib.rt:51:9

-- src/lib.rt:53:18

-- src/lib.rt:53:5

-- src/lib.rt:45:1

-- src/lib.rt:45:1

-- src/lib.rt:45:1

-- src/lib.rt:45:1

-- src/lib.rt:45:1

pub returns-then-n-gt1024 : goal.returns-then-n-gt1024
returns-then-n-gt1024 c = (search (rules, over-told), search (rules, over-kept))

pub returns : goal.returns
returns c = (search (rules, links_few, sort-told), search (rules, links_few, sort-written))
