use borrow.Author.Rules.{rules}
use Rattle.ffi_links.proofs.Sorting.{links_few, over-told, over-kept}
use Rattle.ffi_links.proofs.Asking.{numbers-over, room-short, room-enough, numbers-kept, short-kept, refused-told, given-told, given-written}
use Rattle.ffi_links_ask.proofs.ask_taken.Goals as goal

-- src/lib.rt:233:9

-- src/lib.rt:233:9

-- src/lib.rt:236:9

-- src/lib.rt:236:9

-- src/lib.rt:239:9

-- src/lib.rt:239:9

-- src/lib.rt:241:5

-- src/lib.rt:220:1

-- src/lib.rt:220:1

-- src/lib.rt:220:1

-- src/lib.rt:220:1

-- src/lib.rt:220:1

pub returns-then-n-gt1024 : goal.returns-then-n-gt1024
returns-then-n-gt1024 c = (search (rules, over-told), search (rules, over-kept))

pub returns-then-chains-gt4096 : goal.returns-then-chains-gt4096
returns-then-chains-gt4096 c = (search (rules, links_few, numbers-over, refused-told), search (rules, links_few, numbers-kept))

pub returns-then-room-lt1024 : goal.returns-then-room-lt1024
returns-then-room-lt1024 c = (search (rules, links_few, room-short, refused-told), search (rules, links_few, short-kept))

pub returns : goal.returns
returns c = (search (rules, links_few, room-enough, given-told), search (rules, links_few, room-enough, given-written))
