use Rattle.ffi_links.proofs.Asking.{same-told, same-written}
use Rattle.ffi_links_ask.proofs.ask_by.Goals as goal

-- src/lib.rt:195:5

-- src/lib.rt:196:5

-- src/lib.rt:178:1

-- src/lib.rt:178:1

-- src/lib.rt:178:1

-- src/lib.rt:178:1

-- src/lib.rt:178:1

-- src/lib.rt:178:1

-- src/lib.rt:178:1

-- src/lib.rt:178:1

-- src/lib.rt:178:1

pub returns : goal.returns
returns c = (search same-told, search same-written)
