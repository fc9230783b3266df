use Rattle.ffi_links.proofs.Sorting.{sorted-count, sorted-over}
use Rattle.ffi_links.proofs.sort_by.Goals as goal

-- src/lib.rt:89:5

-- src/lib.rt:90:5

-- src/lib.rt:72:1

-- src/lib.rt:72:1

-- src/lib.rt:72:1

-- src/lib.rt:72:1

-- src/lib.rt:72:1

-- src/lib.rt:72:1

-- src/lib.rt:72:1

-- src/lib.rt:72:1

-- src/lib.rt:72:1

pub returns-clause-value : goal.returns-clause-value
returns-clause-value c = search sorted-count

pub returns-clause-d_after : goal.returns-clause-d_after
returns-clause-d_after c = search sorted-over
