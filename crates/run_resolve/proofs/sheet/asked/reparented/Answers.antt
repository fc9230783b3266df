-- What is counted in the columns is the archive's.
use Rattle.run_resolve.proofs.sheet.Asking.{few-held, edges-held, flags-held, reparented-held}
use Rattle.run_resolve.proofs.sheet.asked.reparented.Goals as goal

pub count_rows-requires : goal.count_rows-requires
count_rows-requires c = (search few-held, (search flags-held, search edges-held))

pub returns : goal.returns
returns c = search reparented-held
