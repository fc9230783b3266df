-- What is printed is the listing: the line of a refusal, or the text that was written.
use Rattle.std.proofs.Common.{rules}
use Rattle.listing.proofs.Printed.{refusal-printed, text_printed}
use Rattle.listing.proofs.print.Goals as goal

pub returns-in-Err : goal.returns-in-Err
returns-in-Err c = search (rules, refusal-printed)

pub returns-in-Ok : goal.returns-in-Ok
returns-in-Ok c = search (rules, text_printed)
