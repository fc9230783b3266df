use Rattle.columns_rules.proofs.records.RecordOrder.{depth-unknown, depth-known}
use Rattle.columns_rules.proofs.records.groups.depth_fits.Goals as goal

pub returns-in-Unknown : goal.returns-in-Unknown
returns-in-Unknown c = search depth-unknown

pub returns-in-Between : goal.returns-in-Between
returns-in-Between c = search depth-known
