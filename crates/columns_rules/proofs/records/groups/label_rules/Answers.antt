use Rattle.columns_rules.proofs.records.RecordOrder.{depth-bad, then-labels}
use Rattle.columns_rules.proofs.records.groups.label_rules.Goals as goal

pub returns-then-not-depth_fits : goal.returns-then-not-depth_fits
returns-then-not-depth_fits c = search depth-bad

pub returns : goal.returns
returns c = search then-labels
