use Rattle.std.proofs.Common.{rules}
use Rattle.cover_build.proofs.Labelled.{labels-min}
use Rattle.cover_build.proofs.labels_count.Goals as goal

pub returns : goal.returns
returns c = search (rules, labels-min)
