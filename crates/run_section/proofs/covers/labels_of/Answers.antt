-- Two columns are the labels.
use Rattle.run_section.proofs.covers.Labelling.{labels_read}
use borrow.Author.Rules.{rules}
use Rattle.run_section.proofs.covers.labels_of.Goals as goal

pub returns : goal.returns
returns c = search (rules, labels_read)
