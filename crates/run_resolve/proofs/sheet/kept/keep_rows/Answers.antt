-- Every column keeps as many.
use Rattle.run_resolve.proofs.sheet.KeptColumns.{column-kept}
use borrow.Author.Rules.{rules}
use Rattle.run_resolve.proofs.sheet.kept.keep_rows.Goals as goal

pub returns : goal.returns
returns c = record {
  count = search rules;
  groups = search column-kept;
  tags = search column-kept;
  chains = search column-kept;
  seqs = search column-kept;
}
