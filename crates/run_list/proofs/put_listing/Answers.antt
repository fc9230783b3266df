use Rattle.run_list.proofs.WholeText.{files-fit, last_fits, text-written}
use borrow.Author.Rules.{rules}
use Rattle.run_list.proofs.put_listing.Goals as goal

pub put_files-q-requires-clause-kids_in_bounds : goal.put_files-q-requires-clause-kids_in_bounds
put_files-q-requires-clause-kids_in_bounds c = search (rules, files-fit)

pub put_reparented-requires : goal.put_reparented-requires
put_reparented-requires c = search (rules, last_fits)

pub returns : goal.returns
returns c = search (rules, text-written)
