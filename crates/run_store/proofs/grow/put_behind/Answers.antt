use Rattle.columns.specs.Limits.{kinds}
use Rattle.columns.specs.Answers.{columns_of}
use Rattle.columns.specs.Reading.{slots_of}
use Rattle.lists.specs.Lists.{joined}
use Rattle.run_store.proofs.grow.Turns.{part-back}
use Rattle.run_store.proofs.grow.put_behind.Goals as goal

pub returns : goal.returns
returns c = let a = c.args in part-back _ _
    (joined (slots_of kinds a.first (columns_of a.count a.offsets.now a.deltas.now))) c.requires.at_in_bounds c.write_csr.ensures.out_after
