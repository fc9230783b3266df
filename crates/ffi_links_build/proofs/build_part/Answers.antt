use lib.ListN.{length}
use Rattle.columns.specs.Answers.{label_columns}
use Rattle.ffi_links_build.proofs.Covering.{part-wrote}
use Rattle.ffi_links_build.proofs.build_part.Goals as goal

pub returns : goal.returns
returns c = let lent = c.requires in
    let given = c.args in
    let told = c.ridgeoven_cover_build.ensures in
    part-wrote given.n lent.n_bound given.x.now given.y.now given.z.now given.w.now lent.x_len.0 lent.x_len.1.0 lent.x_len.1.1.0 lent.x_len.1.1.1
    (label_columns given.chains.now given.seqs.now) (length given.ids.now) (length given.minima.now) (length given.maxima.now) given.a.now given.b.now given.c.now
    given.d.now lent.a_len.0 lent.a_len.1.0 lent.a_len.1.1.0 lent.a_len.1.1.1 told.value told.maxima_after told.d_after
