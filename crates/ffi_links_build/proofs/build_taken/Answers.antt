use lib.ListN.{length}
use Rattle.columns.specs.Answers.{label_columns}
use Rattle.ffi_links_build.proofs.Covering.{over-wrote, links-given, short-wrote, taken-wrote}
use Rattle.ffi_links_build.proofs.build_taken.Goals as goal

pub returns-then-three_over : goal.returns-then-three_over
returns-then-three_over c = search over-wrote

pub returns-then-room-lt1024 : goal.returns-then-room-lt1024
returns-then-room-lt1024 c = search short-wrote

pub build_first-requires-clause-n_bound : goal.build_first-requires-clause-n_bound
build_first-requires-clause-n_bound c = search links-given

pub returns : goal.returns
returns c = let lent = c.requires in
    let given = c.args in
    let over = c.three_over.ensures in
    let few = c.if-three_over.false in
    let long = c.if-room-lt1024.false in
    let told = c.build_first.ensures in
    taken-wrote given.n given.a.now given.b.now given.c.now given.d.now lent.0 lent.1.0 lent.1.1.0 lent.1.1.1
    (label_columns given.chains.now given.seqs.now) (length given.ids.now) (length given.minima.now) (length given.maxima.now) given.room over few long told
