use Rattle.columns_refs.specs.Resolved.{referred}
use Rattle.columns_refs.proofs.Resolves.{all_written}
use Rattle.columns_refs.proofs.write_all.Goals as goal

pub returns : goal.returns
returns c = let a = c.args in
    let lists = c.write_lists-made.ensures in
    all_written (referred a.first a.rows a.starts.now a.lent.kinds.now a.lent.spaces.now a.lent.targets.now a.lent.known.now a.lent.numbers.now) a.offsets.now
    a.parents.now a.children.now a.ukinds.now a.handles.now c.requires _ _ _ _ _ _ _ lists.value lists.offsets_after lists.out_after
    c.note_rows-noted.ensures
