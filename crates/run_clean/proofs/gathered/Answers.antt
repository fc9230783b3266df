use mathlib.Core.Path.{refl, sym, ap}
use mathlib.Core.Bool.{not}
use Rattle.run_clean.proofs.Gathers.{no-file, few-groups, few-links, level-links, links-long, few-unresolved, few-roots, few_rows, front-room, front-count}
use Rattle.run_clean.proofs.Gathers.{flags_long, rows_end, edges-form, front-few, front-end, children-fit, roots-fit, too_many, sheet-counted, one-empty, all-full}
use Rattle.run_clean.proofs.gathered.Goals as goal

pub returns-then-groups-eq0 : goal.returns-then-groups-eq0
returns-then-groups-eq0 c = no-file _ _ _ c.grow_names-names.ensures c.if-groups-eq0.true

pub fill_rows-n-requires-clause-alone : goal.fill_rows-n-requires-clause-alone
fill_rows-n-requires-clause-alone c = c.requires

pub fill_rows-n-requires-clause-groups_value : goal.fill_rows-n-requires-clause-groups_value
fill_rows-n-requires-clause-groups_value c = (refl, (refl, (refl, (refl, refl))))

pub slice_bounds-fill_lists-end : goal.slice_bounds-fill_lists-end
slice_bounds-fill_lists-end c = let d = c.grow_names-names.ensures in
    sym (flags_long _ _ _ d c.fill_rows-n.ensures.seqs_after c.fill_rows-n.ensures.flags_after)

pub returns-in_default : goal.returns-in_default
returns-in_default c = let d = c.grow_names-names.ensures in
    too_many _ _ _ d c.fill_rows-n.ensures.seqs_after c.fill_rows-n.ensures.flags_after c.if-groups-eq0.false _ _ _
    c.fill_lists-g.ensures c.in_default.is

pub slice_bounds-flags-end : goal.slice_bounds-flags-end
slice_bounds-flags-end c = let d = c.grow_names-names.ensures in
    front-room _ _ _ d c.fill_rows-n.ensures.seqs_after c.fill_rows-n.ensures.flags_after

pub slice_bounds-fill_unresolved-end : goal.slice_bounds-fill_unresolved-end
slice_bounds-fill_unresolved-end c = let d = c.grow_names-names.ensures in
    front-count _ _ _ d c.fill_rows-n.ensures.seqs_after c.fill_rows-n.ensures.flags_after

pub slice_bounds-flags-end-2 : goal.slice_bounds-flags-end-2
slice_bounds-flags-end-2 c = let d = c.grow_names-names.ensures in
    front-room _ _ _ d c.fill_rows-n.ensures.seqs_after c.fill_rows-n.ensures.flags_after

pub slice_bounds-fill_roots-end : goal.slice_bounds-fill_roots-end
slice_bounds-fill_roots-end c = let d = c.grow_names-names.ensures in
    front-count _ _ _ d c.fill_rows-n.ensures.seqs_after c.fill_rows-n.ensures.flags_after

pub slice_bounds-flags-end-3 : goal.slice_bounds-flags-end-3
slice_bounds-flags-end-3 c = let d = c.grow_names-names.ensures in
    front-room _ _ _ d c.fill_rows-n.ensures.seqs_after c.fill_rows-n.ensures.flags_after

pub slice_bounds-keep_rows-end : goal.slice_bounds-keep_rows-end
slice_bounds-keep_rows-end c = let d = c.grow_names-names.ensures in
    front-count _ _ _ d c.fill_rows-n.ensures.seqs_after c.fill_rows-n.ensures.flags_after

pub keep_rows-k-requires : goal.keep_rows-k-requires
keep_rows-k-requires c = let d = c.grow_names-names.ensures in
    front-few _ _ _ d c.fill_rows-n.ensures.seqs_after c.fill_rows-n.ensures.flags_after

pub is_filled-requires : goal.is_filled-requires
is_filled-requires c = sheet-counted _ _ _
    c.grow_names-names.ensures
    c.fill_rows-n.ensures.seqs_after
    c.fill_rows-n.ensures.flags_after
    c.if-groups-eq0.false _ _ _
    c.fill_lists-g.ensures _
    c.in-Some.is _ _ _ _
    c.fill_unresolved-u.ensures.result_after
    c.fill_unresolved-u.ensures.upper_bound
    c.fill_roots-r.ensures.result_after
    c.fill_roots-r.ensures.upper_bound
    c.fill_links-l.ensures
    c.keep_rows-k.ensures
    c.sheet_long.ensures

pub fill_lists-g-requires : goal.fill_lists-g-requires
fill_lists-g-requires c =
    let d = c.grow_names-names.ensures in
    let rows = c.fill_rows-n.ensures in
    record {
      alone = c.requires;
      offsets_value = (refl, refl);
      n_bound = (
        few_rows _ _ _ d rows.seqs_after rows.flags_after,
        (flags_long _ _ _ d rows.seqs_after rows.flags_after, rows_end _ _ _ d rows.seqs_after rows.flags_after),
      );
      bytes_value = edges-form _ _ _ d rows.seqs_after rows.flags_after;
    }

pub fill_unresolved-u-requires : goal.fill_unresolved-u-requires
fill_unresolved-u-requires c =
    let d = c.grow_names-names.ensures in
    let rows = c.fill_rows-n.ensures in
    record {
      alone = c.requires;
      children_value = (refl, (refl, refl));
      bytes_bound = (
        few-unresolved _ _ _ d,
        (front-few _ _ _ d rows.seqs_after rows.flags_after, front-end _ _ _ d rows.seqs_after rows.flags_after),
      );
      bytes_value = children-fit _ _ _ d rows.seqs_after rows.flags_after;
    }

pub fill_roots-r-requires : goal.fill_roots-r-requires
fill_roots-r-requires c =
    let d = c.grow_names-names.ensures in
    let rows = c.fill_rows-n.ensures in
    record {
      alone = c.requires;
      rows_value = (refl, refl);
      bytes_bound = (
        few-roots _ _ _ d,
        (front-few _ _ _ d rows.seqs_after rows.flags_after, front-end _ _ _ d rows.seqs_after rows.flags_after),
      );
      bytes_value = roots-fit _ _ _ d rows.seqs_after rows.flags_after;
    }

pub fill_links-l-requires : goal.fill_links-l-requires
fill_links-l-requires c =
    let d = c.grow_names-names.ensures in
    record {
      alone = c.requires;
      long_links = links-long _ _ _ d;
      bytes_bound = (few-links _ _ _ d, (few-groups _ _ _ d, level-links _ _ _ d));
    }

pub returns-then-not-is_filled : goal.returns-then-not-is_filled
returns-then-not-is_filled c = one-empty _ _ _
    c.grow_names-names.ensures
    c.fill_rows-n.ensures.seqs_after
    c.fill_rows-n.ensures.flags_after
    c.if-groups-eq0.false _ _ _
    c.fill_lists-g.ensures _
    c.in-Some.is _ _ _ _
    c.fill_unresolved-u.ensures.result_after
    c.fill_unresolved-u.ensures.upper_bound
    c.fill_roots-r.ensures.result_after
    c.fill_roots-r.ensures.upper_bound
    c.fill_links-l.ensures
    c.keep_rows-k.ensures
    c.sheet_long.ensures c.is_filled.ensures (ap not c.if-not-is_filled.true)

pub returns : goal.returns
returns c = all-full _ _ _
    c.grow_names-names.ensures
    c.fill_rows-n.ensures.seqs_after
    c.fill_rows-n.ensures.flags_after
    c.if-groups-eq0.false _ _ _
    c.fill_lists-g.ensures _
    c.in-Some.is _ _ _ _
    c.fill_unresolved-u.ensures.result_after
    c.fill_unresolved-u.ensures.upper_bound
    c.fill_roots-r.ensures.result_after
    c.fill_roots-r.ensures.upper_bound
    c.fill_links-l.ensures
    c.keep_rows-k.ensures
    c.sheet_long.ensures c.is_filled.ensures (ap not c.if-not-is_filled.false)
