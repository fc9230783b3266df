use Rattle.std.proofs.Common.{ap}
use mathlib.Core.Bool.{not}
use Rattle.cover_read.proofs.Readings.{read-over-told, read-over-kept, read-short-told, read-short-kept, read-ranges-told, read-ranges-kept, read-links-told}
use Rattle.cover_read.proofs.Readings.{read-links-kept, read-all-told, read-all-written, few, rooms}
use Rattle.cover_read.proofs.links.Answered.{links-ok}
use Rattle.cover_read.proofs.read.Goals as goal

pub returns-then-any_over-clause-value : goal.returns-then-any_over-clause-value
returns-then-any_over-clause-value c = search read-over-told

pub returns-then-any_over-clause-d_after : goal.returns-then-any_over-clause-d_after
returns-then-any_over-clause-d_after c = search read-over-kept

pub returns-then-any_short-clause-value : goal.returns-then-any_short-clause-value
returns-then-any_short-clause-value c = search read-short-told

pub returns-then-any_short-clause-d_after : goal.returns-then-any_short-clause-d_after
returns-then-any_short-clause-d_after c = search read-short-kept

pub returns-then-not-ranges_fit-clause-value : goal.returns-then-not-ranges_fit-clause-value
returns-then-not-ranges_fit-clause-value c = search read-ranges-told

pub returns-then-not-ranges_fit-clause-d_after : goal.returns-then-not-ranges_fit-clause-d_after
returns-then-not-ranges_fit-clause-d_after c = search read-ranges-kept

pub links_fit-requires : goal.links_fit-requires
links_fit-requires c = search few

pub returns-then-not-links_fit-clause-value : goal.returns-then-not-links_fit-clause-value
returns-then-not-links_fit-clause-value c = search read-links-told

pub returns-then-not-links_fit-clause-d_after : goal.returns-then-not-links_fit-clause-d_after
returns-then-not-links_fit-clause-d_after c = search read-links-kept

pub write_links-requires-clause-differences_in_bounds : goal.write_links-requires-clause-differences_in_bounds
write_links-requires-clause-differences_in_bounds c = rooms _ _ _ _ _ _ _ _ _ _ _ _ c.any_over.ensures
    c.if-any_over.false _
    c.any_short.ensures c.if-any_short.false

pub write_links-requires-clause-ts_value : goal.write_links-requires-clause-ts_value
write_links-requires-clause-ts_value c = links-ok _ _ c.links_fit.ensures (ap not c.if-not-links_fit.false)

pub returns-clause-value : goal.returns-clause-value
returns-clause-value c = read-all-told _ _ _ c.any_over.ensures c.if-any_over.false c.any_short.ensures c.if-any_short.false c.ranges_fit.ensures
    (ap not c.if-not-ranges_fit.false) c.links_fit.ensures (ap not c.if-not-links_fit.false)

pub returns-clause-d_after : goal.returns-clause-d_after
returns-clause-d_after c = read-all-written _ _ _ c.any_over.ensures c.if-any_over.false c.any_short.ensures c.if-any_short.false c.ranges_fit.ensures
    (ap not c.if-not-ranges_fit.false) c.links_fit.ensures _ _ c.write_links.ensures (ap not c.if-not-links_fit.false)
