use Rattle.std.proofs.Common.{ap}
use mathlib.Core.Bool.{not}
use Rattle.cover_rows.proofs.limits.Rooms.{four-few, four-rooms}
use Rattle.cover_read.proofs.links.Answered.{over-told, over-kept, many-told, many-kept, short-told, short-kept, form-told, form-kept, found-told, found-written, links-ok}
use borrow.Author.Rules.{rules}
use Rattle.cover_read.proofs.links.chain_links.Goals as goal

pub returns-then-any_over-clause-value : goal.returns-then-any_over-clause-value
returns-then-any_over-clause-value c = search over-told

pub returns-then-any_over-clause-d_after : goal.returns-then-any_over-clause-d_after
returns-then-any_over-clause-d_after c = search over-kept

pub returns-then-chains-gt4096-clause-value : goal.returns-then-chains-gt4096-clause-value
returns-then-chains-gt4096-clause-value c = search many-told

pub returns-then-chains-gt4096-clause-d_after : goal.returns-then-chains-gt4096-clause-d_after
returns-then-chains-gt4096-clause-d_after c = search many-kept

pub returns-then-any_short-clause-value : goal.returns-then-any_short-clause-value
returns-then-any_short-clause-value c = search short-told

pub returns-then-any_short-clause-d_after : goal.returns-then-any_short-clause-d_after
returns-then-any_short-clause-d_after c = search short-kept

pub links_fit-requires : goal.links_fit-requires
links_fit-requires c = search four-few

pub returns-then-not-links_fit-clause-value : goal.returns-then-not-links_fit-clause-value
returns-then-not-links_fit-clause-value c = search form-told

pub returns-then-not-links_fit-clause-d_after : goal.returns-then-not-links_fit-clause-d_after
returns-then-not-links_fit-clause-d_after c = search form-kept

pub returns-clause-value : goal.returns-clause-value
returns-clause-value c = search found-told

pub returns-clause-d_after : goal.returns-clause-d_after
returns-clause-d_after c = search found-written

pub write_chosen-requires : goal.write_chosen-requires
write_chosen-requires c =
    let few = c.any_over.ensures in
    let within = c.if-any_over.false in
    let rooms = c.any_short.ensures in record {
      ts_value = (links-ok _ _ c.links_fit.ensures (ap not c.if-not-links_fit.false), (four-few _ _ _ _ _ few within, search rules));
      differences_in_bounds = four-rooms _ _ _ _ _ few within _ _ _ _ _ rooms c.if-any_short.false;
    }
