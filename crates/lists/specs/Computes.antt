-- One name that opens every definition of this crate and of those below it, for whoever computes with them: `unfolding computes`.
use Rattle.lists.specs.Lists
use Rattle.lists.specs.Order
use Rattle.lists.specs.Text

unfoldable pub computes : Unit {0}
unfolding Lists.joined Lists.starts Lists.part Lists.up_from Lists.all Lists.any Lists.filter Lists.is_empty Lists.same Lists.sum Lists.mem Lists.add Lists.once Lists.distinct Lists.last Order.rises_above Order.rising Order.level_above Order.not_falling Order.climbs_to Order.insert Order.sort Text.text
computes = tt
