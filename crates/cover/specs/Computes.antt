-- One name that opens every definition of this crate and of those below it, for whoever computes with them: `unfolding computes`.
use Rattle.cover.specs.Chains
use Rattle.cover.specs.Cover
use Rattle.cover.specs.Questions
use Rattle.columns.specs.Computes.{computes as columns_opens}

unfoldable pub computes : Unit {0}
unfolding
    columns_opens
    Chains.widen Chains.add_label Chains.ranges_of Chains.link_less Chains.add_link Chains.sort_links Chains.links_above Chains.links_rise
    Cover.links_of Cover.even_columns Cover.wrapping_less Cover.differences Cover.sums Cover.sums_fit Cover.columns_of Cover.stored_links Cover.cover_of Cover.build_cover Cover.encode Cover.ranges_ok Cover.links_ok Cover.range_rules Cover.link_rules Cover.read_cover
    Questions.meets Questions.may_hold_chain Questions.chain_links
computes = tt
