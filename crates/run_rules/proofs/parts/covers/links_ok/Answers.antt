use Rattle.run_rules.proofs.parts.CoverTurns.{links-count, links_few, links-loaded}
use borrow.Author.Rules.{rules}
use Rattle.run_rules.proofs.parts.covers.links_ok.Goals as goal

pub slice_bounds-ends_fit-end : goal.slice_bounds-ends_fit-end
slice_bounds-ends_fit-end c = search (rules, links-count)

pub slice_bounds-ends_fit-end-2 : goal.slice_bounds-ends_fit-end-2
slice_bounds-ends_fit-end-2 c = search (rules, links-count)

pub ends_fit-requires : goal.ends_fit-requires
ends_fit-requires c = search (rules, links_few)

pub returns : goal.returns
returns c = let d = c.fill_u32s.ensures in
    let e = c.fill_u32s-2.ensures in
    links-loaded _ _ _ _ _ _ _ (search rules) (search rules) (search rules) d e c.ends_fit.ensures
