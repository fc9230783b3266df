use Rattle.run_rules.proofs.parts.CoverTurns.{links-count, ends-loaded}
use borrow.Author.Rules.{rules}
use Rattle.run_rules.proofs.parts.covers.ends_fit.Goals as goal

pub slice_bounds-links_fit-end : goal.slice_bounds-links_fit-end
slice_bounds-links_fit-end c = search (rules, links-count)

pub slice_bounds-links_fit-end-2 : goal.slice_bounds-links_fit-end-2
slice_bounds-links_fit-end-2 c = search (rules, links-count)

pub returns : goal.returns
returns c = let d = c.fill_u32s.ensures in
    let e = c.fill_u32s-2.ensures in
    ends-loaded _ _ _ _ _ _ _ (search rules) (search rules) (search rules) d e _ _ c.links_fit.ensures
