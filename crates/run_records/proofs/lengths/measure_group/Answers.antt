use Rattle.run_section.proofs.Grouped.{ranges-rise, group-measured}
use Rattle.run_records.proofs.lengths.measure_group.Goals as goal

pub overflow_sub-f : goal.overflow_sub-f
overflow_sub-f c = let pre = c.requires in
    ranges-rise _ _ _ _ _ _ _ _ _ pre.ready _ pre.g_lt_count _ c.section_of-s.ensures pre.children.0 _ pre.children.1 _ c.facts_of-f.ensures

pub returns : goal.returns
returns c = let pre = c.requires in
    group-measured _ _ _ _ _ _ _ _ _ pre.ready _ pre.g_lt_count _ c.section_of-s.ensures pre.children.0 _ pre.children.1 _
    c.facts_of-f.ensures _ c.measure_section.ensures
