use native.Mathlib.Omega.{arith}
use Rattle.run_section.proofs.Sectioned.{groups_count}
use Rattle.run_records.proofs.Rest.{left-all, left_none}
use Rattle.run_records.proofs.Grouped.{front_needs, back_needs, group_put}
use Rattle.run_records.proofs.files.put_groups.Goals as goal

pub loop-g-init : goal.loop-g-init
loop-g-init c = left-all _ (groups_count _ _ _ _ _ _ _ _ _) c.requires.targets_in_bounds

pub facts_of-f-requires : goal.facts_of-f-requires
facts_of-f-requires c = let pre = c.requires in
    let below = c.loop-g-test.true in
    omega (arith, below, pre.ready.few.groups_count)

pub loop-g-preserved : goal.loop-g-preserved
loop-g-preserved c = let pre = c.requires in
    let left = c.loop-g.invariant in
    let below = c.loop-g-test.true in
    let facts = c.facts_of-f.ensures in
    let here = c.section_of-s.ensures in
    let front = c.put_front-p.ensures in
    let back = c.put_back-at.ensures in
    group_put _ _ _ _ _ _ _ _ _ _ _ _ _ pre.ready pre.children.0 pre.children.1 pre.stores _ below _ here _ facts left front back

pub shape_of-out : goal.shape_of-out
shape_of-out c = c.loop-g.invariant.as_long

pub returns : goal.returns
returns c = left_none _ c.loop-g.invariant c.loop-g-test.false

pub section_of-s-requires : goal.section_of-s-requires
section_of-s-requires c = let pre = c.requires in
    let below = c.loop-g-test.true in
    record { g_bound = (omega (arith, below, pre.ready.few.groups_count), pre.ready.few.end); sorted = pre.ready.sorted }

pub put_front-p-requires : goal.put_front-p-requires
put_front-p-requires c = let pre = c.requires in
    let left = c.loop-g.invariant in
    let below = c.loop-g-test.true in
    let facts = c.facts_of-f.ensures in
    let here = c.section_of-s.ensures in
    let needs = front_needs _ _ _ _ _ _ _ _ _ _ _ _ _ pre.ready pre.children.0 pre.children.1 pre.stores _ below _ here _ facts left in
    record { front_ready = needs.0; kids_in_bounds = needs.1 }

pub put_back-at-requires : goal.put_back-at-requires
put_back-at-requires c = let pre = c.requires in
    let left = c.loop-g.invariant in
    let below = c.loop-g-test.true in
    let facts = c.facts_of-f.ensures in
    let here = c.section_of-s.ensures in
    let front = c.put_front-p.ensures in
    let needs = back_needs _ _ _ _ _ _ _ _ _ _ _ _ _ pre.ready pre.children.0 pre.children.1 pre.stores _ below _ here _ facts left front in
    record { middle_ready = needs.0; ranges_in_bounds = needs.1 }
