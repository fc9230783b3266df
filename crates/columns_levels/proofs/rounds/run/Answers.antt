use mathlib.Core.Path.{refl}
use native.Mathlib.Omega.{arith}
use Rattle.columns_levels.proofs.rounds.Levels.{going-first, run-stop, run-turn, ends-past, ends-room, end-left, end_more, end-above, end-from, laid_more, laid-left}
use borrow.Author.Rules.{rules}
use Rattle.columns_levels.proofs.rounds.run.Goals as goal

pub loop-lo-init : goal.loop-lo-init
loop-lo-init c = (
  search rules,
  search rules,
  search rules,
  search rules,
  search rules,
  search rules,
  search rules,
  search rules,
  search rules,
  search rules,
  search rules,
  search rules,
  search rules,
  search rules,
  search going-first,
)

pub advance-s-requires-clause-lo_le_m : goal.advance-s-requires-clause-lo_le_m
advance-s-requires-clause-lo_le_m c = (search rules, c.loop-lo.invariant.3)

pub advance-s-requires-clause-keys_in_bounds : goal.advance-s-requires-clause-keys_in_bounds
advance-s-requires-clause-keys_in_bounds c = (search rules, search rules)

pub advance-s-requires-clause-table : goal.advance-s-requires-clause-table
advance-s-requires-clause-table c = c.loop-lo.invariant.11

pub advance-s-requires-clause-seen : goal.advance-s-requires-clause-seen
advance-s-requires-clause-seen c = c.loop-lo.invariant.12

pub returns-then-e-m : goal.returns-then-e-m
returns-then-e-m c = run-stop _ _ _ _ c.loop-lo.lo _ _ _ _ _ _ c.loop-lo.invariant.14 c.advance-s.ensures.laid c.if-e-m.true
    c.loop-lo.invariant.2 _ _ _ _ _ _ _ c.loop-lo.invariant.11 c.loop-lo.invariant.3 c.loop-lo.invariant.7 c.loop-lo.invariant.6 c.requires.keys_in_bounds.1.1 c.loop-lo.invariant.13

pub overflow_sub-ends : goal.overflow_sub-ends
overflow_sub-ends c = search (rules, end-from)

pub bounds-ends-k : goal.bounds-ends-k
bounds-ends-k c =
    let u = ends-room c.loop-lo.k _ _ _ _ _ c.loop-lo.ends _ _ _ _ _ _ c.advance-s.ensures.laid c.if-e-m.false c.loop-lo.invariant.2
    c.advance-s.ensures.table_2 c.advance-s.ensures.end_le_n.0 (search rules) c.loop-lo.invariant.6 c.requires.keys_in_bounds.1.1 in
    search rules

pub overflow_sub-left : goal.overflow_sub-left
overflow_sub-left c = laid_more _ _ _ _ _ c.advance-s.ensures.laid

pub overflow_sub-left-in-loop-lo : goal.overflow_sub-left-in-loop-lo
overflow_sub-left-in-loop-lo c = laid-left _ _ _ _ _ _ c.advance-s.ensures.laid
    c.advance-s.ensures.end_le_n.1

pub loop-lo-preserved : goal.loop-lo-preserved
loop-lo-preserved c = (
  end-above _ _ _ _ _ c.advance-s.ensures.laid
      c.if-e-m.false,
  end-from _ _ _ _ _ _ c.advance-s.ensures.laid
      c.loop-lo.invariant.2,
  end_more _ _ _ _ _ _ c.advance-s.ensures.laid c.if-e-m.false
      c.loop-lo.invariant.2,
  c.advance-s.ensures.end_le_n.0,
  end-left _ _ _ _ _ _ _ c.advance-s.ensures.laid
      c.advance-s.ensures.end_le_n.1
      c.loop-lo.invariant.4,
  search rules,
  search rules,
  search rules,
  search rules,
  search rules,
  search rules,
  c.advance-s.ensures.table_2,
  c.advance-s.ensures.seen_2,
  ends-past c.loop-lo.k _ c.loop-lo.ends c.args.ends.now c.loop-lo.invariant.13,
  run-turn _ _ _ _ c.loop-lo.lo _ _ _ _ _ _ c.loop-lo.invariant.14 c.advance-s.ensures.laid c.if-e-m.false c.advance-s.ensures.end_le_n.1
      c.loop-lo.invariant.4 c.loop-lo.invariant.2 _ refl _ _ _ _ _ _ c.advance-s.ensures.table_2 c.advance-s.ensures.end_le_n.0
      (search rules) c.loop-lo.invariant.6 c.requires.keys_in_bounds.1.1,
)

pub returns : goal.returns
returns c = absurd (omega arith)
