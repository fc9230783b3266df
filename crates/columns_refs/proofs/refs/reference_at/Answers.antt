use Prim.Native.Nat.{◌<◌}
use lib.ListN.{length}
use borrow.Author.Rules.{rules}
use Rattle.columns_refs.proofs.Counted.{in-kinds, in-spaces, in-targets, in-known, in-numbers, reference-is}
use Rattle.columns_refs.proofs.refs.reference_at.Goals as goal

pub bounds-lent-i : goal.bounds-lent-i
bounds-lent-i c = search in-kinds

pub bounds-lent-i-2 : goal.bounds-lent-i-2
bounds-lent-i-2 c = search in-spaces

pub offset_bounds-lent-i : goal.offset_bounds-lent-i
offset_bounds-lent-i c = let a = c.args in let h : a.i < length a.lent.targets.now = search in-targets in search rules

pub bounds-lent-i-3 : goal.bounds-lent-i-3
bounds-lent-i-3 c = search in-targets

pub bounds-lent-i-4 : goal.bounds-lent-i-4
bounds-lent-i-4 c = search in-known

pub offset_bounds-lent-i-2 : goal.offset_bounds-lent-i-2
offset_bounds-lent-i-2 c = let a = c.args in let h : a.i < length a.lent.numbers.now = search in-numbers in search rules

pub bounds-lent-i-5 : goal.bounds-lent-i-5
bounds-lent-i-5 c = search in-numbers

pub returns : goal.returns
returns c = search reference-is
