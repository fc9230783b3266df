use Rattle.std.proofs.Common.{eq-eqb, ne_eqb}
use Rattle.cover.specs.Cover.{even_columns}
use Rattle.cover_build.proofs.are_even.Goals as goal

pub returns-then-tc-n : goal.returns-then-tc-n
unfolding even_columns
returns-then-tc-n c = rw (eq-eqb _ _ c.if-fs-n.true, eq-eqb _ _ c.if-tc-n.true)

pub returns-else-tc-n : goal.returns-else-tc-n
unfolding even_columns
returns-else-tc-n c = rw (eq-eqb _ _ c.if-fs-n.true, ne_eqb _ _ c.if-tc-n.false)

pub returns-else-fs-n : goal.returns-else-fs-n
unfolding even_columns
returns-else-fs-n c = rw (ne_eqb _ _ c.if-fs-n.false)
