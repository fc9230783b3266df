use Rattle.std.proofs.Common.{◌∙◌, arith, lt-ltb, ne_eqb}
use Rattle.cover_rows.proofs.Rowed.{from-under, from-over, seq-under, seq-over, to-under, to-over, to_level}
use Rattle.cover_rows.proofs.is_less.Goals as goal

pub returns-then-a-x : goal.returns-then-a-x
returns-then-a-x c = lt-ltb _ _ c.if-a-x.true ∙ from-under _ _ _ _ _ _ _ _ c.if-a-x.true

pub returns-then-b-y : goal.returns-then-b-y
returns-then-b-y c = lt-ltb _ _ c.if-b-y.true ∙ seq-under _ _ _ _ _ _ _ _ c.if-a-x.false (omega arith) c.if-b-y.true

pub returns-then-c-z : goal.returns-then-c-z
returns-then-c-z c = lt-ltb _ _ c.if-c-z.true ∙ to-under _ _ _ _ _ _ _ _ c.if-a-x.false (omega arith) c.if-b-y.false (omega arith) c.if-c-z.true

pub returns-then-c-z-2 : goal.returns-then-c-z-2
returns-then-c-z-2 c = to_level _ _ _ _ _ _ _ _ c.if-a-x.false (omega arith) c.if-b-y.false (omega arith) c.if-c-z.false (omega arith)

pub returns-else-c-z-2 : goal.returns-else-c-z-2
returns-else-c-z-2 c = ne_eqb _ _ c.if-c-z-2.false ∙ to-over _ _ _ _ _ _ _ _ c.if-a-x.false (omega arith) c.if-b-y.false (omega arith) (omega arith)

pub returns-else-b-y-2 : goal.returns-else-b-y-2
returns-else-b-y-2 c = ne_eqb _ _ c.if-b-y-2.false ∙ seq-over _ _ _ _ _ _ _ _ c.if-a-x.false (omega arith) (omega arith)

pub returns-else-a-x-2 : goal.returns-else-a-x-2
returns-else-a-x-2 c = ne_eqb _ _ c.if-a-x-2.false ∙ from-over _ _ _ _ _ _ _ _ (omega arith)
