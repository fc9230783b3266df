use Rattle.std.proofs.Common.{eq-eqb, ne_eqb}
use Rattle.archive_store.proofs.tables.flag_byte.Goals as goal

pub returns-then-x-eq0 : goal.returns-then-x-eq0
returns-then-x-eq0 c = rw (eq-eqb _ _ c.if-x-eq0.true)

pub returns : goal.returns
returns c = rw (ne_eqb _ _ c.if-x-eq0.false)
