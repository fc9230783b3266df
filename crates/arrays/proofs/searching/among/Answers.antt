use Rattle.arrays.proofs.searching.Looking.{in-part, in-none}
use Rattle.arrays.proofs.searching.among.Goals as goal

pub returns-then-from-to : goal.returns-then-from-to
returns-then-from-to c = in-part _ _ _ _ c.contains.ensures.value c.if-from-to.true c.requires

pub returns-else-from-to : goal.returns-else-from-to
returns-else-from-to c = search in-none
