use Rattle.std.proofs.Common.{arith}
use Rattle.std.proofs.lemmas.Grind.{common_steps}
use Rattle.run_store.proofs.parts.Made.{joined_made}
use Rattle.run_store.proofs.parts.with_joined.Goals as goal

pub returns : goal.returns
returns c = let a = c.args in
    joined_made a.g a.at a.flag a.least a.greatest c.where_flagged.ensures (grind (arith, common_steps)) (grind (arith, common_steps))
