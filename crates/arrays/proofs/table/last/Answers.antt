use Rattle.arrays.proofs.table.Chains.{top_in, found, found_in}
use Rattle.std.proofs.Common.{rules}
use Rattle.arrays.proofs.table.last.Goals as goal

pub follow-requires-clause-top_le_n : goal.follow-requires-clause-top_le_n
follow-requires-clause-top_le_n c = (search top_in, (search rules, search rules))

pub returns : goal.returns
returns c = (search found_in, search found)
