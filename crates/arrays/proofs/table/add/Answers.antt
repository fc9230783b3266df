use Rattle.arrays.proofs.table.Chains.{add-there, add-full, add-new}
use Rattle.arrays.proofs.table.add.Goals as goal

pub returns-then-find-clause-keys_after : goal.returns-then-find-clause-keys_after
returns-then-find-clause-keys_after c = search add-there

pub returns-then-n-keys-clause-keys_after : goal.returns-then-n-keys-clause-keys_after
returns-then-n-keys-clause-keys_after c = search add-new

pub returns-clause-keys_after : goal.returns-clause-keys_after
returns-clause-keys_after c = search add-full
