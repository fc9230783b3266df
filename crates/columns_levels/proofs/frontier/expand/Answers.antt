use Rattle.columns_levels.proofs.frontier.Slots.{stays-before, stays-far, stays_after, expanded}
use Rattle.columns_levels.proofs.frontier.expand.Goals as goal

pub returns-then-v-p-clause-keys : goal.returns-then-v-p-clause-keys
returns-then-v-p-clause-keys c = search stays-before

pub returns-then-p-d-clause-keys : goal.returns-then-p-d-clause-keys
returns-then-p-d-clause-keys c = search stays-far

pub returns-then-p-s-clause-keys : goal.returns-then-p-s-clause-keys
returns-then-p-s-clause-keys c = search stays_after

pub returns-clause-keys : goal.returns-clause-keys
returns-clause-keys c = search expanded
