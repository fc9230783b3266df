use Rattle.run_state.proofs.Verdicts.{many-numbers, table-test}
use Rattle.run_state.proofs.valid.edges_ok.Goals as goal

pub returns-then-count-gt4096 : goal.returns-then-count-gt4096
returns-then-count-gt4096 c = search many-numbers

pub returns : goal.returns
returns c = search table-test
