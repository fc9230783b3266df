use Rattle.archive_bytes.specs.Bytes.{several}
use Rattle.run_section.proofs.covers.Labelling.{number_fits, column-turn, column-done}
use borrow.Author.Rules.{rules}
use Rattle.run_section.proofs.covers.column_of.Goals as goal

pub loop-i-init : goal.loop-i-init
unfolding several
loop-i-init c = search rules

pub overflow_cast-out : goal.overflow_cast-out
overflow_cast-out c = search (rules, number_fits)

pub loop-i-preserved : goal.loop-i-preserved
loop-i-preserved c = search (rules, column-turn)

pub returns : goal.returns
returns c = search (rules, column-done)
