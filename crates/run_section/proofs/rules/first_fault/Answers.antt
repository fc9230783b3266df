use Rattle.run_section.proofs.Tested.{no-subject, no_kind, no-depth, no-rise, no_span, no-fault}
use Rattle.run_section.proofs.rules.first_fault.Goals as goal

pub returns-then-not-named : goal.returns-then-not-named
returns-then-not-named c = search no-subject

pub returns-then-not-kinds : goal.returns-then-not-kinds
returns-then-not-kinds c = search no_kind

pub returns-then-not-depth : goal.returns-then-not-depth
returns-then-not-depth c = search no-depth

pub returns-then-not-seqs : goal.returns-then-not-seqs
returns-then-not-seqs c = search no-rise

pub returns-then-not-spans : goal.returns-then-not-spans
returns-then-not-spans c = search no_span

pub returns : goal.returns
returns c = search no-fault
