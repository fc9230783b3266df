use Rattle.columns.proofs.Checks.{edged}
use Rattle.columns_slots.proofs.sets.Writes.{none-counted, none_written, csr-counted, csr-written}
use Rattle.columns_slots.proofs.sets.Columns.write.Goals as goal

pub returns-then-self-eq0-clause-value : goal.returns-then-self-eq0-clause-value
returns-then-self-eq0-clause-value c = search none-counted

pub returns-then-self-eq0-clause-out_after : goal.returns-then-self-eq0-clause-out_after
returns-then-self-eq0-clause-out_after c = search none_written

pub write_set-requires : goal.write_set-requires
write_set-requires c = search edged

pub returns-clause-value : goal.returns-clause-value
returns-clause-value c = search csr-counted

pub returns-clause-out_after : goal.returns-clause-out_after
returns-clause-out_after c = search csr-written
