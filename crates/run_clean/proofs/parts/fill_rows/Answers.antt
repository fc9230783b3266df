use Rattle.run_clean.proofs.Zeros.{may-store, no_rows, zero_flags, zero-rows}
use Rattle.run_clean.proofs.parts.fill_rows.Goals as goal

pub grow_rows-n-requires : goal.grow_rows-n-requires
grow_rows-n-requires c = (search may-store, search zero-rows)

pub grow_flags-requires : goal.grow_flags-requires
grow_flags-requires c = (search may-store, (search zero_flags, search no_rows))
