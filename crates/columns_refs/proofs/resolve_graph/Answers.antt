use mathlib.Core.Path.{refl}
use Rattle.columns.proofs.Handed.{handed-on}
use Rattle.columns_refs.proofs.Resolves.{nothing_written, ready, made_is}
use Rattle.columns_refs.proofs.resolve_graph.Goals as goal

pub write_all-requires : goal.write_all-requires
write_all-requires c = search (ready, c.in_ok-resolve_rules.was)

pub returns-in_err-resolve_rules : goal.returns-in_err-resolve_rules
returns-in_err-resolve_rules c = rw (handed-on _ c.from_residual.ensures refl) (search (nothing_written, c.in_err-resolve_rules.was))

pub returns : goal.returns
returns c = search (made_is, c.in_ok-resolve_rules.was)
