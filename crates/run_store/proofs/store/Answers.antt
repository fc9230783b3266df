use Rattle.run_store.proofs.Together.{accepted, together-stored}
use mathlib.Core.Path.{refl}
use Rattle.run_store.proofs.store.Goals as goal

pub returns : goal.returns
returns c = let stored = together-stored _ _ _ c.store_names-names.ensures
    c.store_rows-rows.ensures c.store_set-edges.ensures
    c.store_unresolved-unresolved.ensures c.store_roots-roots.ensures
    c.store_links-links.ensures c.store_flags-erased.ensures c.store_set-reverse.ensures c.store_set-inbound.ensures in
    record { result_value = stored.0; result_value_2 = stored.1 }

pub store_flags-erased-requires : goal.store_flags-erased-requires
store_flags-erased-requires c = accepted _ _ c.held_long.ensures (c.requires.h_value, (c.requires.bytes_value, c.requires.bytes_value_2))

pub store_links-links-requires : goal.store_links-links-requires
store_links-links-requires c = accepted _ _ c.held_long.ensures (c.requires.h_value, (c.requires.bytes_value, c.requires.bytes_value_2))

pub store_names-names-requires : goal.store_names-names-requires
store_names-names-requires c = accepted _ _ c.held_long.ensures (c.requires.h_value, (c.requires.bytes_value, c.requires.bytes_value_2))

pub store_roots-roots-requires : goal.store_roots-roots-requires
store_roots-roots-requires c = accepted _ _ c.held_long.ensures (c.requires.h_value, (c.requires.bytes_value, c.requires.bytes_value_2))

pub store_rows-rows-requires : goal.store_rows-rows-requires
store_rows-rows-requires c = accepted _ _ c.held_long.ensures (c.requires.h_value, (c.requires.bytes_value, c.requires.bytes_value_2))

pub store_set-edges-requires : goal.store_set-edges-requires
store_set-edges-requires c = (accepted _ _ c.held_long.ensures (c.requires.h_value, (c.requires.bytes_value, c.requires.bytes_value_2)), refl)

pub store_set-inbound-requires : goal.store_set-inbound-requires
store_set-inbound-requires c = (
  accepted _ _ c.held_long.ensures (c.requires.h_value, (c.requires.bytes_value, c.requires.bytes_value_2)),
  refl,
)

pub store_set-reverse-requires : goal.store_set-reverse-requires
store_set-reverse-requires c = (
  accepted _ _ c.held_long.ensures (c.requires.h_value, (c.requires.bytes_value, c.requires.bytes_value_2)),
  refl,
)

pub store_unresolved-unresolved-requires : goal.store_unresolved-unresolved-requires
store_unresolved-unresolved-requires c = accepted _ _ c.held_long.ensures (c.requires.h_value, (c.requires.bytes_value, c.requires.bytes_value_2))
