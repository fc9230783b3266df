use Rattle.std.proofs.Common.{ap}
use mathlib.Core.Bool.{not}
use Rattle.cover_rows.proofs.limits.Rooms.{four-rooms}
use Rattle.cover_build.proofs.encode.Encoding.{encode-over-told, encode-over-kept, encode-short-told, encode-short-kept, encode-uneven-told, encode-uneven-kept}
use Rattle.cover_build.proofs.encode.Encoding.{encode-told, encode-written, columns-even}
use Rattle.cover_build.proofs.encode.encode_links.Goals as goal

pub returns-then-any_over-clause-value : goal.returns-then-any_over-clause-value
returns-then-any_over-clause-value c = search encode-over-told

pub returns-then-any_over-clause-d_after : goal.returns-then-any_over-clause-d_after
returns-then-any_over-clause-d_after c = search encode-over-kept

pub returns-then-any_short-clause-value : goal.returns-then-any_short-clause-value
returns-then-any_short-clause-value c = search encode-short-told

pub returns-then-any_short-clause-d_after : goal.returns-then-any_short-clause-d_after
returns-then-any_short-clause-d_after c = search encode-short-kept

pub returns-then-not-are_even-clause-value : goal.returns-then-not-are_even-clause-value
returns-then-not-are_even-clause-value c = search encode-uneven-told

pub returns-then-not-are_even-clause-d_after : goal.returns-then-not-are_even-clause-d_after
returns-then-not-are_even-clause-d_after c = search encode-uneven-kept

pub write_stored-requires-clause-chains_in_bounds : goal.write_stored-requires-clause-chains_in_bounds
write_stored-requires-clause-chains_in_bounds c = four-rooms _ _ _ _ _ c.any_over.ensures
    c.if-any_over.false _ _ _ _ _
    c.any_short.ensures c.if-any_short.false

pub write_stored-requires-clause-ts_value : goal.write_stored-requires-clause-ts_value
write_stored-requires-clause-ts_value c = columns-even _ _ _ _ c.are_even.ensures (ap not c.if-not-are_even.false)

pub returns-clause-value : goal.returns-clause-value
returns-clause-value c = encode-told _ _ _ _ _ c.any_over.ensures c.if-any_over.false c.any_short.ensures c.if-any_short.false c.are_even.ensures (ap not c.if-not-are_even.false)

pub returns-clause-d_after : goal.returns-clause-d_after
returns-clause-d_after c = encode-written _ _ _ _ _ c.any_over.ensures c.if-any_over.false c.any_short.ensures c.if-any_short.false c.are_even.ensures _ _ c.write_stored.ensures
    (ap not c.if-not-are_even.false)
