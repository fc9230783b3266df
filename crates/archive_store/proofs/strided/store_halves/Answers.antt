use Rattle.std.proofs.Common.{rules}
use Rattle.archive_store.proofs.strided.Strides.{number_in, strides-begin, strides-done, strides-on, halves-begin, half, halves-on}
use Rattle.archive_store.proofs.strided.store_halves.Goals as goal

pub loop-i-init : goal.loop-i-init
loop-i-init c = (search rules, search halves-begin, search strides-begin)

pub number_at-requires : goal.number_at-requires
number_at-requires c = search number_in

pub store_u32-requires : goal.store_u32-requires
store_u32-requires c = (search rules, search half)

pub loop-i-preserved : goal.loop-i-preserved
loop-i-preserved c = (search rules, search halves-on, search strides-on)

pub returns : goal.returns
returns c = search strides-done
