use Rattle.run_renumber.proofs.Slots.{begin-cut}
use Rattle.run_compact.proofs.slots.SlotTurns.{table-form, next-there, next-above, slots-begin, slots-done, slot-gone, slot_kept, slot-built}
use borrow.Author.Rules.{rules}
use Rattle.run_compact.proofs.slots.add_slots.Goals.{then-flags-s-eq0, else-flags-s-eq0}
use Rattle.run_compact.proofs.slots.add_slots.Goals as goal

pub loop-s-init : goal.loop-s-init
loop-s-init c = (search rules, search rules, search rules, search rules, search rules, search begin-cut, search slots-begin)

pub add_slot-end-requires-clause-s_in_bounds : goal.add_slot-end-requires-clause-s_in_bounds
add_slot-end-requires-clause-s_in_bounds c = (search next-there, search table-form)

pub add_slot-end-requires-clause-k_in_bounds : goal.add_slot-end-requires-clause-k_in_bounds
add_slot-end-requires-clause-k_in_bounds c = (search rules, (search rules, search rules))

pub loop-s-preserved : goal.loop-s-preserved
loop-s-preserved c = elim c.if-flags-s-eq0.branch [
  | then-flags-s-eq0 w ↦ rw (w.offs-is, w.all-is, w.end-is, w.k-is) (search rules, search rules, search rules, search rules, search rules, search slot-built, search slot_kept)
  | else-flags-s-eq0 w ↦ rw (w.offs-is, w.all-is, w.end-is, w.k-is) (search rules, search rules, search next-above, search rules, search rules, search rules, search slot-gone)
]

pub returns : goal.returns
returns c = search slots-done
