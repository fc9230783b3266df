-- One name that opens every definition of this crate and of those below it, for whoever computes with them: `unfolding computes`.
use Rattle.columns.specs.Building
use Rattle.columns.specs.EdgeSet
use Rattle.columns.specs.Questions
use Rattle.columns.specs.Reading
use Rattle.columns.specs.Refusal
use Rattle.columns.specs.Roots
use Rattle.columns.specs.Walk
use Rattle.lists.specs.Computes.{computes as lists_opens}

unfoldable pub computes : Unit {0}
unfolding
    lists_opens
    Building.greater Building.has Building.subject_ok Building.numbers_ok Building.parent_rules Building.slot_rules Building.in_file Building.unresolved_rules Building.all_unresolved_rules Building.last_seq Building.seqs_rise Building.inbound_rules Building.all_inbound_rules Building.children_to Building.slot_table Building.naming Building.reverse_lists Building.inbound_lists Building.within Building.deltas_within Building.fits63 Building.deltas_fit Building.forward_part Building.reverse_part Building.inbound_part Building.build_rules Building.built_of Building.graph_lengths Building.graph_records Building.build_beside Building.build
    EdgeSet.from_to EdgeSet.offsets_form EdgeSet.cut_from EdgeSet.cut EdgeSet.delta_of EdgeSet.is_number EdgeSet.to_number EdgeSet.target_of EdgeSet.allowed EdgeSet.sound EdgeSet.deltas_from EdgeSet.set_of
    Questions.list_of Questions.parents Questions.children_of Questions.children Questions.label_at Questions.label
    Reading.sound_from Reading.targets_from Reading.slots_of Reading.set_rules Reading.read_set Reading.set_lengths Reading.decode_set Reading.labels_of Reading.label_rules Reading.column_lengths Reading.granule_rules Reading.granule_of Reading.read_beside Reading.read_granule
    Refusal.unless Refusal.first_of Refusal.first_in Refusal.short Refusal.limits
    Roots.root_entries
    Walk.level Walk.levels_from Walk.levels Walk.walked Walk.walk
computes = tt
