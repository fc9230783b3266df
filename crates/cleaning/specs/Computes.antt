-- One name that opens every definition of this crate and of those below it, for whoever computes with them: `unfolding computes`.
use Rattle.cleaning.specs.Archive
use Rattle.cleaning.specs.Cleaning
use Rattle.cleaning.specs.Held
use Rattle.cleaning.specs.Lines
use Rattle.cleaning.specs.Listed
use Rattle.cleaning.specs.Memo
use Rattle.cleaning.specs.Resolving
use Rattle.cleaning.specs.Routes
use Rattle.cleaning.specs.Runs
use Rattle.cleaning.specs.Sections
use Rattle.cleaning.specs.Sheet
use Rattle.cleaning.specs.Source
use Rattle.cleaning.specs.Step
use Rattle.cleaning.specs.Summary
use Rattle.cleaning.specs.Survivors
use Rattle.cleaning.specs.Taking
use Rattle.cleaning.specs.Writing
use Rattle.archive.specs.Computes.{computes as archive_opens}

unfoldable pub computes : Unit {0}
unfolding
    archive_opens
    Archive.is_erased Archive.root_in Archive.references_in Archive.body_of Archive.events_from Archive.join_at Archive.add_source Archive.groups_of Archive.archive_of Archive.at Archive.parents_of
    Cleaning.count Cleaning.rank Cleaning.renumber Cleaning.new_parents Cleaning.survivors_from Cleaning.survivors Cleaning.new_number Cleaning.mapped Cleaning.is_reparented Cleaning.reparented
    Held.nothing Held.facts_at Held.shifted Held.sheet_with Held.held_with Held.held_of Held.event_at Held.archive_held Held.records_over Held.numbers_over Held.ending Held.look_back Held.hold_rules
    Lines.digits_from Lines.decimal Lines.signed Lines.line Lines.refused_line Lines.map_line Lines.set_lines Lines.file_lines Lines.listing_text
    Listed.file_need Listed.files_need Listed.listing_need Listed.listed
    Memo.add_parent Memo.memo Memo.tables
    Resolving.entries Resolving.survives_in Resolving.groups_survive Resolving.resolve_rules
    Routes.passes Routes.through Routes.ends Routes.Valid
    Runs.slotted Runs.held_rules Runs.resolve_held Runs.run_step
    Sections.labels_fit Sections.reaches Sections.place Sections.between Sections.section_start Sections.section_rows Sections.row_edges Sections.other_rows Sections.child_lists Sections.section_graph Sections.section_file Sections.section_faults Sections.section_rules Sections.section_bytes
    Sheet.body_at Sheet.parents_at Sheet.links_of Sheet.groups_from Sheet.groups_of_sheet Sheet.summary_of
    Source.source_of
    Step.resolve Step.step
    Summary.kept_by Summary.summary Summary.kept_in Summary.tabled
    Survivors.keep Survivors.rank_in Survivors.keep_slots Survivors.keep_unresolved Survivors.keep_roots Survivors.sort_groups Survivors.survivor_sheet
    Taking.total Taking.group_count Taking.over_records Taking.over_numbers Taking.unresolved_rules Taking.file_rules Taking.files_rules Taking.carries Taking.take_rules
    Writing.numbered_from Writing.numbered Writing.rows_in Writing.unresolved_of Writing.roots_from Writing.labels_in Writing.label_columns Writing.edges_into Writing.edges_of Writing.inbound_columns Writing.slots_of_rows Writing.unresolved_columns Writing.graph_of_rows Writing.graph_of Writing.output_of Writing.outputs Writing.write_rules Writing.bytes_of Writing.written
computes = tt
