-- One name that opens every definition of this crate and of those below it, for whoever computes with them: `unfolding computes`.
use Rattle.columns_refs.specs.References
use Rattle.columns.specs.Computes.{computes as columns_opens}

unfoldable pub computes : Unit {0}
unfolding
    columns_opens
    References.references_of References.names References.is_unresolved References.parents_of References.parent_lists References.records_from References.unresolved_from References.referred_ok References.resolution_of References.referred_lengths References.input_rules References.resolve_rules References.resolve_graph
computes = tt
