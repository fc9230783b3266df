-- One name that opens every definition of this crate and of those below it, for whoever computes with them: `unfolding computes`.
use Rattle.archive.specs.Encode
use Rattle.archive.specs.File
use Rattle.archive.specs.Parse
use Rattle.archive.specs.Reader
use Rattle.cover.specs.Computes.{computes as cover_opens}
use Rattle.archive_bytes.specs.Computes.{computes as archive_bytes_opens}

unfoldable pub computes : Unit {0}
unfolding
    cover_opens archive_bytes_opens
    Encode.record_bytes Encode.depth_bytes Encode.head_bytes Encode.set_bytes Encode.edges_bytes Encode.row_bytes Encode.unresolved_bytes Encode.root_bytes Encode.range_bytes Encode.links_bytes Encode.cover_bytes Encode.counted_bytes Encode.reference_bytes Encode.references_bytes Encode.file_bytes Encode.encode
    File.any_reference
    Parse.depth_flag_ok Parse.head_end Parse.head Parse.edge_set Parse.sets Parse.row_at Parse.rows Parse.unresolved_at Parse.unresolved Parse.root_at Parse.roots Parse.range_at Parse.links Parse.cover Parse.reference_at Parse.reference_ok Parse.of_kind Parse.references_ok Parse.rows_references Parse.references Parse.references_of Parse.file Parse.files Parse.parse
    Reader.◌>>=◌ Reader.table Reader.whole Reader.body Reader.record_of Reader.optionally
computes = tt
