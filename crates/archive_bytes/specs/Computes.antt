-- One name that opens every definition of this crate and of those below it, for whoever computes with them: `unfolding computes`.
use Rattle.archive_bytes.specs.After
use Rattle.archive_bytes.specs.Bytes
use Rattle.columns.specs.Computes.{computes as columns_opens}

unfoldable pub computes : Unit {0}
unfolding
    columns_opens
    After.left
    Bytes.be Bytes.signed_of Bytes.unsigned_of Bytes.bytes_of Bytes.several
computes = tt
