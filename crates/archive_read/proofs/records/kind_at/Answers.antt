use Rattle.archive_read.proofs.AtRecords.{no-kind-byte}
use Rattle.archive_read.proofs.records.kind_at.Goals as goal

pub returns-then-bytes-p-le5 : goal.returns-then-bytes-p-le5
returns-then-bytes-p-le5 c = search no-kind-byte
