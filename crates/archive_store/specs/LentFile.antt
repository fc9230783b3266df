-- Document 01, "Archive records": the file that six records of lent columns are. Its rows have no references.
use Rattle.std.specs.Prelude.{ℕ, List}
use Rattle.std.proofs.Math.Option.{Option}
use Rattle.columns.specs.EdgeSet.{EdgeSet}
use Rattle.archive.specs.File.{Row, Unresolved, Root, CoverColumns, no_references, File}
use Rattle.archive_store.specs.Lent.{depth_from}
use Rattle.archive_store.specs.declared.heads.HeadOut.{HeadOut}

unfoldable pub lent_file : HeadOut → List ℕ → EdgeSet → EdgeSet → EdgeSet → List Row → List Unresolved → List Root → Option CoverColumns → File
lent_file h s forward reverse inbound rows unresolved roots cover = record {
  first = h.first;
  group = h.group;
  subject = s;
  depth = depth_from h.known h.least h.greatest;
  forward = forward;
  reverse = reverse;
  inbound = inbound;
  rows = rows;
  unresolved = unresolved;
  roots = roots;
  cover = cover;
  references = no_references rows;
}
