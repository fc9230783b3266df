-- The rows of a run with those of a file more.
use Rattle.std.specs.Prelude.{List, ℕ}
use Rattle.std.proofs.Math.Option.{Option, none, some}
use Rattle.std.proofs.lemmas.List.Edits.{sets}
use Rattle.archive.specs.File.{CoverColumns, File}
use Rattle.run_state.specs.declared.Rows as columns
use Rattle.run_store.specs.parts.Grown.{rows_with}
use Rattle.run_store.specs.joined.Joined.{labels_more}

abbrev pub rows_more : columns.Rows → File → columns.Rows
rows_more r f = labels_more (rows_with r f.group f.rows) r.count f.cover

-- one column of the labels of a cover, where there is one, from a place on
unfoldable pub chains_more : List ℕ → ℕ → Option CoverColumns → List ℕ
chains_more xs at none = xs
chains_more xs at (some c) = sets xs at c.labels.chains

unfoldable pub seqs_more : List ℕ → ℕ → Option CoverColumns → List ℕ
seqs_more xs at none = xs
seqs_more xs at (some c) = sets xs at c.labels.seqs
