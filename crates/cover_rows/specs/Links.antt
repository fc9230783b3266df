-- The links that four columns hold.
use Rattle.std.specs.Prelude.{List, ℕ}
use Rattle.cover.specs.Chains.{Link}
use Rattle.cover.specs.Cover.{links_of}
use Rattle.cover.specs.Places.{row_at}
use Rattle.cover_rows.specs.declared.Links.{Links}

-- all of them
abbrev pub links_in : Links → List Link
links_in l = links_of l.from_chains.now l.from_seqs.now l.to_chains.now l.to_seqs.now

-- the one at a place
abbrev pub link_at : Links → ℕ → Link
link_at l i = row_at l.from_chains.now l.from_seqs.now l.to_chains.now l.to_seqs.now i
