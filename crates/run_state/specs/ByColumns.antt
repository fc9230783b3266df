-- The parts of what a run holds, each out of its count and its columns.
use Rattle.std.specs.Prelude.{List, ℕ}
use Rattle.run_state.specs.declared.Rows.{Rows}
use Rattle.run_state.specs.declared.Edges.{Edges}
use Rattle.run_state.specs.declared.Unresolved.{Unresolved}
use Rattle.run_state.specs.declared.Roots.{Roots}
use Rattle.run_state.specs.declared.Links.{Links}

abbrev pub rows_of : ℕ → List ℕ → List ℕ → List ℕ → List ℕ → Rows
rows_of c groups tags chains seqs = record { count = c; groups = groups; tags = tags; chains = chains; seqs = seqs }

abbrev pub edges_of : ℕ → List ℕ → List ℕ → Edges
edges_of c offsets targets = record { count = c; offsets = offsets; targets = targets }

abbrev pub unresolved_of : ℕ → List ℕ → List ℕ → List ℕ → Unresolved
unresolved_of c children kinds handles = record { count = c; children = children; kinds = kinds; handles = handles }

abbrev pub roots_of : ℕ → List ℕ → List ℕ → Roots
roots_of c rows handles = record { count = c; rows = rows; handles = handles }

abbrev pub links_of : ℕ → List ℕ → List ℕ → List ℕ → List ℕ → List ℕ → Links
links_of c groups chains seqs to_chains to_seqs =
    record { count = c; groups = groups; from = record { chains = chains; seqs = seqs }; to = record { chains = to_chains; seqs = to_seqs } }
