-- Survivors that were laid as tables out of columns: what is stored in fewer than 8 bytes has no more.
use mathlib.Core.List.{List}
use Prim.Native.Nat.{ℕ, ◌≤◌}
use lib.ListN.{length}
use Rattle.run_state.specs.declared.Sheet.{Sheet}
use Rattle.run_section.specs.Laid.{SheetLaid, counts_of}
use Rattle.run_records.specs.Files.{Stores}

pub laid-stores : (s : Sheet) (rows unresolved roots links ranges : List ℕ) → SheetLaid s rows unresolved roots links → 3072 ≤ length ranges
    → Stores (counts_of s) rows unresolved links ranges
laid-stores s rows unresolved roots links ranges t there = record {
  chains = t.rows_laid.chain.narrow;
  seqs = t.rows_laid.seq.narrow;
  kinds = t.unresolved_laid.kind.narrow;
  handles = t.unresolved_laid.handle.narrow;
  from_chains = t.links_laid.from_chain.narrow;
  from_seqs = t.links_laid.from_seq.narrow;
  to_chains = t.links_laid.to_chain.narrow;
  to_seqs = t.links_laid.to_seq.narrow;
  ranges_there = there;
}
