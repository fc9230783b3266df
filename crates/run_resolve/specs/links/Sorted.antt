-- Document 01, "Cleaning": what columns of links hold when the links of a group are sorted and put behind those of the groups before.
use Rattle.std.specs.Prelude.{◌≡◌, List, map, ℕ, ◌+◌, length, take}
use Rattle.std.proofs.Math.Seq.{slice}
use Rattle.cover.specs.Chains.{Link, sort_links}

-- a column before and after: the first entries as they were, m entries behind them
pub record Appended (end m : ℕ) (was is vs : List ℕ) : Type 0 where
  pub kept : take end is ≡ take end was
  pub added : slice end (end + m) is ≡ vs

-- four columns before and after: behind the first entries stand links sorted, repeats dropped
pub record SortedBehind (ls : List Link) (end m : ℕ) (x y z w x' y' z' w' : List ℕ) : Type 0 where
  pub count : m ≡ length (sort_links ls)
  pub from_chains : Appended end m x x' (map (λ l. l.from_chain) (sort_links ls))
  pub from_seqs : Appended end m y y' (map (λ l. l.from_seq) (sort_links ls))
  pub to_chains : Appended end m z z' (map (λ l. l.to_chain) (sort_links ls))
  pub to_seqs : Appended end m w w' (map (λ l. l.to_seq) (sort_links ls))
