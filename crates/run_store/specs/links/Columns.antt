-- The columns of links as one part of what a run holds.
use Rattle.std.specs.Prelude.{◌≡◌, List, ℕ}
use Rattle.std.proofs.lemmas.List.Edits.{sets}
use Rattle.cover.specs.Cover.{sums}
use Rattle.archive.specs.File.{CoverColumns}

-- four columns with the ends of a cover's links more, after c others
pub record EndsMore (c : ℕ) (a b x y a' b' x' y' : List ℕ) (k : CoverColumns) : Type 0 where
  pub chains : a' ≡ sets a c (sums 0 k.links.from_chains)
  pub seqs : b' ≡ sets b c k.links.from_seqs
  pub to_chains : x' ≡ sets x c k.links.to_chains
  pub to_seqs : y' ≡ sets y c k.links.to_seqs
