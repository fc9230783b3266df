-- What records mean stays the same in columns: the links of the columns that records are taken apart into, and the record that stands at a place.
use mathlib.Core.Path.{◌≡◌, refl, ap}
use mathlib.Core.List.{List, [], ◌∷◌, map}
use Prim.Native.Nat.{ℕ}
use Rattle.cover.specs.Cover.{links_of}
use Rattle.cover.specs.Places.{row_at}
use Rattle.cover_links.specs.Links.{meant, from_chain_of, from_seq_of, to_chain_of, to_seq_of, link_in}
use Rattle.cover_links.specs.declared.Link.{Link}

pub columns-mean : (ls : List Link) → links_of (map from_chain_of ls) (map from_seq_of ls) (map to_chain_of ls) (map to_seq_of ls) ≡ map meant ls
unfolding links_of
columns-mean [] = refl
columns-mean (l ∷ ls) = ap (λ ks. meant l ∷ ks) (columns-mean ls)

pub record-means : (a b c d : List ℕ) (i : ℕ) → meant (link_in a b c d i) ≡ row_at a b c d i
unfolding row_at
record-means a b c d i = refl
