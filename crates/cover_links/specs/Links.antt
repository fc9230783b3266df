-- Links as records, their columns, and a list written over the start of another.
use Rattle.std.specs.Prelude.{List, [], ◌∷◌, ◌++◌, ℕ, zero, suc, min, length, drop, get_or}
use Rattle.cover.specs.Chains as chains
use Rattle.cover_links.specs.declared.Link.{Link}

-- the link that stands past the end of a list: of zeros
abbrev pub none : Link
none = record { from_chain = 0; from_seq = 0; to_chain = 0; to_seq = 0 }

-- the link of the definitions that a record means
abbrev pub meant : Link → chains.Link
meant l = record { from_chain = l.from_chain; from_seq = l.from_seq; to_chain = l.to_chain; to_seq = l.to_seq }

-- a link's four numbers
abbrev pub from_chain_of : Link → ℕ
from_chain_of l = l.from_chain

abbrev pub from_seq_of : Link → ℕ
from_seq_of l = l.from_seq

abbrev pub to_chain_of : Link → ℕ
to_chain_of l = l.to_chain

abbrev pub to_seq_of : Link → ℕ
to_seq_of l = l.to_seq

-- a list with another written from its start on; what lies past it stays
unfoldable pub over : {X : Type 0} → List X → List X → List X
over xs old = xs ++ drop (length xs) old

-- the link at a place of four columns
abbrev pub link_in : List ℕ → List ℕ → List ℕ → List ℕ → ℕ → Link
link_in a b c d i = record { from_chain = get_or a i 0; from_seq = get_or b i 0; to_chain = get_or c i 0; to_seq = get_or d i 0 }

-- the places below n, rising
unfoldable pub places : ℕ → List ℕ
places zero = []
places (suc n) = places n ++ (n ∷ [])

-- the least of five numbers
unfoldable pub least : ℕ → ℕ → ℕ → ℕ → ℕ → ℕ
least a b c d e = min (min (min (min a b) c) d) e

-- how many links five slices carry: as many as the shortest
abbrev pub carried : {X : Type 0} → List X → List ℕ → List ℕ → List ℕ → List ℕ → ℕ
carried ls a b c d = least (length ls) (length a) (length b) (length c) (length d)
