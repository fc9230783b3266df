-- Document 01, "Chain cover": ranges and links, as values.
use Rattle.std.specs.Prelude.{Bool, true, cond, ◌&&◌, ◌||◌, ℕ, ltb, eqb}
use mathlib.Core.List.{List, [], ◌∷◌, foldl}
use Rattle.columns.specs.Reading.{Label}

-- a chain's least and greatest seq
pub record Range : Type 0 where
  pub chain : ℕ
  pub least : ℕ
  pub greatest : ℕ

-- a link from one chain's seq to another's
pub record Link : Type 0 where
  pub from_chain : ℕ
  pub from_seq : ℕ
  pub to_chain : ℕ
  pub to_seq : ℕ

-- ── ranges ───────────────────────────────────────────────────────────────────────────────────

-- the range of one label alone
abbrev pub range_of : Label → Range
range_of l = record { chain = l.chain; least = l.seq; greatest = l.seq }

-- a range made to hold one seq more
unfoldable pub widen : Range → ℕ → Range
widen r seq = record { chain = r.chain; least = cond (ltb seq r.least) seq r.least; greatest = cond (ltb r.greatest seq) seq r.greatest }

-- a label more: its chain's range widened, or a new range at its place by rising id
unfoldable pub add_label : List Range → Label → List Range
add_label [] l = range_of l ∷ []
add_label (r ∷ rs) l =
    cond (ltb r.chain l.chain) (r ∷ add_label rs l)
    (cond (eqb r.chain l.chain) (widen r l.seq ∷ rs) (range_of l ∷ (r ∷ rs)))

-- each chain's least and greatest seq, by rising chain id
unfoldable pub ranges_of : List Label → List Range
ranges_of ls = foldl add_label [] ls

-- ── links ────────────────────────────────────────────────────────────────────────────────────

-- links compare by from chain, from seq, to chain, to seq
unfoldable pub link_less : Link → Link → Bool
link_less a b =
    ltb a.from_chain b.from_chain || (eqb a.from_chain b.from_chain
    && (ltb a.from_seq b.from_seq || (eqb a.from_seq b.from_seq
    && (ltb a.to_chain b.to_chain || (eqb a.to_chain b.to_chain
    && ltb a.to_seq b.to_seq)))))

-- a link more, at its place, unless it is there
unfoldable pub add_link : List Link → Link → List Link
add_link [] l = l ∷ []
add_link (k ∷ ks) l = cond (link_less k l) (k ∷ add_link ks l) (cond (link_less l k) (l ∷ (k ∷ ks)) (k ∷ ks))

-- links sorted, repeats dropped
unfoldable pub sort_links : List Link → List Link
sort_links ls = foldl add_link [] ls

-- each link above the one before it, the first above `k`
unfoldable pub links_above : Link → List Link → Bool
links_above k [] = true
links_above k (l ∷ ls) = link_less k l && links_above l ls

-- each link above the one before it
unfoldable pub links_rise : List Link → Bool
links_rise [] = true
links_rise (l ∷ ls) = links_above l ls
