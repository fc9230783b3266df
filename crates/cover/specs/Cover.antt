-- Document 01, "Chain cover" and 22: a cover built, stored as columns, and read back.
use Rattle.std.specs.Prelude.{Bool, ◌&&◌, not, List, [], ◌∷◌, map, ℕ, ◌+◌, ◌-◌, ◌%◌, ltb, leb, eqb, length}
use Rattle.std.proofs.Math.Option.{Option}
use Rattle.lists.specs.Lists.{all}
use Rattle.lists.specs.Order.{rising}
use Rattle.columns.specs.Limits.{end32}
use Rattle.columns.specs.Refusal.{Verdict, unless, refuse, first_of, Lent, limits}
use Rattle.columns.specs.Reading.{Label, Labels, labels_of}
use Rattle.columns.specs.declared.refusal.Refusal.{Refusal}
use Rattle.columns.specs.declared.refusal.Refusal.TheVariants.{CoverForm}
use Rattle.cover.specs.Chains.{Range, Link, ranges_of, sort_links, links_rise}

-- ── columns ──────────────────────────────────────────────────────────────────────────────────

-- links as four columns
pub record LinkColumns : Type 0 where
  pub from_chains : List ℕ
  pub from_seqs : List ℕ
  pub to_chains : List ℕ
  pub to_seqs : List ℕ

-- the links that four columns hold, place by place
unfoldable pub links_of : List ℕ → List ℕ → List ℕ → List ℕ → List Link
links_of [] bs cs ds = []
links_of (a ∷ as₁) [] cs ds = []
links_of (a ∷ as₁) (b ∷ bs) [] ds = []
links_of (a ∷ as₁) (b ∷ bs) (c ∷ cs) [] = []
links_of (a ∷ as₁) (b ∷ bs) (c ∷ cs) (d ∷ ds) = record { from_chain = a; from_seq = b; to_chain = c; to_seq = d } ∷ links_of as₁ bs cs ds

-- link columns are equal in number
unfoldable pub even_columns : LinkColumns → Bool
even_columns c =
    eqb (length c.from_seqs) (length c.from_chains) && (eqb (length c.to_chains) (length c.from_chains) && eqb (length c.to_seqs) (length c.from_chains))

-- ── the difference column ────────────────────────────────────────────────────────────────────

-- b from a: the difference of two numbers of 32 bits, wrapping
unfoldable pub wrapping_less : ℕ → ℕ → ℕ
wrapping_less a b = (a + (end32 - b)) % end32

-- each number less the one before it, the first less `before`
unfoldable pub differences : ℕ → List ℕ → List ℕ
differences before [] = []
differences before (x ∷ xs) = wrapping_less x before ∷ differences x xs

-- the sums that give the numbers back, the first added to `before`
unfoldable pub sums : ℕ → List ℕ → List ℕ
sums before [] = []
sums before (d ∷ ds) = (before + d) ∷ sums (before + d) ds

-- no sum passes 2^32 − 1
unfoldable pub sums_fit : List ℕ → Bool
sums_fit ds = all (λ s. ltb s end32) (sums 0 ds)

-- the columns of links: the first holds differences from the link before, from 0
unfoldable pub columns_of : List Link → LinkColumns
columns_of ls = record {
  from_chains = differences 0 (map (λ l. l.from_chain) ls);
  from_seqs = map (λ l. l.from_seq) ls;
  to_chains = map (λ l. l.to_chain) ls;
  to_seqs = map (λ l. l.to_seq) ls;
}

-- the links that stored columns hold
unfoldable pub stored_links : LinkColumns → List Link
stored_links c = links_of (sums 0 c.from_chains) c.from_seqs c.to_chains c.to_seqs

-- ── building and reading ─────────────────────────────────────────────────────────────────────

-- a cover: its ranges and its links
pub record Cover : Type 0 where
  pub ranges : List Range
  pub links : List Link

unfoldable pub cover_of : List Label → List Link → Cover
cover_of labels links = record { ranges = ranges_of labels; links = sort_links links }

-- `ChainCover::build`, from label columns and four link columns in any order
unfoldable pub build_cover : Labels → LinkColumns → List Lent → Verdict Cover
build_cover l c lent =
    unless (first_of (limits (length l.chains ∷ length l.seqs ∷ length c.from_chains ∷ length c.from_seqs ∷ length c.to_chains ∷ length c.to_seqs ∷ []) [] lent
    ∷ refuse CoverForm (not (even_columns c)) ∷ []))
    (cover_of (labels_of l.chains l.seqs) (links_of c.from_chains c.from_seqs c.to_chains c.to_seqs))

-- `ChainCover::encode`: the stored columns of links that come as four columns, in whatever order
unfoldable pub encode : LinkColumns → List Lent → Verdict LinkColumns
encode c lent =
    unless (first_of (limits (length c.from_chains ∷ length c.from_seqs ∷ length c.to_chains ∷ length c.to_seqs ∷ []) [] lent
    ∷ refuse CoverForm (not (even_columns c)) ∷ []))
    (columns_of (links_of c.from_chains c.from_seqs c.to_chains c.to_seqs))

-- 22 of ranges: chain ids rise, no minimum is above its maximum
unfoldable pub ranges_ok : List Range → Bool
ranges_ok rs = rising (map (λ r. r.chain) rs) && all (λ r. leb r.least r.greatest) rs

-- 22 of stored links: columns equal in number, no from chain past 2^32 − 1, links rising
unfoldable pub links_ok : LinkColumns → Bool
links_ok c = even_columns c && (sums_fit c.from_chains && links_rise (stored_links c))

unfoldable pub range_rules : List Range → Option Refusal
range_rules rs = refuse CoverForm (not (ranges_ok rs))

unfoldable pub link_rules : LinkColumns → Option Refusal
link_rules c = refuse CoverForm (not (links_ok c))

-- `ChainCover::decode`
unfoldable pub read_cover : List Range → LinkColumns → List Lent → Verdict Cover
read_cover rs c lent =
    unless (first_of (limits (length rs ∷ length c.from_chains ∷ length c.from_seqs ∷ length c.to_chains ∷ length c.to_seqs ∷ []) [] lent
    ∷ range_rules rs ∷ link_rules c ∷ []))
    (record { ranges = rs; links = stored_links c })
