-- The cover over lent columns: ranges come as three columns and links as four, and each verdict is an answer and the columns that it writes.
use Rattle.std.specs.Prelude.{Bool, ◌&&◌, not, List, [], ◌∷◌, ◌++◌, map, ℕ, eqb, length, drop, Err, Ok, Result}
use Rattle.std.proofs.Math.Option.{Option}
use Rattle.lists.specs.Lists.{any}
use Rattle.columns.specs.Limits.{records_room}
use Rattle.columns.specs.Refusal.{Verdict, refused, accepted, unless, refuse, first_of, Lent, limits}
use Rattle.columns.specs.declared.refusal.Refusal.{Refusal}
use Rattle.columns.specs.declared.refusal.Refusal.TheVariants.{CoverForm}
use Rattle.cover.specs.Chains.{Range, Link}
use Rattle.cover.specs.Cover.{LinkColumns, Cover, ranges_ok, link_rules, stored_links}
use Rattle.cover.specs.Questions.{meets}

-- ── lent columns ─────────────────────────────────────────────────────────────────────────────

-- one link, and four columns of links
abbrev pub link : ℕ → ℕ → ℕ → ℕ → Link
link a b c d = record { from_chain = a; from_seq = b; to_chain = c; to_seq = d }

abbrev pub link_columns : List ℕ → List ℕ → List ℕ → List ℕ → LinkColumns
link_columns a b c d = record { from_chains = a; from_seqs = b; to_chains = c; to_seqs = d }

-- ranges as three columns
pub record RangeColumns : Type 0 where
  pub ids : List ℕ
  pub minima : List ℕ
  pub maxima : List ℕ

abbrev pub range_columns : List ℕ → List ℕ → List ℕ → RangeColumns
range_columns a b c = record { ids = a; minima = b; maxima = c }

abbrev pub range : ℕ → ℕ → ℕ → Range
range i l g = record { chain = i; least = l; greatest = g }

-- the ranges that three columns hold, place by place
unfoldable pub ranges_in : List ℕ → List ℕ → List ℕ → List Range
ranges_in [] ls gs = []
ranges_in (i ∷ is) [] gs = []
ranges_in (i ∷ is) (l ∷ ls) [] = []
ranges_in (i ∷ is) (l ∷ ls) (g ∷ gs) = range i l g ∷ ranges_in is ls gs

-- the ranges of lent columns
abbrev pub lent_ranges : RangeColumns → List Range
lent_ranges r = ranges_in r.ids r.minima r.maxima

-- range columns are equal in number
unfoldable pub even_ranges : RangeColumns → Bool
even_ranges r = eqb (length r.minima) (length r.ids) && eqb (length r.maxima) (length r.ids)

-- 22 of range columns: equal in number, and ranges in form
unfoldable pub ranges_fit : RangeColumns → Bool
ranges_fit r = even_ranges r && ranges_ok (lent_ranges r)

unfoldable pub column_rules : RangeColumns → Option Refusal
column_rules r = refuse CoverForm (not (ranges_fit r))

-- how long the columns are
abbrev pub range_lengths : RangeColumns → List ℕ
range_lengths r = length r.ids ∷ length r.minima ∷ length r.maxima ∷ []

abbrev pub link_lengths : LinkColumns → List ℕ
link_lengths c = length c.from_chains ∷ length c.from_seqs ∷ length c.to_chains ∷ length c.to_seqs ∷ []

-- slices lent for records, each of this length
unfoldable pub for_records : List ℕ → List Lent
for_records ns = map (λ n. record { has = n; needs = records_room }) ns

-- ── calls over lent columns ──────────────────────────────────────────────────────────────────

-- `mayHoldChain` over three lent columns
unfoldable pub may_hold_lent : RangeColumns → ℕ → ℕ → ℕ → Verdict Bool
may_hold_lent r chain low high = unless (first_of (limits (range_lengths r) [] [] ∷ column_rules r ∷ [])) (any (meets chain low high) (lent_ranges r))

-- `readCover` over three lent columns and four
unfoldable pub read_lent : RangeColumns → LinkColumns → List Lent → Verdict Cover
read_lent r c lent =
    unless (first_of (limits (range_lengths r ++ link_lengths c) [] lent ∷ column_rules r ∷ link_rules c ∷ [])) (record { ranges = lent_ranges r; links = stored_links c })

-- ── answers ──────────────────────────────────────────────────────────────────────────────────

-- the window question's answer
unfoldable pub window_answer : Verdict Bool → Result Bool Refusal
window_answer (refused r) = Err r
window_answer (accepted b) = Ok b

-- the answer of a call that writes records: how many
unfoldable pub counted : {A B : Type 0} → (A → List B) → Verdict A → Result ℕ Refusal
counted records (refused r) = Err r
counted records (accepted a) = Ok (length (records a))

-- ── what is written ──────────────────────────────────────────────────────────────────────────

-- a column with numbers stored from its start on; what lies past them stays
unfoldable pub over : List ℕ → List ℕ → List ℕ
over xs old = xs ++ drop (length xs) old

-- four columns with links stored so
unfoldable pub links_over : List Link → LinkColumns → LinkColumns
links_over ls c = record {
  from_chains = over (map (λ l. l.from_chain) ls) c.from_chains;
  from_seqs = over (map (λ l. l.from_seq) ls) c.from_seqs;
  to_chains = over (map (λ l. l.to_chain) ls) c.to_chains;
  to_seqs = over (map (λ l. l.to_seq) ls) c.to_seqs;
}

-- link columns after a call: the links that it answers, or as they were
unfoldable pub links_after : {A : Type 0} → (A → List Link) → Verdict A → LinkColumns → LinkColumns
links_after links (refused r) c = c
links_after links (accepted a) c = links_over (links a) c

-- four columns with other columns stored in them, and after a call that answers columns
unfoldable pub columns_over : LinkColumns → LinkColumns → LinkColumns
columns_over k c = record {
  from_chains = over k.from_chains c.from_chains;
  from_seqs = over k.from_seqs c.from_seqs;
  to_chains = over k.to_chains c.to_chains;
  to_seqs = over k.to_seqs c.to_seqs;
}

unfoldable pub columns_after : Verdict LinkColumns → LinkColumns → LinkColumns
columns_after (refused r) c = c
columns_after (accepted k) c = columns_over k c
