-- Links as records: what a call over them answers and leaves, told of the links that they mean.
use Rattle.std.specs.Prelude.{cond, List, [], ◌∷◌, ℕ, ltb, length, take}
use Rattle.columns.specs.Limits.{max_records}
use Rattle.columns.specs.Refusal.{Verdict, refused, accepted, unless, first_of, limits}
use Rattle.columns.specs.declared.refusal.Refusal.TheVariants.{OverRecords}
use Rattle.cover.specs.Chains.{Link, sort_links}
use Rattle.cover.specs.Cover.{LinkColumns, links_of, columns_of}
use Rattle.cover.specs.Questions.{chain_links}
use Rattle.cover.specs.Answers.{for_records}
use Rattle.cover_links.specs.Links.{over}

-- links in any order sorted, repeats dropped: more than 1,024 are refused, as where a cover is built of them
unfoldable pub sort_lent : List Link → Verdict (List Link)
sort_lent ls = unless (first_of (limits (length ls ∷ []) [] [] ∷ [])) (sort_links ls)

-- the links question over links and not their stored columns: one slice is lent for the answer
unfoldable pub chain_lent : List Link → List ℕ → ℕ → Verdict (List Link)
chain_lent ls chains room = chain_links (columns_of ls) chains (for_records (room ∷ []))

-- the stored columns of links, for lent columns of these lengths
unfoldable pub store_lent : List Link → List ℕ → Verdict LinkColumns
store_lent ls rooms = unless (first_of (limits (length ls ∷ []) [] (for_records rooms) ∷ [])) (columns_of ls)

-- lent links after a call: those that it answers from the start on, or as they were
unfoldable pub records_after : Verdict (List Link) → List Link → List Link
records_after (refused r) old = old
records_after (accepted ls) old = over ls old

-- ── links that were taken apart ──────────────────────────────────────────────────────────────

-- the first n links of four columns
abbrev pub first_links : ℕ → LinkColumns → List Link
first_links n c = links_of (take n c.from_chains) (take n c.from_seqs) (take n c.to_chains) (take n c.to_seqs)

-- the verdict over links of which n were given: columns hold no more than 1,024 of them
unfoldable pub given : {A : Type 0} → ℕ → Verdict A → Verdict A
given n v = cond (ltb max_records n) (refused OverRecords) v
