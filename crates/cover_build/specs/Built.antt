-- What building answers and writes.
use Rattle.std.specs.Prelude.{ℕ, not, List, [], ◌∷◌, length, Err, Ok, Result}
use Rattle.std.proofs.Math.Option.{Option}
use Rattle.columns.specs.Refusal.{Verdict, refused, accepted, refuse, first_of, Lent, limits}
use Rattle.columns.specs.Reading.{Labels}
use Rattle.columns.specs.declared.refusal.Refusal.{Refusal}
use Rattle.columns.specs.declared.refusal.Refusal.TheVariants.{CoverForm}
use Rattle.cover.specs.Cover.{LinkColumns, Cover, even_columns}
use Rattle.cover.specs.Answers.{RangeColumns}
use Rattle.cover_sort.specs.labels.Runs.{ranges_over}

-- the rules of `buildCover` in order
unfoldable pub build_rules : Labels → LinkColumns → List Lent → Option Refusal
build_rules l c lent =
    first_of (limits (length l.chains ∷ length l.seqs ∷ length c.from_chains ∷ length c.from_seqs ∷ length c.to_chains ∷ length c.to_seqs ∷ []) [] lent
    ∷ refuse CoverForm (not (even_columns c)) ∷ [])

-- the answer: how many ranges and how many links
unfoldable pub built_of : Verdict Cover → Result (ℕ × ℕ) Refusal
built_of (refused r) = Err r
built_of (accepted c) = Ok (length c.ranges, length c.links)

-- range columns after a build: its ranges in front, or as they were
unfoldable pub ranges_after : Verdict Cover → RangeColumns → RangeColumns
ranges_after (refused r) o = o
ranges_after (accepted c) o = ranges_over c.ranges o
