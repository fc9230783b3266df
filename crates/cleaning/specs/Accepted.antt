-- Demand 1 and 3: which archives are taken, resolved and written, so that the claim speaks of something. proofs/Written has that these are.
use Rattle.std.specs.Prelude.{Bool, true, false, ◌&&◌, List, [], ◌∷◌, ◌≡◌, ℕ, ◌≤◌, length}
use Rattle.std.proofs.Math.Option.{Option, none, some}
use Rattle.lists.specs.Lists.{Each, all, is_empty}
use Rattle.columns.specs.Limits.{max_numbers}
use Rattle.columns.specs.Reading.{Labels, labels_of}
use Rattle.columns.specs.Building.{Graph, seqs_rise, deltas_fit, granule_start, forward_part, reverse_part, inbound_part}
use Rattle.archive.specs.File.{File}
use Rattle.archive.specs.Fits.{FileFits}
use Rattle.archive.specs.Encode.{encode}
use Rattle.cleaning.specs.Taking.{over_records, over_numbers, files_rules, carries}
use Rattle.cleaning.specs.Memo.{tables}
use Rattle.cleaning.specs.Summary.{summary}
use Rattle.cleaning.specs.Resolving.{entries, groups_survive}
use Rattle.cleaning.specs.Writing.{graph_of, group_numbers}
use Rattle.cleaning.specs.Step.{takes, resolves, writes, all_of, fresh}
use Rattle.cleaning.specs.History.{archive_of_files, history, Wrote, cleaned}

abbrev pub labels_rise : Option Labels → Bool
labels_rise none = true
labels_rise (some c) = seqs_rise [] (labels_of c.chains c.seqs)

-- a group's output is not refused with 10: in each chain the survivors' seqs rise
unfoldable pub chains_rise : Graph → Bool
chains_rise g = labels_rise g.labels

-- nor with 15: every event minus target is a number of signed 64 bits
unfoldable pub spans_fit : (K : ℕ) → Graph → Bool
spans_fit K g = deltas_fit K (granule_start g) (forward_part K g) && (deltas_fit K (granule_start g) (reverse_part K g) && deltas_fit K (granule_start g) (inbound_part K g))

-- valid files without references within the limits, with a survivor in every group and neither 10 nor 15 at writing
pub record Cleanable (K : ℕ) (fs : List File) : Type 0 where
  pub fits : Each (FileFits K) fs
  pub files : is_empty fs ≡ false
  pub references : carries fs ≡ false
  pub records : over_records [] fs ≡ false
  pub numbers : over_numbers [] fs ≡ false
  pub rules : files_rules K none fs ≡ none
  pub new_lists : entries (tables K (archive_of_files K fs)) ≤ max_numbers
  pub survivors : groups_survive (archive_of_files K fs) ≡ true
  pub chains : all (λ g. chains_rise (graph_of (summary K (archive_of_files K fs)) g)) (group_numbers (summary K (archive_of_files K fs))) ≡ true
  pub spans : all (λ g. spans_fit K (graph_of (summary K (archive_of_files K fs)) g)) (group_numbers (summary K (archive_of_files K fs))) ≡ true

-- such files are taken, resolved and written, as the cleaned archive
abbrev pub Accepted : (K : ℕ) → Type 0
Accepted K = (fs : List File) → Cleanable K fs → (room : ℕ) → length (cleaned K (archive_of_files K fs)) ≤ room
    → Wrote (history K fresh (takes (encode fs) ∷ resolves ∷ writes room ∷ [])) (all_of (cleaned K (archive_of_files K fs)))

-- a cleaned archive, taken again, is written as the same bytes
abbrev pub Idempotent : (K : ℕ) → Type 0
Idempotent K = (fs : List File) → Cleanable K fs → (room : ℕ) → length (cleaned K (archive_of_files K fs)) ≤ room
    → Wrote (history K fresh (takes (cleaned K (archive_of_files K fs)) ∷ resolves ∷ writes room ∷ [])) (all_of (cleaned K (archive_of_files K fs)))
