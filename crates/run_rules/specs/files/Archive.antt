-- Document 01, the order of an archive's rules: file after file, over an archive's bytes.
use Rattle.std.specs.Prelude.{Bool, List, ℕ, ◌≤◌, take, Err, Ok, Result}
use Rattle.std.proofs.Math.Option.{Option, none, some}
use Rattle.columns.specs.Limits.{kinds, max_records, max_numbers}
use Rattle.columns.specs.declared.refusal.Refusal.{Refusal}
use Rattle.archive.specs.File.{File}
use Rattle.archive.specs.Reader.{Parsed, broken, got}
use Rattle.archive_read.specs.declared.files.Totals.{Totals}
use Rattle.cleaning.specs.Source.{Source}
use Rattle.cleaning.specs.Held.{ending}
use Rattle.cleaning.specs.Taking.{files_rules}
use Rattle.run_rules.specs.parts.Back.{back_of}
use Rattle.run_rules.specs.declared.files.all.Seen.{Seen}

-- the rules of the files that bytes hold; what is no archive is refused before
unfoldable pub rules_of : Option Source → Parsed (List File) → Option Refusal
rules_of before broken = none
rules_of before (got fs end) = files_rules kinds before fs

-- an archive whose sums are within the limits that columns are loaded by
abbrev pub Within : Result Totals Refusal → Type 0
Within (Err r) = ⊥
Within (Ok t) =
    (t.events ≤ max_records) × (t.ranges ≤ max_records) × (t.links ≤ max_records) × (t.forward ≤ max_numbers) × (t.reverse ≤ max_numbers) × (t.inbound ≤ max_numbers)

-- what was seen: a source that ends where the rows end, or nothing
unfoldable pub seen_of : Seen → Option Source
seen_of s = back_of s.back (take s.length s.subject)

-- a source that ends at a number, as what the next file looks back at
abbrev pub ends_with : ℕ → List ℕ → ℕ → Bool → Option Source
ends_with group subject end covered = some (ending group subject end covered)
