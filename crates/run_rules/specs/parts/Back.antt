-- Document 01, the order of an archive's rules: the rules of one file in the groups in which they are tested, each over the part of the file that it reads.
use Rattle.std.specs.Prelude.{Bool, cond, not, ◌&&◌, ◌||◌, List, [], ◌∷◌, ℕ, ◌+◌, ◌*◌, ltb, leb, eqb}
use Rattle.std.specs.Bool.{beq}
use Rattle.std.proofs.Math.Option.{Option, none, some}
use Rattle.lists.specs.Lists.{all, same}
use Rattle.columns.specs.Limits.{kinds}
use Rattle.columns.specs.Refusal.{refuse, first_of, first_in}
use Rattle.columns.specs.EdgeSet.{EdgeSet, forward, reverse, inbound}
use Rattle.columns.specs.Reading.{set_rules}
use Rattle.columns.specs.Building.{Depth, subject_ok, numbers_ok, depth_ok, in_file}
use Rattle.columns.specs.declared.refusal.Refusal.{Refusal}
use Rattle.columns.specs.declared.refusal.Refusal.TheVariants.{SubjectLength, NumberRange, UnresolvedChild, UnresolvedKind, DepthOrder, RootOutside, GroupOrder, SourceOrder, CoverInSome}
use Rattle.cover.specs.Chains.{Range}
use Rattle.cover.specs.Cover.{LinkColumns}
use Rattle.archive_bytes.specs.Bytes.{column}
use Rattle.archive.specs.File.{Unresolved, Root}
use Rattle.archive_read.specs.declared.bodies.CoverAt.{CoverAt}
use Rattle.cleaning.specs.Source.{Source, end_of, is_there}
use Rattle.cleaning.specs.Held.{ending}
use Rattle.run_rules.specs.declared.parts.heads.Back.{Back}

-- what a file looks back at: nothing, or a source that ends where the rows before it end
unfoldable pub back_of : Back → List ℕ → Option Source
back_of b subject = cond b.known (some (ending b.group subject b.end b.covered)) none

-- 1, 3, 8
unfoldable pub own_rules : List ℕ → ℕ → ℕ → Option Depth → Option Refusal
own_rules subject first rows depth =
    first_of (refuse SubjectLength (not (subject_ok subject)) ∷ refuse NumberRange (not (numbers_ok first rows)) ∷ refuse DepthOrder (not (depth_ok depth)) ∷ [])

-- a group number is the last one or one more
unfoldable pub groups_near : ℕ → ℕ → Bool
groups_near group last = eqb group last || eqb group (last + 1)

-- 24, 25, 26
abbrev pub back_rules : Option Source → ℕ → List ℕ → ℕ → Bool → Option Refusal
back_rules none group subject first covered = refuse GroupOrder (not (eqb group 0))
back_rules (some s) group subject first covered =
    first_of (refuse GroupOrder (not (groups_near group s.group))
    ∷ refuse SourceOrder (not (same subject s.subject && eqb first (end_of s)))
    ∷ refuse CoverInSome (not (not (eqb group s.group) || beq covered (is_there s.cover)))
    ∷ [])

-- 16 of a root
unfoldable pub in_rows : ℕ → Root → Bool
in_rows rows r = ltb r.row rows

-- 6 and 7 of an unresolved record
unfoldable pub child_rule : ℕ → ℕ → ℕ → ℕ → Option Refusal
child_rule first end child kind =
    first_of (refuse UnresolvedChild (not (in_file first end child)) ∷ refuse UnresolvedKind (not (ltb kind kinds)) ∷ [])

unfoldable pub record_rule : ℕ → ℕ → Unresolved → Option Refusal
record_rule first end u = child_rule first end u.child u.kind

-- 16, then 6 and 7 record by record
unfoldable pub records_rules : ℕ → ℕ → ℕ → List Root → List Unresolved → Option Refusal
records_rules first rows end roots us = first_of (refuse RootOutside (not (all (in_rows rows) roots)) ∷ first_in (record_rule first end) us ∷ [])

-- 17 to 19 of the reverse and of the inbound set
unfoldable pub later_rules : ℕ → ℕ → ℕ → EdgeSet → EdgeSet → Option Refusal
later_rules first rows end r i = first_of (set_rules kinds reverse first rows end r ∷ set_rules kinds inbound first rows end i ∷ [])

-- 17 to 19, set by set
unfoldable pub sets_rules : ℕ → ℕ → ℕ → EdgeSet → EdgeSet → EdgeSet → Option Refusal
sets_rules first rows end f r i = first_of (set_rules kinds forward first rows end f ∷ later_rules first rows end r i ∷ [])

-- a range's minimum is not above its maximum
unfoldable pub in_order : Range → Bool
in_order r = leb r.least r.greatest

-- the four columns of k links from place p on
unfoldable pub links_at : List ℕ → ℕ → ℕ → LinkColumns
links_at b p k = record {
  from_chains = column 4 k b p;
  from_seqs = column 4 k b (p + k * 4);
  to_chains = column 4 k b (p + k * 4 + k * 4);
  to_seqs = column 4 k b (p + k * 4 + k * 4 + k * 4);
}

-- a cover of so many ranges and links
abbrev pub sized : ℕ → ℕ → CoverAt
sized m k = record { ranges = m; links = k }
