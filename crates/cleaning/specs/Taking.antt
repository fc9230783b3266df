-- Document 01, "Refused for the state" and the order of an archive's rules: what a taking refuses, and the sources that it takes.
use Rattle.std.specs.Prelude.{Bool, true, ◌&&◌, ◌||◌, not, List, [], ◌∷◌, ◌++◌, map, ℕ, ◌+◌, ltb, eqb, length}
use Rattle.std.specs.Bool.{beq}
use Rattle.std.proofs.Math.Option.{Option, none, some}
use Rattle.lists.specs.Lists.{all, any, sum, same, once, last}
use Rattle.columns.specs.Limits.{max_records, max_groups, max_numbers, reference_kinds}
use Rattle.columns.specs.Refusal.{Verdict, refused, unless, refuse, first_of, first_in}
use Rattle.columns.specs.EdgeSet.{forward, reverse, inbound}
use Rattle.columns.specs.Reading.{set_rules}
use Rattle.columns.specs.Building.{subject_ok, numbers_ok, depth_ok, in_file}
use Rattle.columns.specs.declared.refusal.Refusal.{Refusal}
use Rattle.columns.specs.declared.refusal.Refusal.TheVariants.{SubjectLength, NumberRange, UnresolvedChild, UnresolvedKind, DepthOrder, RootOutside, GroupOrder}
use Rattle.columns.specs.declared.refusal.Refusal.TheVariants.{SourceOrder, CoverInSome, OverRecords, OverNumbers, RecordBroken}
use Rattle.cover.specs.Cover.{range_rules, link_rules}
use Rattle.archive.specs.File.{Unresolved, CoverColumns, any_reference, File}
use Rattle.archive.specs.Reader.{Parsed, broken, got}
use Rattle.cleaning.specs.Source.{Source, source_of, end_of, is_there, range_count, link_count}

-- ── 42 and 43, over the run and the whole archive ────────────────────────────────────────────

-- a figure of the run's sources and one of the archive's files, in all
unfoldable pub total : (Source → ℕ) → (File → ℕ) → List Source → List File → ℕ
total of_source of_file ss fs = sum of_source ss + sum of_file fs

-- how many different group numbers there are, as the bytes stand
unfoldable pub group_count : List Source → List File → ℕ
group_count ss fs = length (once (map (λ s. s.group) ss ++ map (λ f. f.group) fs))

abbrev pub stored_ranges : Option CoverColumns → ℕ
stored_ranges none = 0
stored_ranges (some c) = length c.ranges

abbrev pub stored_link_count : Option CoverColumns → ℕ
stored_link_count none = 0
stored_link_count (some c) = length c.links.from_chains

-- events, roots, unresolved records, ranges, links, group numbers
unfoldable pub over_records : List Source → List File → Bool
over_records ss fs =
    ltb max_records (total (λ s. length s.rows) (λ f. length f.rows) ss fs)
    || ltb max_records (total (λ s. length s.roots) (λ f. length f.roots) ss fs)
    || ltb max_records (total (λ s. length s.unresolved) (λ f. length f.unresolved) ss fs)
    || ltb max_records (total (λ s. range_count s.cover) (λ f. stored_ranges f.cover) ss fs)
    || ltb max_records (total (λ s. link_count s.cover) (λ f. stored_link_count f.cover) ss fs)
    || ltb max_groups (group_count ss fs)

-- forward, reverse and inbound deltas
unfoldable pub over_numbers : List Source → List File → Bool
over_numbers ss fs =
    ltb max_numbers (total (λ s. sum length s.forward) (λ f. length f.forward.deltas) ss fs)
    || ltb max_numbers (total (λ s. sum length s.reverse) (λ f. length f.reverse.deltas) ss fs)
    || ltb max_numbers (total (λ s. sum length s.inbound) (λ f. length f.inbound.deltas) ss fs)

-- ── looking back: 24, 25, 26 ─────────────────────────────────────────────────────────────────

-- the group number is the last one or one more; the first is 0
abbrev pub group_follows : Option Source → File → Bool
group_follows none f = eqb f.group 0
group_follows (some s) f = eqb f.group s.group || eqb f.group (s.group + 1)

-- the same subject, starting where the last source ended
abbrev pub source_follows : Option Source → File → Bool
source_follows none f = true
source_follows (some s) f = same f.subject s.subject && eqb f.first (end_of s)

-- a cover in all files of a group, or in none
abbrev pub cover_follows : Option Source → File → Bool
cover_follows none f = true
cover_follows (some s) f = not (eqb f.group s.group) || beq (is_there f.cover) (is_there s.cover)

-- ── the rules of a file ──────────────────────────────────────────────────────────────────────

abbrev pub file_end : File → ℕ
file_end f = f.first + length f.rows

-- 6 and 7 of an unresolved record
unfoldable pub unresolved_rules : File → Unresolved → Option Refusal
unresolved_rules f u =
    first_of (refuse UnresolvedChild (not (in_file f.first (file_end f) u.child)) ∷ refuse UnresolvedKind (not (ltb u.kind reference_kinds)) ∷ [])

-- 22 of a cover
abbrev pub cover_rules : Option CoverColumns → Option Refusal
cover_rules none = none
cover_rules (some c) = first_of (range_rules c.ranges ∷ link_rules c.links ∷ [])

-- 1, 3, 8, 24, 25, 26, 17 to 19 set by set, 16, 6 and 7 record by record, 22; `before` is the source taken last
unfoldable pub file_rules : (K : ℕ) → Option Source → File → Option Refusal
file_rules K before f =
    first_of (refuse SubjectLength (not (subject_ok f.subject))
    ∷ refuse NumberRange (not (numbers_ok f.first (length f.rows)))
    ∷ refuse DepthOrder (not (depth_ok f.depth))
    ∷ refuse GroupOrder (not (group_follows before f))
    ∷ refuse SourceOrder (not (source_follows before f))
    ∷ refuse CoverInSome (not (cover_follows before f))
    ∷ set_rules K forward f.first (length f.rows) (file_end f) f.forward
    ∷ set_rules K reverse f.first (length f.rows) (file_end f) f.reverse
    ∷ set_rules K inbound f.first (length f.rows) (file_end f) f.inbound
    ∷ refuse RootOutside (not (all (λ r. ltb r.row (length f.rows)) f.roots))
    ∷ first_in (unresolved_rules f) f.unresolved
    ∷ cover_rules f.cover
    ∷ [])

-- file after file, each looking back at the one before it
unfoldable pub files_rules : (K : ℕ) → Option Source → List File → Option Refusal
files_rules K before [] = none
files_rules K before (f ∷ fs) = first_of (file_rules K before f ∷ files_rules K (some (source_of K f)) fs ∷ [])

-- ── taking ───────────────────────────────────────────────────────────────────────────────────

-- whether some file has a reference. A run does not carry references yet, so it refuses an archive that has any, with 23, and loses none in silence
unfoldable pub carries : List File → Bool
carries fs = any (λ f. any_reference f.references) fs

-- 23 of references, 42, 43, then file by file; a refused taking takes nothing
unfoldable pub take_rules : (K : ℕ) → List Source → List File → Option Refusal
take_rules K ss fs =
    first_of (refuse RecordBroken (carries fs) ∷ refuse OverRecords (over_records ss fs) ∷ refuse OverNumbers (over_numbers ss fs) ∷ files_rules K (last ss) fs ∷ [])

-- the sources of an archive that a run with sources `ss` is given; 23 comes first
abbrev pub taken_from : (K : ℕ) → List Source → Parsed (List File) → Verdict (List Source)
taken_from K ss broken = refused RecordBroken
taken_from K ss (got fs end) = unless (take_rules K ss fs) (map (source_of K) fs)
