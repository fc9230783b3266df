-- Document 01, "Refused for the input" and "Refused for the state": a word for each condition, its number, and the order of tests.
use Rattle.std.specs.Prelude.{Bool, true, false, List, [], ◌∷◌, ℕ, ltb}
use Rattle.std.proofs.Math.Option.{Option, none, some}
use Rattle.lists.specs.Lists.{any}
use Rattle.columns.specs.Limits.{max_records, max_numbers}
use Rattle.columns.specs.declared.refusal.Refusal.{Refusal}
use Rattle.columns.specs.declared.refusal.Refusal.TheVariants.{SubjectLength, EdgeEntries, NumberRange, ParentNotEarlier, ParentTwice, UnresolvedChild}
use Rattle.columns.specs.declared.refusal.Refusal.TheVariants.{UnresolvedKind, DepthOrder, LabelCount, SeqNotRising, InboundChild, InboundParent, InboundTwice}
use Rattle.columns.specs.declared.refusal.Refusal.TheVariants.{GranuleRows, DeltaRange, RootOutside, OffsetsForm, DeltaCount, TargetSide, LabelColumns, LabelRange}
use Rattle.columns.specs.declared.refusal.Refusal.TheVariants.{CoverForm, RecordBroken, GroupOrder, SourceOrder, CoverInSome, NoSurvivor, OutOfTurn, SliceShort}
use Rattle.columns.specs.declared.refusal.Refusal.TheVariants.{OverRecords, OverNumbers}

-- the number that document 01 gives a refusal
abbrev pub number_of : Refusal → ℕ
number_of SubjectLength = 1
number_of EdgeEntries = 2
number_of NumberRange = 3
number_of ParentNotEarlier = 4
number_of ParentTwice = 5
number_of UnresolvedChild = 6
number_of UnresolvedKind = 7
number_of DepthOrder = 8
number_of LabelCount = 9
number_of SeqNotRising = 10
number_of InboundChild = 11
number_of InboundParent = 12
number_of InboundTwice = 13
number_of GranuleRows = 14
number_of DeltaRange = 15
number_of RootOutside = 16
number_of OffsetsForm = 17
number_of DeltaCount = 18
number_of TargetSide = 19
number_of LabelColumns = 20
number_of LabelRange = 21
number_of CoverForm = 22
number_of RecordBroken = 23
number_of GroupOrder = 24
number_of SourceOrder = 25
number_of CoverInSome = 26
number_of NoSurvivor = 27
number_of OutOfTurn = 40
number_of SliceShort = 41
number_of OverRecords = 42
number_of OverNumbers = 43

-- ── an answer ────────────────────────────────────────────────────────────────────────────────

-- what a call answers: its refusal alone, or a value
pub data Verdict (A : Type 0) : Type 0 where
  refused : Refusal → Verdict A
  accepted : A → Verdict A

-- the value, unless something refuses it
unfoldable pub unless : {A : Type 0} → Option Refusal → A → Verdict A
unless none a = accepted a
unless (some r) a = refused r

-- ── tests in order ───────────────────────────────────────────────────────────────────────────

-- a test: the refusal where the condition holds
abbrev pub refuse : Refusal → Bool → Option Refusal
refuse r true = some r
refuse r false = none

-- the first broken rule of several, in the order in which they stand
unfoldable pub first_of : List (Option Refusal) → Option Refusal
first_of [] = none
first_of (none ∷ ts) = first_of ts
first_of (some r ∷ ts) = some r

-- the first broken rule of several records, each with its own rules, record after record
unfoldable pub first_in : {A : Type 0} → (A → Option Refusal) → List A → Option Refusal
first_in rules [] = none
first_in rules (x ∷ xs) = first_of (rules x ∷ first_in rules xs ∷ [])

-- ── 42, 43, 41, before a call looks at its input ─────────────────────────────────────────────

-- a slice lent for an answer or for work: the length that it has, and the length that it must have
pub record Lent : Type 0 where
  pub has : ℕ
  pub needs : ℕ

-- whether a lent slice is below its length
unfoldable pub short : Lent → Bool
short l = ltb l.has l.needs

-- the limits of a call over lent columns: how many records it is given of each sort, how long each column is, what it is lent. A column
-- counts for 43 also where the call would not read it. One call alone, `children` in Questions, tests 43 again, as the last of its rules:
-- what it answers is a column of numbers too, and two sets can hold more for one number than a column may have
unfoldable pub limits : List ℕ → List ℕ → List Lent → Option Refusal
limits records columns lent =
    first_of (refuse OverRecords (any (ltb max_records) records) ∷ refuse OverNumbers (any (ltb max_numbers) columns) ∷ refuse SliceShort (any short lent) ∷ [])
