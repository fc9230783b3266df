-- Document 01, "Refused for the input" and "Refused for the state": what a host is told of a refusal, in plain words.
use Rattle.std.specs.Prelude.{List, [], ◌∷◌, ℕ}
use Rattle.lists.specs.Text.{text}
use Rattle.columns.specs.declared.refusal.Refusal.{Refusal}
use Rattle.columns.specs.declared.refusal.Refusal.TheVariants.{SubjectLength, EdgeEntries, NumberRange, ParentNotEarlier, ParentTwice, UnresolvedChild, UnresolvedKind}
use Rattle.columns.specs.declared.refusal.Refusal.TheVariants.{DepthOrder, LabelCount, SeqNotRising, InboundChild, InboundParent, InboundTwice, GranuleRows, DeltaRange}
use Rattle.columns.specs.declared.refusal.Refusal.TheVariants.{RootOutside, OffsetsForm, DeltaCount, TargetSide, LabelColumns, LabelRange, CoverForm, RecordBroken}
use Rattle.columns.specs.declared.refusal.Refusal.TheVariants.{GroupOrder, SourceOrder, CoverInSome, NoSurvivor, OutOfTurn, SliceShort, OverRecords, OverNumbers}

unfoldable pub words_of : Refusal → List ℕ
words_of SubjectLength = text "the subject is not 1 to 255 bytes long"
words_of EdgeEntries = text "the edge entries are not as many as the rows, or their offsets do not rise from 0 to the number of targets"
words_of NumberRange = text "the first number and the number of rows together reach 2^64"
words_of ParentNotEarlier = text "an event names a parent that is not before it"
words_of ParentTwice = text "an event names a parent twice in one of its lists"
words_of UnresolvedChild = text "an unresolved reference is of an event that is not in this file"
words_of UnresolvedKind = text "an unresolved reference has a kind that is neither 0 nor 1, or names its parent by sequence number"
words_of DepthOrder = text "the least depth is above the greatest"
words_of LabelCount = text "the labels are not as many as the rows"
words_of SeqNotRising = text "the sequence numbers of a chain do not rise from row to row"
words_of InboundChild = text "an inbound edge comes from an event before this file's end"
words_of InboundParent = text "an inbound edge goes to an event that is not in this file, or has a kind that is neither 0 nor 1"
words_of InboundTwice = text "an inbound edge is given twice"
words_of GranuleRows = text "the granule has rows beyond those of the file"
words_of DeltaRange = text "an event and its parent or child are too far apart for a signed number of 64 bits"
words_of RootOutside = text "a state root is of a row that is not in this file"
words_of OffsetsForm = text "the offsets are not two for each row and one more, rising or level from 0 to the edge count"
words_of DeltaCount = text "the deltas are not as many as the edges"
words_of TargetSide = text "a delta leads below 0, past 2^64 - 1 or to the wrong side of its event"
words_of LabelColumns = text "the label columns that were read are not as long as the rows are many"
words_of LabelRange = text "a label is above 2^32 - 1"
words_of CoverForm = text "the cover's chains or links are out of order, or its link columns are not equally long"
words_of RecordBroken = text "a record of the archive is broken: its length, version, kind, order, or something that it holds"
words_of GroupOrder = text "there is no file, or this file's group is neither that of the file before it nor the next one"
words_of SourceOrder = text "this file belongs to another room, or does not start where the one before it ended"
words_of CoverInSome = text "some files of a group have a chain cover and some have none"
words_of NoSurvivor = text "every event of a group is erased"
words_of OutOfTurn = text "this call is out of turn: files are taken first, then resolved once, then written"
words_of SliceShort = text "a slice that was lent is too short, or what the listing reads is too long"
words_of OverRecords = text "there are more than 1,024 events, roots, unresolved references, ranges or links, or more than 16 groups"
words_of OverNumbers = text "there are more than 4,096 numbers in a column, in one set of all files, or in all new lists together"

-- the words of each number from 0 to 43; a number that is no refusal's has none
unfoldable pub table : List (List ℕ)
table =
    [] ∷
    words_of SubjectLength ∷
    words_of EdgeEntries ∷
    words_of NumberRange ∷
    words_of ParentNotEarlier ∷
    words_of ParentTwice ∷
    words_of UnresolvedChild ∷
    words_of UnresolvedKind ∷
    words_of DepthOrder ∷
    words_of LabelCount ∷
    words_of SeqNotRising ∷
    words_of InboundChild ∷
    words_of InboundParent ∷
    words_of InboundTwice ∷
    words_of GranuleRows ∷
    words_of DeltaRange ∷
    words_of RootOutside ∷
    words_of OffsetsForm ∷
    words_of DeltaCount ∷
    words_of TargetSide ∷
    words_of LabelColumns ∷
    words_of LabelRange ∷
    words_of CoverForm ∷
    words_of RecordBroken ∷
    words_of GroupOrder ∷
    words_of SourceOrder ∷
    words_of CoverInSome ∷
    words_of NoSurvivor ∷
    [] ∷ [] ∷ [] ∷ [] ∷ [] ∷ [] ∷ [] ∷ [] ∷ [] ∷ [] ∷ [] ∷ [] ∷
    words_of OutOfTurn ∷
    words_of SliceShort ∷
    words_of OverRecords ∷
    words_of OverNumbers ∷
    []
