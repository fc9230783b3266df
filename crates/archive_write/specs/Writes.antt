-- Document 01, "Refused for the state", "Order" and "Archive records", and document 02, L1: what a call that writes one record answers, and what the lent bytes hold after it.
use Rattle.std.specs.Prelude.{Bool, not, ◌&&◌, List, [], ◌∷◌, ℕ, ◌+◌, ◌-◌, ◌/◌, eqb, ltb, leb, length, Err, Ok, Result}
use Rattle.std.proofs.Math.Option.{Option, none, some}
use Rattle.lists.specs.Lists.{all}
use Rattle.lists.specs.Order.{rising, not_falling}
use Rattle.columns.specs.Limits.{kinds, max_subject}
use Rattle.columns.specs.EdgeSet.{from_to}
use Rattle.columns.specs.Refusal.{refuse, first_of, limits}
use Rattle.columns.specs.declared.refusal.Refusal.{Refusal}
use Rattle.columns.specs.declared.refusal.Refusal.TheVariants.{SubjectLength, CoverForm, RecordBroken, SliceShort}
use Rattle.archive.specs.File.{Reference, any_reference}
use Rattle.archive.specs.Parse.{references_ok}
use Rattle.archive_store.specs.Lent.{cited_from}
use Rattle.archive_store.specs.records.Sizes.{head_size, sets_size, rows_size, unresolved_size, roots_size, cover_body, references_size}
use Rattle.archive_store.specs.sizes.FileSize.{offsets_of}

-- ── rules ────────────────────────────────────────────────────────────────────────────────────

-- 42 and 43 of what is lent; then x, unless the record would be read back; last 41, where fewer than n bytes are left from the place on
unfoldable pub write_rules : List ℕ → List ℕ → Refusal → Bool → ℕ → ℕ → ℕ → Option Refusal
write_rules records columns x ok len at n = first_of (limits records columns [] ∷ refuse x (not ok) ∷ refuse SliceShort (ltb len (at + n)) ∷ [])

-- columns of a record are equal in number
unfoldable pub even3 : ℕ → ℕ → ℕ → Bool
even3 a b c = eqb b a && eqb c a

-- 1: a subject of 1 to 255 bytes
unfoldable pub subject_fits : ℕ → Bool
subject_fits n = ltb 0 n && leb n max_subject

abbrev pub head_rules : ℕ → ℕ → ℕ → ℕ → Option Refusal
head_rules rows subject len at = write_rules (rows ∷ []) [] SubjectLength (subject_fits subject) len at (head_size subject)

-- 2: the rows that a set of so many offsets is of
abbrev pub rows_of : ℕ → ℕ
rows_of offsets = offsets / kinds

-- a record's three sets are of the same rows, with as many offsets as a set of that many rows has
unfoldable pub whole_sets : ℕ → ℕ → ℕ → Bool
whole_sets fo ro io = eqb fo (offsets_of (rows_of fo)) && even3 fo ro io

abbrev pub edges_rules : ℕ → ℕ → ℕ → ℕ → ℕ → ℕ → ℕ → ℕ → Option Refusal
edges_rules fo fd ro rd io id len at =
    write_rules (rows_of fo ∷ rows_of ro ∷ rows_of io ∷ []) (fo ∷ fd ∷ ro ∷ rd ∷ io ∷ id ∷ []) RecordBroken (whole_sets fo ro io) len at
    (6 + sets_size fo fd ro rd io id)

-- 3
abbrev pub rows_rules : ℕ → ℕ → ℕ → ℕ → Option Refusal
rows_rules flags tags len at = write_rules (flags ∷ tags ∷ []) [] RecordBroken (eqb flags tags) len at (rows_size tags)

-- 4: children do not fall
unfoldable pub whole_unresolved : List ℕ → ℕ → ℕ → Bool
whole_unresolved children kinds handles = even3 (length children) kinds handles && not_falling children

abbrev pub unresolved_rules : List ℕ → ℕ → ℕ → ℕ → ℕ → Option Refusal
unresolved_rules children kinds handles len at =
    write_rules (length children ∷ kinds ∷ handles ∷ []) [] RecordBroken (whole_unresolved children kinds handles) len at
    (unresolved_size (length children))

-- 5: rows rise
unfoldable pub whole_roots : List ℕ → ℕ → Bool
whole_roots rows handles = eqb handles (length rows) && rising rows

abbrev pub roots_rules : List ℕ → ℕ → ℕ → ℕ → Option Refusal
roots_rules rows handles len at = write_rules (length rows ∷ handles ∷ []) [] RecordBroken (whole_roots rows handles) len at (roots_size (length rows))

-- 6
unfoldable pub even_cover : ℕ → ℕ → ℕ → ℕ → ℕ → ℕ → ℕ → ℕ → ℕ → Bool
even_cover chains seqs ids minima maxima a b c d = eqb seqs chains && (even3 ids minima maxima && (eqb b a && even3 a c d))

abbrev pub cover_rules : ℕ → ℕ → ℕ → ℕ → ℕ → ℕ → ℕ → ℕ → ℕ → ℕ → ℕ → Option Refusal
cover_rules chains seqs ids minima maxima a b c d len at =
    write_rules (chains ∷ seqs ∷ ids ∷ minima ∷ maxima ∷ a ∷ b ∷ c ∷ d ∷ []) [] CoverForm (even_cover chains seqs ids minima maxima a b c d) len at
    (6 + cover_body chains seqs ids a b c d)

-- 7: the rows that so many offsets are of; there is an offset more than rows
abbrev pub citing_rows : ℕ → ℕ
citing_rows offsets = offsets - 1

-- what is refused in reading is not written: a record of none, and a row that breaks a rule
unfoldable pub cited_ok : List (List Reference) → Bool
cited_ok rss = any_reference rss && all references_ok rss

-- offsets rise or stay level from 0 to the number of references
unfoldable pub whole_references : List ℕ → List ℕ → List ℕ → List ℕ → Bool
whole_references offsets kinds spaces targets =
    even3 (length kinds) (length spaces) (length targets) && (from_to 0 (length kinds) offsets && cited_ok (cited_from offsets kinds spaces targets))

abbrev pub references_rules : List ℕ → List ℕ → List ℕ → List ℕ → ℕ → ℕ → Option Refusal
references_rules offsets kinds spaces targets len at =
    write_rules (citing_rows (length offsets) ∷ []) (length kinds ∷ length spaces ∷ length targets ∷ []) RecordBroken
    (whole_references offsets kinds spaces targets) len at (references_size (citing_rows (length offsets)) (length kinds))

-- ── answers ──────────────────────────────────────────────────────────────────────────────────

-- the refusal, or the place after the record
unfoldable pub wrote : Option Refusal → ℕ → Result ℕ Refusal
wrote none end = Ok end
wrote (some r) end = Err r
