-- Document 01, the worked run: the listing of a resolved run into lent bytes. It is refused as writing the archive is, so that nothing is listed of an
-- archive that can't be written; and by 41 where fewer bytes are lent than a listing of so many rows and edges may take.
use Rattle.std.specs.Prelude.{List, [], ◌∷◌, ℕ, ◌+◌, ◌*◌, ltb, length}
use Rattle.lists.specs.Lists.{sum}
use Rattle.columns.specs.Refusal.{Verdict, unless, refuse, first_of}
use Rattle.columns.specs.declared.refusal.Refusal.TheVariants.{SliceShort}
use Rattle.archive.specs.File.{File}
use Rattle.cleaning.specs.Archive.{Archive}
use Rattle.cleaning.specs.Summary.{Summary}
use Rattle.cleaning.specs.Writing.{outputs, write_rules}
use Rattle.cleaning.specs.Lines.{listing_text}

-- ── the bytes that it takes at most, where a number of 64 bits has 20 characters ─────────────

-- the lines of a file of so many rows and deltas
abbrev pub file_size : ℕ → ℕ → ℕ
file_size rows deltas = 224 + 126 * rows + 21 * deltas

-- the deltas of a file's three sets
abbrev pub deltas_of : File → ℕ
deltas_of f = length f.forward.deltas + (length f.reverse.deltas + length f.inbound.deltas)

unfoldable pub file_need : File → ℕ
file_need f = file_size (length f.rows) (deltas_of f)

-- of all output files
unfoldable pub files_need : List File → ℕ
files_need fs = sum file_need fs

-- and with them a line for each event, and the last one
unfoldable pub listing_need : Archive → List File → ℕ
listing_need A fs = 46 * length A.events + (files_need fs + 32)

-- ── the listing ──────────────────────────────────────────────────────────────────────────────

-- building's rules, then 41; otherwise the text
unfoldable pub listed : (K : ℕ) → ℕ → Archive → Summary → Verdict (List ℕ)
listed K room A S =
    unless (first_of (write_rules K S ∷ refuse SliceShort (ltb room (listing_need A (outputs K S))) ∷ [])) (listing_text A (outputs K S))
