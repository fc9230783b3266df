-- Document 01, the worked run: what the listing program prints, and a whole cleaning from bytes to bytes.
use Rattle.std.specs.Prelude.{cond, List, [], ℕ, ltb, length}
use Rattle.columns.specs.Limits.{max_listed}
use Rattle.columns.specs.Refusal
use Rattle.columns.specs.Refusal.{Verdict}
use Rattle.columns.specs.declared.refusal.Refusal.{Refusal}
use Rattle.columns.specs.declared.refusal.Refusal.TheVariants.{SliceShort}
use Rattle.archive.specs.File.{File}
use Rattle.cleaning.specs.Archive.{Archive, archive_of}
use Rattle.cleaning.specs.Summary.{tabled}
use Rattle.cleaning.specs.Writing.{outputs, written}
use Rattle.cleaning.specs.Computes.{computes}
use Rattle.cleaning.specs.Lines.{refused_line, listing_text}
use Rattle.cleaning.specs.Step.{takes, resolves, Answer, refused, done, wrote, told, counted, printed, State, taking, resolved, spoiled, fresh, step}

-- what is made of an accepted call, and what of a refused one
abbrev pub afterwards : (Refusal → List ℕ) → Answer → List ℕ → List ℕ
afterwards on_refusal (refused r) more = on_refusal r
afterwards on_refusal done more = more
afterwards on_refusal (wrote w) more = more
afterwards on_refusal (told n) more = more
afterwards on_refusal (counted n) more = more
afterwards on_refusal (printed t) more = more

abbrev pub writing : (Refusal → List ℕ) → (List ℕ → List ℕ) → Verdict (List ℕ) → List ℕ
writing on_refusal on_write (Refusal.refused r) = on_refusal r
writing on_refusal on_write (Refusal.accepted w) = on_write w

-- a resolved run written: `onWrite` has the archive, its output files and the bytes written
abbrev pub writing_from : (K : ℕ) → (Refusal → List ℕ) → (Archive → List File → List ℕ → List ℕ) → State → List ℕ
writing_from K on_refusal on_write (taking t) = []
writing_from K on_refusal on_write (resolved t ts) =
    let A = archive_of K t in let S = tabled A ts in writing on_refusal (on_write A (outputs K S)) (written K S)
writing_from K on_refusal on_write spoiled = []

-- an archive taken alone by a fresh run, resolved and written
unfoldable pub cleaning : (K : ℕ) → (Refusal → List ℕ) → (Archive → List File → List ℕ → List ℕ) → List ℕ → List ℕ
cleaning K on_refusal on_write b =
    let first = step K fresh (takes b) in
    let second = step K first.state resolves in
    afterwards on_refusal first.answer (afterwards on_refusal second.answer (writing_from K on_refusal on_write second.state))

-- what the listing program prints of its input: `refused N` alone, or the listing; over 65,536 bytes are 41 whatever they hold
unfoldable pub listing : (K : ℕ) → List ℕ → List ℕ
unfolding computes cleaning
listing K b =
    let lines = cleaning K refused_line (λ A fs w. listing_text A fs) b in
    cond (ltb max_listed (length b)) (refused_line SliceShort) lines

-- the cleaned archive of an archive taken alone; nothing where any step refuses
unfoldable pub cleaned_bytes : (K : ℕ) → List ℕ → List ℕ
unfolding computes cleaning
cleaned_bytes K b = cleaning K (λ r. []) (λ A fs w. w) b
