-- Demand 3's words: the history of a list of calls, its accepted writes, and the archive of the list.
use mathlib.Core.List.{List, [], ◌∷◌, map, Memᴰ}
use Rattle.std.specs.Prelude.{ℕ}
use Rattle.lists.specs.Lists.{flat}
use Rattle.archive.specs.File.{File}
use Rattle.archive.specs.Reader.{Parsed, broken, got}
use Rattle.archive.specs.Parse.{parse}
use Rattle.cleaning.specs.Source.{Source, source_of}
use Rattle.cleaning.specs.Archive.{Archive, archive_of}
use Rattle.cleaning.specs.Summary.{summary}
use Rattle.cleaning.specs.Writing.{bytes_of}
use Rattle.cleaning.specs.Step.{Call, takes, resolves, writes, maps, counts, lists, Bytes, Answer, refused, done, wrote, told, counted, printed, State, step}

-- a call with its answer
pub data Did : Type 0 where
  did : Call → Answer → Did

-- each call gets the run as the last one left it
unfoldable pub history : (K : ℕ) → State → List Call → List Did
history K s [] = []
history K s (c ∷ cs) = did c (step K s c).answer ∷ history K (step K s c).state cs

abbrev pub files_in : Parsed (List File) → List File
files_in broken = []
files_in (got fs end) = fs

-- the archive of files taken by a fresh run, and that of bytes
abbrev pub archive_of_files : (K : ℕ) → List File → Archive
archive_of_files K fs = archive_of K (record { sources = map (source_of K) fs })

abbrev pub archive_of_bytes : (K : ℕ) → List ℕ → Archive
archive_of_bytes K b = archive_of_files K (files_in (parse K b))

-- the sources of an accepted taking
abbrev pub took : (K : ℕ) → Did → List Source
took K (did (takes b) done) = map (source_of K) (files_in (parse K b))
took K (did (takes b) (refused r)) = []
took K (did (takes b) (wrote w)) = []
took K (did (takes b) (told n)) = []
took K (did (takes b) (counted n)) = []
took K (did (takes b) (printed t)) = []
took K (did resolves a) = []
took K (did (writes room) a) = []
took K (did (maps p) a) = []
took K (did counts a) = []
took K (did (lists room) a) = []

-- what an accepted write has written
abbrev pub bytes_written : Did → List Bytes
bytes_written (did c (refused r)) = []
bytes_written (did c done) = []
bytes_written (did c (wrote w)) = w ∷ []
bytes_written (did c (told n)) = []
bytes_written (did c (counted n)) = []
bytes_written (did c (printed t)) = []

-- the archive of a list: the files of its accepted takings, in order, in however many calls
unfoldable pub archive_in : (K : ℕ) → List Did → Archive
archive_in K h = archive_of K (record { sources = flat (took K) h })

-- an accepted write of a list gave w
unfoldable pub Wrote : List Did → Bytes → Type 0
Wrote h w = Memᴰ w (flat bytes_written h)

-- the cleaned archive of document 01's rules
unfoldable pub cleaned : (K : ℕ) → Archive → List ℕ
cleaned K A = bytes_of K (summary K A)
