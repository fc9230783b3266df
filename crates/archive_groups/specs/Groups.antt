-- Document 01, 42: over 16 different group numbers, those of a run and of an archive together, as the bytes stand.
use Rattle.std.specs.Prelude.{Bool, true, false, List, [], ◌++◌, map, ℕ, ltb, length}
use Rattle.lists.specs.Lists.{once, up_from}
use Rattle.columns.specs.Limits.{max_groups}
use Rattle.archive.specs.File.{File}
use Rattle.archive.specs.Reader.{Parsed, broken, got}

-- an archive's files, where its bytes are not broken
unfoldable pub files_of : Parsed (List File) → List File
files_of broken = []
files_of (got fs end) = fs

unfoldable pub is_read : Parsed (List File) → Bool
is_read broken = false
is_read (got fs end) = true

abbrev pub groups_of : Parsed (List File) → List ℕ
groups_of x = map (λ f. f.group) (files_of x)

-- a run that holds the groups 0 up to k, and an archive's files
unfoldable pub groups_over : ℕ → List File → Bool
groups_over k fs = ltb max_groups (length (once (up_from 0 k ++ map (λ f. f.group) fs)))
