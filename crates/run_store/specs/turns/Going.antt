-- What is held after the files of an archive are stored.
use Rattle.std.specs.Prelude.{Bool, true, false}
use mathlib.Core.List.{List, map, foldl}
use Rattle.columns.specs.Limits.{kinds}
use Rattle.archive.specs.Reader.{Parsed, broken, got}
use Rattle.archive.specs.File.{File}
use Rattle.cleaning.specs.Source.{source_of}
use Rattle.cleaning.specs.Held.{held_with}
use Rattle.cleaning.specs.Held as run
use Rattle.cleaning.specs.History.{files_in}
use Rattle.run_state.specs.declared.Held.{Held}
use Rattle.run_state.specs.View.{held_in}

-- whether bytes were an archive
abbrev pub is_got : Parsed (List File) → Bool
is_got broken = false
is_got (got fs end) = true

-- what is held with the files of an archive more
abbrev pub held_after : Held → Parsed (List File) → run.Held
held_after h r = foldl held_with (held_in h) (map (source_of kinds) (files_in r))
