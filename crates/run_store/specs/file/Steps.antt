-- What is held with one file of an archive more.
use Rattle.std.specs.Prelude.{List, ℕ}
use Rattle.archive_read.specs.Layout.{file_in}
use Rattle.archive_read.specs.declared.records.FileAt.{FileAt}
use Rattle.run_store.specs.joined.Joined.{held_more}
use Rattle.run_state.specs.declared.Held.{Held}

-- the file lies at the given places
abbrev pub held_next : Held → List ℕ → FileAt → Held
held_next h l f = held_more h (file_in l f) f.front.head.flag f.front.head.least f.front.head.greatest
