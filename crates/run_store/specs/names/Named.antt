-- The names of a run with those of a file more, and after the files of an archive.
use Rattle.std.specs.Prelude.{◌≡◌, true, cond, List, ℕ, ◌+◌, ◌≤◌, ◌<◌, eqb, take, drop}
use Rattle.columns.specs.Limits.{kinds}
use Rattle.archive.specs.Parse.{parse}
use Rattle.archive_read.specs.Layout.{part_in, HoldsHead}
use Rattle.archive_read.specs.declared.records.FileAt.{FileAt}
use Rattle.run_state.specs.declared.Held.{Held}
use Rattle.run_state.specs.View.{held_in}
use Rattle.run_state.specs.Valid.{held_ok}
use Rattle.run_state.specs.order.Long.{LongHeld}
use Rattle.run_state.specs.order.Ordered.{ordered}
use Rattle.run_store.specs.parts.Grown.{groups_with, subject_new}
use Rattle.run_store.specs.turns.Going.{held_after}
use Rattle.run_store.specs.turns.Parts.{parts_of, stored}
use Rattle.run_store.specs.declared.names.Names.{Names}

abbrev pub names_of : Held → Names
names_of h = record { start = h.sheet.start; subject = h.sheet.subject; groups = h.sheet.groups; ranges = h.ranges }

-- with the file more whose parts lie at the given places; its depth is joined to the group's as it is stored
unfoldable pub names_more : Names → List ℕ → FileAt → Names
names_more q l f = record {
  start = cond (eqb q.groups.count 0) f.front.head.first q.start;
  subject = cond (eqb q.groups.count 0) (subject_new q.subject (take f.front.head.subject (drop 14 (part_in l f.front.file)))) q.subject;
  groups = groups_with q.groups f.front.head.group f.front.head.flag f.front.head.least f.front.head.greatest f.tail.covered;
  ranges = q.ranges + f.tail.cover.ranges;
}

pub record NamesRoom (q : Names) (l : List ℕ) (f : FileAt) : Type 0 where
  pub head : HoldsHead l f.front.head f.front.file
  pub subject : f.front.head.subject ≤ 255
  pub group : f.front.head.group < 16
  pub groups : q.groups.count ≤ 16
  pub ranges : q.ranges + f.tail.cover.ranges ≤ 1024

-- the names are those of what is held after the files of an archive
pub record Named (h : Held) (l : List ℕ) (r : Names) : Type 0 where
  pub held : Held
  pub whole : held_in held ≡ held_after h (parse kinds l)
  pub long : LongHeld held
  pub ok : held_ok held ≡ true
  pub order : ordered held.sheet ≡ true
  pub parts : parts_of held ≡ stored h l
  pub names : r ≡ names_of held
