-- The loop over an archive's files that grows the names: what one file adds, and one turn.
use Rattle.std.specs.Prelude.{None, Some, Option}
use mathlib.Core.Path.{◌≡◌, refl, sym, ap, ◌∙◌}
use mathlib.Core.Bool.{Bool, true, false, cond}
use mathlib.Core.List.{List}
use mathlib.Core.Option.{none, some}
use Prim.Native.Nat.{ℕ, ◌≤◌, ◌<◌, ◌+◌}
use lib.Dec.{eqb}
use lib.ListN.{length, take, drop}
use Rattle.columns.specs.Limits.{kinds}
use Rattle.archive.specs.File.{CoverColumns}
use Rattle.archive.specs.Parse.{file}
use Rattle.archive_read.specs.bodies.View.{head_in, cover_in}
use Rattle.archive_read.specs.Layout.{part_in, front_in, tail_in, file_from, file_in, file_of, Uncovers, AfterFile}
use Rattle.archive_read.specs.declared.records.FileAt.{FileAt}
use Rattle.archive_read.proofs.AtFiles.{ranges-counted, file-counts}
use Rattle.cleaning.specs.Source.{is_there}
use Rattle.cleaning.specs.Taking.{stored_ranges}
use Rattle.run_state.specs.declared.Subject.{Subject}
use Rattle.run_state.specs.declared.Groups.{Groups}
use Rattle.run_state.specs.declared.Held.{Held}
use Rattle.run_store.specs.parts.Grown.{groups_with, subject_new}
use Rattle.run_store.specs.joined.Joined.{sheet_more, held_more}
use Rattle.run_store.specs.file.Steps.{held_next}
use Rattle.run_store.specs.turns.Parts.{Accepted}
use Rattle.run_store.proofs.turns.Turns.{Walk, walk_start, walk-whole, walk-parts, walk-ordered, walk-room, walk-on, no-file}
use Rattle.run_store.specs.declared.names.Names.{Names}
use Rattle.run_store.specs.names.Named.{names_of, names_more, NamesRoom, Named}

-- ── what a file adds ─────────────────────────────────────────────────────────────────────────

module _ (s : Subject) (fresh : Bool) (bytes : List ℕ) where
  pub fresh-put : {q : Subject} → fresh ≡ true → q ≡ subject_new s bytes → q ≡ cond fresh (subject_new s bytes) s
  fresh-put e h = rw e h

  pub fresh-not : fresh ≡ false → s ≡ cond fresh (subject_new s bytes) s
  fresh-not e = rw e

pub names-added : (q : Names) (l : List ℕ) (f : FileAt) {a : ℕ} {b : Subject} {c : Groups} → a ≡ cond (eqb q.groups.count 0) f.front.head.first q.start
    → b ≡ cond (eqb q.groups.count 0) (subject_new q.subject (take f.front.head.subject (drop 14 (part_in l f.front.file)))) q.subject
    → c ≡ groups_with q.groups f.front.head.group f.front.head.flag f.front.head.least f.front.head.greatest f.tail.covered
    → record { start = a; subject = b; groups = c; ranges = q.ranges + f.tail.cover.ranges } ≡ names_more q l f
unfolding names_more
names-added q l f e g h = rw (e, g, h)

-- ── a turn ───────────────────────────────────────────────────────────────────────────────────

there-flag : (b : Bool) (c : CoverColumns) → is_there (cond b (some c) none) ≡ b
there-flag true c = refl
there-flag false c = refl

module _ (l : List ℕ) (f : FileAt) where
  there : is_there (file_in l f).cover ≡ f.tail.covered
  unfolding file_in file_from tail_in
  there = there-flag f.tail.covered (cover_in (part_in l f.tail.body) f.front.head.rows f.tail.cover)

  first-is : (file_in l f).first ≡ f.front.head.first
  unfolding file_in file_from front_in head_in
  first-is = refl

  group-is : (file_in l f).group ≡ f.front.head.group
  unfolding file_in file_from front_in head_in
  group-is = refl

  subject-is : (file_in l f).subject ≡ take f.front.head.subject (drop 14 (part_in l f.front.file))
  unfolding file_in file_from front_in head_in
  subject-is = refl

  names-then : (q : Held) → Uncovers f.tail.covered f.tail.cover → names_of (held_next q l f) ≡ names_more (names_of q) l f
  unfolding held_more sheet_more names_more
  names-then q u =
      let r : stored_ranges (file_in l f).cover ≡ f.tail.cover.ranges = ranges-counted l f u in
      rw (there, r, first-is, group-is, subject-is)

pub names-start : (h : Held) (l : List ℕ) {q : Names} → Accepted h l → q ≡ names_of h → Walk names_of h q l 0 0
names-start h l a e = rw e (walk_start names_of h l a)

module _ (h : Held) (q : Names) (l : List ℕ) (k p : ℕ) (w : Walk names_of h q l k p) where
  pub names-done : length l ≤ p → Named h l q
  names-done e = record {
    held = w.held;
    whole = walk-whole names_of h q l k p w e;
    long = w.going.long;
    ok = w.going.ok;
    order = walk-ordered names_of h q l k p w;
    parts = walk-parts names_of h q l k p w e;
    names = w.is;
  }

  module _ (lt : p < length l) (le : k ≤ p) (z : Option FileAt) (d : file_of l z ≡ file kinds l p) where
    pub names-none : z ≡ None → Named h l q
    names-none m = absurd (no-file names_of h q l k p w lt le z d m)

    module _ {f : FileAt} (m : z ≡ Some f) (i : AfterFile l p z) where
      pub names-room : NamesRoom q l f
      names-room =
          let r = walk-room names_of h q l k p w lt le z d m i in
          rw w.is (record { head = r.holds.head; subject = r.sheet.subject; group = r.sheet.group; groups = r.sheet.groups; ranges = r.ranges })

      pub names-on : {j : ℕ} {s : Names} → j ≡ k + 1 → s ≡ names_more q l f → Walk names_of h s l j f.tail.end
      names-on g e = walk-on names_of h q l k p w lt le z d m i g (e ∙ ap (λ v. names_more v l f) w.is ∙ sym (names-then l f w.held (file-counts l p z i m).5))
