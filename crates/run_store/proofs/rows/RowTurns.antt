-- The loops over an archive's files that grow the rows and their flags: what one file adds, and one turn.
use Rattle.std.specs.declared.option.Option as rust
use Rattle.std.specs.Prelude.{None, Some}
use mathlib.Core.Path.{◌≡◌, refl, sym, ap, ◌∙◌}
use mathlib.Core.Bool.{true, false, not}
use mathlib.Core.List.{List, map}
use mathlib.Core.Option.{Option, none, some}
use Prim.Native.Nat.{ℕ, ◌≤◌, ◌<◌, ◌+◌, ◌*◌}
use lib.Dec.{eqb}
use lib.ListN.{length, get_or, drop, replicate}
use lib.Seq.{sets}
use mir.Syntax.{w64}
use mir.Val.{Fits}
use native.Mathlib.Omega.{arith}
use borrow.Author.Tests.{not-true, not-false}
use Rattle.columns.specs.Limits.{kinds}
use Rattle.archive_bytes.specs.Bytes.{be, several, column}
use Rattle.archive_bytes.proofs.Several.{map-several}
use Rattle.archive.specs.File.{CoverColumns, Row}
use Rattle.archive.specs.Parse.{file, row_at}
use Rattle.archive.proofs.Back.{length-several}
use Rattle.archive_read.specs.bodies.View.{head_in, cover_in}
use Rattle.archive_read.specs.Layout.{part_in, front_in, middle_in, tail_in, file_from, file_in, file_of, Holds, AfterFile}
use Rattle.archive_read.specs.declared.records.TailAt.{TailAt}
use Rattle.archive_read.specs.declared.records.FileAt.{FileAt}
use Rattle.archive_read.proofs.AtFiles.{file-holds}
use Rattle.run_state.specs.declared.Rows.{Rows}
use Rattle.run_state.specs.declared.Held.{Held}
use Rattle.run_store.specs.grow.Column.{bit}
use Rattle.run_store.specs.parts.Grown.{rows_with, labels_with}
use Rattle.run_store.proofs.parts.Things.{same-several}
use Rattle.run_store.specs.joined.Joined.{labels_more, sheet_more, held_more}
use Rattle.run_store.specs.file.Steps.{held_next}
use Rattle.run_store.specs.turns.Parts.{stored, Accepted}
use Rattle.run_store.proofs.turns.Turns.{Walk, walk_start, part-done, walk-room, walk-on, no-file, rows_next, two-are}
use Rattle.run_state.specs.ByColumns.{rows_of}
use Rattle.run_store.specs.rows.Rows.{rows_more, chains_more, seqs_more}

-- ── what a file adds ─────────────────────────────────────────────────────────────────────────

module _ (l : List ℕ) (n : ℕ) (t : TailAt) where
  module _ (xs : List ℕ) (at : ℕ) where
    pub chains-none : not t.covered ≡ true → xs ≡ chains_more xs at (tail_in l n t).cover
    unfolding chains_more tail_in
    chains-none h = rw (not-true t.covered h)

    pub seqs-none : not t.covered ≡ true → xs ≡ seqs_more xs at (tail_in l n t).cover
    unfolding seqs_more tail_in
    seqs-none h = rw (not-true t.covered h)

    pub chains-some : {ys : List ℕ} → not t.covered ≡ false → ys ≡ sets xs at (column 4 n (part_in l t.body) 0) → ys ≡ chains_more xs at (tail_in l n t).cover
    unfolding chains_more tail_in cover_in
    chains-some h e = rw (not-false t.covered h) e

    pub seqs-some : {ys : List ℕ} → not t.covered ≡ false → ys ≡ sets xs at (column 4 n (part_in l t.body) (n * 4)) → ys ≡ seqs_more xs at (tail_in l n t).cover
    unfolding seqs_more tail_in cover_in
    seqs-some h e = rw (not-false t.covered h) e

module _ (xs : List ℕ) (at n : ℕ) (b : List ℕ) {ys : List ℕ} where
  pub tags-added : ys ≡ sets xs at (several 9 (λ l. be 8 l 1) n (drop 0 b)) → ys ≡ sets xs at (map (λ r. r.tag) (several 9 row_at n b))
  unfolding row_at
  tags-added h =
      let t : map (λ r. r.tag) (several 9 row_at n b) ≡ several 9 (λ l. be 8 l 1) n b = map-several 9 row_at (λ r. r.tag) n b in
      rw (h, t)

  pub flags_added : ys ≡ sets xs at (several 9 (λ l. bit (eqb (get_or l 0 0) 1)) n (drop 0 b)) → ys ≡ sets xs at (map (λ r. bit r.erased) (several 9 row_at n b))
  unfolding row_at
  flags_added h =
      let t : map (λ r. bit r.erased) (several 9 row_at n b) ≡ several 9 (λ l. bit (eqb (get_or l 0 0) 1)) n b = map-several 9 row_at (λ r. bit r.erased) n b in
      rw (h, t)

labels-joined : (c : ℕ) (group : ℕ) (rows : List Row) (a b x y : List ℕ) (o : Option CoverColumns)
    → rows_of (c + length rows) (sets a c (map (λ r. group) rows)) (sets b c (map (λ r. r.tag) rows)) (chains_more x c o) (seqs_more y c o)
    ≡ labels_more (rows_with (rows_of c a b x y) group rows) c o
unfolding labels_more labels_with rows_with chains_more seqs_more
labels-joined c group rows a b x y none = refl
labels-joined c group rows a b x y (some k) = refl

pub rows-added : (c : ℕ) (a b x y : List ℕ) (l : List ℕ) (f : FileAt) {a' b' x' y' : List ℕ} → a' ≡ sets a c (replicate f.front.head.rows f.front.head.group)
    → b' ≡ sets b c (map (λ r. r.tag) (several 9 row_at f.front.head.rows (part_in l f.middle.rows))) → x' ≡ chains_more x c (tail_in l f.front.head.rows f.tail).cover
    → y' ≡ seqs_more y c (tail_in l f.front.head.rows f.tail).cover
    → rows_of (c + f.front.head.rows) a' b' x' y' ≡ rows_more (rows_of c a b x y) (file_in l f)
unfolding file_in file_from front_in head_in middle_in
rows-added c a b x y l f e g h i =
    let n = f.front.head.rows in
    let rows = several 9 row_at n (part_in l f.middle.rows) in
    let z = labels-joined c f.front.head.group rows a b x y (tail_in l n f.tail).cover in
    rw (e, g, h, i, ← z, length-several 9 row_at n (part_in l f.middle.rows), same-several 9 row_at f.front.head.group n (part_in l f.middle.rows))

-- ── a turn ───────────────────────────────────────────────────────────────────────────────────

abbrev pub rows_now : Held → Rows
rows_now q = q.sheet.rows

pub rows_start : (h : Held) (l : List ℕ) {r : Rows} → Accepted h l → r ≡ h.sheet.rows → Walk rows_now h r l 0 0
rows_start h l a e = rw e (walk_start rows_now h l a)

rows_then : (q : Held) (l : List ℕ) (f : FileAt) → rows_now (held_next q l f) ≡ rows_more (rows_now q) (file_in l f)
unfolding held_more sheet_more
rows_then q l f = refl

module _ (h : Held) (c : ℕ) (a b x y : List ℕ) (l : List ℕ) (k p : ℕ) (w : Walk rows_now h (rows_of c a b x y) l k p) where
  abbrev r : Rows
  r = rows_of c a b x y

  pub rows-done : length l ≤ p → r ≡ (stored h l).rows
  rows-done e = part-done (λ q. q.rows) h r l k p w e

  module _ (lt : p < length l) (le : k ≤ p) (z : rust.Option FileAt) (d : file_of l z ≡ file kinds l p) where
    pub rows_none : z ≡ None → r ≡ (stored h l).rows
    rows_none m = absurd (no-file rows_now h r l k p w lt le z d m)

    module _ {f : FileAt} (m : z ≡ Some f) (i : AfterFile l p z) where
      pub rows-room : c + f.front.head.rows ≤ 1024
      rows-room = rw (ap (λ v. v.count) w.is) (walk-room rows_now h r l k p w lt le z d m i).sheet.rows

      pub rows_fit : Fits w64 (c + f.front.head.rows)
      rows_fit = omega (arith, rows-room)

      pub rows_on : {j : ℕ} {s : Rows} → j ≡ k + 1 → s ≡ rows_more r (file_in l f) → Walk rows_now h s l j f.tail.end
      rows_on g e = walk-on rows_now h r l k p w lt le z d m i g (e ∙ ap (λ v. rows_more v (file_in l f)) w.is ∙ sym (rows_then w.held l f))

pub rows-hold : (l : List ℕ) (p : ℕ) (z : rust.Option FileAt) {f : FileAt} → AfterFile l p z → z ≡ Some f → Holds l f.middle.rows (f.front.head.rows * 9)
rows-hold l p z i m = (file-holds l p z i m).middle.rows

-- the flags, and the number of rows
abbrev pub flags_now : Held → List ℕ × ℕ
flags_now q = (q.erased, q.sheet.rows.count)

pub flags-start : (h : Held) (l : List ℕ) {s : List ℕ} {n : ℕ} → Accepted h l → s ≡ h.erased → n ≡ h.sheet.rows.count → Walk flags_now h (s, n) l 0 0
flags-start h l a e f = rw (e, f) (walk_start flags_now h l a)

flags-then : (q : Held) (l : List ℕ) (f : FileAt)
    → (held_next q l f).erased ≡ sets q.erased q.sheet.rows.count (map (λ r. bit r.erased) (several 9 row_at f.front.head.rows (part_in l f.middle.rows)))
unfolding held_more file_in file_from middle_in
flags-then q l f = refl

module _ (h : Held) (s : List ℕ) (c : ℕ) (l : List ℕ) (k p : ℕ) (w : Walk flags_now h (s, c) l k p) where
  pub flags-done : length l ≤ p → s ≡ (stored h l).erased
  flags-done e = ap (λ v. v.0) (part-done (λ q. (q.erased, q.rows.count)) h (s, c) l k p w e)

  module _ (lt : p < length l) (le : k ≤ p) (z : rust.Option FileAt) (d : file_of l z ≡ file kinds l p) where
    pub flags-none : z ≡ None → s ≡ (stored h l).erased
    flags-none m = absurd (no-file flags_now h (s, c) l k p w lt le z d m)

    module _ {f : FileAt} (m : z ≡ Some f) (i : AfterFile l p z) where
      pub flags-room : c + f.front.head.rows ≤ 1024
      flags-room = rw (ap (λ v. v.1) w.is) (walk-room flags_now h (s, c) l k p w lt le z d m i).sheet.rows

      pub flags-fit : Fits w64 (c + f.front.head.rows)
      flags-fit = omega (arith, flags-room)

      pub flags-on : {j : ℕ} {t : List ℕ} → j ≡ k + 1 → t ≡ sets s c (map (λ r. bit r.erased) (several 9 row_at f.front.head.rows (part_in l f.middle.rows)))
          → Walk flags_now h (t, c + f.front.head.rows) l j f.tail.end
      flags-on g e =
          let rows = map (λ r. bit r.erased) (several 9 row_at f.front.head.rows (part_in l f.middle.rows)) in
          let is : sets s c rows ≡ sets w.held.erased w.held.sheet.rows.count rows = ap (λ v. sets v.0 v.1 rows) w.is in
          walk-on flags_now h (s, c) l k p w lt le z d m i g
          (two-are (e ∙ is ∙ sym (flags-then w.held l f)) (ap (λ v. v.1 + f.front.head.rows) w.is ∙ sym (rows_next w.held l f)))
