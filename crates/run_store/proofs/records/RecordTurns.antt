-- The loops over an archive's files that grow unresolved references and state roots: what one file adds, and one turn.
use Rattle.std.specs.Prelude.{None, Some, Option}
use mathlib.Core.Path.{◌≡◌, refl, sym, ap, ◌∙◌}
use mathlib.Core.List.{List, map}
use Prim.Native.Nat.{ℕ, ◌≤◌, ◌<◌, ◌+◌, ◌*◌}
use lib.ListN.{length, get_or, drop}
use lib.Seq.{sets}
use mir.Syntax.{w64}
use mir.Val.{Fits}
use native.Mathlib.Omega.{arith}
use Rattle.columns.specs.Limits.{kinds}
use Rattle.archive_bytes.specs.Bytes.{be, several}
use Rattle.archive_bytes.proofs.Several.{map-several}
use Rattle.archive.specs.Parse.{file, unresolved_at, root_at}
use Rattle.archive.proofs.Back.{length-several}
use Rattle.archive_read.specs.Layout.{part_in, middle_in, tail_in, file_from, file_in, file_of, Holds, AfterFile}
use Rattle.archive_read.specs.declared.records.FileAt.{FileAt}
use Rattle.archive_read.proofs.AtFiles.{file-holds}
use Rattle.run_state.specs.declared.Unresolved.{Unresolved}
use Rattle.run_state.specs.declared.Roots.{Roots}
use Rattle.run_state.specs.declared.Held.{Held}
use Rattle.run_store.specs.grow.Column.{Small}
use Rattle.run_store.specs.parts.Grown.{unresolved_with, roots_with}
use Rattle.run_store.specs.joined.Joined.{sheet_more, held_more}
use Rattle.run_store.specs.file.Fits.{HeldRoom}
use Rattle.run_store.specs.file.Steps.{held_next}
use Rattle.run_store.specs.turns.Parts.{stored, Accepted}
use Rattle.run_store.proofs.turns.Turns.{Walk, walk_start, part-done, walk-room, walk-on, no-file, rows_next, two-are}
use Rattle.run_state.specs.ByColumns.{unresolved_of, roots_of}

-- ── what a file adds ─────────────────────────────────────────────────────────────────────────

pub unresolved-added : (n at : ℕ) (l : List ℕ) (a b c : List ℕ) {a' b' c' : List ℕ} → a' ≡ sets a at (several 13 (λ l. be 8 l 0) n (drop 4 l))
    → b' ≡ sets b at (several 13 (λ l. get_or l 8 0) n (drop 4 l)) → c' ≡ sets c at (several 13 (λ l. be 4 l 9) n (drop 4 l))
    → unresolved_of (at + n) a' b' c' ≡ unresolved_with (unresolved_of at a b c) (several 13 unresolved_at n (drop 4 l))
unfolding unresolved_with unresolved_at
unresolved-added n at l a b c e f g =
    let x : map (λ x. x.child) (several 13 unresolved_at n (drop 4 l)) ≡ several 13 (λ l. be 8 l 0) n (drop 4 l) = map-several 13 unresolved_at (λ x. x.child) n (drop 4 l) in
    let y : map (λ x. x.kind) (several 13 unresolved_at n (drop 4 l)) ≡ several 13 (λ l. get_or l 8 0) n (drop 4 l) = map-several 13 unresolved_at (λ x. x.kind) n (drop 4 l) in
    let z : map (λ x. x.handle) (several 13 unresolved_at n (drop 4 l)) ≡ several 13 (λ l. be 4 l 9) n (drop 4 l) = map-several 13 unresolved_at (λ x. x.handle) n (drop 4 l) in
    rw (e, f, g, length-several 13 unresolved_at n (drop 4 l), x, y, z)

pub roots-added : (before n at : ℕ) (l : List ℕ) (a b : List ℕ) {a' b' : List ℕ} → a' ≡ sets a at (several 16 (λ l. before + be 8 l 0) n (drop 4 l))
    → b' ≡ sets b at (several 16 (λ l. be 8 l 8) n (drop 4 l)) → roots_of (at + n) a' b' ≡ roots_with (roots_of at a b) before (several 16 root_at n (drop 4 l))
unfolding roots_with root_at
roots-added before n at l a b e f =
    let x : map (λ x. before + x.row) (several 16 root_at n (drop 4 l)) ≡ several 16 (λ l. before + be 8 l 0) n (drop 4 l) = map-several 16 root_at (λ x. before + x.row) n (drop 4 l) in
    let y : map (λ x. x.handle) (several 16 root_at n (drop 4 l)) ≡ several 16 (λ l. be 8 l 8) n (drop 4 l) = map-several 16 root_at (λ x. x.handle) n (drop 4 l) in
    rw (e, f, length-several 16 root_at n (drop 4 l), x, y)

-- ── unresolved references ────────────────────────────────────────────────────────────────────

abbrev pub unresolved_now : Held → Unresolved
unresolved_now q = q.sheet.unresolved

pub unresolved-start : (h : Held) (l : List ℕ) {u : Unresolved} → Accepted h l → u ≡ h.sheet.unresolved → Walk unresolved_now h u l 0 0
unresolved-start h l a e = rw e (walk_start unresolved_now h l a)

unresolved-then : (q : Held) (l : List ℕ) (f : FileAt)
    → unresolved_now (held_next q l f) ≡ unresolved_with (unresolved_now q) (several 13 unresolved_at f.middle.count (drop 4 (part_in l f.middle.unresolved)))
unfolding held_more sheet_more file_in file_from middle_in
unresolved-then q l f = refl

module _ (h : Held) (c : ℕ) (a b e : List ℕ) (l : List ℕ) (k p : ℕ) (w : Walk unresolved_now h (unresolved_of c a b e) l k p) where
  abbrev u : Unresolved
  u = unresolved_of c a b e

  pub unresolved-done : length l ≤ p → u ≡ (stored h l).unresolved
  unresolved-done g = part-done (λ q. q.unresolved) h u l k p w g

  module _ (lt : p < length l) (le : k ≤ p) (z : Option FileAt) (d : file_of l z ≡ file kinds l p) where
    pub unresolved-none : z ≡ None → u ≡ (stored h l).unresolved
    unresolved-none m = absurd (no-file unresolved_now h u l k p w lt le z d m)

    module _ {f : FileAt} (m : z ≡ Some f) (i : AfterFile l p z) where
      pub unresolved-holds : Holds l f.middle.unresolved (4 + f.middle.count * 13)
      unresolved-holds = (file-holds l p z i m).middle.unresolved

      pub unresolved-room : c + f.middle.count ≤ 1024
      unresolved-room = rw (ap (λ v. v.count) w.is) (walk-room unresolved_now h u l k p w lt le z d m i).sheet.unresolved

      pub unresolved-fit : Fits w64 (c + f.middle.count)
      unresolved-fit = omega (arith, unresolved-room)

      pub unresolved-on : {j : ℕ} {s : Unresolved} → j ≡ k + 1 → s ≡ unresolved_with u (several 13 unresolved_at f.middle.count (drop 4 (part_in l f.middle.unresolved)))
          → Walk unresolved_now h s l j f.tail.end
      unresolved-on g r = walk-on unresolved_now h u l k p w lt le z d m i g
          (r ∙ ap (λ v. unresolved_with v (several 13 unresolved_at f.middle.count (drop 4 (part_in l f.middle.unresolved)))) w.is ∙ sym (unresolved-then w.held l f))

-- ── state roots, and the number of rows ──────────────────────────────────────────────────────

abbrev pub roots_now : Held → Roots × ℕ
roots_now q = (q.sheet.roots, q.sheet.rows.count)

pub roots-start : (h : Held) (l : List ℕ) {r : Roots} {n : ℕ} → Accepted h l → r ≡ h.sheet.roots → n ≡ h.sheet.rows.count → Walk roots_now h (r, n) l 0 0
roots-start h l a e f = rw (e, f) (walk_start roots_now h l a)

roots-then : (q : Held) (l : List ℕ) (f : FileAt)
    → (held_next q l f).sheet.roots ≡ roots_with q.sheet.roots q.sheet.rows.count (several 16 root_at f.tail.count (drop 4 (part_in l f.tail.roots)))
unfolding held_more sheet_more file_in file_from tail_in
roots-then q l f = refl

module _ (h : Held) (c : ℕ) (a b : List ℕ) (n : ℕ) (l : List ℕ) (k p : ℕ) (w : Walk roots_now h (roots_of c a b, n) l k p) where
  abbrev t : Roots × ℕ
  t = (roots_of c a b, n)

  pub roots-done : length l ≤ p → roots_of c a b ≡ (stored h l).roots
  roots-done g = ap (λ v. v.0) (part-done (λ q. (q.roots, q.rows.count)) h t l k p w g)

  module _ (lt : p < length l) (le : k ≤ p) (z : Option FileAt) (d : file_of l z ≡ file kinds l p) where
    pub roots-none : z ≡ None → roots_of c a b ≡ (stored h l).roots
    roots-none m = absurd (no-file roots_now h t l k p w lt le z d m)

    module _ {f : FileAt} (m : z ≡ Some f) (i : AfterFile l p z) where
      room : HeldRoom w.held l f
      room = walk-room roots_now h t l k p w lt le z d m i

      pub roots-hold : Holds l f.tail.roots (4 + f.tail.count * 16)
      roots-hold = (file-holds l p z i m).tail.roots

      pub roots-room : c + f.tail.count ≤ 1024
      roots-room = rw (ap (λ v. v.0.count) w.is) room.sheet.roots

      rows-room : n + f.front.head.rows ≤ 1024
      rows-room = rw (ap (λ v. v.1) w.is) room.sheet.rows

      pub rows_few : n ≤ 1024
      rows_few = omega (arith, rows-room)

      pub roots-inside : Small (several 16 (λ l. be 8 l 0) f.tail.count (drop 4 (part_in l f.tail.roots)))
      roots-inside = room.sheet.inside

      pub roots-fit : Fits w64 (c + f.tail.count)
      roots-fit = omega (arith, roots-room)

      pub rows_fit : Fits w64 (n + f.front.head.rows)
      rows_fit = omega (arith, rows-room)

      pub roots-on : {j : ℕ} {s : Roots} → j ≡ k + 1 → s ≡ roots_with (roots_of c a b) n (several 16 root_at f.tail.count (drop 4 (part_in l f.tail.roots)))
          → Walk roots_now h (s, n + f.front.head.rows) l j f.tail.end
      roots-on g r =
          let is : roots_with (roots_of c a b) n (several 16 root_at f.tail.count (drop 4 (part_in l f.tail.roots)))
          ≡ roots_with w.held.sheet.roots w.held.sheet.rows.count (several 16 root_at f.tail.count (drop 4 (part_in l f.tail.roots))) =
          ap (λ v. roots_with v.0 v.1 (several 16 root_at f.tail.count (drop 4 (part_in l f.tail.roots)))) w.is in
          walk-on roots_now h t l k p w lt le z d m i g
          (two-are (r ∙ is ∙ sym (roots-then w.held l f)) (ap (λ v. v.1 + f.front.head.rows) w.is ∙ sym (rows_next w.held l f)))
