-- The loop over an archive's files that grows the lists of one set: what is read, and one turn.
use Rattle.std.specs.Prelude.{None, Some, Option}
use mathlib.Core.Path.{◌≡◌, refl, sym, ap, ◌∙◌}
use mathlib.Core.Bool.{true}
use mathlib.Core.List.{List, map}
use Prim.Native.Nat.{ℕ, ◌≤◌, ◌<◌, ◌+◌, ◌*◌}
use lib.IntN.{ℤ}
use lib.ListN.{length, take, drop, length-map}
use lib.Seq.{sets, length-take-le, length-sets}
use mir.Syntax.{w64}
use mir.Val.{Fits}
use native.Mathlib.Omega.{arith}
use Rattle.columns.specs.Limits.{kinds}
use Rattle.columns.specs.Answers.{columns_of}
use Rattle.columns.specs.Readable.{Readable}
use Rattle.lists.specs.Lists.{joined}
use Rattle.lists.proofs.Slices.{take-sets}
use Rattle.columns.specs.EdgeSet.{EdgeSet, from_to}
use Rattle.columns.specs.Reading.{slots_of}
use Rattle.columns.proofs.Offsets.{form-climbs}
use Rattle.columns.proofs.Checks.{kept-form}
use Rattle.archive_bytes.specs.Bytes.{be, column, signed_of}
use Rattle.archive.proofs.Back.{length-several}
use Rattle.archive.specs.Parse.{file}
use Rattle.archive_read.specs.bodies.View.{set_end, head_in, set_in, sets_in}
use Rattle.archive_read.specs.declared.bodies.EdgesAt.{EdgesAt}
use Rattle.archive_read.specs.Layout.{part_in, front_in, file_from, file_in, file_of, Holds, HoldsFile, AfterFile}
use Rattle.archive_read.specs.declared.records.FrontAt.{FrontAt}
use Rattle.archive_read.specs.declared.records.FileAt.{FileAt}
use Rattle.run_state.specs.declared.Edges.{Edges}
use Rattle.run_state.specs.declared.Held.{Held}
use Rattle.run_store.specs.parts.Grown.{set_at, edges_with}
use Rattle.run_store.specs.joined.Joined.{sheet_more, held_more}
use Rattle.run_store.specs.file.Fits.{SetRoom, HeldRoom}
use Rattle.run_store.specs.file.Steps.{held_next}
use Rattle.run_store.specs.turns.Parts.{parts_of, stored, Accepted}
use Rattle.run_store.proofs.turns.Turns.{Walk, walk_start, part-done, walk-room, walk-on, no-file, rows_next, two-are}
use Rattle.run_store.specs.declared.sets.SetPlace.{SetPlace}
use Rattle.run_store.specs.declared.sets.Side.{Side}
use Rattle.run_store.specs.declared.sets.Side.TheVariants.{Forward, Reverse, Inbound}
use Rattle.run_state.specs.ByColumns.{edges_of}
use Rattle.run_store.specs.sets.Sides.{place_of, side_of}

-- ── what is read ─────────────────────────────────────────────────────────────────────────────

module _ {s : Side} (c : EdgesAt) where
  pub place-forward : s ≡ Forward → record { at = 0; count = c.forwards } ≡ place_of s c
  place-forward e = rw e

  pub place-reverse : s ≡ Reverse → record { at = c.reverse; count = c.reverses } ≡ place_of s c
  place-reverse e = rw e

  pub place-inbound : s ≡ Inbound → record { at = c.inbound; count = c.inbounds } ≡ place_of s c
  place-inbound e = rw e

module _ (rows k : ℕ) (l : List ℕ) (at : ℕ) (z : List ℕ) (y : List ℤ) {o : List ℕ} {d : List ℤ} (e : o ≡ sets z 0 (column 8 (2 * rows + 1) l (at + 4)))
    (f : d ≡ sets y 0 (map signed_of (column 8 k l (at + 4 + (2 * rows + 1) * 8)))) where
  pub set-loaded : rows ≤ 1024 → k ≤ 4096 → length z ≡ 2049 → length y ≡ 4096 → columns_of k (take (2 * rows + 1) o) (take k d) ≡ set_at l rows at k
  set-loaded g h u v =
      let a = take-sets z (column 8 (2 * rows + 1) l (at + 4)) (2 * rows + 1) (length-several 8 (λ l. be 8 l 0) (2 * rows + 1) (drop (at + 4) l)) (omega arith) in
      let c = column 8 k l (at + 4 + (2 * rows + 1) * 8) in
      let b = take-sets y (map signed_of c) k (length-map c signed_of ∙ length-several 8 (λ l. be 8 l 0) k (drop (at + 4 + (2 * rows + 1) * 8) l)) (omega arith) in
      rw (e, f, a, b)

  pub table-long : length z ≡ 2049 → length o ≡ 2049
  table-long u = rw (e, length-sets) u

  pub numbers-long : length y ≡ 4096 → length d ≡ 4096
  numbers-long v = rw (f, length-sets) v

-- offsets of a set whose rules are kept climb
pub readable-climbs : (first count : ℕ) (os : List ℕ) (ds : List ℤ) → Readable kinds first (columns_of count os ds) → from_to 0 count os ≡ true
readable-climbs first count os ds r =
    form-climbs kinds r.rows count os (kept-form kinds r.set first r.rows r.end (columns_of count os ds) r.kept)

module _ (n rows : ℕ) (l : List ℕ) (h : n + rows ≤ 1024) (e : length l ≡ 2049) where
  pub table-front : 2 * rows + 1 ≡ length (take (2 * rows + 1) l)
  table-front = sym (length-take-le (2 * rows + 1) l (omega arith))

  pub table-room : 2 * n + length (take (2 * rows + 1) l) ≤ 2049
  table-room = omega (arith, table-front)

pub rows-front : (rows : ℕ) (l : List ℕ) → rows ≤ 1024 → length l ≡ 2049 → 2 * rows + 1 ≡ length (take (2 * rows + 1) l)
rows-front rows l h e = sym (length-take-le (2 * rows + 1) l (omega arith))

pub numbers-front : (m k : ℕ) (l : List ℤ) → m + k ≤ 4096 → length l ≡ 4096 → k ≡ length (take k l)
numbers-front m k l h e = sym (length-take-le k l (omega arith))

-- a set that was read to two arrays
module _ (c n : ℕ) (l : List ℕ) (f : FrontAt) (s : SetPlace) (r : SetRoom c n l f s.at s.count) (o : List ℕ) (y : List ℤ)
    (v : columns_of s.count (take (2 * f.head.rows + 1) o) (take s.count y) ≡ set_at (part_in l f.sets) f.head.rows s.at s.count) where
  pub loaded-readable : Readable kinds f.head.first (columns_of s.count (take (2 * f.head.rows + 1) o) (take s.count y))
  loaded-readable = rw v r.readable

  pub loaded-climbs : from_to 0 s.count (take (2 * f.head.rows + 1) o) ≡ true
  loaded-climbs = readable-climbs f.head.first s.count (take (2 * f.head.rows + 1) o) (take s.count y) loaded-readable

  pub set-added : (a b : List ℕ) {a' b' : List ℕ} → a' ≡ sets a (2 * n + 1) (map (λ u. c + u) (drop 1 (take (2 * f.head.rows + 1) o)))
      → b' ≡ sets b c (joined (slots_of kinds f.head.first (columns_of s.count (take (2 * f.head.rows + 1) o) (take s.count y))))
      → edges_of (c + s.count) a' b' ≡ edges_with (edges_of c a b) n f.head.first (set_at (part_in l f.sets) f.head.rows s.at s.count)
  unfolding edges_with
  set-added a b {a'} {b'} g t = made ∙ ap (edges_with (edges_of c a b) n f.head.first) v
    where
      made : edges_of (c + s.count) a' b' ≡ edges_with (edges_of c a b) n f.head.first (columns_of s.count (take (2 * f.head.rows + 1) o) (take s.count y))
      made = rw (g, t)

-- ── a turn ───────────────────────────────────────────────────────────────────────────────────

-- what the loop has: the lists of a set, and the number of rows
abbrev pub side_now : Side → Held → Edges × ℕ
side_now side q = (side_of side (parts_of q), q.sheet.rows.count)

abbrev set_there : Side → List ℕ → FileAt → EdgeSet
set_there side l f = let s = place_of side f.front.edges in set_at (part_in l f.front.sets) f.front.head.rows s.at s.count

room_of : (side : Side) (q : Held) (l : List ℕ) (f : FileAt) → HeldRoom q l f
    → SetRoom (side_of side (parts_of q)).count q.sheet.rows.count l f.front (place_of side f.front.edges).at (place_of side f.front.edges).count
room_of Forward q l f r = r.sheet.forward
room_of Reverse q l f r = r.reverse
room_of Inbound q l f r = r.inbound

holds_of : (side : Side) (l : List ℕ) (f : FileAt) → HoldsFile l f
    → Holds l f.front.sets (set_end f.front.head.rows (place_of side f.front.edges).at (place_of side f.front.edges).count)
holds_of Forward l f r = r.sets.forward
holds_of Reverse l f r = r.sets.reverse
holds_of Inbound l f r = r.sets.inbound

side-next : (side : Side) (q : Held) (l : List ℕ) (f : FileAt)
    → side_of side (parts_of (held_next q l f)) ≡ edges_with (side_of side (parts_of q)) q.sheet.rows.count f.front.head.first (set_there side l f)
unfolding held_more sheet_more file_in file_from front_in head_in sets_in set_in
side-next Forward q l f = refl
side-next Reverse q l f = refl
side-next Inbound q l f = refl

pub side-start : (side : Side) (h : Held) (l : List ℕ) {e : Edges} {n : ℕ} → Accepted h l → e ≡ side_of side (parts_of h) → n ≡ h.sheet.rows.count
    → Walk (side_now side) h (e, n) l 0 0
side-start side h l a i j = rw (i, j) (walk_start (side_now side) h l a)

module _ (side : Side) (h : Held) (c : ℕ) (a y : List ℕ) (n : ℕ) (l : List ℕ) (k p : ℕ) (w : Walk (side_now side) h (edges_of c a y, n) l k p) where
  abbrev e : Edges
  e = edges_of c a y

  pub side-done : length l ≤ p → e ≡ side_of side (stored h l)
  side-done t = ap (λ v. v.0) (part-done (λ q. (side_of side q, q.rows.count)) h (e, n) l k p w t)

  module _ (lt : p < length l) (le : k ≤ p) (x : Option FileAt) (d : file_of l x ≡ file kinds l p) where
    pub side-none : x ≡ None → e ≡ side_of side (stored h l)
    side-none m = absurd (no-file (side_now side) h (e, n) l k p w lt le x d m)

    module _ {f : FileAt} (m : x ≡ Some f) (b : AfterFile l p x) {s : SetPlace} (i : s ≡ place_of side f.front.edges) where
      lists-are : e ≡ side_of side (parts_of w.held)
      lists-are = ap (λ v. v.0) w.is

      count_is : n ≡ w.held.sheet.rows.count
      count_is = ap (λ v. v.1) w.is

      room : HeldRoom w.held l f
      room = walk-room (side_now side) h (e, n) l k p w lt le x d m b

      pub set_holds : Holds l f.front.sets (set_end f.front.head.rows s.at s.count)
      set_holds = rw i (holds_of side l f room.holds)

      pub set_room : SetRoom c n l f.front s.at s.count
      set_room = rw (ap (λ v. v.count) lists-are, count_is, i) (room_of side w.held l f room)

      pub numbers_fit : Fits w64 (c + s.count)
      numbers_fit = omega (arith, set_room.few)

      pub rows_fit : Fits w64 (n + f.front.head.rows)
      rows_fit = omega (arith, set_room.rows)

      pub side-on : {j : ℕ} {r : Edges} → j ≡ k + 1 → r ≡ edges_with e n f.front.head.first (set_at (part_in l f.front.sets) f.front.head.rows s.at s.count)
          → Walk (side_now side) h (r, n + f.front.head.rows) l j f.tail.end
      side-on g r =
          let z : edges_with e n f.front.head.first (set_at (part_in l f.front.sets) f.front.head.rows s.at s.count)
          ≡ edges_with (side_of side (parts_of w.held)) w.held.sheet.rows.count f.front.head.first (set_there side l f) = rw (lists-are, count_is, i) in
          walk-on (side_now side) h (e, n) l k p w lt le x d m b g
          (two-are (r ∙ z ∙ sym (side-next side w.held l f)) (ap (λ c. c + f.front.head.rows) count_is ∙ sym (rows_next w.held l f)))
