-- The loop over an archive's files that grows the links: what one file adds, and one turn.
use Rattle.std.specs.Prelude.{None, Some, Option}
use mathlib.Core.Path.{◌≡◌, refl, sym, ap, ◌∙◌}
use mathlib.Core.Bool.{true, false, not}
use mathlib.Core.List.{List, map}
use Prim.Native.Nat.{ℕ, ◌≤◌, ◌<◌, ◌+◌, ◌*◌}
use lib.ListN.{length, drop, replicate}
use lib.Seq.{sets}
use mir.Syntax.{w64}
use mir.Val.{Fits}
use native.Mathlib.Omega.{arith}
use borrow.Author.Tests.{not-true, not-false}
use Rattle.columns.specs.Limits.{kinds}
use Rattle.archive_bytes.specs.Bytes.{be, column}
use Rattle.cover.specs.Cover.{sums}
use Rattle.archive.specs.File.{CoverColumns}
use Rattle.archive.specs.Parse.{file}
use Rattle.archive.proofs.Back.{length-several}
use Rattle.archive_read.specs.bodies.View.{links_place, head_in, cover_in}
use Rattle.archive_read.specs.Layout.{part_in, front_in, tail_in, file_from, file_in, file_of, HoldsTail, Uncovers, AfterFile}
use Rattle.archive_read.specs.declared.records.TailAt.{TailAt}
use Rattle.archive_read.specs.declared.records.FileAt.{FileAt}
use Rattle.archive_read.proofs.AtFiles.{file-holds, file-counts}
use Rattle.run_state.specs.declared.Links.{Links}
use Rattle.run_state.specs.declared.Held.{Held}
use Rattle.run_store.specs.parts.Grown.{links_with}
use Rattle.run_store.proofs.parts.Things.{same-several}
use Rattle.run_store.specs.joined.Joined.{links_more, sheet_more, held_more}
use Rattle.run_store.specs.file.Fits.{SumsIn, HeldRoom}
use Rattle.run_store.specs.file.Steps.{held_next}
use Rattle.run_store.specs.turns.Parts.{stored, Accepted}
use Rattle.run_store.proofs.turns.Turns.{Walk, walk_start, part-done, walk-room, walk-on, no-file}
use Rattle.run_state.specs.ByColumns.{links_of}
use Rattle.run_store.specs.links.Columns.{EndsMore}

-- ── what a file adds ─────────────────────────────────────────────────────────────────────────

module _ (l : List ℕ) (n : ℕ) (t : TailAt) where
  abbrev read : CoverColumns
  read = cover_in (part_in l t.body) n t.cover

  abbrev place : ℕ
  place = links_place n t.cover.ranges + 4

  abbrev part : ℕ → List ℕ
  part at = column 4 t.cover.links (part_in l t.body) at

  pub ends-added : (c : ℕ) (a b x y : List ℕ) {a' b' x' y' : List ℕ} → a' ≡ sets a c (sums 0 (part place)) → b' ≡ sets b c (part (place + t.cover.links * 4))
      → x' ≡ sets x c (part (place + t.cover.links * 4 + t.cover.links * 4)) → y' ≡ sets y c (part (place + t.cover.links * 4 + t.cover.links * 4 + t.cover.links * 4))
      → EndsMore c a b x y a' b' x' y' read
  unfolding cover_in
  ends-added c a b x y e f g h = record { chains = e; seqs = f; to_chains = g; to_seqs = h }

  pub sums-there : SumsIn t.covered l n t → not t.covered ≡ false → SumsIn true l n t
  sums-there h k = rw (not-false t.covered k) at h

  module _ (c group : ℕ) (s a b x y : List ℕ) where
    pub links-none : Uncovers t.covered t.cover → not t.covered ≡ true → links_of (c + t.cover.links) s a b x y ≡ links_more (links_of c s a b x y) group (tail_in l n t).cover
    unfolding links_more tail_in
    links-none u h =
        let v = rw (not-true t.covered h) at u in
        let z : c + t.cover.links ≡ c = omega (arith, v.1) in
        rw (not-true t.covered h, z)

    pub links-some : {s' a' b' x' y' : List ℕ} → not t.covered ≡ false → s' ≡ sets s c (replicate t.cover.links group) → EndsMore c a b x y a' b' x' y' read
        → links_of (c + t.cover.links) s' a' b' x' y' ≡ links_more (links_of c s a b x y) group (tail_in l n t).cover
    unfolding links_more links_with tail_in cover_in
    links-some h e m =
        let count : length read.links.from_chains ≡ t.cover.links = counted in
        let same : map (λ v. group) read.links.from_chains ≡ replicate t.cover.links group = groups in
        rw (not-false t.covered h, e, m.chains, m.seqs, m.to_chains, m.to_seqs, count, same)
      where
        counted : length read.links.from_chains ≡ t.cover.links
        counted = length-several 4 (λ l. be 4 l 0) t.cover.links (drop place (part_in l t.body))

        groups : map (λ v. group) read.links.from_chains ≡ replicate t.cover.links group
        groups = same-several 4 (λ l. be 4 l 0) group t.cover.links (drop place (part_in l t.body))

-- ── a turn ───────────────────────────────────────────────────────────────────────────────────

abbrev pub links_now : Held → Links
links_now q = q.sheet.links

pub links-start : (h : Held) (l : List ℕ) {r : Links} → Accepted h l → r ≡ h.sheet.links → Walk links_now h r l 0 0
links-start h l a e = rw e (walk_start links_now h l a)

links-then : (q : Held) (l : List ℕ) (f : FileAt) → links_now (held_next q l f) ≡ links_more (links_now q) f.front.head.group (tail_in l f.front.head.rows f.tail).cover
unfolding held_more sheet_more file_in file_from front_in head_in
links-then q l f = refl

module _ (h : Held) (c : ℕ) (s a b x y : List ℕ) (l : List ℕ) (k p : ℕ) (w : Walk links_now h (links_of c s a b x y) l k p) where
  abbrev r : Links
  r = links_of c s a b x y

  pub links-done : length l ≤ p → r ≡ (stored h l).links
  links-done g = part-done (λ q. q.links) h r l k p w g

  module _ (lt : p < length l) (le : k ≤ p) (z : Option FileAt) (d : file_of l z ≡ file kinds l p) where
    pub no-links : z ≡ None → r ≡ (stored h l).links
    no-links m = absurd (no-file links_now h r l k p w lt le z d m)

    module _ {f : FileAt} (m : z ≡ Some f) (i : AfterFile l p z) where
      room : HeldRoom w.held l f
      room = walk-room links_now h r l k p w lt le z d m i

      pub links-hold : HoldsTail l f.front.head.rows f.tail
      links-hold = (file-holds l p z i m).tail

      pub links-sums : SumsIn f.tail.covered l f.front.head.rows f.tail
      links-sums = room.sheet.sums

      pub links-uncovers : Uncovers f.tail.covered f.tail.cover
      links-uncovers = (file-counts l p z i m).5

      pub links-room : c + f.tail.cover.links ≤ 1024
      links-room = rw (ap (λ v. v.count) w.is) room.sheet.links

      pub links-rows : f.front.head.rows ≤ 1024
      links-rows = omega (arith, room.sheet.rows)

      pub links-ranges : f.tail.cover.ranges ≤ 1024
      links-ranges = room.sheet.ranges

      pub links-fit : Fits w64 (c + f.tail.cover.links)
      links-fit = omega (arith, links-room)

      pub links-on : {j : ℕ} {t : Links} → j ≡ k + 1 → t ≡ links_more r f.front.head.group (tail_in l f.front.head.rows f.tail).cover → Walk links_now h t l j f.tail.end
      links-on g e = walk-on links_now h r l k p w lt le z d m i g
          (e ∙ ap (λ v. links_more v f.front.head.group (tail_in l f.front.head.rows f.tail).cover) w.is ∙ sym (links-then w.held l f))
