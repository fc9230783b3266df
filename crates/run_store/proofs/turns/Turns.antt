-- A loop over an archive's files that stores one part of what a run holds: its start, one turn, and its end.
use Rattle.std.specs.Prelude.{None, Some, Option}
use mathlib.Core.Path.{◌≡◌, refl, sym, ap, ◌∙◌}
use mathlib.Core.Bool.{true, false, not, false≢true}
use mathlib.Core.List.{List, ◌∷◌, map, foldl}
use Prim.Native.Nat.{ℕ, suc, ◌+◌, ◌-◌, ◌≤◌, ◌<◌}
use native.Mathlib.Omega.{arith}
use lib.ListN.{length}
use borrow.Author.Tests.{lt-leb, not-false}
use Rattle.columns.specs.Limits.{kinds}
use Rattle.lists.specs.Lists.{Each}
use Rattle.lists.proofs.Tests.{both}
use Rattle.archive.specs.Reader.{Parsed, broken, got, and_then, ◌>>=◌}
use Rattle.archive.specs.File.{File}
use Rattle.archive.specs.Fits.{FileFits}
use Rattle.archive.specs.Parse.{file, files, parse}
use Rattle.archive_read.specs.Layout.{file_in, file_of, HoldsCover, HoldsTail, HoldsFile, Uncovers, AfterFile}
use Rattle.archive_read.specs.declared.records.TailAt.{TailAt}
use Rattle.archive_read.specs.declared.records.FileAt.{FileAt}
use Rattle.archive_read.proofs.AtFiles.{files-end, file-past, file-fits, file-counts, file-holds, rows_counted}
use Rattle.cleaning.specs.Source.{source_of}
use Rattle.cleaning.specs.Held.{held_with}
use Rattle.cleaning.specs.History.{files_in}
use Rattle.cleaning.proofs.Neat.{Neat}
use Rattle.run_state.specs.declared.Held.{Held}
use Rattle.run_state.specs.View.{held_in}
use Rattle.run_state.specs.Valid.{sheet_ok, held_ok}
use Rattle.run_state.specs.order.Long.{LongHeld}
use Rattle.run_state.specs.order.Ordered.{ordered}
use Rattle.run_state.proofs.order.TidySheets.{neat-held, ordered_sheet}
use Rattle.run_store.specs.file.Fits.{HeldRoom}
use Rattle.run_store.specs.file.Steps.{held_next}
use Rattle.run_store.specs.parts.Grown.{rows_with}
use Rattle.run_store.specs.joined.Joined.{sheet_more, held_more}
use Rattle.run_store.proofs.joined.Whole.{more-count}
use Rattle.run_store.specs.fits.Left.{Left}
use Rattle.run_store.proofs.fits.Fitted.{held-room}
use Rattle.run_store.specs.turns.Going.{is_got, held_after}
use Rattle.run_store.specs.turns.Parts.{Parts, parts_of, parts_more, parts_after, stored, Accepted}
use Rattle.run_store.proofs.turns.LeftOver.{left-start, view-next, ok-next, neat-next, left_next}
use Rattle.run_store.proofs.turns.LongNext.{long-more}

-- what was held at first, what is held after some files, and what the rest of the bytes are read as
pub record Going (h q : Held) (l : List ℕ) (r : Parsed (List File)) : Type 0 where
  pub parsed : is_got r ≡ true
  pub long : LongHeld q
  pub ok : held_ok q ≡ true
  pub neat : Neat kinds (held_in q)
  pub left : Left q (files_in r)
  pub fits : Each (FileFits kinds) (files_in r)
  pub whole : held_after h (parse kinds l) ≡ held_after q r
  pub parts : stored h l ≡ parts_after (parts_of q) (files_in r)

-- what a loop has after k files, at place p, is a view of what is held then
pub record Walk {A : Type 0} (view : Held → A) (h : Held) (a : A) (l : List ℕ) (k p : ℕ) : Type 0 where
  pub held : Held
  pub going : Going h held l (files kinds (length l - k) l p)
  pub is : a ≡ view held

pub walk_start : {A : Type 0} (view : Held → A) (h : Held) (l : List ℕ) → Accepted h l → Walk view h (view h) l 0 0
unfolding parse
walk_start view h l a =
    let z : length l - 0 ≡ length l = omega arith in
    let g : Going h h l (files kinds (length l) l 0) = record {
      parsed = a.parsed;
      long = a.long;
      ok = a.ok;
      neat = neat-held h a.long a.ok a.order;
      left = left-start h (files_in (parse kinds l)) a.long a.ok a.rules;
      fits = a.fits;
      whole = refl;
      parts = refl;
    } in
    record { held = h; going = rw z g; is = refl }

-- ── the rest of the bytes ────────────────────────────────────────────────────────────────────

got-rest : (x : File) (o : Parsed (List File)) → is_got (and_then o (λ fs q. got (x ∷ fs) q)) ≡ true → (is_got o ≡ true) × (files_in (and_then o (λ fs q. got (x ∷ fs) q)) ≡ x ∷ files_in o)
got-rest x broken e = absurd (false≢true e)
got-rest x (got fs q) e = (refl, refl)

parts_next : (h : Held) (f : File) (flag least greatest : ℕ) → parts_of (held_more h f flag least greatest) ≡ parts_more (parts_of h) f
unfolding held_more sheet_more parts_more
parts_next h f flag least greatest = refl

-- the number of rows with a file more
pub rows_next : (h : Held) (l : List ℕ) (f : FileAt) → (held_next h l f).sheet.rows.count ≡ h.sheet.rows.count + f.front.head.rows
unfolding held_more sheet_more rows_with
rows_next h l f =
    let n = h.sheet.rows.count in
    more-count (rows_with h.sheet.rows (file_in l f).group (file_in l f).rows) n (file_in l f).cover ∙ ap (λ m. n + m) (rows_counted l f)

-- two things that a loop has
pub two-are : {A B : Type 0} {a c : A} {b d : B} → a ≡ c → b ≡ d → ◌≡◌ {A = A × B} (a, b) (c, d)
two-are e f = rw (e, f)

module _ {A : Type 0} (view : Held → A) (h : Held) (a : A) (l : List ℕ) (k p : ℕ) (w : Walk view h a l k p) where
  abbrev q : Held
  q = w.held

  abbrev g : Going h q l (files kinds (length l - k) l p)
  g = w.going

  -- what is held at the end is what the archive's files leave
  pub walk-whole : length l ≤ p → held_in q ≡ held_after h (parse kinds l)
  walk-whole e = sym (g.whole ∙ ap (held_after q) (files-end (length l - k) l p e))

  pub walk-parts : length l ≤ p → parts_of q ≡ stored h l
  unfolding parts_after
  walk-parts e = sym (g.parts ∙ ap (λ r. parts_after (parts_of q) (files_in r)) (files-end (length l - k) l p e))

  pub walk-ordered : ordered q.sheet ≡ true
  unfolding held_ok held_in
  walk-ordered = ordered_sheet q.sheet g.long.sheet (both (sheet_ok q.sheet) _ g.ok).0 g.neat.tidy

  module _ (lt : p < length l) (le : k ≤ p) (x : Option FileAt) (d : file_of l x ≡ file kinds l p) where
    step : files kinds (length l - k) l p ≡ and_then (file_of l x) (λ f e. and_then (files kinds (length l - (k + 1)) l e) (λ fs e. got (f ∷ fs) e))
    unfolding files ◌>>=◌
    step = let z : length l - k ≡ suc (length l - (k + 1)) = omega arith in rw (z, lt-leb (length l) p lt, d)

    pub no-file : x ≡ None → ⊥
    no-file m = let e : files kinds (length l - k) l p ≡ broken = step ∙ rw m in false≢true (sym (ap is_got e) ∙ g.parsed)

    module _ {f : FileAt} (m : x ≡ Some f) (b : AfterFile l p x) where
      abbrev rest : Parsed (List File)
      rest = files kinds (length l - (k + 1)) l f.tail.end

      here : files kinds (length l - k) l p ≡ and_then rest (λ fs e. got (file_in l f ∷ fs) e)
      here = step ∙ rw m

      split : (is_got rest ≡ true) × (files_in (files kinds (length l - k) l p) ≡ file_in l f ∷ files_in rest)
      split = let t = got-rest (file_in l f) rest (sym (ap is_got here) ∙ g.parsed) in (t.0, ap files_in here ∙ t.1)

      left_here : Left q (file_in l f ∷ files_in rest)
      left_here = rw split.1 at g.left

      fits-here : Each (FileFits kinds) (file_in l f ∷ files_in rest)
      fits-here = rw split.1 at g.fits

      holds : HoldsFile l f
      holds = file-holds l p x b m

      uncovers : Uncovers f.tail.covered f.tail.cover
      uncovers = (file-counts l p x b m).5

      pub walk-room : HeldRoom q l f
      walk-room = held-room q l f (files_in rest) g.long g.ok g.neat left_here holds uncovers

      next : Going h (held_next q l f) l rest
      unfolding parts_after
      next = record {
        parsed = split.0;
        long = long-more q (file_in l f) f.front.head.flag f.front.head.least f.front.head.greatest g.long;
        ok = ok-next q l f (files_in rest) g.long g.ok g.neat left_here holds uncovers;
        neat = neat-next q l f (files_in rest) g.long g.ok g.neat left_here holds uncovers fits-here;
        left = left_next q l f (files_in rest) g.long g.ok g.neat left_here holds uncovers;
        fits = fits-here.1;
        whole = g.whole ∙ ap (λ fs. foldl held_with (held_in q) (map (source_of kinds) fs)) split.1
            ∙ ap (λ s. foldl held_with s (map (source_of kinds) (files_in rest))) (sym (view-next q l f (files_in rest) g.long g.ok g.neat left_here holds uncovers));
        parts = g.parts ∙ ap (parts_after (parts_of q)) split.1
            ∙ ap (λ s. parts_after s (files_in rest)) (sym (parts_next q (file_in l f) f.front.head.flag f.front.head.least f.front.head.greatest));
      }

      pub walk-on : {c : A} {j : ℕ} → j ≡ k + 1 → c ≡ view (held_next q l f) → Walk view h c l j f.tail.end
      walk-on i e = rw i (record { held = held_next q l f; going = next; is = e })

-- a loop whose part is told by the files alone
pub part-done : {A : Type 0} (v : Parts → A) (h : Held) (a : A) (l : List ℕ) (k p : ℕ) → Walk (λ q. v (parts_of q)) h a l k p → length l ≤ p → a ≡ v (stored h l)
part-done v h a l k p w e = w.is ∙ ap v (walk-parts (λ q. v (parts_of q)) h a l k p w e)

module _ (l : List ℕ) (p : ℕ) (x : Option FileAt) {f : FileAt} (a : AfterFile l p x) (m : x ≡ Some f) where
  pub fewer-left : p < length l → length l - f.tail.end < length l - p
  fewer-left h = omega (arith, file-past l p x a m, file-fits l p x a m)

  pub count-below : (k : ℕ) → k ≤ p → k < f.tail.end
  count-below k h = omega (arith, file-past l p x a m)

  pub count-on : (k j : ℕ) → k ≤ p → j ≡ k + 1 → j ≤ f.tail.end
  count-on k j h i = omega (arith, file-past l p x a m)

-- the columns of a cover are there where there is one
pub cover-there : (l : List ℕ) (n : ℕ) (t : TailAt) → HoldsTail l n t → not t.covered ≡ false → HoldsCover l n t.cover t.body
cover-there l n t h k = rw (not-false t.covered k) at h.cover
