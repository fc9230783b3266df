-- The rules of an archive's files: one turn of the loop over them, and each of its answers.
use Rattle.std.specs.declared.option.Option as rust
use Rattle.std.specs.Prelude.{Err, None, Ok, Result, Some}
use mathlib.Core.Path.{◌≡◌, refl, sym, ◌∙◌, ap}
use mathlib.Core.Bool.{Bool, true, false, cond}
use mathlib.Core.List.{List, ◌∷◌}
use mathlib.Core.Option.{Option, none, some}
use Prim.Native.Nat.{ℕ, suc, ◌+◌, ◌-◌, ◌≤◌, ◌<◌}
use native.Mathlib.Nat.{add-zero}
use native.Mathlib.Omega.{arith}
use lib.Dec.{leb, ltb}
use lib.ListN.{length, take, drop, length-drop}
use lib.Seq.{sets, length-sets, length-take-le}
use borrow.Author.Tests.{lt-leb, leb-true, ltb-true}
use Rattle.lists.specs.Lists.{sum}
use Rattle.lists.proofs.Tests.{both}
use Rattle.lists.proofs.Slices.{take-sets}
use Rattle.columns.specs.Limits.{kinds, end64}
use Rattle.columns.proofs.Served.{kinds-served}
use Rattle.columns.specs.Building.{subject_ok, numbers_ok}
use Rattle.columns.specs.declared.refusal.Refusal.{Refusal}
use Rattle.columns.specs.declared.refusal.Refusal.TheVariants.{SubjectLength, NumberRange}
use Rattle.columns.proofs.FirstBroken.{each_none, passed}
use Rattle.columns.specs.Answers.{ruling}
use Rattle.columns.proofs.Told.{told-kept, stops-here, goes_on}
use Rattle.archive.specs.Reader.{Parsed, broken, got, and_then, ◌>>=◌}
use Rattle.archive.specs.File.{CoverColumns, File}
use Rattle.archive.specs.Parse.{file, files, parse}
use Rattle.archive_read.specs.bodies.View.{head_in, cover_in}
use Rattle.archive_read.specs.Layout.{part_in, front_in, tail_in, Uncovers, file_from, file_of, file_in, HoldsHead, AfterFile}
use Rattle.archive_read.proofs.AtFiles.{rows_counted, forward-counted, reverse-counted, inbound-counted, ranges-counted, links-counted, files-end, file-past, file-fits, file-holds}
use Rattle.archive_read.specs.Sums.{totals, totals_of}
use Rattle.archive_read.specs.declared.records.FileAt.{FileAt}
use Rattle.cleaning.specs.Source.{Source, cover_read, source_of, is_there}
use Rattle.cleaning.specs.Held.{ending}
use Rattle.cleaning.proofs.HeldLimits.{files-alike}
use Rattle.cleaning.specs.Taking.{file_rules, files_rules}
use Rattle.run_rules.specs.parts.Back.{back_of}
use Rattle.run_rules.specs.declared.parts.heads.Back.{Back}
use Rattle.run_rules.specs.files.Parts.{subject_in, Small}
use Rattle.run_rules.specs.files.Archive.{rules_of, Within, seen_of, ends_with}
use Rattle.run_rules.specs.declared.files.all.Seen.{Seen}

-- ── what a file looks back at ────────────────────────────────────────────────────────────────

covered_same : (group : ℕ) (subject : List ℕ) (end : ℕ) (t : Bool) (c : CoverColumns) → is_there (ending group subject end t).cover ≡ is_there (cover_read (cond t (some c) none))
unfolding ending
covered_same group subject end true c = refl
covered_same group subject end false c = refl

module _ (l : List ℕ) (f : FileAt) where
  pub looks-back : (fs : List File)
      → files_rules kinds (ends_with f.front.head.group (subject_in l f.front) (f.front.head.first + f.front.head.rows) f.tail.covered) fs
      ≡ files_rules kinds (some (source_of kinds (file_in l f))) fs
  unfolding ending source_of file_in file_from front_in head_in tail_in
  looks-back fs =
      let h = f.front.head in
      let end = h.first + h.rows in
      files-alike kinds kinds-served (ending h.group (subject_in l f.front) end f.tail.covered) (source_of kinds (file_in l f)) refl refl
      (add-zero end ∙ ap (λ n. h.first + n) (sym (rows_counted l f)))
      (covered_same h.group (subject_in l f.front) end f.tail.covered (cover_in (part_in l f.tail.body) h.rows f.tail.cover)) fs

  first-same : (file_in l f).first ≡ f.front.head.first
  unfolding file_in file_from front_in head_in
  first-same = refl

-- ── a subject kept ───────────────────────────────────────────────────────────────────────────

pub seen-is : (back : Back) (subject was name : List ℕ) → length subject ≤ 255 → length was ≡ 255 → name ≡ sets was 0 subject
    → seen_of (record { back = back; length = length subject; subject = name }) ≡ back_of back subject
unfolding seen_of
seen-is back subject was name h u e = rw (e, take-sets was subject (length subject) refl (omega arith))

pub seen-cut : (back : Back) (b : List ℕ) (n : ℕ) (s : Seen) → seen_of s ≡ back_of back (take (14 + n - 14) (drop 14 b)) → seen_of s ≡ back_of back (take n (drop 14 b))
seen-cut back b n s e = let z : 14 + n - 14 ≡ n = omega arith in rw z at e

pub seen-ends : (group : ℕ) (subject : List ℕ) (end : ℕ) (covered : Bool) (s : Seen) → seen_of s ≡ back_of (record { known = true; group = group; end = end; covered = covered }) subject
    → seen_of s ≡ ends_with group subject end covered
unfolding back_of
seen-ends group subject end covered s e = e

pub seen-fits : (subject was name : List ℕ) → length subject ≤ 255 → length was ≡ 255 → name ≡ sets was 0 subject → length subject ≤ length name
seen-fits subject was name h u e = rw (e, length-sets, u) h

pub name-count : (s : Seen) → s.length ≤ length s.subject → s.length ≡ length (take s.length s.subject)
name-count s h = sym (length-take-le s.length s.subject h)

pub seen-rules : (s : Seen) (f : File) {r : Result (Unit {0}) Refusal} → r ≡ ruling (file_rules kinds (back_of s.back (take s.length s.subject)) f) → r ≡ ruling (file_rules kinds (seen_of s) f)
unfolding seen_of
seen-rules s f e = e

-- ── sums within the limits ───────────────────────────────────────────────────────────────────

module _ (l : List ℕ) (f : FileAt) (u : Uncovers f.tail.covered f.tail.cover) where
  within_both : (r : Parsed (List File)) → Within (totals_of (and_then r (λ fs q. got (file_in l f ∷ fs) q))) → Small f × Within (totals_of r)
  unfolding totals_of totals sum
  within_both broken w = absurd w
  within_both (got fs q) w =
      let a = rows_counted l f in
      let b = ranges-counted l f u in
      let c = links-counted l f u in
      let d = forward-counted l f in
      let e = reverse-counted l f in
      let g = inbound-counted l f in (
        record {
          rows = omega (arith, w.0);
          forwards = omega (arith, w.3);
          reverses = omega (arith, w.4);
          inbounds = omega (arith, w.5);
          ranges = omega (arith, w.1);
          links = omega (arith, w.2);
        },
        (omega (arith, w.0), omega (arith, w.1), omega (arith, w.2), omega (arith, w.3), omega (arith, w.4), omega (arith, w.5)),
      )

-- ── one turn ─────────────────────────────────────────────────────────────────────────────────

pub rules-start : (l : List ℕ) (s : Seen) → ruling (rules_of (seen_of s) (parse kinds l)) ≡ ruling (rules_of (seen_of s) (files kinds (length l - 0) l 0))
unfolding parse
rules-start l s = let z : length l - 0 ≡ length l = omega arith in rw z

-- what is seen before the first file is what was handed over
pub first-look : (l : List ℕ) (before : Option Source) (s : Seen) {r : Result (Unit {0}) Refusal}
    → r ≡ ruling (rules_of (seen_of s) (parse kinds l)) → seen_of s ≡ before → r ≡ ruling (rules_of before (parse kinds l))
first-look l before s e i = rw i at e

pub within-start : (l : List ℕ) → Within (totals_of (parse kinds l)) → Within (totals_of (files kinds (length l - 0) l 0))
unfolding parse
within-start l w = let z : length l - 0 ≡ length l = omega arith in rw z w

module _ {t : Result (Unit {0}) Refusal} (l : List ℕ) (s : Seen) (k p : ℕ) (e : t ≡ ruling (rules_of (seen_of s) (files kinds (length l - k) l p))) where
  pub files-done : length l ≤ p → (Ok tt) ≡ t
  unfolding rules_of files_rules
  files-done h = rw (e, files-end (length l - k) l p h)

  module _ (h : p < length l) (g : k ≤ p) (x : rust.Option FileAt) (d : file_of l x ≡ file kinds l p) (w : Within (totals_of (files kinds (length l - k) l p))) where
    step : files kinds (length l - k) l p ≡ and_then (file_of l x) (λ f q. and_then (files kinds (length l - (k + 1)) l q) (λ fs q. got (f ∷ fs) q))
    unfolding files ◌>>=◌
    step = let z : length l - k ≡ suc (length l - (k + 1)) = omega arith in rw (z, lt-leb (length l) p h, d)

    pub no-archive : x ≡ None → {r : Result (Unit {0}) Refusal} → r ≡ t
    unfolding totals_of
    no-archive m = absurd (let v = rw (step, m) at w in v)

    module _ {f : FileAt} (m : x ≡ Some f) (a : AfterFile l p x) where
      here : files kinds (length l - k) l p ≡ and_then (files kinds (length l - (k + 1)) l f.tail.end) (λ fs q. got (file_in l f ∷ fs) q)
      here = step ∙ rw m

      both-within : Small f × Within (totals_of (files kinds (length l - (k + 1)) l f.tail.end))
      both-within = let c = rw m at a in within_both l f c.2.5 (files kinds (length l - (k + 1)) l f.tail.end) (rw here at w)

      pub is-small : Small f
      is-small = both-within.0

      pub still-within : (j : ℕ) → j ≡ k + 1 → Within (totals_of (files kinds (length l - j) l f.tail.end))
      still-within j i = rw i both-within.1

      module _ {r : Result (Unit {0}) Refusal} (v : r ≡ ruling (file_rules kinds (seen_of s) (file_in l f))) where
        pub files-stop : {y : Refusal} → r ≡ Err y → Err y ≡ t
        unfolding rules_of files_rules totals_of
        files-stop {y} q = rw (e, here) (go (files kinds (length l - (k + 1)) l f.tail.end) both-within.1)
          where
            go : (o : Parsed (List File)) → Within (totals_of o) → Err y ≡ ruling (rules_of (seen_of s) (and_then o (λ fs q. got (file_in l f ∷ fs) q)))
            go broken z = absurd z
            go (got fs n) z = stops-here (file_rules kinds (seen_of s) (file_in l f)) (files_rules kinds (some (source_of kinds (file_in l f))) fs) v y q

        pub files-on : r ≡ Ok tt → (j : ℕ) → j ≡ k + 1 → (z : Seen)
            → seen_of z ≡ ends_with f.front.head.group (subject_in l f.front) (f.front.head.first + f.front.head.rows) f.tail.covered
            → t ≡ ruling (rules_of (seen_of z) (files kinds (length l - j) l f.tail.end))
        unfolding rules_of files_rules totals_of
        files-on q j n z i = rw (n, e, here, i) (go (files kinds (length l - (k + 1)) l f.tail.end) both-within.1)
          where
            after : Option Source
            after = ends_with f.front.head.group (subject_in l f.front) (f.front.head.first + f.front.head.rows) f.tail.covered

            go : (o : Parsed (List File)) → Within (totals_of o) → ruling (rules_of (seen_of s) (and_then o (λ fs q. got (file_in l f ∷ fs) q))) ≡ ruling (rules_of after o)
            go broken n = absurd n
            go (got fs n) u =
                sym (goes_on (file_rules kinds (seen_of s) (file_in l f)) (files_rules kinds (some (source_of kinds (file_in l f))) fs) v q refl) ∙ sym (ap ruling (looks-back l f fs))

module _ (l : List ℕ) (p : ℕ) (x : rust.Option FileAt) {f : FileAt} (a : AfterFile l p x) (m : x ≡ Some f) where
  pub head-holds : HoldsHead l f.front.head f.front.file
  head-holds = (file-holds l p x a m).head

  pub fewer-left : p < length l → length l - f.tail.end < length l - p
  fewer-left h = omega (arith, file-past l p x a m, file-fits l p x a m)

  pub count-below : (k : ℕ) → k ≤ p → k < f.tail.end
  count-below k h = omega (arith, file-past l p x a m)

  pub count-on : (k j : ℕ) → k ≤ p → j ≡ k + 1 → j ≤ f.tail.end
  count-on k j h i = omega (arith, file-past l p x a m)

-- ── what a file that keeps its rules says of its subject and its numbers ─────────────────────

module _ (l : List ℕ) (before : Option Source) (f : FileAt) {r : Result (Unit {0}) Refusal} (v : r ≡ ruling (file_rules kinds before (file_in l f))) (q : r ≡ Ok tt) where
  kept : file_rules kinds before (file_in l f) ≡ none
  kept = told-kept (file_rules kinds before (file_in l f)) v q

  pub kept-subject : (p : ℕ) (x : rust.Option FileAt) → AfterFile l p x → x ≡ Some f → f.front.head.subject ≤ 255
  unfolding file_rules subject_ok file_in file_from front_in head_in
  kept-subject p x a m =
      let h = file-holds l p x a m in
      let n = f.front.head.subject in
      let b = part_in l f.front.file in
      let c = passed SubjectLength (subject_ok (take n (drop 14 b))) (each_none (_ ∷ _) kept).0 in
      let d = leb-true (length (take n (drop 14 b))) 255 (both (ltb 0 (length (take n (drop 14 b)))) (leb (length (take n (drop 14 b))) 255) c).1 in
      let e : length (take n (drop 14 b)) ≡ n = length-take-le n (drop 14 b) (rw (length-drop 14 b) (omega (arith, h.head.long))) in
      omega arith

  pub kept-numbers : f.front.head.first + f.front.head.rows < end64
  unfolding file_rules numbers_ok
  kept-numbers =
      let n = length (file_in l f).rows in
      let c = passed NumberRange (ltb ((file_in l f).first + n) end64) (each_none (_ ∷ _) kept).1.0 in
      omega (arith, ltb-true ((file_in l f).first + n) end64 c, rows_counted l f, first-same l f)
