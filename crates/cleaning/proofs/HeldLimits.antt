-- What a taking refuses, by what a run holds: the same as by its sources.
use mathlib.Core.Path.{◌≡◌, refl, ap, sym, ◌∙◌}
use mathlib.Core.Bool.{Bool, true, false, cond}
use mathlib.Core.List.{List, [], ◌∷◌, ◌++◌, map, foldl, foldl-append}
use mathlib.Core.Logic.{inl, inr}
use mathlib.Core.Option.{Option, none, some}
use Prim.Native.Nat.{ℕ, suc, ◌+◌, ◌-◌, ◌≤◌}
use native.Mathlib.Omega.{arith}
use native.Mathlib.Nat.{zero-add, add-zero}
use lib.Dec.{ltb}
use lib.ListN.{length, get_or, length-append, length-map}
use borrow.Author.Tests.{ltb-true, ltb-false, le-leb}
use Rattle.columns.specs.Limits.{Served}
use Rattle.lists.specs.Lists.{sum, add, once, is_empty, up_from, last}
use Rattle.lists.proofs.Flat.{sum-append, up_from-snoc}
use Rattle.lists.proofs.Once.{add-there, add-new, fold-once}
use Rattle.lists.proofs.Rising.{mem-up_from}
use Rattle.lists.proofs.Tests.{tested}
use Rattle.columns.specs.Refusal.{first_of}
use Rattle.archive.specs.File.{File}
use Rattle.cleaning.specs.Source.{SourceCover, Source, source_of, end_of, is_there, range_count, link_count}
use Rattle.cleaning.specs.Taking.{total, group_count, over_records, over_numbers, file_rules, files_rules, take_rules}
use Rattle.cleaning.specs.Sheet.{row_count}
use Rattle.cleaning.specs.Held.{Held, nothing, links_in, shifted, sheet_with, held_with, held_of, records_over, numbers_over, ending, no_facts, look_back, hold_rules}
use Rattle.cleaning.proofs.Taken.{Followed}
use Rattle.cleaning.proofs.HeldRows.{HeldTo, not-empty, ready, held_with_lem, held_to}

-- ── figures ──────────────────────────────────────────────────────────────────────────────────

-- a figure of what is held, to which a source adds its own
module _ (q : Held → ℕ) (own : Source → ℕ) (adds : (h : Held) (s : Source) → q (held_with h s) ≡ q h + own s) where
  figure-after : (h : Held) (ss : List Source) → q (foldl held_with h ss) ≡ q h + sum own ss
  unfolding sum
  figure-after h [] = sym (add-zero (q h))
  figure-after h (s ∷ ss) = omega (arith, figure-after (held_with h s) ss, adds h s)

  figure : q nothing ≡ 0 → (ss : List Source) → q (held_of ss) ≡ sum own ss
  unfolding held_of
  figure e ss = omega (arith, figure-after nothing ss)

rows-figure : (ss : List Source) → length (held_of ss).sheet.tags ≡ sum (λ s. length s.rows) ss
unfolding nothing held_with sheet_with
rows-figure = figure (λ h. length h.sheet.tags) (λ s. length s.rows)
    (λ h s. omega (arith, length-append h.sheet.tags (map (λ r. r.tag) s.rows), length-map s.rows (λ r. r.tag))) refl

roots-figure : (ss : List Source) → length (held_of ss).sheet.roots ≡ sum (λ s. length s.roots) ss
unfolding nothing held_with sheet_with shifted
roots-figure = figure (λ h. length h.sheet.roots) (λ s. length s.roots)
    (λ h s. length-append h.sheet.roots (shifted (row_count h.sheet) s.roots)
    ∙ ap (λ n. length h.sheet.roots + n) (length-map s.roots (λ r. record { row = row_count h.sheet + r.row; handle = r.handle }))) refl

unresolved-figure : (ss : List Source) → length (held_of ss).sheet.unresolved ≡ sum (λ s. length s.unresolved) ss
unfolding nothing held_with sheet_with
unresolved-figure = figure (λ h. length h.sheet.unresolved) (λ s. length s.unresolved) (λ h s. length-append h.sheet.unresolved s.unresolved) refl

ranges-figure : (ss : List Source) → (held_of ss).ranges ≡ sum (λ s. range_count s.cover) ss
unfolding nothing held_with
ranges-figure = figure (λ h. h.ranges) (λ s. range_count s.cover) (λ h s. refl) refl

length-links : (c : Option SourceCover) → length (links_in c) ≡ link_count c
length-links none = refl
length-links (some c) = refl

links-figure : (ss : List Source) → length (held_of ss).sheet.links ≡ sum (λ s. link_count s.cover) ss
unfolding nothing held_with sheet_with
links-figure = figure (λ h. length h.sheet.links) (λ s. link_count s.cover)
    (λ h s. length-append h.sheet.links (map (λ l. record { group = s.group; link = l }) (links_in s.cover))
    ∙ ap (λ n. length h.sheet.links + n) (length-map (links_in s.cover) (λ l. record { group = s.group; link = l }) ∙ length-links s.cover)) refl

forward-figure : (ss : List Source) → sum length (held_of ss).sheet.lists ≡ sum (λ s. sum length s.forward) ss
unfolding nothing held_with sheet_with sum
forward-figure = figure (λ h. sum length h.sheet.lists) (λ s. sum length s.forward) (λ h s. sum-append length h.sheet.lists s.forward) refl

reverse-figure : (ss : List Source) → sum length (held_of ss).reverse ≡ sum (λ s. sum length s.reverse) ss
unfolding nothing held_with sum
reverse-figure = figure (λ h. sum length h.reverse) (λ s. sum length s.reverse) (λ h s. sum-append length h.reverse s.reverse) refl

inbound-figure : (ss : List Source) → sum length (held_of ss).inbound ≡ sum (λ s. sum length s.inbound) ss
unfolding nothing held_with sum
inbound-figure = figure (λ h. sum length h.inbound) (λ s. sum length s.inbound) (λ h s. sum-append length h.inbound s.inbound) refl

-- ── group numbers ────────────────────────────────────────────────────────────────────────────

-- a number more, the last one or one past it
pub add-number : (n g : ℕ) → g ≤ n → n ≤ suc g → add (up_from 0 n) g ≡ up_from 0 (suc g)
add-number n g l m = elim (tested (ltb g n)) [
  | inl e ↦ let b : n ≡ suc g = omega (arith, ltb-true g n e) in
      add-there (up_from 0 n) g (rw (mem-up_from g 0 n, zero-add n, le-leb 0 g (omega arith)) e) ∙ ap (up_from 0) b
  | inr e ↦ let b : n ≡ g = omega (arith, ltb-false g n e) in
      add-new (up_from 0 n) g (rw (mem-up_from g 0 n, zero-add n, le-leb 0 g (omega arith)) e)
      ∙ ap (λ k. up_from 0 k ++ (g ∷ [])) b ∙ sym (up_from-snoc 0 g ∙ ap (λ k. up_from 0 g ++ (k ∷ [])) (zero-add g))
]

counted-after : (K : ℕ) (served : Served K) (before : Option Source) (h : Held) (ss : List Source) → HeldTo K before h → Followed K before ss
    → foldl add (up_from 0 (length h.sheet.groups)) (map (λ s. s.group) ss) ≡ up_from 0 (length (foldl held_with h ss).sheet.groups)
counted-after K served before h [] e f = refl
counted-after K served before h (s ∷ ss) e f =
    let q = ready K served before h s e f.1 in
    let w = held_with_lem K served h s q f.0 in
    ap (λ ns. foldl add ns (map (λ s. s.group) ss)) (add-number (length h.sheet.groups) s.group q.within q.last ∙ ap (up_from 0) (sym w.groups))
    ∙ counted-after K served (some s) (held_with h s) ss w f.2

module _ (K : ℕ) (served : Served K) (ss : List Source) (f : Followed K none ss) where
  once-groups : once (map (λ s. s.group) ss) ≡ up_from 0 (length (held_of ss).sheet.groups)
  unfolding once held_of nothing up_from
  once-groups = counted-after K served none nothing ss refl f

  -- further numbers after those of the sources
  more-groups : (gs : List ℕ) → once (up_from 0 (length (held_of ss).sheet.groups) ++ gs) ≡ once (map (λ s. s.group) ss ++ gs)
  unfolding once
  more-groups gs =
      let ns = up_from 0 (length (held_of ss).sheet.groups) in
      let own : once ns ≡ once (map (λ s. s.group) ss) = ap once (sym once-groups) ∙ fold-once [] (map (λ s. s.group) ss) in
      foldl-append add [] ns gs ∙ ap (λ b. foldl add b gs) own ∙ sym (foldl-append add [] (map (λ s. s.group) ss) gs)

  -- ── 42 and 43 ────────────────────────────────────────────────────────────────────────────────

  pub records-over : (fs : List File) → records_over (held_of ss) fs ≡ over_records ss fs
  unfolding records_over over_records total group_count
  records-over fs =
      rw (rows-figure ss, roots-figure ss, unresolved-figure ss, ranges-figure ss, links-figure ss, more-groups (map (λ f. f.group) fs))

  pub numbers-over : (fs : List File) → numbers_over (held_of ss) fs ≡ over_numbers ss fs
  unfolding numbers_over over_numbers total
  numbers-over fs = rw (forward-figure ss, reverse-figure ss, inbound-figure ss)

-- ── looking back ─────────────────────────────────────────────────────────────────────────────

-- two sources of one group, subject and end, both with a cover or neither, are the same to look back at
module _ (K : ℕ) (served : Served K) (a b : Source) (g : a.group ≡ b.group) (s : a.subject ≡ b.subject) (e : end_of a ≡ end_of b) (c : is_there a.cover ≡ is_there b.cover) where
  file-alike : (f : File) → file_rules K (some a) f ≡ file_rules K (some b) f
  unfolding file_rules
  file-alike f = rw (g, s, e, c)

  pub files-alike : (fs : List File) → files_rules K (some a) fs ≡ files_rules K (some b) fs
  unfolding files_rules
  files-alike [] = refl
  files-alike (f ∷ fs) = ap (λ r. first_of (r ∷ files_rules K (some (source_of K f)) fs ∷ [])) (file-alike f)

pub there-cond : (b : Bool) (c : SourceCover) → is_there (cond b (some c) none) ≡ b
there-cond true c = refl
there-cond false c = refl

looks-at : (K : ℕ) (served : Served K) (before : Option Source) (h : Held) → HeldTo K before h → (fs : List File) → files_rules K (look_back h.sheet) fs ≡ files_rules K before fs
unfolding look_back nothing is_empty ending
looks-at K served none h e fs = rw e
looks-at K served (some r) h e fs =
    let k = length h.sheet.groups - 1 in
    let c = (get_or h.sheet.groups k no_facts).covered in
    let last : k ≡ r.group = omega (arith, e.groups) in
    rw (not-empty h.sheet.groups (omega (arith, e.groups)))
    (files-alike K served (ending k h.sheet.subject (h.sheet.start + row_count h.sheet) c) r last e.subject
    (omega (arith, e.end, e.rows.tags))
    (there-cond c (record { labels = []; ranges = 0; links = [] }) ∙ ap (λ j. (get_or h.sheet.groups j no_facts).covered) last ∙ e.covered) fs)

pub hold-rules : (K : ℕ) (served : Served K) (ss : List Source) → Followed K none ss → (fs : List File) → hold_rules K (held_of ss) fs ≡ take_rules K ss fs
unfolding hold_rules take_rules
hold-rules K served ss f fs = rw (records-over K served ss f fs, numbers-over K served ss f fs, looks-at K served (last ss) (held_of ss) (held_to K served ss f) fs)
