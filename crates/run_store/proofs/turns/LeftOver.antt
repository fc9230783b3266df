-- What is left for the files of an archive: at the start, and after a file is stored.
use mathlib.Core.Path.{◌≡◌, sym, ap, subst, ◌∙◌}
use mathlib.Core.Bool.{Bool, true, false}
use mathlib.Core.List.{List, [], ◌∷◌, ◌++◌, map, foldl}
use mathlib.Core.Logic.{◌⊎◌, inl, inr}
use mathlib.Core.Option.{none, some}
use Prim.Native.Nat.{ℕ, suc, ◌+◌, ◌-◌, ◌≤◌}
use native.Mathlib.Omega.{arith}
use lib.Dec.{ltb}
use lib.ListN.{length, get_or}
use borrow.Author.Tests.{ltb-false, eq-eqb, ne_eqb}
use Rattle.lists.specs.Lists.{sum, once, add, is_empty, up_from, Each}
use Rattle.lists.proofs.Once.{or-is-false}
use Rattle.columns.specs.Limits.{kinds, max_records, max_numbers, max_groups}
use Rattle.columns.proofs.Served.{kinds-served}
use Rattle.columns.specs.declared.refusal.Refusal.TheVariants.{OverRecords, OverNumbers}
use Rattle.columns.proofs.FirstBroken.{each_none, not-refused}
use Rattle.archive.specs.File.{File}
use Rattle.archive.specs.Fits.{FileFits}
use Rattle.archive_read.specs.Sums.{totals}
use Rattle.archive_read.specs.Layout.{file_in, HoldsFile, Uncovers}
use Rattle.archive_read.specs.declared.records.FileAt.{FileAt}
use Rattle.cleaning.specs.Source.{Source, source_of, is_there}
use Rattle.cleaning.specs.Sheet.{row_count}
use Rattle.cleaning.specs.Taking.{file_rules, files_rules}
use Rattle.cleaning.specs.Held.{held_with, look_back, ending, no_facts, hold_rules, records_over, numbers_over}
use Rattle.cleaning.specs.Held as run
use Rattle.cleaning.proofs.HeldRows.{HeldLast, Ready, not-empty, held_with_lem}
use Rattle.cleaning.proofs.HeldLimits.{add-number, files-alike, there-cond}
use Rattle.cleaning.proofs.Orderly.{orderly-taken}
use Rattle.cleaning.proofs.HeldValid.{below-with}
use Rattle.cleaning.proofs.TidyHeld.{tidy-with}
use Rattle.cleaning.proofs.Neat.{Neat}
use Rattle.run_state.specs.declared.Groups.{Groups}
use Rattle.run_state.specs.declared.Held.{Held}
use Rattle.run_state.specs.View.{sheet_in, held_in}
use Rattle.run_state.specs.Valid.{held_ok}
use Rattle.run_state.specs.order.Long.{LongHeld}
use Rattle.run_rules.specs.limits.Figures.{figures, many_records, many_numbers}
use Rattle.run_rules.proofs.limits.Limits.{records-same, numbers-same}
use Rattle.archive_groups.specs.Groups.{groups_over}
use Rattle.archive_groups.proofs.Marked.{from-run}
use Rattle.run_store.specs.parts.Grown.{edges_with, unresolved_with, roots_with, groups_new, groups_joined, groups_with}
use Rattle.run_store.specs.joined.Joined.{sheet_more, held_more}
use Rattle.run_store.proofs.joined.StaysOk.{links-count}
use Rattle.run_store.proofs.joined.Whole.{rows-count, held_more_lem}
use Rattle.run_store.proofs.joined.HeldOk.{held-stays-ok}
use Rattle.run_store.proofs.joined.Next.{group-is}
use Rattle.run_store.specs.file.Steps.{held_next}
use Rattle.run_store.specs.fits.Left.{Left}
use Rattle.run_store.proofs.fits.Fitted.{sound, next, held_fit, held_sound, forward-even, reverse-even, inbound-even, flags_long}

-- ── at the start ─────────────────────────────────────────────────────────────────────────────

within : (m a : ℕ) → ltb m a ≡ false → a ≤ m
within m a e = omega (arith, ltb-false m a e)

pub left-start : (h : Held) (fs : List File) → LongHeld h → held_ok h ≡ true → hold_rules kinds (held_in h) fs ≡ none → Left h fs
unfolding hold_rules many_records many_numbers figures totals groups_over held_in
left-start h fs long ok e =
    let parts = (each_none _ e).1 in
    let r = records-same h long ok fs ∙ not-refused OverRecords (records_over (held_in h) fs) parts.0 in
    let s = numbers-same h long ok fs ∙ not-refused OverNumbers (numbers_over (held_in h) fs) parts.1.0 in
    let a = or-is-false _ (ltb max_groups (length (once (up_from 0 h.sheet.groups.count ++ map (λ f. f.group) fs)))) r in
    let b = or-is-false _ (ltb max_records (h.sheet.links.count + _)) a.0 in
    let c = or-is-false _ (ltb max_records (h.ranges + _)) b.0 in
    let d = or-is-false _ (ltb max_records (h.sheet.unresolved.count + _)) c.0 in
    let g = or-is-false (ltb max_records (h.sheet.rows.count + _)) (ltb max_records (h.sheet.roots.count + _)) d.0 in
    let i = or-is-false _ (ltb max_numbers (h.inbound.count + _)) s in
    let j = or-is-false (ltb max_numbers (h.sheet.edges.count + _)) (ltb max_numbers (h.reverse.count + _)) i.0 in
    record {
      rows = within max_records _ g.0;
      roots = within max_records _ g.1;
      unresolved = within max_records _ d.1;
      ranges = within max_records _ c.1;
      links = within max_records _ b.1;
      groups = rw (← from-run h.sheet.groups.count (map (λ f. f.group) fs)) (within max_groups _ a.1);
      forward = within max_numbers _ j.0;
      reverse = within max_numbers _ j.1;
      inbound = within max_numbers _ i.1;
      rules = parts.1.1.0;
    }

-- ── looking back ─────────────────────────────────────────────────────────────────────────────

looks-at : (r : Source) (h : run.Held) → HeldLast kinds r h → (fs : List File) → files_rules kinds (look_back h.sheet) fs ≡ files_rules kinds (some r) fs
unfolding look_back is_empty ending
looks-at r h e fs =
    let k = length h.sheet.groups - 1 in
    let c = (get_or h.sheet.groups k no_facts).covered in
    let last : k ≡ r.group = omega (arith, e.groups) in
    rw (not-empty h.sheet.groups (omega (arith, e.groups)))
    (files-alike kinds kinds-served (ending k h.sheet.subject (h.sheet.start + row_count h.sheet) c) r last e.subject
    (omega (arith, e.end, e.rows.tags))
    (there-cond c (record { labels = []; ranges = 0; links = [] }) ∙ ap (λ j. (get_or h.sheet.groups j no_facts).covered) last ∙ e.covered) fs)

groups_count : (g : Groups) (n flag least greatest : ℕ) (covered : Bool) → (n ≡ g.count) ⊎ (n + 1 ≡ g.count) → (groups_with g n flag least greatest covered).count ≡ suc n
unfolding groups_with groups_new groups_joined
groups_count g n flag least greatest covered (inl e) = rw (eq-eqb n g.count e) (omega arith)
groups_count g n flag least greatest covered (inr e) = rw (ne_eqb n g.count (λ f. omega arith)) (omega arith)

-- ── after a file ─────────────────────────────────────────────────────────────────────────────

module _ (h : Held) (l : List ℕ) (f : FileAt) (fs : List File) (long : LongHeld h) (ok : held_ok h ≡ true) (neat : Neat kinds (held_in h)) (left : Left h (file_in l f ∷ fs))
    (holds : HoldsFile l f) (u : Uncovers f.tail.covered f.tail.cover) where
  abbrev F : File
  F = file_in l f

  abbrev more : Held
  more = held_next h l f

  pub view-next : held_in more ≡ held_with (held_in h) (source_of kinds F)
  view-next = held_more_lem h F f.front.head.flag f.front.head.least f.front.head.greatest (held_fit h l f fs long ok neat left holds u)

  pub ok-next : held_ok more ≡ true
  ok-next = held-stays-ok h F f.front.head.flag f.front.head.least f.front.head.greatest ok (held_fit h l f fs long ok neat left holds u)
      (held_sound h l f fs long ok neat left holds u)

  ready-now : Ready kinds (held_in h) (source_of kinds F)
  ready-now = next h l f fs long ok neat left holds u

  pub neat-next : Each (FileFits kinds) (F ∷ fs) → Neat kinds (held_in more)
  neat-next k =
      let d = sound h l f fs long ok neat left holds u in
      let o = (orderly-taken kinds kinds-served (look_back (sheet_in h.sheet)) (F ∷ fs) left.rules k).0 in
      subst (Neat kinds) (sym view-next) (record {
        rows = (held_with_lem kinds kinds-served (held_in h) (source_of kinds F) ready-now d).rows;
        tidy = tidy-with kinds kinds-served (held_in h) (source_of kinds F) ready-now d o neat.tidy;
        below = below-with kinds kinds-served (held_in h) (source_of kinds F) ready-now d neat.below;
      })

  rules-next : files_rules kinds (look_back (sheet_in more.sheet)) fs ≡ none
  unfolding files_rules held_in
  rules-next =
      let d = sound h l f fs long ok neat left holds u in
      let r = (each_none (file_rules kinds (look_back (sheet_in h.sheet)) F ∷ files_rules kinds (some (source_of kinds F)) fs ∷ []) left.rules).1.0 in
      ap (λ x. files_rules kinds (look_back x.sheet) fs) view-next
      ∙ looks-at (source_of kinds F) (held_with (held_in h) (source_of kinds F)) (held_with_lem kinds kinds-served (held_in h) (source_of kinds F) ready-now d) fs ∙ r

  group-place : (F.group ≡ h.sheet.groups.count) ⊎ (F.group + 1 ≡ h.sheet.groups.count)
  group-place = group-is h F (flags_long h l f fs long ok neat left holds u) ready-now

  groups-next : length (foldl add (up_from 0 more.sheet.groups.count) (map (λ x. x.group) fs)) ≤ 16
  unfolding held_more sheet_more
  groups-next =
      let g = h.sheet.groups.count in
      let z = groups_count h.sheet.groups F.group f.front.head.flag f.front.head.least f.front.head.greatest (is_there F.cover) group-place in
      let y : (F.group ≤ g) × (g ≤ suc F.group) = elim group-place [ inl e ↦ (omega arith, omega arith) | inr e ↦ (omega arith, omega arith) ] in
      let x : foldl add (up_from 0 g) (F.group ∷ map (λ x. x.group) fs) ≡ foldl add (up_from 0 (suc F.group)) (map (λ x. x.group) fs) =
      ap (λ s. foldl add s (map (λ x. x.group) fs)) (add-number g F.group y.0 y.1) in
      rw (z, ← x) left.groups

  pub left_next : Left more fs
  unfolding held_more sheet_more edges_with unresolved_with roots_with sum
  left_next =
      let z = rows-count h.sheet F f.front.head.flag f.front.head.least f.front.head.greatest (held_fit h l f fs long ok neat left holds u).sheet in
      record {
        rows = rw z (omega (arith, left.rows));
        roots = omega (arith, left.roots);
        unresolved = omega (arith, left.unresolved);
        ranges = omega (arith, left.ranges);
        links = rw (links-count h.sheet.links F.group F.cover) (omega (arith, left.links));
        groups = groups-next;
        forward = omega (arith, left.forward, forward-even h l f fs long ok neat left holds u);
        reverse = omega (arith, left.reverse, reverse-even h l f fs long ok neat left holds u);
        inbound = omega (arith, left.inbound, inbound-even h l f fs long ok neat left holds u);
        rules = rules-next;
      }
