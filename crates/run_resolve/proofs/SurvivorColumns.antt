-- The columns of the survivors stand for the survivors' sheet and are valid and in order, with lists that name each parent once.
use Rattle.std.specs.Prelude.{None, Some}
use mathlib.Core.Path.{◌≡◌, refl, sym, ap, subst, ◌∙◌}
use mathlib.Core.Bool.{Bool, true, not}
use mathlib.Core.List.{List, [], ◌∷◌, map}
use mathlib.Core.Option.{none}
use Prim.Native.Nat.{ℕ, ◌+◌, ◌-◌, ◌^◌, ◌≤◌, ◌<◌}
use native.Mathlib.Omega.{arith}
use lib.Dec.{eqb, leb}
use lib.ListN.{length, get_or, take, length-map}
use lib.Seq.{length-take-le}
use borrow.Author.Tests.{le-leb, lt-ltb}
use Rattle.lists.specs.Lists.{all, up_from}
use Rattle.lists.proofs.Tests.{both}
use Rattle.columns.specs.Limits.{kinds, max_records, max_numbers, max_groups, max_subject, end64}
use Rattle.columns.proofs.Served.{kinds-served}
use Rattle.columns.specs.Building.{in_file, slot_rules}
use Rattle.run_renumber.specs.NewLists.{new_lists}
use Rattle.cleaning.specs.Sections.{Tidy, reaches}
use Rattle.cleaning.specs.Survivors.{survivor_sheet}
use Rattle.cleaning.proofs.HeldColumns.{held-entries, held-lists}
use Rattle.cleaning.proofs.FilledGroups.{held-survive}
use Rattle.cleaning.proofs.Neat.{Neat, neat-valid, survivors-tidy, survivors-once}
use Rattle.run_state.specs.declared.Edges.{Edges}
use Rattle.run_state.specs.declared.Sheet.{Sheet}
use Rattle.run_state.specs.declared.Held.{Held}
use Rattle.run_state.specs.View.{listed, unresolved_at, root_at, slots_in, sheet_in, held_in}
use Rattle.run_state.specs.Valid.{edges_ok, counts_ok, below, earlier, records_ok, sheet_ok, held_ok, once_ok}
use Rattle.run_compact.specs.Columns.{gone, survive}
use Rattle.run_state.specs.order.Ordered.{ordered}
use Rattle.run_state.specs.order.Long.{LongSheet, LongHeld}
use Rattle.run_state.proofs.order.Turns.{rows_few}
use Rattle.run_state.proofs.order.TidySheets.{column-listed, counts, ordered_sheet, filled_sheet, neat-held}
use Rattle.run_resolve.specs.parents.Renewal.{EdgesKept, Renewal}
use Rattle.run_resolve.specs.survivor_sheet.Survive.{SheetKept}
use Rattle.run_resolve.proofs.survivor_sheet.SheetParts.{part-rows, part-unresolved, part-roots, part-groups, flags-end}
use Rattle.run_resolve.proofs.survivor_sheet.SurvivorLaw.{sheet-survives}
use Rattle.run_resolve.proofs.records.NewRecords.{filter-few}
use Rattle.std.specs.declared.option.Option as rust
use Rattle.run_resolve.specs.Outcome.{flags_in, new_in, ListsRenewed, SurvivorsIn}
use Rattle.run_resolve.proofs.SlotOrder.{survivors-earlier}

-- a test of a part of every record is one of the column
column-all : {A : Type 0} (p : ℕ → Bool) (g : A → ℕ) (f : ℕ → A) (l : List ℕ) (n : ℕ) → ((i : ℕ) → g (f i) ≡ get_or l i 0) → n ≤ length l
    → all (λ x. p (g x)) (listed f n) ≡ all p (take n l)
unfolding all
column-all p g f l n e h = go (up_from 0 n) ∙ ap (all p) (column-listed n l h)
  where
    go : (is : List ℕ) → all (λ x. p (g x)) (map f is) ≡ all p (map (λ i. get_or l i 0) is)
    go [] = refl
    go (i ∷ is) = rw (e i, go is)

-- ── a run's columns ──────────────────────────────────────────────────────────────────────────

module _ (h : Held) (ok : held_ok h ≡ true) (o : ordered h.sheet ≡ true) (long : LongHeld h) where
  pub sheet-ok : sheet_ok h.sheet ≡ true
  unfolding held_ok
  sheet-ok = (both (sheet_ok h.sheet) _ ok).0

  neat : Neat kinds (held_in h)
  neat = neat-held h long ok o

  pub flags-room : h.sheet.rows.count ≤ length h.erased
  flags-room = omega (arith, part-rows h.sheet sheet-ok, long.erased)

  pub flags-count : length (flags_in h) ≡ h.sheet.rows.count
  flags-count = length-take-le h.sheet.rows.count h.erased flags-room

  pub count-flags : h.sheet.rows.count ≡ length (flags_in h)
  count-flags = sym flags-count

  pub numbers-end : h.sheet.start + h.sheet.rows.count ≤ 2 ^ 64 - 1
  numbers-end = rw flags-count at (flags-end h.sheet sheet-ok (flags_in h) flags-count)

  -- the new lists of the columns are those of the archive
  pub lists-renewed : (q : rust.Option Edges)
      → Renewal (flags_in h) (new_lists kinds h.sheet.start (flags_in h) (slots_in h.sheet.rows.count h.sheet.edges)) q → ListsRenewed h q
  unfolding held_in sheet_in new_in
  lists-renewed (Some q) k =
      let v = neat-valid kinds kinds-served (held_in h) neat in
      record {
        within = subst (λ n. n ≤ max_numbers) (held-entries kinds kinds-served (held_in h) neat.rows (flags_in h) refl v) k.within;
        kept = subst (λ ls. EdgesKept (flags_in h) ls q) (held-lists kinds kinds-served (held_in h) neat.rows (flags_in h) refl v) k.kept;
      }
  lists-renewed None k =
      subst (λ n. max_numbers < n) (held-entries kinds kinds-served (held_in h) neat.rows (flags_in h) refl (neat-valid kinds kinds-served (held_in h) neat)) k

  -- ── the columns of the survivors ───────────────────────────────────────────────────────────

  module _ (e : Edges) (k : EdgesKept (flags_in h) (new_in h) e) (s : Sheet) (m : SheetKept (flags_in h) e h.sheet s) (l : LongSheet s) where
    stands : sheet_in s ≡ survivor_sheet kinds (held_in h) (new_in h)
    stands = sheet-survives h (new_in h) e s flags-count k m

    tidy : Tidy kinds (sheet_in s)
    unfolding new_in
    tidy = subst (Tidy kinds) (sym stands) (survivors-tidy kinds kinds-served (held_in h) neat)

    few_rows : s.rows.count ≤ h.sheet.rows.count
    unfolding survive gone
    few_rows = omega (arith, m.rows.count, filter-few (gone (flags_in h)), length-map (flags_in h) (λ f. not (eqb f 0)), flags-count)

    in_limits : counts_ok s ≡ true
    unfolding counts_ok
    in_limits =
        let t = h.sheet in
        rw (
          m.subject,
          (both (leb t.subject.length max_subject) _ (counts t long.sheet sheet-ok)).0,
          m.groups,
          le-leb t.groups.count max_groups (part-groups t sheet-ok),
          le-leb s.rows.count max_records (omega (arith, few_rows, part-rows t sheet-ok)),
          le-leb s.unresolved.count max_records (omega (arith, m.unresolved_few, part-unresolved t sheet-ok)),
          le-leb s.roots.count max_records (omega (arith, m.roots_few, part-roots t sheet-ok)),
          le-leb s.links.count max_records m.links_few,
        )
        (lt-ltb (s.start + s.rows.count) end64 (omega (arith, m.start, few_rows, numbers-end)))

    in_form : edges_ok s.rows.count s.edges ≡ true
    in_form = rw (m.rows.count, m.edges) k.form

    of_rows : records_ok s ≡ true
    unfolding records_ok sheet_in unresolved_at root_at below
    of_rows =
        let c : length (take s.rows.count s.rows.tags) ≡ s.rows.count = length-take-le s.rows.count s.rows.tags (omega (arith, rows_few s in_limits, l.rows.tags)) in
        rw (
          ← column-all (in_file s.start (s.start + s.rows.count)) (λ u. u.child) (unresolved_at s.unresolved) s.unresolved.children s.unresolved.count (λ i. refl)
              (omega (arith, m.unresolved_few, part-unresolved h.sheet sheet-ok, l.unresolved.children)),
          ← column-all (below s.rows.count) (λ r. r.row) (root_at s.roots) s.roots.rows s.roots.count (λ i. refl)
              (omega (arith, m.roots_few, part-roots h.sheet sheet-ok, l.roots.rows)),
          ← c,
          tidy.children_within,
        )
        tidy.roots_within

    in_turn : earlier s.start 0 (slots_in s.rows.count s.edges) ≡ true
    unfolding new_in held_in sheet_in survivor_sheet gone
    in_turn = rw (m.start, m.rows.count, m.edges, k.slots) (survivors-earlier (held_in h) neat)

    parents_once : slot_rules kinds (sheet_in s).start 0 (sheet_in s).lists ≡ none
    unfolding new_in
    parents_once = rw stands (survivors-once kinds kinds-served (held_in h) neat)

    named_once : once_ok s ≡ true
    unfolding once_ok sheet_in
    named_once = rw parents_once

    fine : sheet_ok s ≡ true
    unfolding sheet_ok
    fine = rw (in_limits, in_form, of_rows) in_turn

    pub survivors_in : SurvivorsIn h s
    unfolding survivor_sheet
    survivors_in = record {
      view = stands;
      valid = fine;
      in_order = ordered_sheet s l fine tidy;
      once = named_once;
      reached = filled_sheet s l fine
          ∙ ap (λ x. reaches (length x.groups) 0 x.row_groups) stands
          ∙ sym (held-survive kinds kinds-served (held_in h) neat.rows neat.tidy);
    }
