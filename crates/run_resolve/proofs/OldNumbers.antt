-- What an old number is mapped to, by the flags of a run's rows and their new numbers.
use Rattle.std.specs.Prelude.{None, Some, Option}
use mathlib.Core.Path.{◌≡◌, refl, sym, ap, ◌∙◌}
use mathlib.Core.Bool.{Bool, true, false, cond, not}
use mathlib.Core.List.{List}
use mathlib.Core.Option.{none, some}
use Prim.Native.Nat.{ℕ, ◌+◌, ◌-◌, ◌^◌, ◌≤◌, ◌<◌}
use native.Mathlib.Omega.{arith}
use lib.Dec.{eqb}
use lib.ListN.{length, get_or, take}
use lib.Seq.{get_or-take}
use borrow.Author.Tests.{le-leb, lt-leb, lt-ltb, le-ltb, eq-eqb, ne_eqb}
use Rattle.columns.specs.Limits.{kinds}
use Rattle.columns.proofs.Served.{kinds-served}
use Rattle.columns.specs.Building.{in_file}
use Rattle.run_renumber.specs.Numbers.{numbers_from}
use Rattle.cleaning.specs.Archive.{Archive}
use Rattle.cleaning.specs.Cleaning.{renumber, new_number, mapped}
use Rattle.cleaning.specs.Held.{archive_held}
use Rattle.cleaning.proofs.Slots.{Columns, flags-length, erased-says, numbers-new}
use Rattle.cleaning.proofs.HeldColumns.{held-columns}
use Rattle.run_state.specs.declared.Held.{Held}
use Rattle.run_state.specs.View.{slots_in, sheet_in, held_in}
use Rattle.run_state.specs.Valid.{held_ok}
use Rattle.run_state.specs.order.Ordered.{ordered}
use Rattle.run_state.specs.order.Long.{LongHeld}
use Rattle.run_state.proofs.order.TidySheets.{neat-held}
use Rattle.run_resolve.proofs.sheet.Asking.{few-held}
use Rattle.run_resolve.specs.Outcome.{archive_in, flags_in}
use Rattle.run_resolve.specs.Map.{row_number, mapped_of}
use Rattle.run_resolve.proofs.SurvivorColumns.{flags-count, numbers-end}

-- ── a row ────────────────────────────────────────────────────────────────────────────────────

module _ (start : ℕ) (flags : List ℕ) (i : ℕ) where
  pub row-erased : (get_or flags i 0 ≡ 0 → ⊥) → None ≡ mapped_of (row_number start flags i)
  unfolding mapped_of row_number
  row-erased f = rw (ne_eqb (get_or flags i 0) 0 f)

  pub row_kept : get_or flags i 0 ≡ 0 → i < length flags → (numbers : List ℕ) → take (length flags) numbers ≡ numbers_from start flags
      → Some (get_or numbers i 0) ≡ mapped_of (row_number start flags i)
  unfolding mapped_of row_number
  row_kept f l numbers e = rw (eq-eqb (get_or flags i 0) 0 f) (ap Some (sym (get_or-take (length flags) numbers i 0 l) ∙ ap (λ ns. get_or ns i 0) e))

-- ── an archive with given columns ────────────────────────────────────────────────────────────

either : (b : Bool) (x : ℕ) → cond (not b) none (some x) ≡ cond b (some x) none
either true x = refl
either false x = refl

module _ (A : Archive) (flags : List ℕ) (slots : List (List ℕ)) (c : Columns kinds A flags slots) (old : ℕ) where
  events : length A.events ≡ length flags
  events = flags-length A.events flags c.erased

  maps-before : old < A.start → mapped A old ≡ none
  unfolding mapped in_file
  maps-before h = rw (lt-leb A.start old h)

  maps-past : A.start ≤ old → A.start + length flags ≤ old → mapped A old ≡ none
  unfolding mapped in_file
  maps-past h k = rw (le-leb A.start old h, le-ltb old (A.start + length A.events) (omega (arith, events)))

  maps-row : A.start ≤ old → old < A.start + length flags → mapped A old ≡ row_number A.start flags (old - A.start)
  unfolding mapped in_file new_number row_number
  maps-row h k =
      let l : old < A.start + length A.events = omega (arith, events) in
      rw (le-leb A.start old h, lt-ltb old (A.start + length A.events) l, erased-says kinds kinds-served A flags slots c old, numbers-new kinds kinds-served A flags slots c old h l)
      (either (eqb (get_or flags (old - A.start) 0) 0) (renumber A old))

-- ── a run ────────────────────────────────────────────────────────────────────────────────────

module _ (h : Held) (ok : held_ok h ≡ true) (o : ordered h.sheet ≡ true) (long : LongHeld h) where
  pub flags-few : length (flags_in h) ≤ 1024
  flags-few = omega (arith, flags-count h ok o long, few-held h ok long)

  pub flags-end : h.sheet.start + length (flags_in h) ≤ 2 ^ 64 - 1
  flags-end = rw (flags-count h ok o long) (numbers-end h ok o long)

  slots : List (List ℕ)
  slots = slots_in h.sheet.rows.count h.sheet.edges

  columns : Columns kinds (archive_in h) (flags_in h) slots
  unfolding slots held_in sheet_in
  columns = held-columns kinds kinds-served (held_in h) (neat-held h long ok o).rows (flags_in h) refl

  module _ (old : ℕ) where
    pub mapped-before : old < h.sheet.start → None ≡ mapped_of (mapped (archive_in h) old)
    unfolding mapped_of archive_held held_in sheet_in
    mapped-before k = sym (ap mapped_of (maps-before (archive_in h) (flags_in h) slots columns old k))

    module _ (k : h.sheet.start ≤ old) (i : ℕ) (e : i ≡ old - h.sheet.start) where
      pub mapped-past : h.sheet.rows.count ≤ i → None ≡ mapped_of (mapped (archive_in h) old)
      unfolding mapped_of archive_held held_in sheet_in
      mapped-past p = sym (ap mapped_of (maps-past (archive_in h) (flags_in h) slots columns old k (omega (arith, e, flags-count h ok o long))))

      pub mapped-row : i < h.sheet.rows.count → {r : Option ℕ} → r ≡ mapped_of (row_number h.sheet.start (flags_in h) i)
          → r ≡ mapped_of (mapped (archive_in h) old)
      unfolding archive_held held_in sheet_in
      mapped-row p f =
          f ∙ ap (λ j. mapped_of (row_number h.sheet.start (flags_in h) j)) e
          ∙ sym (ap mapped_of (maps-row (archive_in h) (flags_in h) slots columns old k (omega (arith, e, flags-count h ok o long))))

  pub row_here : (i : ℕ) → i < h.sheet.rows.count → i < length (flags_in h)
  row_here i p = rw (flags-count h ok o long) p
