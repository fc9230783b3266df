-- What is asked of a run, out of its columns: the parts that are counted, and what the count is of the archive that is held.
use mathlib.Core.Path.{◌≡◌, refl, ◌∙◌}
use mathlib.Core.Bool.{true, ◌&&◌}
use mathlib.Core.List.{List}
use Prim.Native.Nat.{ℕ, ◌+◌, ◌*◌, ◌≤◌}
use native.Mathlib.Omega.{arith}
use lib.Dec.{leb}
use lib.ListN.{length, take}
use lib.Seq.{length-take-le}
use borrow.Author.Tests.{leb-true}
use Rattle.lists.proofs.Tests.{both}
use Rattle.columns.specs.Limits.{kinds, max_numbers}
use Rattle.columns.proofs.Served.{kinds-served}
use Rattle.columns.specs.EdgeSet.{offsets_form, cut}
use Rattle.run_renumber.specs.Reparented as flat
use Rattle.run_state.specs.declared.Edges.{Edges}
use Rattle.run_state.specs.declared.Held.{Held}
use Rattle.run_state.specs.View.{slots_in, sheet_in, held_in}
use Rattle.run_state.specs.Valid.{edges_ok, sheet_ok, held_ok}
use Rattle.cleaning.specs.Cleaning.{reparented}
use Rattle.cleaning.specs.Held.{archive_held}
use Rattle.cleaning.proofs.HeldColumns.{held-reparented}
use Rattle.run_state.specs.order.Ordered.{ordered}
use Rattle.run_state.specs.order.Long.{LongHeld}
use Rattle.run_state.proofs.order.Turns.{rows_few}
use Rattle.run_state.proofs.order.TidySheets.{counts, edges-form, neat-held}

pub form-here : (n m : ℕ) (flags offsets targets : List ℕ) → n ≤ 1024 → length flags ≡ 1024 → m ≤ 4096 → length targets ≡ 4096
    → offsets_form kinds n m (take (2 * n + 1) offsets) ≡ true → offsets_form kinds (length (take n flags)) (length (take m targets)) (take (2 * n + 1) offsets) ≡ true
form-here n m flags offsets targets h k i l e = rw (length-take-le n flags (omega arith), length-take-le m targets (omega arith)) e

module _ (n : ℕ) (e : Edges) (ok : edges_ok n e ≡ true) where
  pub edges_few : e.count ≤ 4096
  unfolding edges_ok
  edges_few = leb-true e.count max_numbers (both (leb e.count max_numbers) (offsets_form kinds n e.count (take (2 * n + 1) e.offsets)) ok).0

  pub edges-table : offsets_form kinds n e.count (take (2 * n + 1) e.offsets) ≡ true
  unfolding edges_ok
  edges-table = (both (leb e.count max_numbers) (offsets_form kinds n e.count (take (2 * n + 1) e.offsets)) ok).1

  pub slots-counted : (start r : ℕ) (flags : List ℕ) → r ≡ flat.reparented kinds start (take n flags) (cut (take (2 * n + 1) e.offsets) (take e.count e.targets))
      → r ≡ flat.reparented kinds start (take n flags) (slots_in n e)
  unfolding slots_in
  slots-counted start r flags h = h

module _ (h : Held) (ok : held_ok h ≡ true) where
  sheet-fine : sheet_ok h.sheet ≡ true
  unfolding held_ok
  sheet-fine = (both (sheet_ok h.sheet) (edges_ok h.sheet.rows.count h.reverse && edges_ok h.sheet.rows.count h.inbound) ok).0

  module _ (long : LongHeld h) where
    pub few-held : h.sheet.rows.count ≤ 1024
    few-held = rows_few h.sheet (counts h.sheet long.sheet sheet-fine)

    pub edges-held : edges_ok h.sheet.rows.count h.sheet.edges ≡ true
    edges-held = edges-form h.sheet long.sheet sheet-fine

    pub flags-held : length h.erased ≡ 1024
    flags-held = long.erased

  pub reparented-held : LongHeld h → ordered h.sheet ≡ true → (r : ℕ)
      → r ≡ flat.reparented kinds h.sheet.start (take h.sheet.rows.count h.erased) (slots_in h.sheet.rows.count h.sheet.edges)
      → r ≡ reparented (archive_held kinds (held_in h))
  unfolding held_in sheet_in
  reparented-held long o r e = e ∙ held-reparented kinds kinds-served (held_in h) (neat-held h long ok o).rows (take h.sheet.rows.count h.erased) refl
