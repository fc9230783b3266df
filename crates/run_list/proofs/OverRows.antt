-- The lines of the rows from one on, and that they are the lines of the archive's events.
use mathlib.Core.Path.{◌≡◌, refl, sym, ap, ap₂, ◌∙◌}
use mathlib.Core.Bool.{true}
use mathlib.Core.List.{List, [], ◌++◌}
use Prim.Native.Nat.{ℕ, zero, suc, ◌+◌, ◌-◌, ◌*◌, ◌≤◌, ◌<◌}
use native.Mathlib.Numerals.{add-one}
use native.Mathlib.Nat.{add-suc}
use native.Mathlib.Omega.{arith}
use lib.ListN.{length, get_or, take}
use lib.Seq.{get_or-take}
use Rattle.columns.specs.Limits.{kinds}
use Rattle.columns.proofs.Served.{kinds-served}
use Rattle.lists.specs.Lists.{flat, up_from}
use Rattle.run_renumber.specs.Numbers.{numbers_from}
use Rattle.cleaning.specs.Archive.{Archive, at}
use Rattle.cleaning.specs.Cleaning.{renumber, new_number}
use Rattle.cleaning.specs.Held.{archive_held}
use Rattle.cleaning.specs.Lines.{map_line}
use Rattle.cleaning.proofs.Slots.{Columns, flags-length, erased-says, numbers-new}
use Rattle.cleaning.proofs.HeldColumns.{held-columns}
use Rattle.run_state.specs.declared.Held.{Held}
use Rattle.run_state.specs.View.{flagged, slots_in, sheet_in, held_in}
use Rattle.run_state.specs.Valid.{held_ok}
use Rattle.run_state.specs.order.Ordered.{ordered}
use Rattle.run_state.specs.order.Long.{LongHeld}
use Rattle.run_state.proofs.order.TidySheets.{neat-held}
use Rattle.run_resolve.specs.Outcome.{archive_in, flags_in}
use Rattle.run_resolve.proofs.SurvivorColumns.{flags-count}
use Rattle.run_resolve.proofs.OldNumbers.{flags-few}
use Rattle.run_text.specs.numbers.Wrote.{Wrote}
use Rattle.run_text.proofs.numbers.Joined.{renamed}
use Rattle.run_text.specs.lines.Parts.{map_text}
use Rattle.run_text.proofs.lines.Columns.{Going}
use Rattle.run_list.specs.Rows.{maps_text, row_text, rows_text}
use Rattle.run_list.proofs.Along.{part-more, parts_end}

-- ── the rest ─────────────────────────────────────────────────────────────────────────────────

unfoldable pub rows_from : ℕ → List ℕ → List ℕ → ℕ → List ℕ
rows_from start flags numbers i = flat (row_text start flags numbers) (up_from i (length flags - i))

module _ (start : ℕ) (flags numbers : List ℕ) where
  pub rows-begin : (l : List ℕ) → Going (rows_text start flags numbers) l 0 l 0 (rows_from start flags numbers 0)
  unfolding rows_text rows_from
  rows-begin l =
      let e : length flags - 0 ≡ length flags = omega arith in
      rw e (record { stored = refl; next = refl })

  module _ (i : ℕ) where
    rows_next : i < length flags → rows_from start flags numbers i ≡ row_text start flags numbers i ++ rows_from start flags numbers (i + 1)
    unfolding rows_from up_from
    rows_next h = let e : length flags - i ≡ suc (length flags - suc i) = omega arith in rw (e, add-one)

    rows_none : length flags ≤ i → rows_from start flags numbers i ≡ []
    unfolding rows_from up_from
    rows_none h = let e : length flags - i ≡ 0 = omega arith in rw e

    module _ {was is : List ℕ} {p : ℕ} (v : Going (rows_text start flags numbers) was 0 is p (rows_from start flags numbers i)) where
      pub rows_more : {k : List ℕ} {r n : ℕ} → i < length flags → Wrote (map_text (start + i) (flagged (get_or flags i 0)) (get_or numbers i 0)) n is p k r
          → Going (rows_text start flags numbers) was 0 k r (rows_from start flags numbers (i + 1))
      rows_more h w = part-more v (rows_next h) w

      pub rows-done : length flags ≤ i → i ≤ length flags → p ≤ 46 * i → Wrote (rows_text start flags numbers) (46 * length flags) was 0 is p
      rows-done h j k = parts_end v (rows_none h) (omega arith)

-- ── they are those of the archive ────────────────────────────────────────────────────────────

shifted : {B : Type 0} (f g : ℕ → List B) (a n k : ℕ) → ((i : ℕ) → i < k + n → f i ≡ g (a + i)) → flat f (up_from k n) ≡ flat g (up_from (a + k) n)
unfolding up_from
shifted f g a zero k h = refl
shifted f g a (suc n) k h =
    let e : flat f (up_from (suc k) n) ≡ flat g (up_from (suc (a + k)) n) =
    shifted f g a n (suc k) (λ i l. h i (omega arith)) ∙ ap (λ j. flat g (up_from j n)) (add-suc a k) in
    ap₂ ◌++◌ (h k (omega arith)) e

module _ (A : Archive) (flags : List ℕ) (slots : List (List ℕ)) (c : Columns kinds A flags slots) (numbers : List ℕ)
    (e : take (length flags) numbers ≡ numbers_from A.start flags) where
  row_line : (i : ℕ) → i < 0 + length flags → row_text A.start flags numbers i ≡ map_line A (A.start + i)
  unfolding map_line new_number
  row_line i l =
      let p = A.start + i in
      let n = flags-length A.events flags c.erased in
      let z : p - A.start ≡ i = omega arith in
      let a : flagged (get_or flags i 0) ≡ (at A p).erased = sym (erased-says kinds kinds-served A flags slots c p ∙ ap (λ j. flagged (get_or flags j 0)) z) in
      let b : get_or numbers i 0 ≡ renumber A p =
      sym (get_or-take (length flags) numbers i 0 (omega arith)) ∙ ap (λ ns. get_or ns i 0) e ∙ ap (λ j. get_or (numbers_from A.start flags) j 0) (sym z)
      ∙ numbers-new kinds kinds-served A flags slots c p (omega arith) (omega arith) in
      ap₂ (map_text p) a b

  rows-are-maps : rows_text A.start flags numbers ≡ maps_text A
  unfolding rows_text maps_text
  rows-are-maps =
      shifted (row_text A.start flags numbers) (map_line A) A.start (length flags) 0 row_line
      ∙ ap₂ (λ j n. flat (map_line A) (up_from j n)) {x = A.start + 0} {y = A.start} (omega arith) (sym (flags-length A.events flags c.erased))

module _ (h : Held) (ok : held_ok h ≡ true) (o : ordered h.sheet ≡ true) (long : LongHeld h) where
  columns : Columns kinds (archive_in h) (flags_in h) (slots_in h.sheet.rows.count h.sheet.edges)
  unfolding held_in sheet_in
  columns = held-columns kinds kinds-served (held_in h) (neat-held h long ok o).rows (flags_in h) refl

  pub event-count : length (archive_in h).events ≡ h.sheet.rows.count
  event-count = flags-length (archive_in h).events (flags_in h) columns.erased ∙ flags-count h ok o long

  pub maps-written : (numbers : List ℕ) → take (length (flags_in h)) numbers ≡ numbers_from h.sheet.start (flags_in h) → {was is : List ℕ} {r : ℕ}
      → Wrote (rows_text h.sheet.start (flags_in h) numbers) (46 * length (flags_in h)) was 0 is r
      → Wrote (maps_text (archive_in h)) (46 * h.sheet.rows.count) was 0 is r
  unfolding archive_held held_in sheet_in
  maps-written numbers e w =
      renamed w (rows-are-maps (archive_in h) (flags_in h) _ columns numbers e) (omega (arith, flags-count h ok o long))

  pub maps-room : {m : ℕ} → 46 * h.sheet.rows.count ≤ m → 46 * length (flags_in h) ≤ m
  maps-room g = omega (arith, flags-count h ok o long)

  pub numbers-room : (numbers : List ℕ) → length numbers ≡ 1024 → length (flags_in h) ≤ length numbers
  numbers-room numbers e = omega (arith, flags-few h ok o long)
