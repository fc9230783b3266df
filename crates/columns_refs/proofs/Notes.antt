-- Unresolved records written, a column for each part: one reference, one row, all rows.
use mathlib.Core.Path.{◌≡◌, refl, ◌∙◌, ap}
use mathlib.Core.Bool.{Bool, true, false, not}
use mathlib.Core.Logic.{inl, inr}
use mathlib.Core.List.{List, [], ◌∷◌, ◌++◌, map, map-append}
use Prim.Native.Nat.{ℕ, suc, ◌+◌, ◌≤◌, ◌<◌}
use native.Mathlib.Numerals.{add-one}
use native.Mathlib.Omega.{arith}
use lib.ListN.{length, get_or, set, drop, drop_of_length-le, length-map}
use lib.Seq.{slice, sets, drop-cons, slice-cons, length-slice}
use borrow.Author.Tests.{not-true, not-false}
use Rattle.lists.proofs.Tests.{tested}
use Rattle.lists.proofs.Slices.{slice-none}
use Rattle.lists.proofs.Storing.{Storing, storing-begins, stored-all, stored_next, storing-room, storing-on}
use Rattle.columns.specs.EdgeSet.{cut}
use Rattle.columns.proofs.Offsets.{slot-cut, starts-at, ordered, inside}
use Rattle.columns_refs.specs.References.{is_unresolved, Unresolved, records_from, unresolved_from}
use Rattle.columns_refs.specs.Resolved.{absent, children_of, kinds_of, handles_of, RecordsRoom, Noted, RowsForm}
use Rattle.columns_refs.specs.declared.refs.Reference.{Reference}
use Rattle.columns_refs.proofs.Slots.{length-rows}

-- ── records piece after piece ────────────────────────────────────────────────────────────────

-- three columns, of which `rest` is still to be written from place p on
pub record Noting (cs ks hs : List ℕ) (at : ℕ) (whole : List Unresolved) (cs' ks' hs' : List ℕ) (p : ℕ) (rest : List Unresolved) : Type 0 where
  pub children : Storing cs at (children_of whole) cs' p (children_of rest)
  pub kinds : Storing ks at (kinds_of whole) ks' p (kinds_of rest)
  pub handles : Storing hs at (handles_of whole) hs' p (handles_of rest)

pub noting-begins : (cs ks hs : List ℕ) (at : ℕ) (whole : List Unresolved) → Noting cs ks hs at whole cs ks hs at whole
noting-begins cs ks hs at whole = record {
  children = storing-begins cs at (children_of whole);
  kinds = storing-begins ks at (kinds_of whole);
  handles = storing-begins hs at (handles_of whole);
}

module _ {cs ks hs : List ℕ} {at : ℕ} {whole : List Unresolved} {cs' ks' hs' : List ℕ} {p : ℕ} {rest : List Unresolved} (s : Noting cs ks hs at whole cs' ks' hs' p rest) where
  pub noting-done : rest ≡ [] → Noted whole at p cs ks hs cs' ks' hs'
  noting-done e = record {
    next = stored_next s.children (ap children_of e) ∙ ap (λ n. at + n) (length-map whole (λ u. u.child));
    children = stored-all s.children (ap children_of e);
    kinds = stored-all s.kinds (ap kinds_of e);
    handles = stored-all s.handles (ap handles_of e);
  }

  module _ (us vs : List Unresolved) (e : rest ≡ us ++ vs) where
    parted : (f : Unresolved → ℕ) → map f rest ≡ map f us ++ map f vs
    parted f = rw e (map-append f us vs)

    pub noting-room : RecordsRoom (at + length whole) cs ks hs → RecordsRoom (p + length us) cs' ks' hs'
    noting-room r = record {
      children = fits (λ u. u.child) s.children r.children;
      kinds = fits (λ u. u.kind) s.kinds r.kinds;
      handles = fits (λ u. u.handle) s.handles r.handles;
    }
      where
        fits : (f : Unresolved → ℕ) {was out : List ℕ} → Storing was at (map f whole) out p (map f rest) → at + length whole ≤ length was → p + length us ≤ length out
        fits f t h = omega (arith, storing-room t (map f us) (map f vs) (parted f) (omega (arith, length-map whole f)), length-map us f)

    pub noting-on : (cs'' ks'' hs'' : List ℕ) (q : ℕ) → Noted us p q cs' ks' hs' cs'' ks'' hs'' → Noting cs ks hs at whole cs'' ks'' hs'' q vs
    noting-on cs'' ks'' hs'' q n = record {
      children = on (λ u. u.child) s.children cs'' n.children;
      kinds = on (λ u. u.kind) s.kinds ks'' n.kinds;
      handles = on (λ u. u.handle) s.handles hs'' n.handles;
    }
      where
        on : (f : Unresolved → ℕ) {was out : List ℕ} → Storing was at (map f whole) out p (map f rest) → (now : List ℕ) → now ≡ sets out p (map f us) → Storing was at (map f whole) now q (map f vs)
        on f t now e = storing-on t (map f us) (map f vs) (parted f) now q e (omega (arith, n.next, length-map us f))

-- ── one reference ────────────────────────────────────────────────────────────────────────────

module _ (x : Reference) (event place : ℕ) {r : Bool} (e : r ≡ is_unresolved x) where
  module _ (g : not r ≡ true) where
    none-noted : records_from event place (x ∷ []) ≡ []
    unfolding records_from
    none-noted = rw (← e, not-true r g)

    pub passed_over : (at : ℕ) (cs ks hs : List ℕ) → Noted (records_from event place (x ∷ [])) at at cs ks hs cs ks hs
    passed_over at cs ks hs = rw none-noted (record { next = omega arith; children = refl; kinds = refl; handles = refl })

  module _ (g : not r ≡ false) where
    one-noted : records_from event place (x ∷ []) ≡ record { child = event; kind = x.kind; handle = place } ∷ []
    unfolding records_from
    one-noted = rw (← e, not-false r g)

    module _ (at : ℕ) (cs ks hs : List ℕ) where
      module _ (m : RecordsRoom (at + length (records_from event place (x ∷ []))) cs ks hs) where
        pub in-children : at < length cs
        in-children = omega (arith, m.children, ap length one-noted)

        pub in-kinds : at < length ks
        in-kinds = omega (arith, m.kinds, ap length one-noted)

        pub in-handles : at < length hs
        in-handles = omega (arith, m.handles, ap length one-noted)

      pub noted_one : Noted (records_from event place (x ∷ [])) at (at + 1) cs ks hs (set cs at event) (set ks at x.kind) (set hs at place)
      noted_one = rw one-noted (record { next = refl; children = refl; kinds = refl; handles = refl })

-- ── one row ──────────────────────────────────────────────────────────────────────────────────

records-cons : (event place : ℕ) (x : Reference) (xs : List Reference) → records_from event place (x ∷ xs) ≡ records_from event place (x ∷ []) ++ records_from event (suc place) xs
unfolding records_from
records-cons event place x xs = elim (tested (is_unresolved x)) [ inl e ↦ rw e | inr e ↦ rw e ]

module _ (event i to : ℕ) (xs : List Reference) {cs ks hs : List ℕ} {at : ℕ} {whole : List Unresolved} {cs' ks' hs' : List ℕ} {p : ℕ}
    (s : Noting cs ks hs at whole cs' ks' hs' p (records_from event i (slice i to xs))) where
  pub row_done : to ≤ i → Noted whole at p cs ks hs cs' ks' hs'
  unfolding records_from
  row_done h = noting-done s (rw (slice-none i to xs h))

  module _ (h : i < to) (k : to ≤ length xs) (x : Reference) (f : x ≡ get_or xs i absent) where
    left : records_from event i (slice i to xs) ≡ records_from event i (x ∷ []) ++ records_from event (i + 1) (slice (i + 1) to xs)
    left = rw (slice-cons i to xs absent h k, ← f, add-one) (records-cons event i x (slice (suc i) to xs))

    pub row_room : RecordsRoom (at + length whole) cs ks hs → RecordsRoom (p + length (records_from event i (x ∷ []))) cs' ks' hs'
    row_room g = noting-room s (records_from event i (x ∷ [])) (records_from event (i + 1) (slice (i + 1) to xs)) left g

    pub row_on : (cs'' ks'' hs'' : List ℕ) (q : ℕ) → Noted (records_from event i (x ∷ [])) p q cs' ks' hs' cs'' ks'' hs''
        → Noting cs ks hs at whole cs'' ks'' hs'' q (records_from event (i + 1) (slice (i + 1) to xs))
    row_on cs'' ks'' hs'' q n = noting-on s (records_from event i (x ∷ [])) (records_from event (i + 1) (slice (i + 1) to xs)) left cs'' ks'' hs'' q n

-- ── all rows ─────────────────────────────────────────────────────────────────────────────────

module _ (first rows : ℕ) (offsets : List ℕ) (xs : List Reference) (f : RowsForm rows offsets xs) where
  pub rows-begin : (cs ks hs : List ℕ) → Noting cs ks hs 0 (unresolved_from first 0 (cut offsets xs)) cs ks hs 0 (unresolved_from (first + 0) (get_or offsets 0 0) (drop 0 (cut offsets xs)))
  rows-begin cs ks hs =
      let a : first + 0 ≡ first = omega arith in
      rw (starts-at (length xs) offsets f.climbs, a) (noting-begins cs ks hs 0 (unresolved_from first 0 (cut offsets xs)))

  module _ (r : ℕ) {cs ks hs : List ℕ} {whole : List Unresolved} {cs' ks' hs' : List ℕ} {p : ℕ}
      (s : Noting cs ks hs 0 whole cs' ks' hs' p (unresolved_from (first + r) (get_or offsets r 0) (drop r (cut offsets xs)))) where
    pub rows-done : rows ≤ r → Noted whole 0 p cs ks hs cs' ks' hs'
    unfolding unresolved_from
    rows-done h = noting-done s (rw (drop_of_length-le (cut offsets xs) {i = r} (omega (arith, length-rows rows offsets xs f))))

    module _ (h : r < rows) (from to : ℕ) (a : from ≡ get_or offsets r 0) (b : to ≡ get_or offsets (r + 1) 0) where
      in-offsets : r + 1 < length offsets
      in-offsets = omega (arith, f.many)

      pub row-end : to ≤ length xs
      row-end = inside (length xs) offsets f.climbs r in-offsets from to a b

      row-left : drop r (cut offsets xs) ≡ slice from to xs ∷ drop (r + 1) (cut offsets xs)
      row-left =
          rw (drop-cons (cut offsets xs) r [] (omega (arith, length-rows rows offsets xs f)), slot-cut offsets xs r from to in-offsets a b, add-one r)

      next_place : from + length (slice from to xs) ≡ to
      next_place = rw (length-slice from to xs row-end) (omega (arith, ordered (length xs) offsets f.climbs r in-offsets from to a b))

      rows_left : unresolved_from (first + r) (get_or offsets r 0) (drop r (cut offsets xs))
          ≡ records_from (first + r) from (slice from to xs) ++ unresolved_from (first + (r + 1)) (get_or offsets (r + 1) 0) (drop (r + 1) (cut offsets xs))
      unfolding unresolved_from
      rows_left =
          let e : first + (r + 1) ≡ suc (first + r) = omega arith in
          rw (← a, ← b, e, row-left, next_place)

      pub rows-room : RecordsRoom (length whole) cs ks hs → RecordsRoom (p + length (records_from (first + r) from (slice from to xs))) cs' ks' hs'
      rows-room g =
          noting-room s (records_from (first + r) from (slice from to xs)) (unresolved_from (first + (r + 1)) (get_or offsets (r + 1) 0) (drop (r + 1) (cut offsets xs))) rows_left
          (record { children = omega (arith, g.children); kinds = omega (arith, g.kinds); handles = omega (arith, g.handles) })

      pub rows_on : (cs'' ks'' hs'' : List ℕ) (q : ℕ) → Noted (records_from (first + r) from (slice from to xs)) p q cs' ks' hs' cs'' ks'' hs''
          → Noting cs ks hs 0 whole cs'' ks'' hs'' q (unresolved_from (first + (r + 1)) (get_or offsets (r + 1) 0) (drop (r + 1) (cut offsets xs)))
      rows_on cs'' ks'' hs'' q n =
          noting-on s (records_from (first + r) from (slice from to xs)) (unresolved_from (first + (r + 1)) (get_or offsets (r + 1) 0) (drop (r + 1) (cut offsets xs))) rows_left cs'' ks'' hs'' q n
