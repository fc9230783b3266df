-- Columns tested number by number and slot by slot: one turn of each loop, and each of its answers.
use Rattle.std.specs.List.{list_all}
use Rattle.std.proofs.lemmas.List.{drop-take}
use mathlib.Core.Path.{◌≡◌, refl, sym, ap, ◌∙◌}
use mathlib.Core.Bool.{Bool, true, false, not, ◌&&◌}
use mathlib.Core.List.{List, [], ◌∷◌}
use Prim.Native.Nat.{ℕ, suc, ◌+◌, ◌-◌, ◌*◌, ◌≤◌, ◌<◌}
use native.Mathlib.Numerals.{add-one}
use native.Mathlib.Omega.{arith}
use lib.ListN.{length, get_or, take, drop, drop_of_length-le}
use lib.Seq.{drop-cons, length-take-le}
use borrow.Author.Tests.{not-true, not-false}
use Rattle.columns.specs.Limits.{kinds}
use Rattle.lists.specs.Lists.{all}
use Rattle.columns.specs.EdgeSet.{offsets_form, cut, event_of}
use Rattle.columns_rules.proofs.SlotTables.{table_of, length_cut}
use Rattle.columns_rules.proofs.ParentTurns.{slot-list}
use Rattle.run_state.specs.Valid.{below, earlier}

-- ── columns cut to what is held ──────────────────────────────────────────────────────────────

pub table-count : (n : ℕ) (l : List ℕ) → n ≤ 1024 → length l ≡ 2049 → 2 * n + 1 ≡ length (take (2 * n + 1) l)
table-count n l h k = sym (length-take-le (2 * n + 1) l (omega arith))

pub numbers-count : (n : ℕ) (l : List ℕ) → n ≤ 4096 → length l ≡ 4096 → n ≡ length (take n l)
numbers-count n l h k = sym (length-take-le n l (omega arith))

pub form-cut : (rows n : ℕ) (os l : List ℕ) → n ≤ 4096 → length l ≡ 4096 → offsets_form kinds rows n os ≡ true → offsets_form kinds rows (length (take n l)) os ≡ true
form-cut rows n os l h k e = rw (length-take-le n l (omega arith)) e

-- the library's test of every element
pub all-listed : (p : ℕ → Bool) (xs : List ℕ) → list_all p xs ≡ all p xs
unfolding all
all-listed p [] = refl
all-listed p (x ∷ xs) = ap (λ b. p x && b) (all-listed p xs)

-- ── slot by slot ─────────────────────────────────────────────────────────────────────────────

-- `b - a` numbers from the a-th on are those up to the b-th
pub slot-told : (rows : ℕ) (offsets targets : List ℕ) → offsets_form kinds rows (length targets) offsets ≡ true → (s : ℕ) → s < 2 * rows → (a b : ℕ) → a ≡ get_or offsets s 0
    → b ≡ get_or offsets (s + 1) 0 → a ≤ b → (event f : ℕ) → event ≡ f → {r : Bool} → r ≡ all (below event) (take (b - a) (drop a targets))
    → r ≡ all (below f) (get_or (cut offsets targets) s [])
slot-told rows offsets targets ok s h a b p q o event f d k =
    rw (slot-list rows offsets targets ok s h a b p q, ← d) (k ∙ ap (all (below event)) (sym (drop-take a (b - a) targets) ∙ ap (λ m. drop a (take m targets)) (omega arith)))

module _ {t : Bool} (first rows s : ℕ) (offsets targets : List ℕ) (ok : offsets_form kinds rows (length targets) offsets ≡ true)
    (e : t ≡ earlier first s (drop s (cut offsets targets))) where
  long : length (cut offsets targets) ≡ 2 * rows
  long = length_cut (2 * rows) 0 offsets targets (table_of rows (length targets) offsets ok).long

  pub earlier-done : 2 * rows ≤ s → true ≡ t
  unfolding earlier
  earlier-done h = rw (e, drop_of_length-le (cut offsets targets) {i = s} (omega (arith, long)))

  module _ (h : s < 2 * rows) {r : Bool} (k : r ≡ all (below (event_of kinds first s)) (get_or (cut offsets targets) s [])) where
    here : drop s (cut offsets targets) ≡ get_or (cut offsets targets) s [] ∷ drop (suc s) (cut offsets targets)
    here = drop-cons (cut offsets targets) s [] (omega (arith, long))

    pub slot-late : not r ≡ true → false ≡ t
    unfolding earlier
    slot-late g = rw (e, here, ← k, not-true r g)

    pub slot-early : not r ≡ false → t ≡ earlier first (s + 1) (drop (s + 1) (cut offsets targets))
    unfolding earlier
    slot-early g = rw (e, here, ← k, not-false r g, add-one)
