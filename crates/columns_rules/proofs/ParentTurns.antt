-- Parents in turn: one turn over the parents of a slot, and one over the slots.
use Rattle.std.specs.Prelude.{Err, Ok, Result}
use mathlib.Core.Path.{◌≡◌, refl, sym, ◌∙◌, ap}
use mathlib.Core.Bool.{Bool, true, false, ◌||◌, or_comm}
use mathlib.Core.List.{List, [], ◌∷◌, ◌++◌}
use Prim.Native.Nat.{ℕ, suc, ◌+◌, ◌*◌, ◌≤◌, ◌<◌}
use native.Mathlib.Numerals.{add-one}
use native.Mathlib.Omega.{arith}
use lib.Dec.{eqb}
use lib.ListN.{length, get_or, drop, drop_of_length-le}
use lib.Seq.{slice, slice-cons, drop-cons}
use borrow.Author.Tests.{le-leb, lt-leb}
use Rattle.columns.specs.Limits.{kinds}
use Rattle.lists.specs.Lists.{mem}
use Rattle.lists.proofs.Slices.{slice-none, slice_snoc}
use Rattle.lists.proofs.Once.{mem-last}
use Rattle.columns.specs.Refusal.{first_of}
use Rattle.columns.specs.EdgeSet.{offsets_form, cut, event_of}
use Rattle.columns.specs.Building.{parent_rules, slot_rules}
use Rattle.columns.specs.Answers.{ruling}
use Rattle.columns.specs.declared.refusal.Refusal.{Refusal}
use Rattle.columns.specs.declared.refusal.Refusal.TheVariants.{ParentNotEarlier, ParentTwice}
use Rattle.columns.proofs.Told.{told, told-kept, last-rule}
use Rattle.columns_rules.proofs.SlotTables.{table_of, length_cut, get_or-cut}

-- ── the parents of a slot ────────────────────────────────────────────────────────────────────

mem-snoc : (x : ℕ) (l : List ℕ) (y : ℕ) → mem x (l ++ (y ∷ [])) ≡ mem x (y ∷ l)
unfolding mem
mem-snoc x l y = mem-last x y l ∙ or_comm (mem x l) (eqb x y)

-- only what was seen counts, not in which order
parents-seen : (event : ℕ) (s t ps : List ℕ) → ((x : ℕ) → mem x s ≡ mem x t) → parent_rules event s ps ≡ parent_rules event t ps
unfolding parent_rules mem
parents-seen event s t [] h = refl
parents-seen event s t (p ∷ ps) h = rw (h p, parents-seen event (p ∷ s) (p ∷ t) ps (λ x. ap (λ b. eqb x p || b) (h x)))

module _ {t : Result (Unit {0}) Refusal} (event from to j : ℕ) (l : List ℕ) (e : t ≡ ruling (parent_rules event (slice from j l) (slice j to l))) where
  pub parents-done : to ≤ j → (Ok tt) ≡ t
  unfolding parent_rules
  parents-done h = rw (e, slice-none j to l h)

  module _ (h : j < to) (k : to ≤ length l) where
    pub parent-late : event ≤ get_or l j 0 → Err ParentNotEarlier ≡ t
    unfolding parent_rules first_of
    parent-late f = rw (e, slice-cons j to l 0, le-leb event (get_or l j 0) f)

    module _ (f : get_or l j 0 < event) {r : Bool} (g : r ≡ mem (get_or l j 0) (slice from j l)) where
      pub parent-again : r ≡ true → Err ParentTwice ≡ t
      unfolding parent_rules first_of
      parent-again q = rw (e, slice-cons j to l 0, lt-leb event (get_or l j 0) f, ← g, q)

      pub parents-on : from ≤ j → r ≡ false → t ≡ ruling (parent_rules event (slice from (j + 1) l) (slice (j + 1) to l))
      unfolding parent_rules first_of
      parents-on i q =
          let z : parent_rules event (get_or l j 0 ∷ slice from j l) (slice (suc j) to l) ≡ parent_rules event (slice from (suc j) l) (slice (suc j) to l)
          = parents-seen event (get_or l j 0 ∷ slice from j l) (slice from (suc j) l) (slice (suc j) to l)
          (λ x. sym (ap (mem x) (slice_snoc from j l 0 i (omega arith)) ∙ mem-snoc x (slice from j l) (get_or l j 0))) in
          rw (e, slice-cons j to l 0, lt-leb event (get_or l j 0) f, ← g, q, add-one, ← z) (ap ruling (last-rule (parent_rules event (get_or l j 0 ∷ slice from j l) (slice (suc j) to l))))

pub none_yet : (event from to : ℕ) (l : List ℕ) → ruling (parent_rules event [] (slice from to l)) ≡ ruling (parent_rules event (slice from from l) (slice from to l))
none_yet event from to l = rw (slice-none from from l (omega arith))

-- ── the slots ────────────────────────────────────────────────────────────────────────────────

module _ (rows : ℕ) (offsets targets : List ℕ) (ok : offsets_form kinds rows (length targets) offsets ≡ true) (s : ℕ) (h : s < 2 * rows) where
  pub slot_in : s < length offsets
  slot_in = omega (arith, (table_of rows (length targets) offsets ok).long)

  pub next-in : s + 1 < length offsets
  next-in = omega (arith, (table_of rows (length targets) offsets ok).long)

  module _ (a b : ℕ) (p : a ≡ get_or offsets s 0) (q : b ≡ get_or offsets (s + 1) 0) where
    pub slot_order : a ≤ b
    slot_order = omega (arith, (table_of rows (length targets) offsets ok).rise s h)

    pub slot_inside : b ≤ length targets
    slot_inside = omega (arith, (table_of rows (length targets) offsets ok).bound (s + 1) (omega arith))

    pub slot-list : get_or (cut offsets targets) s [] ≡ slice a b targets
    slot-list = rw (p, q) (get_or-cut (2 * rows) offsets targets (table_of rows (length targets) offsets ok).long s h)

    pub slot-says : (event : ℕ) (f : ℕ) → event ≡ f → {r : Result (Unit {0}) Refusal} → r ≡ ruling (parent_rules event [] (slice a b targets))
        → r ≡ ruling (parent_rules f [] (get_or (cut offsets targets) s []))
    slot-says event f d k = rw (slot-list, ← d) k

module _ {t : Result (Unit {0}) Refusal} (first rows s : ℕ) (offsets targets : List ℕ) (ok : offsets_form kinds rows (length targets) offsets ≡ true)
    (e : t ≡ ruling (slot_rules kinds first s (drop s (cut offsets targets)))) where
  long : length (cut offsets targets) ≡ 2 * rows
  long = length_cut (2 * rows) 0 offsets targets (table_of rows (length targets) offsets ok).long

  pub slots-done : 2 * rows ≤ s → (Ok tt) ≡ t
  unfolding slot_rules
  slots-done h = rw (e, drop_of_length-le (cut offsets targets) {i = s} (omega (arith, long)))

  module _ (h : s < 2 * rows) {r : Result (Unit {0}) Refusal} (k : r ≡ ruling (parent_rules (event_of kinds first s) [] (get_or (cut offsets targets) s []))) where
    here : drop s (cut offsets targets) ≡ get_or (cut offsets targets) s [] ∷ drop (suc s) (cut offsets targets)
    here = drop-cons (cut offsets targets) s [] (omega (arith, long))

    pub slots-stop : {x : Refusal} → r ≡ Err x → Err x ≡ t
    unfolding slot_rules first_of
    slots-stop g = rw (e, here, told (parent_rules (event_of kinds first s) [] (get_or (cut offsets targets) s [])) k g)

    pub slots-on : r ≡ Ok tt → t ≡ ruling (slot_rules kinds first (s + 1) (drop (s + 1) (cut offsets targets)))
    unfolding slot_rules first_of
    slots-on g =
        rw (e, here, told-kept (parent_rules (event_of kinds first s) [] (get_or (cut offsets targets) s [])) k g, add-one)
        (ap ruling (last-rule (slot_rules kinds first (suc s) (drop (suc s) (cut offsets targets)))))
