-- One slot more of a row that survives: the table after it, and one turn of the loop over the slots.
use Rattle.std.specs.Prelude.{Some}
use mathlib.Core.Path.{◌≡◌, refl, sym, ◌∙◌, ap}
use mathlib.Core.Bool.{Bool, true, false, cond, not}
use mathlib.Core.List.{List, [], ◌∷◌, ◌++◌, append-nil, append_assoc}
use Prim.Native.Nat.{ℕ, zero, suc, ◌+◌, ◌-◌, ◌*◌, ◌/◌, ◌≤◌, ◌<◌}
use native.Mathlib.Numerals.{add-one}
use native.Mathlib.Omega.{arith}
use lib.Dec.{eqb}
use lib.ListN.{length, get_or, set, take, drop, length-map, drop_of_length-le, get_or-map}
use lib.Seq.{slice, drop-cons, take-take, take_at, drop_at, length-take-le}
use borrow.Author.Tests.{eq-eqb, ne_eqb}
use Rattle.lists.specs.Lists.{flat, part, up_from}
use Rattle.columns.specs.Limits.{kinds}
use Rattle.columns.specs.EdgeSet.{from_to, offsets_form, cut}
use Rattle.columns.proofs.Offsets.{cut_at}
use Rattle.run_renumber.specs.Answers.{Grew, Built}
use Rattle.run_renumber.proofs.Tables.{table-rises, table-within, form-length, form-table}
use Rattle.run_renumber.proofs.Slots.{slot_added, built-same, built-cut, rows-length}
use Rattle.cleaning.specs.Survivors.{keep_slots}
use Rattle.run_compact.specs.Columns.{gone}
use Rattle.run_compact.specs.slots.Slots.{slots_from}

-- ── one list more ────────────────────────────────────────────────────────────────────────────

module _ (offsets targets : List ℕ) (s : ℕ) (h : s + 1 < length offsets) (ok : from_to 0 (length targets) offsets ≡ true) (a b : ℕ)
    (e : a ≡ get_or offsets s 0) (f : b ≡ get_or offsets (s + 1) 0) where
  pub slot-ordered : a ≤ b
  slot-ordered = rw (e, f) (table-rises (length targets) offsets ok s (s + 1) (omega arith) h)

  pub slot-within : b ≤ length targets
  slot-within = rw f (table-within (length targets) offsets ok (s + 1) h)

  module _ (all : List ℕ) (end : ℕ) (low : end ≤ get_or offsets s 0) where
    pub slot-fits : length targets ≤ length all → end + (b - a) ≤ length all
    slot-fits k = omega (arith, slot-ordered, slot-within)

    pub slot-below : (m : ℕ) → m ≡ end + (b - a) → m ≤ get_or offsets (s + 1) 0
    slot-below m q = omega (arith, slot-ordered)

    pub slot-put : (m : ℕ) (offs all' : List ℕ) (k : ℕ) → m ≡ end + (b - a) → take m all' ≡ take end all ++ slice a b targets → length all' ≡ length all
        → length targets ≤ length all → k + 1 < length offs
        → Built offs all k end (cut (take (k + 1) offs) (take end all))
        → Built (set offs (k + 1) m) all' (k + 1) m (cut (take (k + 1) offs) (take end all) ++ (get_or (cut offsets targets) s [] ∷ []))
    slot-put m offs all' k q t u l n built =
        let lists = cut (take (k + 1) offs) (take end all) in
        let within : m ≤ length all' = omega (arith, slot-ordered, slot-within) in
        let above : end ≤ m = omega arith in
        let full : length (take end all) ≡ end = length-take-le end all built.filled in
        let g : Grew end all all' m (slice a b targets) = record {
          room = within;
          above = above;
          kept = sym (take-take end m all' above) ∙ ap (take end) t ∙ take_at (take end all) (slice a b targets) end full;
          holds = ap (drop end) t ∙ drop_at (take end all) (slice a b targets) end full;
        } in
        let same : slice a b targets ≡ get_or (cut offsets targets) s [] = rw (e, f) (sym (cut_at offsets targets s h)) in
        rw (← same) (slot_added offs all k end lists built (Some m) all' (slice a b targets) g m refl n)

-- ── the loop over the slots ──────────────────────────────────────────────────────────────────

module _ (flags offsets targets : List ℕ) (ok : offsets_form kinds (length flags) (length targets) offsets ≡ true) where
  pub table-form : from_to 0 (length targets) offsets ≡ true
  table-form = form-table kinds (length flags) (length targets) offsets ok

  pub next-there : (s : ℕ) → s < kinds * length flags → s + 1 < length offsets
  next-there s h = omega (arith, form-length kinds (length flags) (length targets) offsets ok)

  pub next-above : (s end : ℕ) → s < kinds * length flags → end ≤ get_or offsets s 0 → end ≤ get_or offsets (s + 1) 0
  next-above s end h l = omega (arith, table-rises (length targets) offsets table-form s (s + 1) (omega arith) (next-there s h))

  module _ {t : List (List ℕ)} (offs all : List ℕ) (k end s : ℕ)
      (e : t ≡ cut (take (k + 1) offs) (take end all) ++ slots_from flags s (drop s (cut offsets targets))) where
    pub slots-done : kinds * length flags ≤ s → Built offs all k end (cut (take (k + 1) offs) (take end all)) → Built offs all (length t) end t
    unfolding slots_from
    slots-done h b =
        let o : length (cut offsets targets) ≤ s = omega (arith, rows-length kinds (length flags) offsets targets ok) in
        let q : t ≡ cut (take (k + 1) offs) (take end all) = e ∙ rw (drop_of_length-le (cut offsets targets) {i = s} o, append-nil) in
        rw (q, b.count) b

    module _ (h : s < kinds * length flags) where
      here : drop s (cut offsets targets) ≡ get_or (cut offsets targets) s [] ∷ drop (suc s) (cut offsets targets)
      here = drop-cons (cut offsets targets) s [] (omega (arith, rows-length kinds (length flags) offsets targets ok))

      pub slot-gone : (get_or flags (s / 2) 0 ≡ 0 → ⊥) → t ≡ cut (take (k + 1) offs) (take end all) ++ slots_from flags (s + 1) (drop (s + 1) (cut offsets targets))
      unfolding slots_from
      slot-gone f = rw (e, here, ne_eqb (get_or flags (s / 2) 0) 0 f, add-one s)

      module _ (offs' all' : List ℕ) (m : ℕ)
          (b : Built offs' all' (k + 1) m (cut (take (k + 1) offs) (take end all) ++ (get_or (cut offsets targets) s [] ∷ []))) where
        pub slot_kept : get_or flags (s / 2) 0 ≡ 0 → t ≡ cut (take (k + 1 + 1) offs') (take m all') ++ slots_from flags (s + 1) (drop (s + 1) (cut offsets targets))
        unfolding slots_from
        slot_kept f =
            rw (
              e,
              here,
              eq-eqb (get_or flags (s / 2) 0) 0 f,
              built-cut offs' all' (k + 1) m
                  (cut (take (k + 1) offs) (take end all) ++ (get_or (cut offsets targets) s [] ∷ [])) b,
              add-one s,
              append_assoc,
            )

        pub slot-built : Built offs' all' (k + 1) m (cut (take (k + 1 + 1) offs') (take m all'))
        slot-built = built-same offs' all' (k + 1) m (cut (take (k + 1) offs) (take end all) ++ (get_or (cut offsets targets) s [] ∷ [])) b

pub slots-begin : (offs all flags : List ℕ) (lists : List (List ℕ)) → Built offs all 0 0 []
    → slots_from flags 0 lists ≡ cut (take (0 + 1) offs) (take 0 all) ++ slots_from flags 0 (drop 0 lists)
slots-begin offs all flags lists b = rw (built-cut offs all 0 0 [] b)

-- ── row by row ───────────────────────────────────────────────────────────────────────────────

module _ (flags : List ℕ) (lists : List (List ℕ)) (w : length lists ≡ kinds * length flags) where
  flag-says : (i : ℕ) → get_or (gone flags) i false ≡ not (eqb (get_or flags i 0) 0)
  unfolding gone
  flag-says i = get_or-map (λ f. not (eqb f 0)) flags i 0

  rows-from : (n i s : ℕ) → s ≡ kinds * i → i + n ≡ length flags
      → flat (λ j. cond (get_or (gone flags) j false) [] (part (kinds * j) kinds lists)) (up_from i n) ≡ slots_from flags s (drop s lists)
  unfolding up_from slots_from part
  rows-from zero i s q e = rw (drop_of_length-le lists {i = s} (omega arith))
  rows-from (suc n) i s q e =
      let a : s < length lists = omega arith in
      let b : suc s < length lists = omega arith in
      let d : s / kinds ≡ i = omega arith in
      let d' : suc s / kinds ≡ i = omega arith in
      rw (rows-from n (suc i) (suc (suc s)) (omega arith) (omega arith), ← q, drop-cons lists s [] a, drop-cons lists (suc s) [] b, d, d', flag-says i)
      (go (eqb (get_or flags i 0) 0))
    where
      rest : List (List ℕ)
      rest = slots_from flags (suc (suc s)) (drop (suc (suc s)) lists)

      x : List ℕ
      x = get_or lists s []

      y : List ℕ
      y = get_or lists (suc s) []

      go : (c : Bool) → cond (not c) [] (x ∷ y ∷ []) ++ rest ≡ cond c (x ∷ cond c (y ∷ rest) rest) (cond c (y ∷ rest) rest)
      go true = refl
      go false = refl

  pub slots_kept : slots_from flags 0 lists ≡ keep_slots kinds (gone flags) lists
  unfolding keep_slots gone
  slots_kept = sym (ap (λ n. flat (λ j. cond (get_or (gone flags) j false) [] (part (kinds * j) kinds lists)) (up_from 0 n)) (length-map flags (λ f. not (eqb f 0)))
      ∙ rows-from (length flags) 0 0 (omega arith) (omega arith))

pub kept-built : (offs all : List ℕ) (r : ℕ) (flags offsets targets : List ℕ) → offsets_form kinds (length flags) (length targets) offsets ≡ true
    → Built offs all (length (slots_from flags 0 (cut offsets targets))) r (slots_from flags 0 (cut offsets targets))
    → Built offs all (length (keep_slots kinds (gone flags) (cut offsets targets))) r (keep_slots kinds (gone flags) (cut offsets targets))
kept-built offs all r flags offsets targets ok b =
    let q = slots_kept flags (cut offsets targets) (rows-length kinds (length flags) offsets targets ok) in
    rw (← q) b
