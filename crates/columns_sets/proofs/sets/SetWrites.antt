-- One turn of the loop that writes a granule's deltas, slot after slot.
use mathlib.Core.Path.{◌≡◌, refl, sym, ◌∙◌}
use mathlib.Core.Bool.{true, ◌&&◌}
use mathlib.Core.List.{List, [], ◌∷◌, map}
use Prim.Native.Nat.{ℕ, zero, suc, ◌+◌, ◌-◌, ◌*◌, ◌/◌, ◌≤◌, ◌<◌}
use native.Mathlib.Nat.{add-zero}
use native.Mathlib.Numerals.{add-one}
use native.Mathlib.Omega.{arith}
use lib.IntN.{ℤ}
use lib.ListN.{length, get_or, drop, drop_of_length-le, length-take, length-drop, length-map}
use lib.Seq.{slice, sets, drop-cons, get_or-take, get_or-drop, length-slice}
use Rattle.columns.specs.Limits.{kinds}
use Rattle.lists.specs.Lists.{part, joined}
use Rattle.lists.proofs.Tests.{both}
use Rattle.lists.proofs.Slices.{sets-append}
use Rattle.columns.specs.EdgeSet.{offsets_form, cut, delta_of, deltas_from}
use Rattle.columns.specs.Building.{deltas_fit}
use Rattle.columns_rules.specs.spans.Spanned.{spans_fit, slots_fit}
use Rattle.columns_rules.proofs.SlotTables.{Table, table_of, length_cut, get_or-cut}
use Rattle.columns_rules.proofs.spans.SpanTurns.{deltas-slots}

pub climbs : (slots count : ℕ) (offsets : List ℕ) → Table slots count offsets → (s d : ℕ) → s + d ≤ slots → get_or offsets s 0 ≤ get_or offsets (s + d) 0
climbs slots count offsets t s zero h = let z : s + 0 ≡ s = omega arith in rw z (omega arith)
climbs slots count offsets t s (suc d) h =
    let z : s + suc d ≡ s + d + 1 = omega arith in
    rw z (omega (arith, climbs slots count offsets t s d (omega arith), t.rise (s + d) (omega arith)))

module _ (rows from q : ℕ) (offsets targets : List ℕ) (ok : offsets_form kinds rows (length targets) offsets ≡ true) (h : 2 * from + q < 2 * rows) where
  pub piece-order : (a b : ℕ) → a ≡ get_or offsets (2 * from + q) 0 → b ≡ get_or offsets (2 * from + q + 1) 0 → a ≤ b
  piece-order a b e f = omega (arith, (table_of rows (length targets) offsets ok).rise (2 * from + q) h)

  pub piece-base : (base a : ℕ) → base ≤ get_or offsets (2 * from + q) 0 → a ≡ get_or offsets (2 * from + q) 0 → base ≤ a
  piece-base base a g e = omega arith

  module _ (first a b : ℕ) (e : a ≡ get_or offsets (2 * from + q) 0) (f : b ≡ get_or offsets (2 * from + q + 1) 0) where
    list-is : get_or (cut offsets targets) (2 * from + q) [] ≡ slice a b targets
    list-is = rw (e, f) (get_or-cut (2 * rows) offsets targets (table_of rows (length targets) offsets ok).long (2 * from + q) h)

    event-is : first + from + q / 2 ≡ first + (from + q / 2)
    event-is = omega arith

    pub piece-fits : spans_fit (first + from + q / 2) (get_or (cut offsets targets) (2 * from + q) []) ≡ true → spans_fit (first + (from + q / 2)) (slice a b targets) ≡ true
    piece-fits g = rw (list-is, event-is) at g

    pub piece-says : (base : ℕ) (out out' : List ℤ) → out' ≡ sets out (a - base) (map (delta_of (first + (from + q / 2))) (slice a b targets))
        → out' ≡ sets out (get_or offsets (2 * from + q) 0 - base) (map (delta_of (first + from + q / 2)) (get_or (cut offsets targets) (2 * from + q) []))
    piece-says base out out' g = rw (list-is, event-is, ← e) g

pub base-in : (rows from n : ℕ) (offsets targets : List ℕ) → offsets_form kinds rows (length targets) offsets ≡ true → from + n ≤ rows → 2 * from < length offsets
base-in rows from n offsets targets ok h = omega (arith, (table_of rows (length targets) offsets ok).long)

-- what holds in the loop over the granule's slots
pub record Writing (first rows from n : ℕ) (offsets targets : List ℕ) (base q : ℕ) (out out₀ : List ℤ) : Type 0 where
  pub form : offsets_form kinds rows (length targets) offsets ≡ true
  pub inside : from + n ≤ rows
  pub under : q ≤ 2 * n
  pub start : base ≡ get_or offsets (2 * from) 0
  pub same : length out ≡ length out₀
  pub fits : slots_fit (first + from) q (drop q (part (2 * from) (2 * n) (cut offsets targets))) ≡ true
  pub ends : sets out₀ 0 (joined (deltas_from kinds (first + from) 0 (part (2 * from) (2 * n) (cut offsets targets))))
      ≡ sets out (get_or offsets (2 * from + q) 0 - base) (joined (deltas_from kinds (first + from) q (drop q (part (2 * from) (2 * n) (cut offsets targets)))))

module _ (first rows from n : ℕ) (offsets targets : List ℕ) (base : ℕ) where
  pub writing_begins : (out : List ℤ) → offsets_form kinds rows (length targets) offsets ≡ true → from + n ≤ rows → base ≡ get_or offsets (2 * from) 0
      → deltas_fit kinds (first + from) (part (2 * from) (2 * n) (cut offsets targets)) ≡ true → Writing first rows from n offsets targets base 0 out out
  writing_begins out ok i e f = record {
    form = ok;
    inside = i;
    under = omega arith;
    start = e;
    same = refl;
    fits = sym (deltas-slots (first + from) (part (2 * from) (2 * n) (cut offsets targets))) ∙ f;
    ends = let z : get_or offsets (2 * from + 0) 0 - base ≡ 0 = rw (add-zero (2 * from), e) (omega arith) in rw z;
  }

  module _ (q : ℕ) (out out₀ : List ℤ) (w : Writing first rows from n offsets targets base q out out₀) where
    whole : length (cut offsets targets) ≡ 2 * rows
    whole = length_cut (2 * rows) 0 offsets targets (table_of rows (length targets) offsets w.form).long

    long : length (part (2 * from) (2 * n) (cut offsets targets)) ≡ 2 * n
    unfolding part
    long = simp (length-take, length-drop) (omega (arith, whole, w.inside))

    pub writing-done : 2 * n ≤ q → out ≡ sets out₀ 0 (joined (deltas_from kinds (first + from) 0 (part (2 * from) (2 * n) (cut offsets targets))))
    unfolding joined deltas_from
    writing-done h =
        let z : drop q (part (2 * from) (2 * n) (cut offsets targets)) ≡ [] = drop_of_length-le (part (2 * from) (2 * n) (cut offsets targets)) {i = q} (omega (arith, long)) in
        sym (rw z at w.ends)

    module _ (h : q < 2 * n) where
      pub writing-in : 2 * from + q < 2 * rows
      writing-in = omega (arith, w.inside)

      pub writing-base : base ≤ get_or offsets (2 * from + q) 0
      writing-base = omega (arith, w.start, climbs (2 * rows) (length targets) offsets (table_of rows (length targets) offsets w.form) (2 * from) q (omega (arith, writing-in)))

      piece : get_or (part (2 * from) (2 * n) (cut offsets targets)) q [] ≡ get_or (cut offsets targets) (2 * from + q) []
      unfolding part
      piece = rw (get_or-take (2 * n) (drop (2 * from) (cut offsets targets)) q [] h, get_or-drop (2 * from) (cut offsets targets) q [])

      this : drop q (part (2 * from) (2 * n) (cut offsets targets)) ≡ get_or (cut offsets targets) (2 * from + q) [] ∷ drop (suc q) (part (2 * from) (2 * n) (cut offsets targets))
      this = drop-cons (part (2 * from) (2 * n) (cut offsets targets)) q [] (omega (arith, long)) ∙ rw piece

      fits-parts : (spans_fit (first + from + q / 2) (get_or (cut offsets targets) (2 * from + q) []) && slots_fit (first + from) (suc q)
          (drop (suc q) (part (2 * from) (2 * n) (cut offsets targets)))) ≡ true
      unfolding slots_fit
      fits-parts = rw this at w.fits

      pub writing-fits : spans_fit (first + from + q / 2) (get_or (cut offsets targets) (2 * from + q) []) ≡ true
      writing-fits = (both (spans_fit (first + from + q / 2) (get_or (cut offsets targets) (2 * from + q) []))
          (slots_fit (first + from) (suc q) (drop (suc q) (part (2 * from) (2 * n) (cut offsets targets)))) fits-parts).0

      size : length (map (delta_of (first + from + q / 2)) (get_or (cut offsets targets) (2 * from + q) [])) ≡ get_or offsets (2 * from + q + 1) 0 - get_or offsets (2 * from + q) 0
      size =
          let t = table_of rows (length targets) offsets w.form in
          rw (length-map (get_or (cut offsets targets) (2 * from + q) []) (delta_of (first + from + q / 2)), get_or-cut (2 * rows) offsets targets t.long (2 * from + q) writing-in)
          (length-slice (get_or offsets (2 * from + q) 0) (get_or offsets (2 * from + q + 1) 0) targets (t.bound (2 * from + q + 1) (omega (arith, writing-in))))

      place : get_or offsets (2 * from + q) 0 - base + length (map (delta_of (first + from + q / 2)) (get_or (cut offsets targets) (2 * from + q) [])) ≡ get_or offsets (2 * from + (q + 1)) 0 - base
      place =
          let z : 2 * from + (q + 1) ≡ 2 * from + q + 1 = omega arith in
          let r = (table_of rows (length targets) offsets w.form).rise (2 * from + q) writing-in in
          rw z (omega (arith, size, writing-base))

      pub writing-on : (out' : List ℤ) → out' ≡ sets out (get_or offsets (2 * from + q) 0 - base) (map (delta_of (first + from + q / 2)) (get_or (cut offsets targets) (2 * from + q) []))
          → length out' ≡ length out → Writing first rows from n offsets targets base (q + 1) out' out₀
      unfolding joined deltas_from
      writing-on out' e l = record {
        form = w.form;
        inside = w.inside;
        under = omega arith;
        start = w.start;
        same = l ∙ w.same;
        fits = rw add-one (both (spans_fit (first + from + q / 2) (get_or (cut offsets targets) (2 * from + q) []))
            (slots_fit (first + from) (suc q) (drop (suc q) (part (2 * from) (2 * n) (cut offsets targets)))) fits-parts).1;
        ends =
            let step = sets-append out (get_or offsets (2 * from + q) 0 - base) (map (delta_of (first + from + q / 2)) (get_or (cut offsets targets) (2 * from + q) []))
            (joined (deltas_from kinds (first + from) (suc q) (drop (suc q) (part (2 * from) (2 * n) (cut offsets targets))))) in
            (rw this at w.ends) ∙ step ∙ rw (place, ← e, add-one);
      }
