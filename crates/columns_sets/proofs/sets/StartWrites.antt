-- Where a granule's slots start: the offsets less the first of them, and one turn of the loop that writes them.
use mathlib.Core.Path.{◌≡◌, refl, sym, ◌∙◌, ap}
use mathlib.Core.Bool.{true}
use mathlib.Core.List.{List, [], ◌∷◌}
use Prim.Native.Nat.{ℕ, zero, suc, ◌+◌, ◌-◌, ◌*◌, ◌≤◌, ◌<◌}
use native.Mathlib.Nat.{add-zero}
use native.Mathlib.Numerals.{add-one}
use native.Mathlib.Omega.{arith}
use lib.ListN.{length, get_or, set, drop, drop_of_length-le, length-take, length-drop, length-set}
use lib.Seq.{sets, drop-cons, drop-drop, get_or-take, get_or-drop, length-slice}
use Rattle.columns.specs.Limits.{kinds}
use Rattle.lists.specs.Lists.{part, starts}
use Rattle.lists.proofs.Flat.{length-starts}
use Rattle.columns.specs.EdgeSet.{offsets_form, cut}
use Rattle.columns_rules.proofs.SlotTables.{Table, table_of, length_cut, get_or-cut}
use Rattle.columns_sets.proofs.sets.SetWrites.{climbs}

head-is : (a : ℕ) (ls : List (List ℕ)) → get_or (starts a ls) 0 0 ≡ a
unfolding starts
head-is a [] = refl
head-is a (l ∷ ls) = refl

starts-rest : (a : ℕ) (l : List ℕ) (ls : List (List ℕ)) → drop 1 (starts a (l ∷ ls)) ≡ starts (a + length l) ls
unfolding starts
starts-rest a l ls = refl

module _ (rows from n : ℕ) (offsets targets : List ℕ) (ok : offsets_form kinds rows (length targets) offsets ≡ true) (inside : from + n ≤ rows) where
  t : Table (2 * rows) (length targets) offsets
  t = table_of rows (length targets) offsets ok

  whole : length (cut offsets targets) ≡ 2 * rows
  whole = length_cut (2 * rows) 0 offsets targets t.long

  pub part-long : length (part (2 * from) (2 * n) (cut offsets targets)) ≡ 2 * n
  unfolding part
  part-long = simp (length-take, length-drop) (omega (arith, whole))

  pub starts-long : length (starts 0 (part (2 * from) (2 * n) (cut offsets targets))) ≡ 2 * n + 1
  starts-long = length-starts 0 (part (2 * from) (2 * n) (cut offsets targets)) ∙ omega (arith, part-long)

  above-base : (s : ℕ) → s ≤ 2 * n → get_or offsets (2 * from) 0 ≤ get_or offsets (2 * from + s) 0
  above-base s h = climbs (2 * rows) (length targets) offsets t (2 * from) s (omega arith)

  this : (s : ℕ) → s < 2 * n → drop s (part (2 * from) (2 * n) (cut offsets targets)) ≡ get_or (cut offsets targets) (2 * from + s) [] ∷ drop (suc s) (part (2 * from) (2 * n) (cut offsets targets))
  unfolding part
  this s h =
      drop-cons (part (2 * from) (2 * n) (cut offsets targets)) s [] (omega (arith, part-long))
      ∙ rw (get_or-take (2 * n) (drop (2 * from) (cut offsets targets)) s [] h, get_or-drop (2 * from) (cut offsets targets) s [])

  size : (s : ℕ) → s < 2 * n → length (get_or (cut offsets targets) (2 * from + s) []) ≡ get_or offsets (2 * from + s + 1) 0 - get_or offsets (2 * from + s) 0
  size s h =
      rw (get_or-cut (2 * rows) offsets targets t.long (2 * from + s) (omega arith))
      (length-slice (get_or offsets (2 * from + s) 0) (get_or offsets (2 * from + s + 1) 0) targets (t.bound (2 * from + s + 1) (omega arith)))

  starts_from : (s : ℕ) → s ≤ 2 * n → drop s (starts 0 (part (2 * from) (2 * n) (cut offsets targets)))
      ≡ starts (get_or offsets (2 * from + s) 0 - get_or offsets (2 * from) 0) (drop s (part (2 * from) (2 * n) (cut offsets targets)))
  starts_from zero h = let z : get_or offsets (2 * from + 0) 0 - get_or offsets (2 * from) 0 ≡ 0 = rw (add-zero (2 * from)) (omega arith) in rw z
  starts_from (suc s) h =
      let z : s + 1 ≡ suc s = omega arith in
      let y : 2 * from + suc s ≡ 2 * from + s + 1 = omega arith in
      let r = t.rise (2 * from + s) (omega arith) in
      let p : get_or offsets (2 * from + s) 0 - get_or offsets (2 * from) 0 + length (get_or (cut offsets targets) (2 * from + s) [])
      ≡ get_or offsets (2 * from + suc s) 0 - get_or offsets (2 * from) 0
      = rw y (omega (arith, size s (omega arith), above-base s (omega arith))) in
      (rw z at (sym (drop-drop 1 s (starts 0 (part (2 * from) (2 * n) (cut offsets targets))))))
      ∙ ap (drop 1) (starts_from s (omega arith))
      ∙ rw (
        this s h,
        starts-rest (get_or offsets (2 * from + s) 0 - get_or offsets (2 * from) 0) (get_or (cut offsets targets) (2 * from + s) [])
            (drop (suc s) (part (2 * from) (2 * n) (cut offsets targets))),
        p,
      )

  pub start_is : (s : ℕ) → s ≤ 2 * n → get_or (starts 0 (part (2 * from) (2 * n) (cut offsets targets))) s 0 ≡ get_or offsets (2 * from + s) 0 - get_or offsets (2 * from) 0
  start_is s h =
      let z : s + 0 ≡ s = omega arith in
      sym (rw z at (get_or-drop s (starts 0 (part (2 * from) (2 * n) (cut offsets targets))) 0 0)) ∙ ap (λ l. get_or l 0 0) (starts_from s h)
      ∙ head-is _ (drop s (part (2 * from) (2 * n) (cut offsets targets)))

-- what holds in the loop
pub record Starting (rows from n : ℕ) (offsets targets : List ℕ) (base s : ℕ) (out out₀ : List ℕ) : Type 0 where
  pub form : offsets_form kinds rows (length targets) offsets ≡ true
  pub inside : from + n ≤ rows
  pub first : base ≡ get_or offsets (2 * from) 0
  pub under : s ≤ 2 * n + 1
  pub room : 2 * n < length out₀
  pub same : length out ≡ length out₀
  pub ends : sets out₀ 0 (starts 0 (part (2 * from) (2 * n) (cut offsets targets))) ≡ sets out s (drop s (starts 0 (part (2 * from) (2 * n) (cut offsets targets))))

module _ (rows from n : ℕ) (offsets targets : List ℕ) (base : ℕ) where
  pub starting-begins : (out : List ℕ) → offsets_form kinds rows (length targets) offsets ≡ true → from + n ≤ rows → base ≡ get_or offsets (2 * from) 0 → 2 * n < length out
      → Starting rows from n offsets targets base 0 out out
  starting-begins out ok i e r = record { form = ok; inside = i; first = e; under = omega arith; room = r; same = refl; ends = refl }

  module _ (s : ℕ) (out out₀ : List ℕ) (w : Starting rows from n offsets targets base s out out₀) where
    pub starting-done : 2 * n + 1 ≤ s → out ≡ sets out₀ 0 (starts 0 (part (2 * from) (2 * n) (cut offsets targets)))
    starting-done h =
        let z : drop s (starts 0 (part (2 * from) (2 * n) (cut offsets targets)))
        ≡ [] = drop_of_length-le (starts 0 (part (2 * from) (2 * n) (cut offsets targets))) {i = s} (omega (arith, starts-long rows from n offsets targets w.form w.inside)) in
        sym (rw z at w.ends)

    module _ (h : s < 2 * n + 1) where
      pub starting-in : 2 * from + s < length offsets
      starting-in = omega (arith, (table_of rows (length targets) offsets w.form).long, w.inside)

      pub starting-low : base ≤ get_or offsets (2 * from + s) 0
      starting-low = omega (arith, w.first, above-base rows from n offsets targets w.form w.inside s (omega arith))

      pub starting-on : Starting rows from n offsets targets base (s + 1) (set out s (get_or offsets (2 * from + s) 0 - base)) out₀
      starting-on = record {
        form = w.form;
        inside = w.inside;
        first = w.first;
        under = omega arith;
        room = w.room;
        same = simp length-set w.same;
        ends =
            let z = drop-cons (starts 0 (part (2 * from) (2 * n) (cut offsets targets))) s 0 (omega (arith, starts-long rows from n offsets targets w.form w.inside)) in
            (rw (z, start_is rows from n offsets targets w.form w.inside s (omega arith), ← w.first) at w.ends) ∙ rw add-one;
      }
