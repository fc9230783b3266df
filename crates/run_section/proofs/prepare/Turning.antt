-- The lists of survivors turned round: what the rows' children are told from, and the table of them.
use mathlib.Core.Path.{◌≡◌, sym, ap}
use mathlib.Core.Bool.{true}
use mathlib.Core.List.{List, ◌++◌}
use Prim.Native.Nat.{ℕ, ◌+◌, ◌*◌, ◌≤◌}
use native.Mathlib.Omega.{arith}
use lib.ListN.{length, take, drop, length-append, length-take, length-drop}
use lib.Seq.{length-take-le}
use Rattle.columns.specs.Limits.{kinds}
use Rattle.lists.specs.Lists.{joined, starts, all, distinct}
use Rattle.lists.proofs.Flat.{length-starts}
use Rattle.columns.specs.EdgeSet.{offsets_form, cut}
use Rattle.columns.specs.Building.{reverse_lists}
use Rattle.columns_sets.proofs.transpose.ReadBack.{slots-once, length-turned, turned-lent, turned-back}
use Rattle.run_state.specs.declared.Edges.{Edges}
use Rattle.run_state.specs.View.{slots_in}
use Rattle.run_state.proofs.Verdicts.{few-numbers, in_form}
use Rattle.run_section.specs.declared.Counts.{Counts}
use Rattle.run_section.specs.Prepared.{Turnable, ChildrenPut}

-- the lists, and those of the children
abbrev lists : Counts → Edges → List (List ℕ)
lists z e = cut (take (2 * z.rows + 1) e.offsets) (take e.count e.targets)

abbrev turned : Counts → Edges → List (List ℕ)
turned z e = reverse_lists kinds z.start z.rows (lists z e)

module _ (z : Counts) (e : Edges) (t : Turnable z e) where
  few : e.count ≤ 4096
  few = few-numbers z.rows e t.in_form

  pub offsets-there : length e.offsets ≡ 2049 → 2 * z.rows + 1 ≤ length e.offsets
  offsets-there l = omega (arith, t.rows_few)

  pub offsets-count : length e.offsets ≡ 2049 → 2 * z.rows + 1 ≡ length (take (2 * z.rows + 1) e.offsets)
  offsets-count l = sym (length-take-le (2 * z.rows + 1) e.offsets (offsets-there l))

  module _ (l : length e.targets ≡ 4096) where
    pub targets-there : e.count ≤ length e.targets
    targets-there = omega (arith, few)

    pub targets-count : e.count ≡ length (take e.count e.targets)
    targets-count = sym (length-take-le e.count e.targets targets-there)

    pub targets-few : length (take e.count e.targets) ≤ 4096
    targets-few = omega (arith, few, targets-count)

    pub lists-form : offsets_form kinds z.rows (length (take e.count e.targets)) (take (2 * z.rows + 1) e.offsets) ≡ true
    lists-form = rw (← targets-count) (in_form z.rows e t.in_form)

    pub kids_room : (kids : List ℕ) → length kids ≡ 4096 → length (take e.count e.targets) ≤ length kids
    kids_room kids m = omega (arith, targets-few)

  pub lists-once : all distinct (lists z e) ≡ true
  unfolding slots_in
  lists-once = slots-once z.start 0 (slots_in z.rows e) t.once

  module _ (starts₀ kids₀ starts₁ kids₁ : List ℕ) (a : length starts₀ ≡ 2049) (b : length kids₀ ≡ 4096) (n : ℕ)
      (f : n ≡ length (joined (turned z e))) (p : starts₁ ≡ starts 0 (turned z e) ++ drop (2 * z.rows + 1) starts₀) (q : kids₁ ≡ joined (turned z e) ++ drop n kids₀)
      (m : n ≤ length (take e.count e.targets)) where
    kids_few : n ≤ 4096
    kids_few = omega (arith, length-take e.count e.targets, few)

    pub children-put : ChildrenPut z e starts₁ kids₁ n
    children-put = record {
      children = record {
        are = turned-back z.start z.rows (lists z e) n f starts₁ (drop (2 * z.rows + 1) starts₀) p kids₁ (drop n kids₀) q;
        form = turned-lent z.start z.rows (lists z e) n f starts₁ (drop (2 * z.rows + 1) starts₀) p kids₁ (drop n kids₀) q;
        few = omega (arith, length-take n kids₁, kids_few);
      };
      few = kids_few;
      long_starts = omega (
        arith,
        ap length p,
        length-append (starts 0 (turned z e)) (drop (2 * z.rows + 1) starts₀),
        length-drop (2 * z.rows + 1) starts₀,
        length-starts 0 (turned z e),
        length-turned z.start z.rows (lists z e),
        t.rows_few,
      );
      long_kids = omega (arith, ap length q, length-append (joined (turned z e)) (drop n kids₀), length-drop n kids₀, kids_few);
    }
