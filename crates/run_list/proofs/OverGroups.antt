-- The files of the groups from one on: their lines and what those take. All are those from group 0 on; one turn of each loop goes from g to g + 1.
use mathlib.Core.Path.{◌≡◌, refl, sym, ap, ◌∙◌}
use mathlib.Core.List.{List, [], ◌++◌}
use Prim.Native.Nat.{ℕ, suc, ◌+◌, ◌-◌, ◌≤◌, ◌<◌}
use native.Mathlib.Numerals.{add-one}
use native.Mathlib.Omega.{arith}
use Rattle.lists.specs.Lists.{flat, up_from, sum}
use Rattle.run_section.specs.declared.Counts.{Counts}
use Rattle.run_section.specs.declared.Span.{Span}
use Rattle.run_section.specs.Sections.{SpanAt}
use Rattle.run_text.specs.numbers.Wrote.{Wrote}
use Rattle.run_text.proofs.lines.Columns.{Going}
use Rattle.run_list.specs.Groups.{lines_over, need_over, Shown, lines_at, need_at, lines_of, need_of, Tabled, Spanned}
use Rattle.run_list.proofs.Along.{part-more, parts_end}

module _ (z : Counts) (n : ℕ) (rows offsets targets starts kids : List ℕ) where
  -- ── the rest ───────────────────────────────────────────────────────────────────────────────

  -- of the groups from g up to n
  unfoldable pub lines_from : ℕ → List ℕ
  lines_from g = flat (lines_at z rows offsets targets starts kids) (up_from g (n - g))

  unfoldable pub need_from : ℕ → ℕ
  need_from g = sum (need_at z rows offsets targets starts kids) (up_from g (n - g))

  module _ (g : ℕ) where
    lines_end : n ≤ g → lines_from g ≡ []
    unfolding lines_from up_from
    lines_end h = let e : n - g ≡ 0 = omega arith in rw e

    need-end : n ≤ g → need_from g ≡ 0
    unfolding need_from up_from sum
    need-end h = let e : n - g ≡ 0 = omega arith in rw e

    lines_next : g < n → lines_from g ≡ lines_at z rows offsets targets starts kids g ++ lines_from (g + 1)
    unfolding lines_from up_from
    lines_next h = let e : n - g ≡ suc (n - suc g) = omega arith in rw (e, add-one)

    need-next : g < n → need_from g ≡ need_at z rows offsets targets starts kids g + need_from (g + 1)
    unfolding need_from up_from sum
    need-next h = let e : n - g ≡ suc (n - suc g) = omega arith in rw (e, add-one)

  pub all-need : need_of z n rows offsets targets starts kids ≡ 0 + need_from 0
  unfolding need_of need_from
  all-need = let e : n - 0 ≡ n = omega arith in rw e (omega arith)

  pub all_room : (at : ℕ) → at + need_from 0 ≤ at + need_of z n rows offsets targets starts kids
  all_room at = omega (arith, all-need)

  pub all_lines : (l : List ℕ) (at : ℕ) → Going (lines_of z n rows offsets targets starts kids) l at l at (lines_from 0)
  unfolding lines_of lines_from
  all_lines l at = let e : n - 0 ≡ n = omega arith in rw e (record { stored = refl; next = refl })

  -- ── one turn ───────────────────────────────────────────────────────────────────────────────

  module _ (g : ℕ) (h : g < n) (r : Span) (at : SpanAt 4 z.rows rows g (g + 1) r) where
    lines_are : lines_over z g r.from r.to offsets targets starts kids ≡ lines_at z rows offsets targets starts kids g
    unfolding lines_at
    lines_are = rw (at.from_is, at.to_is)

    need-is : need_over z r.from r.to offsets targets starts kids ≡ need_at z rows offsets targets starts kids g
    unfolding need_at
    need-is = rw (at.from_is, at.to_is)

    pub need-more : {l q : ℕ} (t : ℕ) → l ≡ t + need_from g → q ≡ need_over z r.from r.to offsets targets starts kids → l ≡ t + q + need_from (g + 1)
    need-more t e f = omega (arith, need-next g h, need-is)

    module _ (t : Tabled z n rows offsets targets starts kids) (s : Spanned z n rows offsets targets starts kids) where
      pub parents-shown : Shown z r.from r.to offsets targets
      parents-shown = record {
        few = t.few;
        end = t.end;
        rises = at.rises;
        within = at.within;
        form = t.lists.parents;
        numbers = t.lists.few_parents;
        spans = rw (at.from_is, at.to_is) (s.parents g h);
      }

      pub children-shown : Shown z r.from r.to starts kids
      children-shown = record {
        few = t.few;
        end = t.end;
        rises = at.rises;
        within = at.within;
        form = t.lists.children;
        numbers = t.lists.few_children;
        spans = rw (at.from_is, at.to_is) (s.children g h);
      }

    module _ (p : ℕ) {room : ℕ} (u : p + need_from g ≤ room) where
      pub group-room : {j k : ℕ} → room ≤ k → j ≡ k → p + need_over z r.from r.to offsets targets starts kids ≤ j
      group-room a b = omega (arith, need-next g h, need-is)

      pub need-left : {text was is : List ℕ} {q : ℕ} → Wrote text (need_over z r.from r.to offsets targets starts kids) was p is q → q + need_from (g + 1) ≤ room
      need-left w = omega (arith, need-next g h, need-is, w.next, w.short)

    pub lines_left : {text was is k : List ℕ} {start p q : ℕ} → Going text was start is p (lines_from g)
        → Wrote (lines_over z g r.from r.to offsets targets starts kids) (need_over z r.from r.to offsets targets starts kids) is p k q → Going text was start k q (lines_from (g + 1))
    lines_left v w = part-more v (lines_next g h ∙ ap (λ l. l ++ lines_from (g + 1)) (sym lines_are)) w

  -- ── where the loops end ────────────────────────────────────────────────────────────────────

  module _ (g : ℕ) (h : n ≤ g) where
    pub need-done : (t : ℕ) → need_of z n rows offsets targets starts kids ≡ t + need_from g → t ≡ need_of z n rows offsets targets starts kids
    need-done t e = omega (arith, need-end g h)

    pub lines-done : {was is : List ℕ} {at p : ℕ} → Going (lines_of z n rows offsets targets starts kids) was at is p (lines_from g)
        → p + need_from g ≤ at + need_of z n rows offsets targets starts kids
        → Wrote (lines_of z n rows offsets targets starts kids) (need_of z n rows offsets targets starts kids) was at is p
    lines-done v u = parts_end v (lines_end g h) (omega arith)
