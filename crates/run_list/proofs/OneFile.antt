-- One file: its head and its sets, one after the other, each with room where all have; and what they take.
use mathlib.Core.Path.{◌≡◌, refl, ap, ◌∙◌}
use mathlib.Core.List.{List, [], ◌∷◌}
use Prim.Native.Nat.{ℕ, ◌+◌, ◌-◌, ◌*◌, ◌≤◌}
use native.Mathlib.Omega.{arith}
use lib.ListN.{length}
use lib.Seq.{length-sets}
use Rattle.lists.specs.Text.{text}
use Rattle.columns.specs.EdgeSet.{EdgeSet}
use Rattle.cleaning.specs.Lines.{set_lines}
use Rattle.run_section.specs.declared.Counts.{Counts}
use Rattle.run_section.specs.declared.sizes.Edges.{Edges}
use Rattle.run_section.specs.Files.{sets_over}
use Rattle.run_section.specs.Sizes.{EdgesOf}
use Rattle.run_text.specs.numbers.Wrote.{Wrote}
use Rattle.run_text.specs.lines.Parts.{head_text}
use Rattle.run_text.specs.files.Files.{set_size, sets_text, file_text}
use Rattle.run_text.proofs.numbers.Joined.{then, renamed}
use Rattle.run_list.specs.Groups.{set_over, lines_over, need_over}

-- bytes that a text is written into stay as many
pub same_length : {xs was is : List ℕ} {n at r : ℕ} → Wrote xs n was at is r → length is ≡ length was
same_length w = ap length w.stored ∙ simp length-sets

module _ (z : Counts) (g a b : ℕ) (offsets targets starts kids : List ℕ) where
  abbrev parents : EdgeSet
  parents = set_over z a b 0 (z.start + z.rows) offsets targets

  abbrev within : EdgeSet
  within = set_over z a b 0 (z.start + b) starts kids

  abbrev past : EdgeSet
  past = set_over z a b (z.start + b) (z.start + z.rows) starts kids

  need-is : need_over z a b offsets targets starts kids ≡ 224 + 126 * (b - a) + 21 * (parents.count + (within.count + past.count))
  unfolding need_over sets_over
  need-is = refl

  pub need-told : (e : Edges) → EdgesOf (sets_over z a b offsets targets starts kids) e
      → 224 + 126 * (b - a) + 21 * (e.forward + (e.reverse + e.inbound)) ≡ need_over z a b offsets targets starts kids
  unfolding need_over
  need-told e h = rw (h.forward_is, h.reverse_is, h.inbound_is)

  module _ (l : List ℕ) (at : ℕ) (room : at + need_over z a b offsets targets starts kids ≤ length l) where
    pub head-fits : at + 68 ≤ length l
    head-fits = omega (arith, need-is)

    module _ {i : List ℕ} {p : ℕ} (h : Wrote (head_text g (z.start + a) (b - a)) 68 l at i p) where
      pub forward-fits : p + set_size 7 (2 * (b - a) + 1) parents.count ≤ length i
      forward-fits = omega (arith, need-is, same_length h, h.next, h.short)

      module _ {j : List ℕ} {q : ℕ} (f : Wrote (set_lines (102 ∷ 111 ∷ 114 ∷ 119 ∷ 97 ∷ 114 ∷ 100 ∷ []) parents) (set_size 7 (2 * (b - a) + 1) parents.count) i p j q) where
        pub reverse-fits : q + set_size 7 (2 * (b - a) + 1) within.count ≤ length j
        reverse-fits = omega (arith, need-is, same_length h, h.next, h.short, same_length f, f.next, f.short)

        module _ {k : List ℕ} {r : ℕ} (v : Wrote (set_lines (114 ∷ 101 ∷ 118 ∷ 101 ∷ 114 ∷ 115 ∷ 101 ∷ []) within) (set_size 7 (2 * (b - a) + 1) within.count) j q k r) where
          pub inbound-fits : r + set_size 7 (2 * (b - a) + 1) past.count ≤ length k
          inbound-fits = omega (arith, need-is, same_length h, h.next, h.short, same_length f, f.next, f.short, same_length v, v.next, v.short)

          pub group-shown : {m : List ℕ} {t : ℕ} → Wrote (set_lines (105 ∷ 110 ∷ 98 ∷ 111 ∷ 117 ∷ 110 ∷ 100 ∷ []) past) (set_size 7 (2 * (b - a) + 1) past.count) k r m t
              → Wrote (lines_over z g a b offsets targets starts kids) (need_over z a b offsets targets starts kids) l at m t
          unfolding lines_over sets_over file_text sets_text text
          group-shown w = renamed (then h (then f (then v w))) refl (omega (arith, need-is))
