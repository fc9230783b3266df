-- A set written whole: its starts, its deltas and its edge count, and the reverse set out of the turned table.
use mathlib.Core.Path.{◌≡◌, sym, ◌∙◌}
use mathlib.Core.List.{List, ◌++◌}
use Prim.Native.Nat.{ℕ, ◌+◌, ◌-◌, ◌*◌, ◌≤◌, ◌<◌}
use native.Mathlib.Omega.{arith}
use lib.IntN.{ℤ}
use lib.ListN.{length, get_or, take, drop, length-append}
use lib.Seq.{sets, take_all, length-take-le}
use Rattle.columns.specs.Limits.{kinds}
use Rattle.lists.specs.Lists.{part, joined, starts, sum}
use Rattle.lists.proofs.Flat.{length-joined, length-starts, get_or-starts}
use Rattle.columns.specs.EdgeSet.{cut, deltas_from, set_of}
use Rattle.columns.specs.Building.{reverse_lists}
use Rattle.columns_rules.proofs.SlotTables.{table_of}
use Rattle.columns_sets.proofs.transpose.ReadBack.{length-turned, turned-form, turned-back}
use Rattle.columns_sets.specs.sets.Reached.{set_at, Reached, Turnable}
use Rattle.columns_sets.proofs.sets.SetWrites.{climbs}
use Rattle.columns_sets.proofs.sets.StartWrites.{start_is, part-long}

-- ── a set from its lists ─────────────────────────────────────────────────────────────────────

module _ (first rows from n : ℕ) (offsets targets : List ℕ) (r : Reached first rows from n offsets targets) where
  pub low-in : 2 * from < length offsets
  low-in = omega (arith, (table_of rows (length targets) offsets r.form).long, r.inside)

  pub high-in : 2 * from + 2 * n < length offsets
  high-in = omega (arith, (table_of rows (length targets) offsets r.form).long, r.inside)

  module _ (low high : ℕ) (e : low ≡ get_or offsets (2 * from) 0) (f : high ≡ get_or offsets (2 * from + 2 * n) 0) where
    pub low-high : low ≤ high
    low-high = omega (arith, climbs (2 * rows) (length targets) offsets (table_of rows (length targets) offsets r.form) (2 * from) (2 * n) (omega (arith, r.inside)))

    pub set-counted : high - low ≡ (set_at first from n (cut offsets targets)).count
    unfolding set_of
    set-counted =
        let l = part (2 * from) (2 * n) (cut offsets targets) in
        rw (e, f)
        (sym (start_is rows from n offsets targets r.form r.inside (2 * n) (omega arith))
        ∙ get_or-starts 0 l (2 * n) 0 (omega (arith, part-long rows from n offsets targets r.form r.inside))
        ∙ whole l (part-long rows from n offsets targets r.form r.inside)
        ∙ sym (length-joined l))
      where
        whole : (l : List (List ℕ)) → length l ≡ 2 * n → 0 + sum length (take (2 * n) l) ≡ sum length l
        whole l h = rw (take_all (2 * n) l (omega arith)) (omega arith)

  pub starts-written : (was out : List ℕ) → out ≡ sets was 0 (starts 0 (part (2 * from) (2 * n) (cut offsets targets))) → out ≡ sets was 0 (set_at first from n (cut offsets targets)).offsets
  unfolding set_of
  starts-written was out e = e

  pub deltas-written : (was out : List ℤ) → out ≡ sets was 0 (joined (deltas_from kinds (first + from) 0 (part (2 * from) (2 * n) (cut offsets targets))))
      → out ≡ sets was 0 (set_at first from n (cut offsets targets)).deltas
  unfolding set_of
  deltas-written was out e = e

-- ── a set out of a table ─────────────────────────────────────────────────────────────────────

-- the reverse lists, at the front of the columns that `turn` is lent
module _ (first rows from n : ℕ) (offsets targets : List ℕ) (t : Turnable first rows from n offsets targets) (m : ℕ) (e : m ≡ length (joined (reverse_lists kinds first rows (cut offsets targets))))
    (offs was : List ℕ) (f : offs ≡ starts 0 (reverse_lists kinds first rows (cut offsets targets)) ++ drop (2 * rows + 1) was)
    (list old : List ℕ) (g : list ≡ joined (reverse_lists kinds first rows (cut offsets targets)) ++ drop m old) where
  back : cut (take (2 * rows + 1) offs) (take m list) ≡ reverse_lists kinds first rows (cut offsets targets)
  back = turned-back first rows (cut offsets targets) m e offs (drop (2 * rows + 1) was) f list (drop m old) g

  pub turned-many : m ≤ length list
  turned-many = rw (g, length-append (joined (reverse_lists kinds first rows (cut offsets targets))) (drop m old)) (omega arith)

  pub turned-room : (k : ℕ) → m ≤ length targets → 4096 ≤ k → m ≤ k
  turned-room k a h = omega (arith, t.short)

  pub turned-offsets : 2 * rows + 1 ≤ length offs
  turned-offsets =
      rw (
        f,
        length-append (starts 0 (reverse_lists kinds first rows (cut offsets targets))) (drop (2 * rows + 1) was),
        length-starts 0 (reverse_lists kinds first rows (cut offsets targets)),
        length-turned first rows (cut offsets targets),
      )
      (omega arith)

  pub turned-reached : Reached first rows from n (take (2 * rows + 1) offs) (take m list)
  turned-reached = record {
    few = t.few;
    last = t.last;
    inside = t.inside;
    form = rw (length-take-le m list turned-many) (turned-form first rows (cut offsets targets) m e offs (drop (2 * rows + 1) was) f);
    fits = rw back t.fits;
  }

  pub turned-counted : (k : ℕ) → k ≡ (set_at first from n (cut (take (2 * rows + 1) offs) (take m list))).count → k ≡ (set_at first from n (reverse_lists kinds first rows (cut offsets targets))).count
  turned-counted k d = rw back at d

  pub turned-starts : (a b : List ℕ) → a ≡ sets b 0 (set_at first from n (cut (take (2 * rows + 1) offs) (take m list))).offsets
      → a ≡ sets b 0 (set_at first from n (reverse_lists kinds first rows (cut offsets targets))).offsets
  turned-starts a b d = rw back at d

  pub turned-deltas : (a b : List ℤ) → a ≡ sets b 0 (set_at first from n (cut (take (2 * rows + 1) offs) (take m list))).deltas
      → a ≡ sets b 0 (set_at first from n (reverse_lists kinds first rows (cut offsets targets))).deltas
  turned-deltas a b d = rw back at d
