-- Record 2: each answer of the functions that read it.
use Rattle.std.specs.Prelude.{None, Some, Option}
use mathlib.Core.Path.{◌≡◌, refl}
use mathlib.Core.Bool.{Bool, true, false}
use mathlib.Core.List.{List}
use Prim.Native.Nat.{ℕ, ◌≤◌, ◌<◌, ◌+◌, ◌-◌, ◌*◌}
use native.Mathlib.Omega.{arith}
use lib.Dec.{leb}
use lib.ListN.{length}
use borrow.Author.Tests.{le-leb, lt-leb, eq-eqb, ne_eqb}
use Rattle.columns.specs.Limits.{kinds}
use Rattle.archive.specs.Bytes.{be}
use Rattle.archive.specs.Reader.{broken, got, ◌>>=◌, table, whole}
use Rattle.archive.specs.Parse
use Rattle.archive.specs.Parse.{edge_set}
use Rattle.archive_read.specs.declared.bodies.SetAt.{SetAt}
use Rattle.archive_read.specs.bodies.View.{set_end, set_in, set_of, SetInside, sets_in}

-- ── one set ──────────────────────────────────────────────────────────────────────────────────

module _ (b : List ℕ) (rows p : ℕ) where
  cut-set : length b < set_end rows p (be 4 b p) → broken ≡ edge_set kinds rows b p
  unfolding edge_set ◌>>=◌ table
  cut-set h = go (leb (p + 4 + (2 * rows + 1) * 8) (length b)) refl
    where
      go : (t : Bool) → leb (p + 4 + (2 * rows + 1) * 8) (length b) ≡ t → broken ≡ edge_set kinds rows b p
      go false e = rw e
      go true e = rw (e, lt-leb (set_end rows p (be 4 b p)) (length b) h)

  pub no-count : p ≤ length b → length b - p < 4 → broken ≡ edge_set kinds rows b p
  no-count h k = cut-set (omega arith)

  module _ {m n : ℕ} (d : m ≡ be 4 b p) (e : n ≡ m) where
    pub past : length b < p + 4 + (2 * rows + 1) * 8 + n * 8 → broken ≡ edge_set kinds rows b p
    past h = cut-set (rw (← d, ← e) h)

    pub is_set : p + 4 + (2 * rows + 1) * 8 + n * 8 ≤ length b → got (set_in b rows p n) (p + 4 + (2 * rows + 1) * 8 + n * 8) ≡ edge_set kinds rows b p
    unfolding edge_set ◌>>=◌ table set_in
    is_set h = rw (← d, ← e, le-leb (p + 4 + (2 * rows + 1) * 8) (length b) (omega arith), le-leb (p + 4 + (2 * rows + 1) * 8 + n * 8) (length b) h)

module _ (b : List ℕ) (rows p : ℕ) (x : Option SetAt) {s : SetAt} (i : SetInside b rows p x) (d : x ≡ Some s) where
  pub ends-inside : s.end ≤ length b
  ends-inside = (rw d at i).1

  pub set-inside : set_end rows p s.count ≤ length b
  set-inside = let u = (rw d at i).0 in let v = (rw d at i).1 in omega arith

-- ── the three sets ───────────────────────────────────────────────────────────────────────────

module _ (b : List ℕ) (rows : ℕ) (x : Option SetAt) (d : set_of b rows 0 x ≡ edge_set kinds rows b 0) where
  pub none1 : x ≡ None → broken ≡ whole (Parse.sets kinds rows) b
  unfolding whole Parse.sets ◌>>=◌
  none1 e = rw (← d, e)

  module _ {s : SetAt} (y : Option SetAt) (e : x ≡ Some s) (f : set_of b rows s.end y ≡ edge_set kinds rows b s.end) where
    pub none2 : y ≡ None → broken ≡ whole (Parse.sets kinds rows) b
    unfolding whole Parse.sets ◌>>=◌
    none2 g = rw (← d, e, ← f, g)

    module _ {t : SetAt} (z : Option SetAt) (g : y ≡ Some t) (h : set_of b rows t.end z ≡ edge_set kinds rows b t.end) where
      pub none3 : z ≡ None → broken ≡ whole (Parse.sets kinds rows) b
      unfolding whole Parse.sets ◌>>=◌
      none3 k = rw (← d, e, ← f, g, ← h, k)

      module _ {r : SetAt} (k : z ≡ Some r) where
        pub inexact : (length b ≡ r.end → ⊥) → broken ≡ whole (Parse.sets kinds rows) b
        unfolding whole Parse.sets ◌>>=◌
        inexact u = rw (← d, e, ← f, g, ← h, k, ne_eqb (length b) r.end u)

        pub all3 : length b ≡ r.end
            → got (sets_in b rows (record { forwards = s.count; reverse = s.end; reverses = t.count; inbound = t.end; inbounds = r.count })) (length b) ≡ whole (Parse.sets kinds rows) b
        unfolding whole Parse.sets ◌>>=◌ sets_in
        all3 u = rw (← d, e, ← f, g, ← h, k, eq-eqb (length b) r.end u, u)
