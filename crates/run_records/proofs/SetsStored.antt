-- The sets of a section stored one after the other, and the record that they make.
use mathlib.Core.Path.{◌≡◌, sym, ap, ◌∙◌}
use mathlib.Core.Bool.{true}
use mathlib.Core.List.{List, ◌++◌}
use Prim.Native.Nat.{ℕ, ◌+◌, ◌*◌, ◌≤◌, ◌<◌}
use native.Mathlib.Omega.{arith}
use lib.ListN.{length}
use lib.Seq.{sets, length-sets}
use Rattle.columns.specs.Limits.{kinds}
use Rattle.lists.specs.Lists.{joined}
use Rattle.lists.proofs.Flat.{length-starts}
use Rattle.columns.specs.EdgeSet.{EdgeSet, offsets_form, set_of}
use Rattle.columns.specs.Building.{rows_within}
use Rattle.columns.proofs.Offsets.{form-length}
use Rattle.columns.proofs.ReadBack.{set-count}
use Rattle.columns.proofs.Within.{section-long}
use Rattle.archive.specs.Encode.{record_bytes, set_bytes, sets_bytes}
use Rattle.archive.proofs.Lengths as lengths
use Rattle.archive_store.specs.Lent.{start_bytes, set_size}
use Rattle.archive_store.specs.sizes.FileSize.{offsets_of, edges_size}
use Rattle.archive_store.proofs.Chained.{then, record-stored}
use Rattle.run_section.specs.declared.Counts.{Counts}
use Rattle.run_section.specs.declared.Section.{Section}
use Rattle.run_section.specs.declared.sizes.Edges.{Edges}
use Rattle.run_section.specs.Files.{many, sets_at, sets_over}
use Rattle.run_section.specs.Rules.{Lists}
use Rattle.run_section.specs.Sizes.{EdgesOf}
use Rattle.run_records.specs.Front.{set_in, built_bytes, edges_body}

-- ── one set ──────────────────────────────────────────────────────────────────────────────────

module _ (z : Counts) (s : Section) (offsets targets : List ℕ) (rises : s.rows.from ≤ s.rows.to) (there : s.rows.to ≤ z.rows)
    (form : offsets_form kinds z.rows (length targets) offsets ≡ true) where
  pub lists-there : 2 * (s.rows.from + many s.rows) < length offsets
  lists-there = omega (arith, form-length kinds z.rows (length targets) offsets form)

  module _ (low high : ℕ) where
    set-size : length (set_bytes (set_in z s low high offsets targets))
        ≡ set_size (offsets_of (many s.rows)) (set_in z s low high offsets targets).count
    unfolding set_of
    set-size =
        let first = z.start + s.rows.from in
        let ls = rows_within kinds low high s.rows.from (many s.rows) offsets targets in
        omega (arith, lengths.length-set (set_of kinds first ls), length-starts 0 ls, section-long kinds low high s.rows.from (many s.rows) offsets targets lists-there, set-count kinds first ls)

    module _ (at : ℕ) where
      pub set_room : {room : ℕ} → at + length (set_bytes (set_in z s low high offsets targets)) ≤ room
          → at + set_size (2 * many s.rows + 1) (length (joined (rows_within kinds low high s.rows.from (many s.rows) offsets targets))) ≤ room
      unfolding set_of
      set_room h = omega (arith, set-size)

      pub set_after : {r : ℕ} → r ≡ at + set_size (2 * many s.rows + 1) (length (joined (rows_within kinds low high s.rows.from (many s.rows) offsets targets)))
          → r ≡ at + length (set_bytes (set_in z s low high offsets targets))
      unfolding set_of
      set_after e = omega (arith, set-size)

-- ── three sets ───────────────────────────────────────────────────────────────────────────────

module _ (l : List ℕ) (at : ℕ) (a b c : EdgeSet) where
  -- each has room where all three have
  module _ (fits : at + length (sets_bytes a b c) ≤ length l) where
    pub first-room : at + length (set_bytes a) ≤ length l
    first-room = omega (arith, lengths.length-sets a b c)

    module _ {p : ℕ} {i : List ℕ} (e : p ≡ at + length (set_bytes a)) (d : i ≡ sets l at (set_bytes a)) where
      pub second-room : p + length (set_bytes b) ≤ length i
      second-room = omega (arith, lengths.length-sets a b c, ap length d ∙ length-sets l at (set_bytes a))

      pub third-room : {q : ℕ} {j : List ℕ} → q ≡ p + length (set_bytes b) → j ≡ sets i p (set_bytes b) → q + length (set_bytes c) ≤ length j
      third-room f g = omega (arith, lengths.length-sets a b c, ap length d ∙ length-sets l at (set_bytes a), ap length g ∙ length-sets i p (set_bytes b))

  module _ {p q : ℕ} (f : p ≡ at + length (set_bytes a)) (g : q ≡ p + length (set_bytes b)) where
    pub sets-stored : {i j k : List ℕ} → i ≡ sets l at (set_bytes a) → j ≡ sets i p (set_bytes b) → k ≡ sets j q (set_bytes c) → k ≡ sets l at (sets_bytes a b c)
    sets-stored {i} d e h = then l at (set_bytes a) (set_bytes b ++ set_bytes c) d (then i p (set_bytes b) (set_bytes c) e h g) f

    pub sets-after : {r : ℕ} → r ≡ q + length (set_bytes c) → r ≡ at + length (sets_bytes a b c)
    sets-after h = omega (arith, lengths.length-sets a b c)

-- ── the record of a section's sets ───────────────────────────────────────────────────────────

pub edges-started : (l : List ℕ) (at n size : ℕ) (e : Edges) {j : List ℕ} → size ≡ edges_body n e → j ≡ sets l at (start_bytes 2 size) → j ≡ sets l at (start_bytes 2 (edges_body n e))
edges-started l at n size e f d = rw f at d

module _ (z : Counts) (s : Section) (e : Edges) (offsets targets starts kids : List ℕ) (rises : s.rows.from ≤ s.rows.to) (there : s.rows.to ≤ z.rows)
    (lists : Lists z.rows offsets targets starts kids) (counted : EdgesOf (sets_at z s offsets targets starts kids) e) where
  built-size : length (built_bytes (sets_at z s offsets targets starts kids)) ≡ edges_body (many s.rows) e
  unfolding sets_over
  built-size =
      let end = z.start + s.rows.to in
      let top = z.start + z.rows in
      let x = set-size z s offsets targets rises there lists.parents 0 top in
      let y = set-size z s starts kids rises there lists.children 0 end in
      let w = set-size z s starts kids rises there lists.children end top in
      let b = sets_at z s offsets targets starts kids in
      lengths.length-sets b.forward b.reverse b.inbound ∙ rw (x, y, w, counted.forward_is, counted.reverse_is, counted.inbound_is)

  module _ (at : ℕ) where
    module _ (l : List ℕ) {j : List ℕ} (d : j ≡ sets l at (start_bytes 2 (edges_body (many s.rows) e))) where
      pub built-room : at + edges_size (many s.rows) e.forward e.reverse e.inbound ≤ length l
          → at + 6 + length (built_bytes (sets_at z s offsets targets starts kids)) ≤ length j
      built-room h = omega (arith, built-size, ap length d ∙ length-sets l at (start_bytes 2 (edges_body (many s.rows) e)))

      pub edges-record : {k : List ℕ} → k ≡ sets j (at + 6) (built_bytes (sets_at z s offsets targets starts kids))
          → k ≡ sets l at (record_bytes 2 (built_bytes (sets_at z s offsets targets starts kids)))
      edges-record h = record-stored l at 2 (edges_body (many s.rows) e) (built_bytes (sets_at z s offsets targets starts kids)) d h (sym built-size)

    pub edges-after : {r : ℕ} → r ≡ at + 6 + length (built_bytes (sets_at z s offsets targets starts kids))
        → r ≡ at + edges_size (many s.rows) e.forward e.reverse e.inbound
    edges-after h = omega (arith, built-size)
