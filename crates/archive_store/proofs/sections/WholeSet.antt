-- A section's set whole: its starts are stored first, since where the last list ends is the count that stands before them.
use Rattle.std.proofs.Common.{◌≡◌, ℕ, ◌+◌, ◌*◌, ◌^◌, ◌<◌, ◌≤◌, true, List, ◌++◌, map, length, refl, ap, ◌∙◌, arith}
use lib.ListN.{length-map}
use lib.Seq.{sets, length-sets}
use Rattle.columns.specs.Limits.{kinds}
use Rattle.lists.specs.Lists.{joined, starts}
use Rattle.lists.proofs.Slices.{sets-before}
use Rattle.columns.specs.EdgeSet.{from_to, deltas_from, set_of}
use Rattle.columns.specs.Building.{rows_within}
use Rattle.columns.proofs.ReadBack.{set-count}
use Rattle.columns.proofs.Within.{section-few}
use Rattle.archive_bytes.specs.Bytes.{bytes_of, unsigned_of}
use Rattle.archive_bytes.proofs.Numbers.{length-bytes_of}
use Rattle.archive.specs.Encode.{column_bytes, set_bytes}
use Rattle.archive.proofs.Lengths.{length-column}
use Rattle.archive_store.specs.Lent.{set_size}
use Rattle.archive_store.specs.sections.DeltaBytes.{delta_bytes}
use Rattle.archive_store.proofs.Chained.{then}
use Rattle.archive_store.proofs.sections.Starts.{starts-size}

module _ (low high from n : ℕ) (offsets targets : List ℕ) where
  pub count-short : {m : ℕ} → m ≡ length (joined (rows_within kinds low high from n offsets targets)) → from_to 0 (length targets) offsets ≡ true → length targets < 2 ^ 32 → m < 2 ^ 32
  count-short e c h = omega (arith, e, section-few kinds low high from n offsets targets c)

  module _ (first : ℕ) where
    deltas-size : length (delta_bytes (joined (deltas_from kinds first 0 (rows_within kinds low high from n offsets targets))))
        ≡ 8 * length (joined (rows_within kinds low high from n offsets targets))
    unfolding delta_bytes set_of
    deltas-size =
        let ls = rows_within kinds low high from n offsets targets in
        let ds = joined (deltas_from kinds first 0 ls) in
        omega (arith, length-column 8 (map unsigned_of ds), length-map ds unsigned_of, set-count kinds first ls)

    module _ (at : ℕ) (l : List ℕ) {i j : List ℕ} (m : ℕ) (d : i ≡ sets l (at + 4) (column_bytes 8 (starts 0 (rows_within kinds low high from n offsets targets))))
        (e : j ≡ sets i at (bytes_of 4 m)) where
      pub deltas-room : at + set_size (2 * n + 1) (length (joined (rows_within kinds low high from n offsets targets))) ≤ length l
          → at + 4 + 8 * (2 * n + 1) + length (delta_bytes (joined (deltas_from kinds first 0 (rows_within kinds low high from n offsets targets)))) ≤ length j
      deltas-room h =
          omega (
            arith,
            deltas-size,
            ap length e ∙ length-sets i at (bytes_of 4 m),
            ap length d
                ∙ length-sets l (at + 4) (column_bytes 8 (starts 0 (rows_within kinds low high from n offsets targets))),
          )

      pub set-whole : {k : List ℕ} → 2 * (from + n) < length offsets → m ≡ length (joined (rows_within kinds low high from n offsets targets))
          → k ≡ sets j (at + 4 + 8 * (2 * n + 1)) (delta_bytes (joined (deltas_from kinds first 0 (rows_within kinds low high from n offsets targets))))
          → k ≡ sets l at (set_bytes (set_of kinds first (rows_within kinds low high from n offsets targets)))
      unfolding set_bytes set_of delta_bytes
      set-whole c f g =
          let ls = rows_within kinds low high from n offsets targets in
          let os = column_bytes 8 (starts 0 ls) in
          let ds = delta_bytes (joined (deltas_from kinds first 0 ls)) in
          let n4 = length-bytes_of 4 (length (joined ls)) in
          let x : j ≡ sets (sets l at (bytes_of 4 (length (joined ls)))) (at + 4) os = (rw (f, d) at e) ∙ sets-before l at (at + 4) (bytes_of 4 (length (joined ls))) os (omega arith) in
          let y = then (sets l at (bytes_of 4 (length (joined ls)))) (at + 4) os ds x g (omega (arith, starts-size low high from n offsets targets c)) in
          then l at (bytes_of 4 (length (joined ls))) (os ++ ds) refl y (omega arith)

    pub set_next : (at r : ℕ) → r ≡ at + 4 + 8 * (2 * n + 1) + length (delta_bytes (joined (deltas_from kinds first 0 (rows_within kinds low high from n offsets targets))))
        → r ≡ at + set_size (2 * n + 1) (length (joined (rows_within kinds low high from n offsets targets)))
    set_next at r e = omega (arith, e, deltas-size)
