-- The cover of a file from tables: its columns and ranges stored one after the other.
use mathlib.Core.Path.{◌≡◌, sym, ◌∙◌}
use mathlib.Core.List.{List, ◌++◌, map, append_assoc}
use Prim.Native.Nat.{ℕ, ◌+◌, ◌*◌}
use native.Mathlib.Omega.{arith}
use lib.ListN.{length, length-append}
use lib.Seq.{sets}
use Rattle.cover.specs.Cover.{differences, columns_of}
use Rattle.cover.proofs.Stored.{length-differences}
use Rattle.archive_bytes.specs.Bytes.{bytes_of, several}
use Rattle.archive_bytes.proofs.Numbers.{length-bytes_of}
use Rattle.archive_bytes.proofs.Several.{map-several}
use Rattle.archive.specs.Encode.{record_bytes, column_bytes, range_bytes, links_bytes, cover_bytes, counted_bytes}
use Rattle.archive.proofs.Back.{length-several}
use Rattle.archive.proofs.Lengths.{length-column, length-counted, length-links, wide-range}
use Rattle.archive_store.specs.Lent.{start_bytes, links_from}
use Rattle.archive_store.proofs.Chained.{then, record-stored, counted-stored}
use Rattle.cleaning.specs.Writing.{label_columns}
use Rattle.run_section.specs.Tables.{field, link_in}
use Rattle.run_records.specs.Stored.{row_label, range_in, cover_in}
use Rattle.run_records.proofs.Ranges.{range-bytes}

column-size : (w j n : ℕ) (t : List ℕ) → length (column_bytes 4 (several w (field j) n t)) ≡ 4 * n
column-size w j n t = rw (length-column 4 (several w (field j) n t), length-several w (field j) n t)

pub two-columns : {i k : List ℕ} (l : List ℕ) (at w j n : ℕ) (t : List ℕ) → i ≡ sets l at (column_bytes 4 (several w (field j) n t))
    → k ≡ sets i (at + 4 * n) (column_bytes 4 (several w (field (j + 1)) n t))
    → k ≡ sets l at (column_bytes 4 (several w (field j) n t) ++ column_bytes 4 (several w (field (j + 1)) n t))
two-columns l at w j n t d e =
    then l at (column_bytes 4 (several w (field j) n t)) (column_bytes 4 (several w (field (j + 1)) n t)) d e (omega (arith, column-size w j n t))

pub counted-ranges : {i k : List ℕ} (l : List ℕ) (at n : ℕ) (t : List ℕ) → i ≡ sets l at (bytes_of 4 n)
    → k ≡ sets i (at + 4) (column_bytes 4 (several 1 (field 0) (3 * n) t)) → k ≡ sets l at (counted_bytes range_bytes (several 3 range_in n t))
counted-ranges l at n t d e =
    counted-stored l at range_bytes (several 3 range_in n t) (sym (length-several 3 range_in n t)) d (rw (range-bytes n t) e)

-- ── links ────────────────────────────────────────────────────────────────────────────────────

-- the columns of n links
module _ (n : ℕ) (t : List ℕ) where
  pub links-are : columns_of (map (λ x. x.link) (several 5 link_in n t))
      ≡ links_from (differences 0 (several 5 (field 1) n t)) (several 5 (field 2) n t) (several 5 (field 3) n t) (several 5 (field 4) n t)
  unfolding columns_of
  links-are =
      let link = map-several 5 link_in (λ x. x.link) n t in
      rw (
        link,
        map-several 5 (λ r. (link_in r).link) (λ x. x.from_chain) n t,
        map-several 5 (λ r. (link_in r).link) (λ x. x.from_seq) n t,
        map-several 5 (λ r. (link_in r).link) (λ x. x.to_chain) n t,
        map-several 5 (λ r. (link_in r).link) (λ x. x.to_seq) n t,
      )

  first_count : length (differences 0 (several 5 (field 1) n t)) ≡ n
  first_count = length-differences 0 (several 5 (field 1) n t) ∙ length-several 5 (field 1) n t

  pub links-stored : {i j k m : List ℕ} (l : List ℕ) (at : ℕ) → i ≡ sets l at (bytes_of 4 n) → j ≡ sets i (at + 4) (column_bytes 4 (differences 0 (several 5 (field 1) n t)))
      → k ≡ sets j (at + 4 + 4 * n) (column_bytes 4 (several 5 (field 2) n t))
      → m ≡ sets k (at + 4 + 8 * n) (column_bytes 4 (several 5 (field 3) n t) ++ column_bytes 4 (several 5 (field 4) n t))
      → m ≡ sets l at (links_bytes (columns_of (map (λ x. x.link) (several 5 link_in n t))))
  unfolding links_bytes
  links-stored {i} {j} l at c d e f =
      let first = column_bytes 4 (differences 0 (several 5 (field 1) n t)) in
      let second = column_bytes 4 (several 5 (field 2) n t) in
      let rest = column_bytes 4 (several 5 (field 3) n t) ++ column_bytes 4 (several 5 (field 4) n t) in
      let x = then j (at + 4 + 4 * n) second rest e f (omega (arith, column-size 5 2 n t)) in
      let y = then i (at + 4) first (second ++ rest) d x (omega (arith, length-column 4 (differences 0 (several 5 (field 1) n t)), first_count)) in
      rw (links-are, first_count) (then l at (bytes_of 4 n) (first ++ (second ++ rest)) c y (omega (arith, length-bytes_of 4 n)))

  pub links-size : length (links_bytes (columns_of (map (λ x. x.link) (several 5 link_in n t)))) ≡ 4 + 16 * n
  links-size =
      rw links-are
      (omega (
        arith,
        length-links (links_from (differences 0 (several 5 (field 1) n t)) (several 5 (field 2) n t) (several 5 (field 3) n t) (several 5 (field 4) n t)),
        first_count,
        length-several 5 (field 2) n t,
        length-several 5 (field 3) n t,
        length-several 5 (field 4) n t,
      ))

-- ── the cover ────────────────────────────────────────────────────────────────────────────────

module _ (n : ℕ) (rows : List ℕ) (k : ℕ) (ranges : List ℕ) (m : ℕ) (links : List ℕ) where
  cover-are : cover_bytes (cover_in n rows k ranges m links)
      ≡ (column_bytes 4 (several 4 (field 2) n rows) ++ column_bytes 4 (several 4 (field 3) n rows))
      ++ (counted_bytes range_bytes (several 3 range_in k ranges) ++ links_bytes (columns_of (map (λ x. x.link) (several 5 link_in m links))))
  unfolding cover_bytes counted_bytes label_columns
  cover-are =
      rw (map-several 4 row_label (λ x. x.chain) n rows, map-several 4 row_label (λ x. x.seq) n rows)
      (simp append_assoc)

  ranges-size : length (counted_bytes range_bytes (several 3 range_in k ranges)) ≡ 4 + 12 * k
  ranges-size = omega (arith, length-counted range_bytes 12 wide-range (several 3 range_in k ranges), length-several 3 range_in k ranges)

  labels-size : length (column_bytes 4 (several 4 (field 2) n rows) ++ column_bytes 4 (several 4 (field 3) n rows)) ≡ 8 * n
  labels-size =
      omega (arith, length-append (column_bytes 4 (several 4 (field 2) n rows)) (column_bytes 4 (several 4 (field 3) n rows)), column-size 4 2 n rows, column-size 4 3 n rows)

  pub cover-stored : {i j o : List ℕ} (l : List ℕ) (at : ℕ) → i ≡ sets l at (column_bytes 4 (several 4 (field 2) n rows) ++ column_bytes 4 (several 4 (field 3) n rows))
      → j ≡ sets i (at + 8 * n) (counted_bytes range_bytes (several 3 range_in k ranges))
      → o ≡ sets j (at + 8 * n + 4 + 12 * k) (links_bytes (columns_of (map (λ x. x.link) (several 5 link_in m links))))
      → o ≡ sets l at (cover_bytes (cover_in n rows k ranges m links))
  cover-stored {i} l at c d e =
      let labels = column_bytes 4 (several 4 (field 2) n rows) ++ column_bytes 4 (several 4 (field 3) n rows) in
      let counted = counted_bytes range_bytes (several 3 range_in k ranges) in
      let linked = links_bytes (columns_of (map (λ x. x.link) (several 5 link_in m links))) in
      let rest = then i (at + 8 * n) counted linked d e (omega (arith, ranges-size)) in
      rw cover-are (then l at labels (counted ++ linked) c rest (omega (arith, labels-size)))

  pub cover-size : 8 + 8 * n + 12 * k + 16 * m ≡ length (cover_bytes (cover_in n rows k ranges m links))
  cover-size = rw cover-are (simp length-append (omega (arith, column-size 4 2 n rows, column-size 4 3 n rows, ranges-size, links-size m links)))

  pub cover-record : {j o : List ℕ} (l : List ℕ) (at : ℕ) → j ≡ sets l at (start_bytes 6 (8 + 8 * n + 12 * k + 16 * m)) → o ≡ sets j (at + 6) (cover_bytes (cover_in n rows k ranges m links))
      → o ≡ sets l at (record_bytes 6 (cover_bytes (cover_in n rows k ranges m links)))
  cover-record l at d e = record-stored l at 6 (8 + 8 * n + 12 * k + 16 * m) (cover_bytes (cover_in n rows k ranges m links)) d e cover-size
