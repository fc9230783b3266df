-- References out of columns that offsets cut into rows: one turn over a row's references, one over the rows, and how long the record is.
use Rattle.std.proofs.Common.{◌≡◌, ℕ, ◌+◌, ◌-◌, ◌*◌, ◌<◌, ◌≤◌, List, [], ◌∷◌, ◌++◌, length, get_or, drop, sym, refl, ap, ◌∙◌, add-one, arith, length-append, drop_of_length-le, drop-cons}
use lib.Seq.{slice, sets, slice-cons, length-slice, length-sets}
use Rattle.lists.specs.Lists.{flat, joined}
use Rattle.lists.proofs.Slices.{slice-none, sets-append}
use Rattle.lists.proofs.Storing.{Storing, stored-all, storing-room, storing-on}
use Rattle.columns.proofs.Offsets.{cut-length, slot-cut, joined-cut, some-offset, ordered, inside}
use Rattle.archive_bytes.specs.Bytes.{bytes_of}
use Rattle.archive.specs.File.{Reference}
use Rattle.archive.specs.Encode.{record_bytes, counted_bytes, reference_bytes, references_bytes}
use Rattle.archive.proofs.Lengths.{length-record, length-counted}
use Rattle.archive.proofs.References.{wide-reference}
use Rattle.archive_store.specs.Lent.{zip3, start_bytes, reference_from, cited_from, Cited}
use Rattle.archive_store.specs.records.Sizes.{references_body, references_size}
use Rattle.archive_store.proofs.Chained.{counted-stored, record-stored}
use Rattle.archive_store.proofs.Zipped.{length-zip3, get_or-zip3}

-- ── a row's references ───────────────────────────────────────────────────────────────────────

pub between_done : {t : List ℕ} (ks ss ts : List ℕ) (i to p : ℕ) (out : List ℕ) → t ≡ sets out p (flat reference_bytes (slice i to (zip3 reference_from ks ss ts))) → to ≤ i → out ≡ t
between_done ks ss ts i to p out e h = rw (e, slice-none i to (zip3 reference_from ks ss ts) h)

module _ (ks ss ts : List ℕ) (a : length ss ≡ length ks) (b : length ts ≡ length ks) where
  module _ {t : List ℕ} (i to p : ℕ) (out : List ℕ) (e : t ≡ sets out p (flat reference_bytes (slice i to (zip3 reference_from ks ss ts)))) where
    pub between-on : {k : List ℕ} → i < to → to ≤ length ks → k ≡ sets out p (reference_bytes (reference_from (get_or ks i 0) (get_or ss i 0) (get_or ts i 0)))
        → t ≡ sets k (p + 10) (flat reference_bytes (slice (i + 1) to (zip3 reference_from ks ss ts)))
    between-on h j d =
        let x = reference_from (get_or ks i 0) (get_or ss i 0) (get_or ts i 0) in
        let m : i < length ks = omega arith in
        let n : to ≤ length (zip3 reference_from ks ss ts) = omega (arith, length-zip3 reference_from ks ss ts a b) in
        rw (
          e,
          slice-cons i to (zip3 reference_from ks ss ts) x h n,
          get_or-zip3 reference_from ks ss ts a b i x m,
          sets-append out p (reference_bytes x),
          wide-reference x,
          d,
          add-one i,
        )

  module _ (from to : ℕ) (h : to ≤ length ks) where
    slice-many : length (slice from to (zip3 reference_from ks ss ts)) ≡ to - from
    slice-many = length-slice from to (zip3 reference_from ks ss ts) (omega (arith, length-zip3 reference_from ks ss ts a b))

    row-size : length (counted_bytes reference_bytes (slice from to (zip3 reference_from ks ss ts))) ≡ 4 + (to - from) * 10
    row-size = omega (arith, length-counted reference_bytes 10 wide-reference (slice from to (zip3 reference_from ks ss ts)), slice-many)

    pub row-stored : {i j : List ℕ} (l : List ℕ) (at : ℕ) → i ≡ sets l at (bytes_of 4 (to - from)) → j ≡ sets i (at + 4) (flat reference_bytes (slice from to (zip3 reference_from ks ss ts)))
        → j ≡ sets l at (counted_bytes reference_bytes (slice from to (zip3 reference_from ks ss ts)))
    row-stored l at d e = counted-stored l at reference_bytes (slice from to (zip3 reference_from ks ss ts)) (sym slice-many) d e

-- ── row by row ───────────────────────────────────────────────────────────────────────────────

module _ (os ks ss ts : List ℕ) where
  pub rows-many : length (cited_from os ks ss ts) ≡ length os - 1
  unfolding cited_from
  rows-many = cut-length os (zip3 reference_from ks ss ts)

  module _ (f : Cited os ks ss ts) where
    pub some-start : 0 < length os
    some-start = some-offset (length ks) os f.climbs

    module _ (i : ℕ) (h : i + 1 < length os) (from to : ℕ) (a : from ≡ get_or os i 0) (b : to ≡ get_or os (i + 1) 0) where
      pub row-ordered : from ≤ to
      row-ordered = ordered (length ks) os f.climbs i h from to a b

      pub row_inside : to ≤ length ks
      row_inside = inside (length ks) os f.climbs i h from to a b

      row-long : length (counted_bytes reference_bytes (slice from to (zip3 reference_from ks ss ts))) ≡ 4 + (to - from) * 10
      row-long = row-size ks ss ts f.space_count f.target_count from to row_inside

      row-left : references_bytes (drop i (cited_from os ks ss ts))
          ≡ counted_bytes reference_bytes (slice from to (zip3 reference_from ks ss ts)) ++ references_bytes (drop (i + 1) (cited_from os ks ss ts))
      unfolding references_bytes cited_from
      row-left =
          let m : i < length (cited_from os ks ss ts) = omega (arith, rows-many) in
          rw (drop-cons (cited_from os ks ss ts) i [] m, slot-cut os (zip3 reference_from ks ss ts) i from to h a b, add-one i)

      module _ {was : List ℕ} {at : ℕ} {out : List ℕ} {p : ℕ}
          (s : Storing was at (references_bytes (cited_from os ks ss ts)) out p (references_bytes (drop i (cited_from os ks ss ts)))) where
        pub row_room : at + length (references_bytes (cited_from os ks ss ts)) ≤ length was
            → p + (4 + (to - from) * 10) ≤ length out
        row_room g =
            omega (
              arith,
              row-long,
              storing-room s (counted_bytes reference_bytes (slice from to (zip3 reference_from ks ss ts))) (references_bytes (drop (i + 1) (cited_from os ks ss ts))) row-left g,
            )

        pub row_on : (now : List ℕ) (q : ℕ) → now ≡ sets out p (counted_bytes reference_bytes (slice from to (zip3 reference_from ks ss ts)))
            → q ≡ p + (4 + (to - from) * 10)
            → Storing was at (references_bytes (cited_from os ks ss ts)) now q (references_bytes (drop (i + 1) (cited_from os ks ss ts)))
        row_on now q d e =
            storing-on s (counted_bytes reference_bytes (slice from to (zip3 reference_from ks ss ts))) (references_bytes (drop (i + 1) (cited_from os ks ss ts))) row-left now q d
            (omega (arith, e, row-long))

  pub rows-done : (i : ℕ) → length os ≤ i + 1 → {was : List ℕ} {at : ℕ} {out : List ℕ} {p : ℕ}
      → Storing was at (references_bytes (cited_from os ks ss ts)) out p (references_bytes (drop i (cited_from os ks ss ts)))
      → out ≡ sets was at (references_bytes (cited_from os ks ss ts))
  unfolding references_bytes
  rows-done i h s = stored-all s (rw (drop_of_length-le (cited_from os ks ss ts) {i = i} (omega (arith, rows-many))))

-- ── how long the record is ───────────────────────────────────────────────────────────────────

pub length-references : (rss : List (List Reference)) → length (references_bytes rss) ≡ references_body (length rss) (length (joined rss))
unfolding references_bytes joined
length-references [] = refl
length-references (rs ∷ rss) =
    omega (
      arith,
      length-append (counted_bytes reference_bytes rs) (flat (counted_bytes reference_bytes) rss),
      length-counted reference_bytes 10 wide-reference rs,
      length-append rs (joined rss),
      length-references rss,
    )

pub length-references_record : (rss : List (List Reference)) → length (record_bytes 7 (references_bytes rss)) ≡ references_size (length rss) (length (joined rss))
length-references_record rss = omega (arith, length-record 7 (references_bytes rss), length-references rss)

module _ (os ks ss ts : List ℕ) (f : Cited os ks ss ts) where
  pub cited-many : length (joined (cited_from os ks ss ts)) ≡ length ks
  unfolding cited_from
  cited-many =
      let n = length-zip3 reference_from ks ss ts f.space_count f.target_count in
      ap length (joined-cut (zip3 reference_from ks ss ts) os (rw n f.climbs)) ∙ n

  pub references-size : length (references_bytes (cited_from os ks ss ts)) ≡ references_body (length os - 1) (length ks)
  references-size = omega (arith, length-references (cited_from os ks ss ts), rows-many os ks ss ts, cited-many)

  module _ (l : List ℕ) (at : ℕ) {j : List ℕ} (d : j ≡ sets l at (start_bytes 7 (references_body (length os - 1) (length ks)))) where
    pub references-room : at + references_size (length os - 1) (length ks) ≤ length l → at + 6 + length (references_bytes (cited_from os ks ss ts)) ≤ length j
    references-room h = omega (arith, references-size, ap length d ∙ length-sets l at (start_bytes 7 (references_body (length os - 1) (length ks))))

    pub references-record : {k : List ℕ} → k ≡ sets j (at + 6) (references_bytes (cited_from os ks ss ts)) → k ≡ sets l at (record_bytes 7 (references_bytes (cited_from os ks ss ts)))
    references-record e = record-stored l at 7 (references_body (length os - 1) (length ks)) (references_bytes (cited_from os ks ss ts)) d e (sym references-size)
