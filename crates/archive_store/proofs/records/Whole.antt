-- Each record whole: its start and its body, and how long its body is.
use Rattle.std.proofs.Common.{◌≡◌, ℕ, ◌+◌, ◌*◌, List, length, ℤ, sym, ◌∙◌, arith}
use lib.Seq.{sets}
use Rattle.lists.specs.Lists.{flat}
use Rattle.lists.proofs.Cut.{length-blocks}
use Rattle.archive_bytes.specs.Bytes.{bytes_of}
use Rattle.archive.specs.Encode.{record_bytes, sets_bytes, row_bytes, unresolved_bytes, root_bytes, cover_bytes, counted_bytes}
use Rattle.archive.proofs.Lengths.{length-head, length-set, length-sets, length-counted, length-links, length-cover, wide_row, wide-unresolved, wide-root}
use Rattle.archive_store.specs.Lent.{zip2, zip3, start_bytes, depth_from, head_from, set_from, row_from, unresolved_from, root_from, range_from, links_from, cover_from}
use Rattle.archive_store.specs.declared.heads.HeadOut.{HeadOut}
use Rattle.archive_store.proofs.Chained.{record-stored}
use Rattle.archive_store.proofs.Zipped.{length-zip2, length-zip3, unresolved-counted, roots-counted}
use Rattle.archive_store.specs.records.Sizes.{sets_size, cover_body}

-- ── how long a body is ───────────────────────────────────────────────────────────────────────

pub head-size : (h : HeadOut) (s : List ℕ) → length (head_from h s) ≡ 31 + length s
unfolding head_from
head-size h s = length-head h.first h.rows h.group s (depth_from h.known h.least h.greatest)

pub sets-size : (fo ro io : List ℕ) (fd rd id : List ℤ)
    → length (sets_bytes (set_from fo fd) (set_from ro rd) (set_from io id)) ≡ sets_size (length fo) (length fd) (length ro) (length rd) (length io) (length id)
sets-size fo ro io fd rd id =
    omega (arith, length-sets (set_from fo fd) (set_from ro rd) (set_from io id), length-set (set_from fo fd), length-set (set_from ro rd), length-set (set_from io id))

pub rows-size : (xs ys : List ℕ) → length xs ≡ length ys → length (flat row_bytes (zip2 row_from xs ys)) ≡ length ys * 9
rows-size xs ys h = omega (arith, length-blocks row_bytes 9 wide_row (zip2 row_from xs ys), length-zip2 row_from xs ys (sym h))

pub unresolved-size : (xs ys zs : List ℕ) → length ys ≡ length xs → length zs ≡ length xs
    → length (counted_bytes unresolved_bytes (zip3 unresolved_from xs ys zs)) ≡ 4 + length xs * 13
unresolved-size xs ys zs h k =
    omega (arith, length-counted unresolved_bytes 13 wide-unresolved (zip3 unresolved_from xs ys zs), length-zip3 unresolved_from xs ys zs h k)

pub roots-size : (xs ys : List ℕ) → length ys ≡ length xs → length (counted_bytes root_bytes (zip2 root_from xs ys)) ≡ 4 + length xs * 16
roots-size xs ys h = omega (arith, length-counted root_bytes 16 wide-root (zip2 root_from xs ys), length-zip2 root_from xs ys h)

pub cover-size : (chains seqs ids minima maxima a b c d : List ℕ) → length minima ≡ length ids → length maxima ≡ length ids
    → length (cover_bytes (cover_from chains seqs (zip3 range_from ids minima maxima) (links_from a b c d)))
    ≡ cover_body (length chains) (length seqs) (length ids) (length a) (length b) (length c) (length d)
cover-size chains seqs ids minima maxima a b c d h k =
    omega (
      arith,
      length-cover (cover_from chains seqs (zip3 range_from ids minima maxima) (links_from a b c d)),
      length-links (links_from a b c d),
      length-zip3 range_from ids minima maxima h k,
    )

-- ── start and body ───────────────────────────────────────────────────────────────────────────

module _ (l : List ℕ) (at : ℕ) {j k : List ℕ} where
  pub head-record : (h : HeadOut) (s : List ℕ) → j ≡ sets l at (start_bytes 1 (31 + length s)) → k ≡ sets j (at + 6) (head_from h s) → k ≡ sets l at (record_bytes 1 (head_from h s))
  head-record h s d e = record-stored l at 1 (31 + length s) (head_from h s) d e (sym (head-size h s))

  pub edges-record : {n : ℕ} (fo ro io : List ℕ) (fd rd id : List ℤ) → n ≡ sets_size (length fo) (length fd) (length ro) (length rd) (length io) (length id)
      → j ≡ sets l at (start_bytes 2 n) → k ≡ sets j (at + 6) (sets_bytes (set_from fo fd) (set_from ro rd) (set_from io id))
      → k ≡ sets l at (record_bytes 2 (sets_bytes (set_from fo fd) (set_from ro rd) (set_from io id)))
  edges-record {n} fo ro io fd rd id h d e = record-stored l at 2 n (sets_bytes (set_from fo fd) (set_from ro rd) (set_from io id)) d e (h ∙ sym (sets-size fo ro io fd rd id))

  pub rows-record : (xs ys : List ℕ) → length xs ≡ length ys → j ≡ sets l at (start_bytes 3 (length ys * 9)) → k ≡ sets j (at + 6) (flat row_bytes (zip2 row_from xs ys))
      → k ≡ sets l at (record_bytes 3 (flat row_bytes (zip2 row_from xs ys)))
  rows-record xs ys h d e = record-stored l at 3 (length ys * 9) (flat row_bytes (zip2 row_from xs ys)) d e (sym (rows-size xs ys h))

  pub cover-record : {n : ℕ} (chains seqs ids minima maxima a b c d : List ℕ) → length minima ≡ length ids → length maxima ≡ length ids
      → n ≡ cover_body (length chains) (length seqs) (length ids) (length a) (length b) (length c) (length d) → j ≡ sets l at (start_bytes 6 n)
      → k ≡ sets j (at + 6) (cover_bytes (cover_from chains seqs (zip3 range_from ids minima maxima) (links_from a b c d)))
      → k ≡ sets l at (record_bytes 6 (cover_bytes (cover_from chains seqs (zip3 range_from ids minima maxima) (links_from a b c d))))
  cover-record {n} chains seqs ids minima maxima a b c d h m g e f =
      record-stored l at 6 n (cover_bytes (cover_from chains seqs (zip3 range_from ids minima maxima) (links_from a b c d))) e f (g ∙ sym (cover-size chains seqs ids minima maxima a b c d h m))

-- a count stands before the table
after-count : (at : ℕ) → at + 10 ≡ at + 6 + 4
after-count at = omega arith

module _ (l : List ℕ) (at : ℕ) {i j k : List ℕ} where
  pub unresolved-record : (xs ys zs : List ℕ) → length ys ≡ length xs → length zs ≡ length xs → i ≡ sets l at (start_bytes 4 (4 + length xs * 13)) → j ≡ sets i (at + 6) (bytes_of 4 (length xs))
      → k ≡ sets j (at + 10) (flat unresolved_bytes (zip3 unresolved_from xs ys zs)) → k ≡ sets l at (record_bytes 4 (counted_bytes unresolved_bytes (zip3 unresolved_from xs ys zs)))
  unresolved-record xs ys zs h m c d e =
      record-stored l at 4 (4 + length xs * 13) (counted_bytes unresolved_bytes (zip3 unresolved_from xs ys zs)) c
      (unresolved-counted i (at + 6) xs ys zs h m d (rw (after-count at) at e)) (sym (unresolved-size xs ys zs h m))

  pub roots-record : (xs ys : List ℕ) → length ys ≡ length xs → i ≡ sets l at (start_bytes 5 (4 + length xs * 16)) → j ≡ sets i (at + 6) (bytes_of 4 (length xs))
      → k ≡ sets j (at + 10) (flat root_bytes (zip2 root_from xs ys)) → k ≡ sets l at (record_bytes 5 (counted_bytes root_bytes (zip2 root_from xs ys)))
  roots-record xs ys h c d e =
      record-stored l at 5 (4 + length xs * 16) (counted_bytes root_bytes (zip2 root_from xs ys)) c
      (roots-counted i (at + 6) xs ys h d (rw (after-count at) at e)) (sym (roots-size xs ys h))
