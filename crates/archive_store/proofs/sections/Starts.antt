-- Where the lists of a section start: one turn of the loop that stores it, and its end.
use Rattle.std.proofs.Common.{◌≡◌, ℕ, ◌+◌, ◌*◌, ◌<◌, ◌≤◌, true, List, [], ◌∷◌, length, get_or, drop, sym, ap, ◌∙◌, append-nil, arith}
use lib.Seq.{sets}
use Rattle.columns.specs.Limits.{kinds}
use Rattle.lists.specs.Lists.{filter, joined, starts}
use Rattle.lists.proofs.Flat.{length-starts}
use Rattle.lists.proofs.Storing.{Storing, storing-room, storing-on}
use Rattle.columns.specs.EdgeSet.{from_to, cut}
use Rattle.columns.specs.Building.{in_file, rows_within}
use Rattle.columns.proofs.Within.{section-few, section-long}
use Rattle.columns.proofs.Sections.{starts-over, starts-left, count-over, count_left}
use Rattle.archive_bytes.specs.Bytes.{bytes_of}
use Rattle.archive_bytes.proofs.Numbers.{length-bytes_of}
use Rattle.archive.specs.Encode.{column_bytes}
use Rattle.archive.proofs.Lengths.{length-column}

module _ (low high from n : ℕ) (offsets targets : List ℕ) (i : 2 * (from + n) < length offsets) where
  pub starts-size : length (column_bytes 8 (starts 0 (rows_within kinds low high from n offsets targets))) ≡ 8 * (2 * n + 1)
  starts-size =
      let ls = rows_within kinds low high from n offsets targets in
      omega (arith, length-column 8 (starts 0 ls), length-starts 0 ls, section-long kinds low high from n offsets targets i)

  module _ {was : List ℕ} {at : ℕ} {out : List ℕ} {p : ℕ} (q sum : ℕ)
      (s : Storing was at (column_bytes 8 (starts 0 (rows_within kinds low high from n offsets targets))) out p
      (column_bytes 8 (starts sum (drop q (rows_within kinds low high from n offsets targets))))) where
    whole : at + 8 * (2 * n + 1) ≤ length was → at + length (column_bytes 8 (starts 0 (rows_within kinds low high from n offsets targets))) ≤ length was
    whole h = omega (arith, starts-size)

    module _ (h : q < 2 * n) where
      left : column_bytes 8 (starts sum (drop q (rows_within kinds low high from n offsets targets)))
          ≡ column_bytes 8 (sum ∷ starts (sum + length (filter (in_file low high) (get_or (cut offsets targets) (2 * from + q) []))) (drop (q + 1) (rows_within kinds low high from n offsets targets)))
      left = ap (column_bytes 8) (starts-left kinds low high from n offsets targets i q sum h)

      pub start-room : at + 8 * (2 * n + 1) ≤ length was → p + 8 ≤ length out
      start-room k =
          rw (length-bytes_of 8 sum) at
          (storing-room s (bytes_of 8 sum)
          (column_bytes 8 (starts (sum + length (filter (in_file low high) (get_or (cut offsets targets) (2 * from + q) []))) (drop (q + 1) (rows_within kinds low high from n offsets targets))))
          left (whole k))

      pub start-on : (now : List ℕ) (k : ℕ) → now ≡ sets out p (bytes_of 8 sum) → k ≡ length (filter (in_file low high) (get_or (cut offsets targets) (2 * from + q) []))
          → Storing was at (column_bytes 8 (starts 0 (rows_within kinds low high from n offsets targets))) now (p + 8)
          (column_bytes 8 (starts (sum + k) (drop (q + 1) (rows_within kinds low high from n offsets targets))))
      start-on now k d e =
          rw e
          (storing-on s (bytes_of 8 sum)
          (column_bytes 8 (starts (sum + length (filter (in_file low high) (get_or (cut offsets targets) (2 * from + q) []))) (drop (q + 1) (rows_within kinds low high from n offsets targets))))
          left now (p + 8) d (omega (arith, length-bytes_of 8 sum)))

    module _ (h : 2 * n ≤ q) where
      last : column_bytes 8 (starts sum (drop q (rows_within kinds low high from n offsets targets))) ≡ bytes_of 8 sum
      last = ap (column_bytes 8) (starts-over kinds low high from n offsets targets i q sum h) ∙ append-nil (bytes_of 8 sum)

      pub last-room : at + 8 * (2 * n + 1) ≤ length was → p + 8 ≤ length out
      last-room k = omega (arith, whole k, s.next, s.same, ap length last, length-bytes_of 8 sum)

      pub last_on : (now : List ℕ) → now ≡ sets out p (bytes_of 8 sum) → now ≡ sets was at (column_bytes 8 (starts 0 (rows_within kinds low high from n offsets targets)))
      last_on now d = d ∙ sym (s.ends ∙ ap (sets out p) last)

  module _ {t : ℕ} (q sum : ℕ) (e : t ≡ sum + length (joined (drop q (rows_within kinds low high from n offsets targets)))) where
    pub all-summed : 2 * n ≤ q → sum ≡ t
    all-summed h = omega (arith, e, count-over kinds low high from n offsets targets i q 0 h)

    module _ (h : q < 2 * n) (k : ℕ) (f : k ≡ length (filter (in_file low high) (get_or (cut offsets targets) (2 * from + q) []))) where
      pub one-summed : t ≡ sum + k + length (joined (drop (q + 1) (rows_within kinds low high from n offsets targets)))
      one-summed = omega (arith, e, f, count_left kinds low high from n offsets targets i q 0 h)

  pub sum-small : (q sum : ℕ) → length (joined (rows_within kinds low high from n offsets targets)) ≡ sum + length (joined (drop q (rows_within kinds low high from n offsets targets)))
      → q < 2 * n → (k : ℕ) → k ≡ length (filter (in_file low high) (get_or (cut offsets targets) (2 * from + q) [])) → from_to 0 (length targets) offsets ≡ true → sum + k ≤ length targets
  sum-small q sum e h k f c = omega (arith, one-summed q sum e h k f, section-few kinds low high from n offsets targets c)
