-- A record of things from a table: its start, its count, where it has one, and its body.
use mathlib.Core.Path.{◌≡◌, sym, ◌∙◌, ap}
use mathlib.Core.List.{List, map}
use Prim.Native.Nat.{ℕ, ◌+◌, ◌*◌}
use native.Mathlib.Omega.{arith}
use native.Mathlib.Nat.{mul_comm}
use lib.ListN.{length}
use lib.Seq.{sets}
use Rattle.lists.specs.Lists.{flat}
use Rattle.lists.proofs.Cut.{length-blocks}
use Rattle.archive_bytes.specs.Bytes.{bytes_of, several}
use Rattle.archive_bytes.proofs.Several.{map-several}
use Rattle.archive.specs.Encode.{record_bytes, row_bytes, unresolved_bytes, root_bytes, counted_bytes}
use Rattle.archive.proofs.Back.{length-several}
use Rattle.archive.proofs.Lengths.{length-counted, wide_row, wide-unresolved, wide-root}
use Rattle.archive_store.specs.Lent.{start_bytes}
use Rattle.archive_store.proofs.Chained.{record-stored, counted-stored}
use Rattle.cleaning.specs.Sections.{unerased_row}
use Rattle.run_section.specs.Tables.{field, unresolved_in, root_in}
use Rattle.run_records.specs.Stored.{row_in, root_above, root_above_in}

-- n records of width w stand for n things of b bytes each
module _ {A : Type 0} (w : ℕ) (f : List ℕ → A) (g : A → List ℕ) (b : ℕ) (wide : (x : A) → length (g x) ≡ b) (n : ℕ) (table : List ℕ) where
  pub body-size : length (flat g (several w f n table)) ≡ n * b
  body-size = length-blocks g b wide (several w f n table) ∙ ap (λ k. b * k) (length-several w f n table) ∙ mul_comm b n

  module _ (kind : ℕ) (l : List ℕ) (at : ℕ) where
    pub record_of : {j k : List ℕ} → j ≡ sets l at (start_bytes kind (n * b)) → k ≡ sets j (at + 6) (flat g (several w f n table))
        → k ≡ sets l at (record_bytes kind (flat g (several w f n table)))
    record_of d e = record-stored l at kind (n * b) (flat g (several w f n table)) d e (sym body-size)

    pub counted_of : {i j k : List ℕ} → i ≡ sets l at (start_bytes kind (4 + n * b)) → j ≡ sets i (at + 6) (bytes_of 4 n)
        → k ≡ sets j (at + 10) (flat g (several w f n table)) → k ≡ sets l at (record_bytes kind (counted_bytes g (several w f n table)))
    counted_of {i} c d e =
        let after : at + 10 ≡ at + 6 + 4 = omega arith in
        let size : 4 + n * b ≡ length (counted_bytes g (several w f n table)) =
        ap (λ k. 4 + k) (mul_comm n b ∙ ap (λ k. b * k) (sym (length-several w f n table))) ∙ sym (length-counted g b wide (several w f n table)) in
        record-stored l at kind (4 + n * b) (counted_bytes g (several w f n table)) c
        (counted-stored i (at + 6) g (several w f n table) (sym (length-several w f n table)) d (rw after at e)) size

module _ (l : List ℕ) (at n : ℕ) (table : List ℕ) where
  -- 3
  pub rows-record : {j k : List ℕ} → j ≡ sets l at (start_bytes 3 (n * 9)) → k ≡ sets j (at + 6) (flat row_bytes (several 4 row_in n table))
      → k ≡ sets l at (record_bytes 3 (flat row_bytes (map unerased_row (several 4 (field 1) n table))))
  rows-record d e = rw (map-several 4 (field 1) unerased_row n table) (record_of 4 row_in row_bytes 9 wide_row n table 3 l at d e)

  module _ {i j k : List ℕ} where
    -- 4
    pub unresolved-record : i ≡ sets l at (start_bytes 4 (4 + n * 13)) → j ≡ sets i (at + 6) (bytes_of 4 n) → k ≡ sets j (at + 10) (flat unresolved_bytes (several 3 unresolved_in n table))
        → k ≡ sets l at (record_bytes 4 (counted_bytes unresolved_bytes (several 3 unresolved_in n table)))
    unresolved-record c d e = counted_of 3 unresolved_in unresolved_bytes 13 wide-unresolved n table 4 l at c d e

    -- 5
    pub roots-record : (low : ℕ) → i ≡ sets l at (start_bytes 5 (4 + n * 16)) → j ≡ sets i (at + 6) (bytes_of 4 n) → k ≡ sets j (at + 10) (flat root_bytes (several 2 (root_above_in low) n table))
        → k ≡ sets l at (record_bytes 5 (counted_bytes root_bytes (map (root_above low) (several 2 root_in n table))))
    roots-record low c d e =
        rw (map-several 2 root_in (root_above low) n table)
        (counted_of 2 (root_above_in low) root_bytes 16 wide-root n table 5 l at c d e)
