-- Records of one width, one after the other in a table: one turn of each loop that stores them, and its end.
use mathlib.Core.Path.{◌≡◌, ◌∙◌, ap}
use mathlib.Core.List.{List}
use Prim.Native.Nat.{ℕ, ◌≤◌, ◌<◌, ◌+◌, ◌-◌, ◌^◌}
use native.Mathlib.Nat.{add-zero}
use lib.ListN.{length, get_or, drop}
use lib.Seq.{sets, get_or-drop}
use Rattle.lists.specs.Lists.{flat}
use Rattle.lists.proofs.Slices.{sets-append}
use Rattle.archive_bytes.specs.Bytes.{several, Wide}
use Rattle.archive_bytes.proofs.Several.{several-none, several-cons}
use Rattle.archive.specs.Encode.{row_bytes, unresolved_bytes, root_bytes}
use Rattle.archive.proofs.Lengths.{wide_row, wide-unresolved, wide-root}
use Rattle.archive_store.specs.Lent.{row_from, unresolved_from, root_from}
use Rattle.run_section.specs.Tables.{field, unresolved_in}
use Rattle.run_records.specs.Stored.{row_in, root_above_in}
use Rattle.run_records.specs.Narrow.{NarrowUnresolved}

-- the records of width w from place q on stand for things of b bytes each
module _ {A : Type 0} (w : ℕ) (f : List ℕ → A) (g : A → List ℕ) (b : ℕ) (wide : (x : A) → length (g x) ≡ b) {t : List ℕ}
    (n i : ℕ) (table : List ℕ) (q p : ℕ) (out : List ℕ) (e : t ≡ sets out p (flat g (several w f (n - i) (drop q table)))) where
  pub all-stored : n ≤ i → out ≡ t
  all-stored h = rw (e, several-none w f n i table q h)

  pub one-stored : {k : List ℕ} → i < n → k ≡ sets out p (g (f (drop q table))) → t ≡ sets k (p + b) (flat g (several w f (n - (i + 1)) (drop (q + w) table)))
  one-stored h d = rw (e, several-cons w f n i table q h, sets-append, wide (f (drop q table)), d)

-- the first number of a record
get_or-front : (q : ℕ) (table : List ℕ) → get_or (drop q table) 0 0 ≡ get_or table q 0
get_or-front q table = get_or-drop q table 0 0 ∙ ap (λ k. get_or table k 0) (add-zero q)

module _ {t : List ℕ} (n i : ℕ) (table : List ℕ) (q p : ℕ) (out : List ℕ) where
  pub row_next : {k : List ℕ} → t ≡ sets out p (flat row_bytes (several 4 row_in (n - i) (drop q table))) → i < n
      → k ≡ sets out p (row_bytes (row_from 0 (get_or table (q + 1) 0))) → t ≡ sets k (p + 9) (flat row_bytes (several 4 row_in (n - (i + 1)) (drop (q + 4) table)))
  unfolding row_from
  row_next e h d = one-stored 4 row_in row_bytes 9 wide_row n i table q p out e h (rw (get_or-drop q table 1 0) d)

  pub unresolved-next : {k : List ℕ} → t ≡ sets out p (flat unresolved_bytes (several 3 unresolved_in (n - i) (drop q table))) → i < n
      → k ≡ sets out p (unresolved_bytes (unresolved_from (get_or table q 0) (get_or table (q + 1) 0) (get_or table (q + 2) 0)))
      → t ≡ sets k (p + 13) (flat unresolved_bytes (several 3 unresolved_in (n - (i + 1)) (drop (q + 3) table)))
  unfolding unresolved_from
  unresolved-next e h d =
      one-stored 3 unresolved_in unresolved_bytes 13 wide-unresolved n i table q p out e h
      (rw (get_or-front q table, get_or-drop q table 1 0, get_or-drop q table 2 0) d)

  pub root-next : {k : List ℕ} {r : ℕ} (low : ℕ) → t ≡ sets out p (flat root_bytes (several 2 (root_above_in low) (n - i) (drop q table))) → i < n
      → r ≡ get_or table q 0 - low → k ≡ sets out p (root_bytes (root_from r (get_or table (q + 1) 0)))
      → t ≡ sets k (p + 16) (flat root_bytes (several 2 (root_above_in low) (n - (i + 1)) (drop (q + 2) table)))
  unfolding root_from
  root-next low e h c d =
      one-stored 2 (root_above_in low) root_bytes 16 wide-root n i table q p out e h (rw (get_or-front q table, get_or-drop q table 1 0, ← c) d)

  pub roots-done : (low : ℕ) → t ≡ sets out p (flat root_bytes (several 2 (root_above_in low) (n - i) (drop q table))) → n ≤ i → out ≡ t
  roots-done low e = all-stored 2 (root_above_in low) root_bytes 16 wide-root n i table q p out e

-- ── numbers of few bytes ─────────────────────────────────────────────────────────────────────

-- the j-th number of each record from place q on is one of b bytes
module _ (w b j n i : ℕ) (table : List ℕ) (q : ℕ) (s : Wide b (several w (field j) (n - i) (drop q table))) (h : i < n) where
  both : (get_or table (q + j) 0 < 256 ^ b) × Wide b (several w (field j) (n - (i + 1)) (drop (q + w) table))
  both = rw (several-cons w (field j) n i table q h, get_or-drop q table j 0) at s

  pub narrow-here : get_or table (q + j) 0 < 256 ^ b
  narrow-here = both.0

  pub narrow-on : Wide b (several w (field j) (n - (i + 1)) (drop (q + w) table))
  narrow-on = both.1

module _ (n i : ℕ) (table : List ℕ) (q : ℕ) (s : NarrowUnresolved (n - i) (drop q table)) (h : i < n) where
  pub kind-small : get_or table (q + 1) 0 < 256
  kind-small = narrow-here 3 1 1 n i table q s.kinds h

  pub handle-small : get_or table (q + 2) 0 < 2 ^ 32
  handle-small = narrow-here 3 4 2 n i table q s.handles h

  pub unresolved-narrow : NarrowUnresolved (n - (i + 1)) (drop (q + 3) table)
  unresolved-narrow = record { kinds = narrow-on 3 1 1 n i table q s.kinds h; handles = narrow-on 3 4 2 n i table q s.handles h }
