-- Stores one after the other, as one store: each function that stores the parts of a record.
use Rattle.std.proofs.Common.{◌≡◌, ℕ, ◌+◌, ◌*◌, Bool, true, false, not, eqb, List, [], ◌∷◌, ◌++◌, map, length, take, ℤ, sym, refl, ap, ◌∙◌, append_assoc, arith, length-append}
use lib.Seq.{sets, take-length}
use Rattle.lists.specs.Lists.{flat}
use Rattle.lists.proofs.Slices.{sets-append}
use Rattle.archive_bytes.specs.Bytes.{bytes_of, unsigned_of}
use Rattle.archive_bytes.proofs.Numbers.{length-bytes_of}
use Rattle.archive.specs.Encode.{record_bytes, column_bytes, depth_bytes, set_bytes, sets_bytes, flag_of, row_bytes, unresolved_bytes, root_bytes, range_bytes, links_bytes, counted_bytes, reference_bytes}
use Rattle.archive.proofs.Lengths.{length-column, length-set}
use Rattle.archive_store.specs.Lent.{start_bytes, depth_from, head_from, set_from, set_size, row_from, unresolved_from, root_from, range_from, links_from, reference_from}
use Rattle.archive_store.specs.declared.heads.HeadOut.{HeadOut}

-- two stores, the second where the first ends
pub then : {k m : List ℕ} {p : ℕ} (l : List ℕ) (at : ℕ) (xs ys : List ℕ) → k ≡ sets l at xs → m ≡ sets k p ys → p ≡ at + length xs → m ≡ sets l at (xs ++ ys)
then l at xs ys d e h = e ∙ rw (h, d) (sym (sets-append l at xs ys))

module _ (l : List ℕ) (at : ℕ) where
  -- ── 1 file ─────────────────────────────────────────────────────────────────────────────────

  pub start-stored : {i j k : List ℕ} (kind n : ℕ) → i ≡ sets l at (bytes_of 4 (2 + n)) → j ≡ sets i (at + 4) (1 ∷ []) → k ≡ sets j (at + 5) (kind ∷ [])
      → k ≡ sets l at (start_bytes kind n)
  start-stored {i} kind n c d e =
      then l at (bytes_of 4 (2 + n)) _ c (then i (at + 4) (1 ∷ []) (kind ∷ []) d e (omega arith)) (omega (arith, length-bytes_of 4 (2 + n)))

  pub record-stored : {j k : List ℕ} (kind n : ℕ) (b : List ℕ) → j ≡ sets l at (start_bytes kind n) → k ≡ sets j (at + 6) b → n ≡ length b → k ≡ sets l at (record_bytes kind b)
  unfolding record_bytes
  record-stored kind n b d e h =
      let z : length (start_bytes kind n) ≡ 6 = simp (length-append, length-bytes_of) in
      let a : start_bytes kind n ++ b ≡ bytes_of 4 (2 + length b) ++ ((1 ∷ []) ++ ((kind ∷ []) ++ b)) = rw h (append_assoc (bytes_of 4 (2 + length b)) ((1 ∷ []) ++ (kind ∷ [])) b) in
      then l at (start_bytes kind n) b d e (omega arith) ∙ ap (sets l at) a

  pub front-stored : {i j k m : List ℕ} {r : ℕ} (first rows group n : ℕ) → r ≡ rows → i ≡ sets l at (bytes_of 8 first) → j ≡ sets i (at + 8) (bytes_of 4 r)
      → k ≡ sets j (at + 12) (group ∷ []) → m ≡ sets k (at + 13) (n ∷ [])
      → m ≡ sets l at (bytes_of 8 first ++ (bytes_of 4 rows ++ ((group ∷ []) ++ (n ∷ []))))
  front-stored {i} {j} first rows group n g b c d e =
      let last = then j (at + 12) (group ∷ []) (n ∷ []) d e (omega arith) in
      let more = then i (at + 8) (bytes_of 4 rows) ((group ∷ []) ++ (n ∷ [])) (rw g at c) last (omega (arith, length-bytes_of 4 rows)) in
      then l at (bytes_of 8 first) (bytes_of 4 rows ++ ((group ∷ []) ++ (n ∷ []))) b more (omega (arith, length-bytes_of 8 first))

  pub three-stored : {i j k : List ℕ} (flag least greatest : ℕ) → i ≡ sets l at (flag ∷ []) → j ≡ sets i (at + 1) (bytes_of 8 least) → k ≡ sets j (at + 9) (bytes_of 8 greatest)
      → k ≡ sets l at ((flag ∷ []) ++ (bytes_of 8 least ++ bytes_of 8 greatest))
  three-stored {i} flag least greatest c d e =
      let last = then i (at + 1) (bytes_of 8 least) (bytes_of 8 greatest) d e (omega (arith, length-bytes_of 8 least)) in
      then l at (flag ∷ []) (bytes_of 8 least ++ bytes_of 8 greatest) c last (omega arith)

  pub depth-known : {k : List ℕ} (known : Bool) (least greatest : ℕ) → known ≡ true → k ≡ sets l at ((1 ∷ []) ++ (bytes_of 8 least ++ bytes_of 8 greatest))
      → k ≡ sets l at (depth_bytes (depth_from known least greatest))
  unfolding depth_bytes
  depth-known known least greatest h e = rw h e

  pub depth-unknown : {k : List ℕ} (known : Bool) (least greatest : ℕ) → known ≡ false → k ≡ sets l at ((0 ∷ []) ++ (bytes_of 8 0 ++ bytes_of 8 0))
      → k ≡ sets l at (depth_bytes (depth_from known least greatest))
  unfolding depth_bytes
  depth-unknown known least greatest h e = rw h e

  pub head-stored : {i j k : List ℕ} (h : HeadOut) (s : List ℕ) → i ≡ sets l at (bytes_of 8 h.first ++ (bytes_of 4 h.rows ++ ((h.group ∷ []) ++ (length s ∷ []))))
      → j ≡ sets i (at + 14) s → k ≡ sets j (at + 14 + length s) (depth_bytes (depth_from h.known h.least h.greatest)) → k ≡ sets l at (head_from h s)
  unfolding head_from
  head-stored {i} h s c d e =
      let front = bytes_of 8 h.first ++ (bytes_of 4 h.rows ++ ((h.group ∷ []) ++ (length s ∷ []))) in
      let depth = depth_bytes (depth_from h.known h.least h.greatest) in
      let z : length front ≡ 14 = simp (length-append, length-bytes_of) in
      let a : front ++ (s ++ depth) ≡ bytes_of 8 h.first ++ (bytes_of 4 h.rows ++ ((h.group ∷ []) ++ ((length s ∷ []) ++ (s ++ depth)))) = simp append_assoc in
      then l at front (s ++ depth) c (then i (at + 14) s depth d e refl) (omega arith) ∙ ap (sets l at) a

  -- ── 2 edges ────────────────────────────────────────────────────────────────────────────────

  pub set-stored : {i j k : List ℕ} (os : List ℕ) (ds : List ℤ) → i ≡ sets l at (bytes_of 4 (length ds)) → j ≡ sets i (at + 4) (flat (bytes_of 8) (take (length os) os))
      → k ≡ sets j (at + 4 + 8 * length os) (flat (bytes_of 8) (map unsigned_of (take (length ds) ds))) → k ≡ sets l at (set_bytes (set_from os ds))
  unfolding set_bytes
  set-stored {i} {j} os ds c d e =
      let columns = column_bytes 8 os ++ column_bytes 8 (map unsigned_of ds) in
      let last = then i (at + 4) (column_bytes 8 os) (column_bytes 8 (map unsigned_of ds)) (rw (take-length os) at d) (rw (take-length ds) at e) (omega (arith, length-column 8 os)) in
      then l at (bytes_of 4 (length ds)) columns c last (omega (arith, length-bytes_of 4 (length ds)))

  pub edges-stored : {i j k : List ℕ} {p q : ℕ} (fo ro io : List ℕ) (fd rd id : List ℤ) → i ≡ sets l at (set_bytes (set_from fo fd)) → p ≡ at + set_size (length fo) (length fd)
      → j ≡ sets i p (set_bytes (set_from ro rd)) → q ≡ p + set_size (length ro) (length rd) → k ≡ sets j q (set_bytes (set_from io id))
      → k ≡ sets l at (sets_bytes (set_from fo fd) (set_from ro rd) (set_from io id))
  edges-stored {i} {p = p} fo ro io fd rd id c g d h e =
      let last = then i p (set_bytes (set_from ro rd)) (set_bytes (set_from io id)) d e (omega (arith, length-set (set_from ro rd))) in
      then l at (set_bytes (set_from fo fd)) (set_bytes (set_from ro rd) ++ set_bytes (set_from io id)) c last (omega (arith, length-set (set_from fo fd)))

  -- ── 3 rows, 4 unresolved, 5 roots ──────────────────────────────────────────────────────────

  pub row-stored : {i j : List ℕ} {b : ℕ} (flag tag : ℕ) → b ≡ flag_of (not (eqb flag 0)) → i ≡ sets l at (b ∷ []) → j ≡ sets i (at + 1) (bytes_of 8 tag)
      → j ≡ sets l at (row_bytes (row_from flag tag))
  unfolding row_bytes row_from
  row-stored flag tag h d e = then l at (flag_of (not (eqb flag 0)) ∷ []) (bytes_of 8 tag) (rw h at d) e (omega arith)

  pub unresolved-stored : {i j k : List ℕ} {r : ℕ} (child kind handle : ℕ) → r ≡ handle → i ≡ sets l at (bytes_of 8 child) → j ≡ sets i (at + 8) (kind ∷ []) → k ≡ sets j (at + 9) (bytes_of 4 r)
      → k ≡ sets l at (unresolved_bytes (unresolved_from child kind handle))
  unfolding unresolved_bytes unresolved_from
  unresolved-stored {i} child kind handle h c d e =
      let last = then i (at + 8) (kind ∷ []) (bytes_of 4 handle) d (rw h at e) (omega arith) in
      then l at (bytes_of 8 child) ((kind ∷ []) ++ bytes_of 4 handle) c last (omega (arith, length-bytes_of 8 child))

  pub root-stored : {i j : List ℕ} (row handle : ℕ) → i ≡ sets l at (bytes_of 8 row) → j ≡ sets i (at + 8) (bytes_of 8 handle) → j ≡ sets l at (root_bytes (root_from row handle))
  unfolding root_bytes root_from
  root-stored row handle d e = then l at (bytes_of 8 row) (bytes_of 8 handle) d e (omega (arith, length-bytes_of 8 row))

  -- ── 6 cover ────────────────────────────────────────────────────────────────────────────────

  pub range-stored : {i j k : List ℕ} {x y z : ℕ} (chain least greatest : ℕ) → x ≡ chain → y ≡ least → z ≡ greatest → i ≡ sets l at (bytes_of 4 x) → j ≡ sets i (at + 4) (bytes_of 4 y)
      → k ≡ sets j (at + 8) (bytes_of 4 z) → k ≡ sets l at (range_bytes (range_from chain least greatest))
  unfolding range_bytes range_from
  range-stored {i} chain least greatest f g h c d e =
      let last = then i (at + 4) (bytes_of 4 least) (bytes_of 4 greatest) (rw g at d) (rw h at e) (omega (arith, length-bytes_of 4 least)) in
      then l at (bytes_of 4 chain) (bytes_of 4 least ++ bytes_of 4 greatest) (rw f at c) last (omega (arith, length-bytes_of 4 chain))

  pub two-stored : {i j : List ℕ} (a b : List ℕ) → i ≡ sets l at (flat (bytes_of 4) (take (length a) a)) → j ≡ sets i (at + 4 * length a) (flat (bytes_of 4) (take (length b) b))
      → j ≡ sets l at (column_bytes 4 a ++ column_bytes 4 b)
  two-stored a b d e = then l at (column_bytes 4 a) (column_bytes 4 b) (rw (take-length a) at d) (rw (take-length b) at e) (omega (arith, length-column 4 a))

  pub counted-stored : {A : Type 0} {i j : List ℕ} {n : ℕ} (f : A → List ℕ) (xs : List A) → n ≡ length xs → i ≡ sets l at (bytes_of 4 n) → j ≡ sets i (at + 4) (flat f xs)
      → j ≡ sets l at (counted_bytes f xs)
  unfolding counted_bytes
  counted-stored f xs h d e = then l at (bytes_of 4 (length xs)) (flat f xs) (rw h at d) e (omega (arith, length-bytes_of 4 (length xs)))

  pub links-stored : {i j k : List ℕ} (a b c d : List ℕ) → i ≡ sets l at (bytes_of 4 (length a)) → j ≡ sets i (at + 4) (column_bytes 4 a ++ column_bytes 4 b)
      → k ≡ sets j (at + 4 + 4 * length a + 4 * length b) (column_bytes 4 c ++ column_bytes 4 d)
      → k ≡ sets l at (links_bytes (links_from a b c d))
  unfolding links_bytes
  links-stored {i} a b c d e f g =
      let ab = column_bytes 4 a ++ column_bytes 4 b in
      let cd = column_bytes 4 c ++ column_bytes 4 d in
      let z : at + 4 + 4 * length a + 4 * length b ≡ at + 4 + length ab = omega (arith, length-append (column_bytes 4 a) (column_bytes 4 b), length-column 4 a, length-column 4 b) in
      let last = then i (at + 4) ab cd f g z in
      then l at (bytes_of 4 (length a)) (ab ++ cd) e last (omega (arith, length-bytes_of 4 (length a)))
      ∙ ap (λ x. sets l at (bytes_of 4 (length a) ++ x)) (append_assoc (column_bytes 4 a) (column_bytes 4 b) cd)

  -- ── 7 references ───────────────────────────────────────────────────────────────────────────

  pub reference-stored : {i j k : List ℕ} (kind space target : ℕ) → i ≡ sets l at (kind ∷ []) → j ≡ sets i (at + 1) (space ∷ []) → k ≡ sets j (at + 2) (bytes_of 8 target)
      → k ≡ sets l at (reference_bytes (reference_from kind space target))
  unfolding reference_bytes reference_from
  reference-stored {i} kind space target c d e =
      let last = then i (at + 1) (space ∷ []) (bytes_of 8 target) d e (omega arith) in
      then l at (kind ∷ []) ((space ∷ []) ++ bytes_of 8 target) c last (omega arith)
