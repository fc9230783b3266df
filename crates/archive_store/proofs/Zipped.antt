-- Columns side by side: one turn of each loop that stores a table, and its end.
use Rattle.std.proofs.Common.{◌≡◌, ℕ, zero, suc, ◌+◌, ◌*◌, ◌<◌, ◌≤◌, List, [], ◌∷◌, ◌++◌, map, length, get_or, drop, sym, refl, ap, ◌∙◌, append_assoc, add-one, arith, length-append, drop_of_length-le, drop-cons}
use lib.Seq.{sets}
use Rattle.lists.specs.Lists.{Each, flat}
use Rattle.lists.proofs.Slices.{sets-append}
use Rattle.archive_bytes.specs.Bytes.{bytes_of}
use Rattle.cover.specs.Cover.{LinkColumns}
use Rattle.archive.specs.Encode.{column_bytes, row_bytes, unresolved_bytes, root_bytes, range_bytes, links_bytes, cover_bytes, counted_bytes}
use Rattle.archive.proofs.Lengths.{length-column, length-counted, wide_row, wide-unresolved, wide-root, wide-range}
use Rattle.archive_store.specs.Lent.{zip2, zip3, row_from, unresolved_from, root_from, range_from, cover_from}
use Rattle.archive_store.proofs.Chained.{then, counted-stored}

pub length-zip2 : {A : Type 0} (f : ℕ → ℕ → A) (xs ys : List ℕ) → length ys ≡ length xs → length (zip2 f xs ys) ≡ length xs
unfolding zip2
length-zip2 f [] ys h = refl
length-zip2 f (x ∷ xs) [] h = absurd (omega arith)
length-zip2 f (x ∷ xs) (y ∷ ys) h = rw (length-zip2 f xs ys (omega arith))

pub length-zip3 : {A : Type 0} (f : ℕ → ℕ → ℕ → A) (xs ys zs : List ℕ) → length ys ≡ length xs → length zs ≡ length xs → length (zip3 f xs ys zs) ≡ length xs
unfolding zip3
length-zip3 f [] ys zs h k = refl
length-zip3 f (x ∷ xs) [] zs h k = absurd (omega arith)
length-zip3 f (x ∷ xs) (y ∷ ys) [] h k = absurd (omega arith)
length-zip3 f (x ∷ xs) (y ∷ ys) (z ∷ zs) h k = rw (length-zip3 f xs ys zs (omega arith) (omega arith))

-- what stands at a place is made of what stands there in each column
pub get_or-zip3 : {A : Type 0} (f : ℕ → ℕ → ℕ → A) (xs ys zs : List ℕ) → length ys ≡ length xs → length zs ≡ length xs → (i : ℕ) (d : A) → i < length xs
    → get_or (zip3 f xs ys zs) i d ≡ f (get_or xs i 0) (get_or ys i 0) (get_or zs i 0)
unfolding zip3
get_or-zip3 f [] ys zs h k i d m = absurd (omega arith)
get_or-zip3 f (x ∷ xs) [] zs h k i d m = absurd (omega arith)
get_or-zip3 f (x ∷ xs) (y ∷ ys) [] h k i d m = absurd (omega arith)
get_or-zip3 f (x ∷ xs) (y ∷ ys) (z ∷ zs) h k zero d m = refl
get_or-zip3 f (x ∷ xs) (y ∷ ys) (z ∷ zs) h k (suc i) d m = get_or-zip3 f xs ys zs (omega arith) (omega arith) i d (omega arith)

-- what holds of each number of the columns holds of what is made of them
pub each-zip2 : {A : Type 0} (f : ℕ → ℕ → A) (P Q : ℕ → Type 0) (R : A → Type 0) → ((x y : ℕ) → P x → Q y → R (f x y)) → (xs ys : List ℕ) → Each P xs → Each Q ys → Each R (zip2 f xs ys)
unfolding zip2
each-zip2 f P Q R one [] ys h k = tt
each-zip2 f P Q R one (x ∷ xs) [] h k = tt
each-zip2 f P Q R one (x ∷ xs) (y ∷ ys) h k = (one x y h.0 k.0, each-zip2 f P Q R one xs ys h.1 k.1)

pub each-zip3 : {A : Type 0} (f : ℕ → ℕ → ℕ → A) (P Q S : ℕ → Type 0) (R : A → Type 0) → ((x y z : ℕ) → P x → Q y → S z → R (f x y z)) → (xs ys zs : List ℕ)
    → Each P xs → Each Q ys → Each S zs → Each R (zip3 f xs ys zs)
unfolding zip3
each-zip3 f P Q S R one [] ys zs h k m = tt
each-zip3 f P Q S R one (x ∷ xs) [] zs h k m = tt
each-zip3 f P Q S R one (x ∷ xs) (y ∷ ys) [] h k m = tt
each-zip3 f P Q S R one (x ∷ xs) (y ∷ ys) (z ∷ zs) h k m = (one x y z h.0 k.0 m.0, each-zip3 f P Q S R one xs ys zs h.1 k.1 m.1)

-- the first column, taken out again
pub rows-again : (xs ys : List ℕ) → length ys ≡ length xs → map (λ r. r.row) (zip2 root_from xs ys) ≡ xs
unfolding zip2 root_from
rows-again [] ys h = refl
rows-again (x ∷ xs) [] h = absurd (omega arith)
rows-again (x ∷ xs) (y ∷ ys) h = rw (rows-again xs ys (omega arith))

pub children-again : (xs ys zs : List ℕ) → length ys ≡ length xs → length zs ≡ length xs → map (λ u. u.child) (zip3 unresolved_from xs ys zs) ≡ xs
unfolding zip3 unresolved_from
children-again [] ys zs h k = refl
children-again (x ∷ xs) [] zs h k = absurd (omega arith)
children-again (x ∷ xs) (y ∷ ys) [] h k = absurd (omega arith)
children-again (x ∷ xs) (y ∷ ys) (z ∷ zs) h k = rw (children-again xs ys zs (omega arith) (omega arith))

-- ── two columns ──────────────────────────────────────────────────────────────────────────────

module _ {A : Type 0} {t : List ℕ} (f : ℕ → ℕ → A) (g : A → List ℕ) (w : ℕ) (wide : (a : A) → length (g a) ≡ w) (xs ys : List ℕ) (i p : ℕ) (out : List ℕ)
    (e : t ≡ sets out p (flat g (zip2 f (drop i xs) (drop i ys)))) where
  pairs-done : length xs ≤ i → out ≡ t
  unfolding zip2
  pairs-done h = rw (e, drop_of_length-le xs {i = i} h)

  pair-next : {k : List ℕ} → i < length xs → i < length ys → k ≡ sets out p (g (f (get_or xs i 0) (get_or ys i 0))) → t ≡ sets k (p + w) (flat g (zip2 f (drop (i + 1) xs) (drop (i + 1) ys)))
  unfolding zip2
  pair-next h j d = rw (e, drop-cons xs i 0 h, drop-cons ys i 0 j, sets-append, wide (f (get_or xs i 0) (get_or ys i 0)), d, add-one)

module _ {t : List ℕ} (xs ys : List ℕ) (i p : ℕ) (out : List ℕ) where
  module _ (h : length xs ≡ length ys) (e : t ≡ sets out p (flat row_bytes (zip2 row_from (drop i xs) (drop i ys)))) where
    pub rows-done : length ys ≤ i → out ≡ t
    rows-done j = pairs-done row_from row_bytes 9 wide_row xs ys i p out e (omega arith)

    pub row_next : {k : List ℕ} → i < length ys → k ≡ sets out p (row_bytes (row_from (get_or xs i 0) (get_or ys i 0)))
        → t ≡ sets k (p + 9) (flat row_bytes (zip2 row_from (drop (i + 1) xs) (drop (i + 1) ys)))
    row_next j d = pair-next row_from row_bytes 9 wide_row xs ys i p out e (omega arith) j d

  module _ (h : length ys ≡ length xs) (e : t ≡ sets out p (flat root_bytes (zip2 root_from (drop i xs) (drop i ys)))) where
    pub roots-done : length xs ≤ i → out ≡ t
    roots-done j = pairs-done root_from root_bytes 16 wide-root xs ys i p out e j

    pub root-next : {k : List ℕ} → i < length xs → k ≡ sets out p (root_bytes (root_from (get_or xs i 0) (get_or ys i 0)))
        → t ≡ sets k (p + 16) (flat root_bytes (zip2 root_from (drop (i + 1) xs) (drop (i + 1) ys)))
    root-next j d = pair-next root_from root_bytes 16 wide-root xs ys i p out e j (omega arith) d

-- ── three columns ────────────────────────────────────────────────────────────────────────────

module _ {A : Type 0} {t : List ℕ} (f : ℕ → ℕ → ℕ → A) (g : A → List ℕ) (w : ℕ) (wide : (a : A) → length (g a) ≡ w) (xs ys zs : List ℕ) (i p : ℕ) (out : List ℕ)
    (e : t ≡ sets out p (flat g (zip3 f (drop i xs) (drop i ys) (drop i zs)))) where
  triples_done : length xs ≤ i → out ≡ t
  unfolding zip3
  triples_done h = rw (e, drop_of_length-le xs {i = i} h)

  triple-next : {k : List ℕ} → i < length xs → i < length ys → i < length zs → k ≡ sets out p (g (f (get_or xs i 0) (get_or ys i 0) (get_or zs i 0)))
      → t ≡ sets k (p + w) (flat g (zip3 f (drop (i + 1) xs) (drop (i + 1) ys) (drop (i + 1) zs)))
  unfolding zip3
  triple-next h j m d = rw (e, drop-cons xs i 0 h, drop-cons ys i 0 j, drop-cons zs i 0 m, sets-append, wide (f (get_or xs i 0) (get_or ys i 0) (get_or zs i 0)), d, add-one)

module _ {t : List ℕ} (xs ys zs : List ℕ) (i p : ℕ) (out : List ℕ) (h : length ys ≡ length xs) (j : length zs ≡ length xs) where
  module _ (e : t ≡ sets out p (flat unresolved_bytes (zip3 unresolved_from (drop i xs) (drop i ys) (drop i zs)))) where
    pub unresolved-done : length xs ≤ i → out ≡ t
    unresolved-done k = triples_done unresolved_from unresolved_bytes 13 wide-unresolved xs ys zs i p out e k

    pub unresolved-next : {k : List ℕ} → i < length xs → k ≡ sets out p (unresolved_bytes (unresolved_from (get_or xs i 0) (get_or ys i 0) (get_or zs i 0)))
        → t ≡ sets k (p + 13) (flat unresolved_bytes (zip3 unresolved_from (drop (i + 1) xs) (drop (i + 1) ys) (drop (i + 1) zs)))
    unresolved-next m d = triple-next unresolved_from unresolved_bytes 13 wide-unresolved xs ys zs i p out e m (omega arith) (omega arith) d

  module _ (e : t ≡ sets out p (flat range_bytes (zip3 range_from (drop i xs) (drop i ys) (drop i zs)))) where
    pub ranges-done : length xs ≤ i → out ≡ t
    ranges-done k = triples_done range_from range_bytes 12 wide-range xs ys zs i p out e k

    pub range-next : {k : List ℕ} → i < length xs → k ≡ sets out p (range_bytes (range_from (get_or xs i 0) (get_or ys i 0) (get_or zs i 0)))
        → t ≡ sets k (p + 12) (flat range_bytes (zip3 range_from (drop (i + 1) xs) (drop (i + 1) ys) (drop (i + 1) zs)))
    range-next m d = triple-next range_from range_bytes 12 wide-range xs ys zs i p out e m (omega arith) (omega arith) d

-- ── a count and a table ──────────────────────────────────────────────────────────────────────

module _ (l : List ℕ) (at : ℕ) {i j : List ℕ} where
  pub unresolved-counted : (xs ys zs : List ℕ) → length ys ≡ length xs → length zs ≡ length xs → i ≡ sets l at (bytes_of 4 (length xs))
      → j ≡ sets i (at + 4) (flat unresolved_bytes (zip3 unresolved_from xs ys zs)) → j ≡ sets l at (counted_bytes unresolved_bytes (zip3 unresolved_from xs ys zs))
  unresolved-counted xs ys zs h k d e = counted-stored l at unresolved_bytes (zip3 unresolved_from xs ys zs) (sym (length-zip3 unresolved_from xs ys zs h k)) d e

  pub roots-counted : (xs ys : List ℕ) → length ys ≡ length xs → i ≡ sets l at (bytes_of 4 (length xs))
      → j ≡ sets i (at + 4) (flat root_bytes (zip2 root_from xs ys)) → j ≡ sets l at (counted_bytes root_bytes (zip2 root_from xs ys))
  roots-counted xs ys h d e = counted-stored l at root_bytes (zip2 root_from xs ys) (sym (length-zip2 root_from xs ys h)) d e

  pub ranges-counted : (xs ys zs : List ℕ) → length ys ≡ length xs → length zs ≡ length xs → i ≡ sets l at (bytes_of 4 (length xs))
      → j ≡ sets i (at + 4) (flat range_bytes (zip3 range_from xs ys zs)) → j ≡ sets l at (counted_bytes range_bytes (zip3 range_from xs ys zs))
  ranges-counted xs ys zs h k d e = counted-stored l at range_bytes (zip3 range_from xs ys zs) (sym (length-zip3 range_from xs ys zs h k)) d e

module _ (l : List ℕ) (at : ℕ) {i j k : List ℕ} where
  pub cover-stored : (chains seqs ids minima maxima : List ℕ) (links : LinkColumns) → length minima ≡ length ids → length maxima ≡ length ids
      → i ≡ sets l at (column_bytes 4 chains ++ column_bytes 4 seqs)
      → j ≡ sets i (at + 4 * length chains + 4 * length seqs) (counted_bytes range_bytes (zip3 range_from ids minima maxima))
      → k ≡ sets j (at + 4 * length chains + 4 * length seqs + 4 + length ids * 12) (links_bytes links)
      → k ≡ sets l at (cover_bytes (cover_from chains seqs (zip3 range_from ids minima maxima) links))
  unfolding cover_bytes counted_bytes
  cover-stored chains seqs ids minima maxima links h m c d e =
      let ranges = zip3 range_from ids minima maxima in
      let labels = column_bytes 4 chains ++ column_bytes 4 seqs in
      let x : length labels ≡ 4 * length chains + 4 * length seqs = omega (arith, length-append (column_bytes 4 chains) (column_bytes 4 seqs), length-column 4 chains, length-column 4 seqs) in
      let y : length (counted_bytes range_bytes ranges) ≡ 4 + length ids * 12 = omega (arith, length-counted range_bytes 12 wide-range ranges, length-zip3 range_from ids minima maxima h m) in
      let a : labels ++ ((bytes_of 4 (length ranges) ++ flat range_bytes ranges) ++ links_bytes links)
      ≡ column_bytes 4 chains ++ (column_bytes 4 seqs ++ (bytes_of 4 (length ranges) ++ (flat range_bytes ranges ++ links_bytes links))) = simp append_assoc in
      let last = then i (at + 4 * length chains + 4 * length seqs) (counted_bytes range_bytes ranges) (links_bytes links) d e (omega arith) in
      then l at labels (counted_bytes range_bytes ranges ++ links_bytes links) c last (omega arith) ∙ ap (sets l at) a
