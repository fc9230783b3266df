-- The links at the rows of the chosen chains, and the local columns that they are found in.
use mathlib.Core.Path.{◌≡◌, refl, sym, ◌∙◌, ap}
use mathlib.Core.Bool.{true}
use mathlib.Core.Logic.{inl, inr}
use mathlib.Core.List.{List, [], ◌∷◌, map}
use Prim.Native.Nat.{ℕ, zero, suc, ◌+◌, ◌≤◌}
use native.Mathlib.Omega.{arith}
use lib.ListN.{length, take, drop, get_or, length-map, drop_of_length-le}
use lib.Seq.{drop-cons, length-take-le}
use borrow.Author.Tests.{lt-ltb, le-leb}
use Rattle.lists.specs.Lists.{all, filter, mem}
use Rattle.lists.specs.Order.{level_above, not_falling}
use Rattle.lists.proofs.Tests.{tested}
use Rattle.cover.specs.Cover.{LinkColumns, links_of, sums, stored_links, links_ok}
use Rattle.cover.specs.Answers.{link_columns, over, links_over}
use Rattle.cover.specs.Places.{row_at, rows_from}
use Rattle.cover.proofs.Stored.{length-sums}
use Rattle.cover_rows.proofs.Rowed.{rows-cons, rows_all, rows_none}
use Rattle.cover_rows.proofs.Fitting.{front-sums, long-sums, ok_from, ok-to, ok-ends}
use Rattle.cover_rows.specs.pick.Picked.{within}
use Rattle.cover_read.specs.chosen.Chosen.{rows_of, links_from}

-- ── the from chains ──────────────────────────────────────────────────────────────────────────

level-sums : (before : ℕ) (ds : List ℕ) → level_above before (sums before ds) ≡ true
unfolding level_above sums
level-sums before [] = refl
level-sums before (d ∷ ds) = rw (le-leb before (before + d) (omega arith)) (level-sums (before + d) ds)

module _ (s w v : List ℕ) (e : w ≡ over (sums 0 s) v) where
  pub from-level : not_falling (take (length s) w) ≡ true
  unfolding not_falling
  from-level = rw (front-sums s w v e) (level-sums 0 s)

  long : length (take (length s) w) ≡ length s
  long = ap length (front-sums s w v e) ∙ length-sums 0 s

  pub from-room : (m : ℕ) → length s ≤ m → length (take (length s) w) ≤ m
  from-room m h = omega (arith, long)

  module _ (b c d : List ℕ) (ok : links_ok (link_columns s b c d) ≡ true) where
    pub even-seqs : length b ≡ length (take (length s) w)
    even-seqs = long-sums s w v b e (ok_from s b c d ok)

    pub even-chains : length c ≡ length (take (length s) w)
    even-chains = long-sums s w v c e (ok-to s b c d ok)

    pub even-ends : length d ≡ length (take (length s) w)
    even-ends = long-sums s w v d e (ok-ends s b c d ok)

-- ── rows and links ───────────────────────────────────────────────────────────────────────────

rows_within : (chains : List ℕ) (m p : ℕ) (l : List ℕ) → p + length l ≤ m → within m (rows_of chains p l) ≡ true
unfolding within rows_of all
rows_within chains m p [] h = refl
rows_within chains m p (x ∷ xs) h =
    let rest = rows_within chains m (suc p) xs (omega arith) in
    elim (tested (mem x chains)) [ inl e ↦ rw (e, lt-ltb p m (omega arith)) rest | inr e ↦ rw e rest ]

pub rows_in : (chains l rows : List ℕ) → rows ≡ rows_of chains 0 l → within (length l) rows ≡ true
rows_in chains l rows e = rw e (rows_within chains (length l) 0 l (omega arith))

module _ (a b c d chains : List ℕ) (p : length b ≡ length a) (q : length c ≡ length a) (r : length d ≡ length a) where
  links-from : (m i : ℕ) → length a ≡ i + m → map (row_at a b c d) (rows_of chains i (drop i a)) ≡ filter (λ l. mem l.from_chain chains) (rows_from a b c d i)
  unfolding rows_of filter row_at
  links-from zero i h = rw (drop_of_length-le a {i = i} (omega arith), rows_none a b c d i (omega arith))
  links-from (suc m) i h =
      let rest = links-from m (suc i) (omega arith) in
      rw (drop-cons a i 0 (omega arith), rows-cons a b c d p q r i (omega arith))
      (elim (tested (mem (get_or a i 0) chains)) [ inl e ↦ rw e (ap (λ ks. row_at a b c d i ∷ ks) rest) | inr e ↦ rw e rest ])

  links-chosen : map (row_at a b c d) (rows_of chains 0 a) ≡ links_from chains (links_of a b c d)
  unfolding links_from
  links-chosen = rw (rows_all a b c d) (links-from (length a) 0 (omega arith))

  module _ (rows : List ℕ) (k : ℕ) (f : take k rows ≡ rows_of chains 0 a) where
    chosen : map (row_at a b c d) (take k rows) ≡ links_from chains (links_of a b c d)
    chosen = rw f links-chosen

    pub chosen-count : k ≤ length rows → k ≡ length (links_from chains (links_of a b c d))
    chosen-count h = sym (ap length (sym chosen) ∙ rw length-map (length-take-le k rows h))

    pub chosen-written : (o o' : LinkColumns) → o' ≡ links_over (map (row_at a b c d) (take k rows)) o → o' ≡ links_over (links_from chains (links_of a b c d)) o
    chosen-written o o' g = g ∙ ap (λ ls. links_over ls o) chosen

pub chosen-room : (k n m : ℕ) → k ≤ n → n ≤ m → k ≤ m
chosen-room k n m h g = omega arith

-- the links of the sums are the stored ones
module _ (s b c d w v chains : List ℕ) (e : w ≡ over (sums 0 s) v) where
  stored : links_of (take (length s) w) b c d ≡ stored_links (link_columns s b c d)
  unfolding stored_links
  stored = rw (front-sums s w v e)

  pub stored-count : {k : ℕ} → k ≡ length (links_from chains (links_of (take (length s) w) b c d)) → k ≡ length (links_from chains (stored_links (link_columns s b c d)))
  stored-count f = f ∙ ap (λ ls. length (links_from chains ls)) stored

  pub stored-written : (o o' : LinkColumns) → o' ≡ links_over (links_from chains (links_of (take (length s) w) b c d)) o → o' ≡ links_over (links_from chains (stored_links (link_columns s b c d))) o
  stored-written o o' f = f ∙ ap (λ ls. links_over (links_from chains ls) o) stored
