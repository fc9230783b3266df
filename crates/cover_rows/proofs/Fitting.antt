-- Stored link columns: the tests of their form, and what columns in form hold.
use mathlib.Core.Path.{◌≡◌, refl, sym, ◌∙◌, ap}
use mathlib.Core.Bool.{Bool, true, false, not, ◌&&◌}
use mathlib.Core.List.{List, [], ◌∷◌, map}
use Prim.Native.Nat.{ℕ, suc, ◌≤◌}
use native.Mathlib.Omega.{arith}
use lib.Dec.{eqb}
use lib.ListN.{length, take}
use borrow.Author.Tests.{eq-eqb, ne_eqb, eqb-true, not-true, not-false}
use Rattle.lists.proofs.Tests.{both}
use Rattle.cover.specs.Chains.{links_rise}
use Rattle.cover.specs.Cover.{LinkColumns, links_of, even_columns, sums, sums_fit, differences, columns_of, links_ok, stored_links}
use Rattle.cover.specs.Answers.{link_columns, over, links_over}
use Rattle.cover.proofs.Stored.{length-sums}
use Rattle.cover_rows.proofs.Columned.{take-over}

-- ── the columns of links ─────────────────────────────────────────────────────────────────────

pub length-links : (a b c d : List ℕ) → length b ≡ length a → length c ≡ length a → length d ≡ length a → length (links_of a b c d) ≡ length a
unfolding links_of
length-links [] b c d p q r = refl
length-links (x ∷ xs) [] c d p q r = absurd (omega arith)
length-links (x ∷ xs) (y ∷ ys) [] d p q r = absurd (omega arith)
length-links (x ∷ xs) (y ∷ ys) (z ∷ zs) [] p q r = absurd (omega arith)
length-links (x ∷ xs) (y ∷ ys) (z ∷ zs) (w ∷ ws) p q r = ap suc (length-links xs ys zs ws (omega arith) (omega arith) (omega arith))

froms : (a b c d : List ℕ) → length b ≡ length a → length c ≡ length a → length d ≡ length a → map (λ l. l.from_chain) (links_of a b c d) ≡ a
unfolding links_of
froms [] b c d p q r = refl
froms (x ∷ xs) [] c d p q r = absurd (omega arith)
froms (x ∷ xs) (y ∷ ys) [] d p q r = absurd (omega arith)
froms (x ∷ xs) (y ∷ ys) (z ∷ zs) [] p q r = absurd (omega arith)
froms (x ∷ xs) (y ∷ ys) (z ∷ zs) (w ∷ ws) p q r = ap (λ l. x ∷ l) (froms xs ys zs ws (omega arith) (omega arith) (omega arith))

seqs : (a b c d : List ℕ) → length b ≡ length a → length c ≡ length a → length d ≡ length a → map (λ l. l.from_seq) (links_of a b c d) ≡ b
unfolding links_of
seqs [] [] c d p q r = refl
seqs [] (y ∷ ys) c d p q r = absurd (omega arith)
seqs (x ∷ xs) [] c d p q r = absurd (omega arith)
seqs (x ∷ xs) (y ∷ ys) [] d p q r = absurd (omega arith)
seqs (x ∷ xs) (y ∷ ys) (z ∷ zs) [] p q r = absurd (omega arith)
seqs (x ∷ xs) (y ∷ ys) (z ∷ zs) (w ∷ ws) p q r = ap (λ l. y ∷ l) (seqs xs ys zs ws (omega arith) (omega arith) (omega arith))

tos : (a b c d : List ℕ) → length b ≡ length a → length c ≡ length a → length d ≡ length a → map (λ l. l.to_chain) (links_of a b c d) ≡ c
unfolding links_of
tos [] b [] d p q r = refl
tos [] b (z ∷ zs) d p q r = absurd (omega arith)
tos (x ∷ xs) [] c d p q r = absurd (omega arith)
tos (x ∷ xs) (y ∷ ys) [] d p q r = absurd (omega arith)
tos (x ∷ xs) (y ∷ ys) (z ∷ zs) [] p q r = absurd (omega arith)
tos (x ∷ xs) (y ∷ ys) (z ∷ zs) (w ∷ ws) p q r = ap (λ l. z ∷ l) (tos xs ys zs ws (omega arith) (omega arith) (omega arith))

ends : (a b c d : List ℕ) → length b ≡ length a → length c ≡ length a → length d ≡ length a → map (λ l. l.to_seq) (links_of a b c d) ≡ d
unfolding links_of
ends [] b c [] p q r = refl
ends [] b c (w ∷ ws) p q r = absurd (omega arith)
ends (x ∷ xs) [] c d p q r = absurd (omega arith)
ends (x ∷ xs) (y ∷ ys) [] d p q r = absurd (omega arith)
ends (x ∷ xs) (y ∷ ys) (z ∷ zs) [] p q r = absurd (omega arith)
ends (x ∷ xs) (y ∷ ys) (z ∷ zs) (w ∷ ws) p q r = ap (λ l. w ∷ l) (ends xs ys zs ws (omega arith) (omega arith) (omega arith))

pub links-over : (a b c d : List ℕ) (o : LinkColumns) → length b ≡ length a → length c ≡ length a → length d ≡ length a
    → links_over (links_of a b c d) o ≡ link_columns (over a o.from_chains) (over b o.from_seqs) (over c o.to_chains) (over d o.to_seqs)
unfolding links_over
links-over a b c d o p q r = rw (froms a b c d p q r, seqs a b c d p q r, tos a b c d p q r, ends a b c d p q r)

-- the stored columns of links that four columns hold
pub columns_of_lem : (a b c d : List ℕ) → length b ≡ length a → length c ≡ length a → length d ≡ length a → columns_of (links_of a b c d) ≡ link_columns (differences 0 a) b c d
unfolding columns_of
columns_of_lem a b c d p q r = rw (froms a b c d p q r, seqs a b c d p q r, tos a b c d p q r, ends a b c d p q r)

-- ── the form ─────────────────────────────────────────────────────────────────────────────────

module _ (s b c d : List ℕ) where
  pub few-from : (length b ≡ length s → ⊥) → false ≡ links_ok (link_columns s b c d)
  unfolding links_ok even_columns
  few-from h = rw (ne_eqb (length b) (length s) h)

  module _ (p : length b ≡ length s) where
    pub few-to : (length c ≡ length s → ⊥) → false ≡ links_ok (link_columns s b c d)
    unfolding links_ok even_columns
    few-to h = rw (eq-eqb (length b) (length s) p, ne_eqb (length c) (length s) h)

    module _ (q : length c ≡ length s) where
      pub few-ends : (length d ≡ length s → ⊥) → false ≡ links_ok (link_columns s b c d)
      unfolding links_ok even_columns
      few-ends h = rw (eq-eqb (length b) (length s) p, eq-eqb (length c) (length s) q, ne_eqb (length d) (length s) h)

      module _ (r : length d ≡ length s) where
        even : links_ok (link_columns s b c d) ≡ sums_fit s && links_rise (links_of (sums 0 s) b c d)
        unfolding links_ok even_columns stored_links
        even = rw (eq-eqb (length b) (length s) p, eq-eqb (length c) (length s) q, eq-eqb (length d) (length s) r)

pub sums-past : (s b c d : List ℕ) {t : Bool} → t ≡ sums_fit s → not t ≡ true → length b ≡ length s → length c ≡ length s → length d ≡ length s → false ≡ links_ok (link_columns s b c d)
sums-past s b c d {t} e k p q r = rw (even s b c d p q r, ← e, not-true t k)

pub sums-within : (s : List ℕ) (t : Bool) → t ≡ sums_fit s → not t ≡ false → sums_fit s ≡ true
sums-within s t e k = sym e ∙ not-false t k

pub front-sums : (s w v : List ℕ) → w ≡ over (sums 0 s) v → take (length s) w ≡ sums 0 s
front-sums s w v e = rw e (take-over (sums 0 s) v (length s) (length-sums 0 s))

pub sums-count : (s w v : List ℕ) → w ≡ over (sums 0 s) v → length s ≡ length (take (length s) w)
sums-count s w v e = sym (ap length (front-sums s w v e) ∙ length-sums 0 s)

-- a column as long as the differences is as long as the sums
pub long-sums : (s w v b : List ℕ) → w ≡ over (sums 0 s) v → length b ≡ length s → length b ≡ length (take (length s) w)
long-sums s w v b e p = rw (front-sums s w v e, length-sums 0 s) p

pub then-rise : (s w v b c d : List ℕ) {r t : Bool} → r ≡ links_rise (links_of (take (length s) w) b c d) → w ≡ over (sums 0 s) v → t ≡ sums_fit s → not t ≡ false
    → length b ≡ length s → length c ≡ length s → length d ≡ length s → r ≡ links_ok (link_columns s b c d)
then-rise s w v b c d {r} {t} g e f k p q o = rw (even s b c d p q o, ← f, not-false t k) (g ∙ ap (λ l. links_rise (links_of l b c d)) (front-sums s w v e))

-- ── what columns in form are ─────────────────────────────────────────────────────────────────

module _ (s b c d : List ℕ) (ok : links_ok (link_columns s b c d) ≡ true) where
  level : even_columns (link_columns s b c d) ≡ true
  unfolding links_ok
  level = (both (even_columns (link_columns s b c d)) (sums_fit s && links_rise (stored_links (link_columns s b c d))) ok).0

  rest : (eqb (length b) (length s) ≡ true) × ((eqb (length c) (length s) && eqb (length d) (length s)) ≡ true)
  unfolding even_columns
  rest = both (eqb (length b) (length s)) (eqb (length c) (length s) && eqb (length d) (length s)) level

  pub ok_from : length b ≡ length s
  ok_from = eqb-true (length b) (length s) rest.0

  pub ok-to : length c ≡ length s
  ok-to = eqb-true (length c) (length s) (both (eqb (length c) (length s)) (eqb (length d) (length s)) rest.1).0

  pub ok-ends : length d ≡ length s
  ok-ends = eqb-true (length d) (length s) (both (eqb (length c) (length s)) (eqb (length d) (length s)) rest.1).1

  pub ok-sums : sums_fit s ≡ true
  unfolding links_ok
  ok-sums = (both (sums_fit s) (links_rise (stored_links (link_columns s b c d))) (both (even_columns (link_columns s b c d)) (sums_fit s && links_rise (stored_links (link_columns s b c d))) ok).1).0

  pub room-from : (o : List ℕ) → length s ≤ length o → length b ≤ length o
  room-from o h = omega (arith, ok_from)

  pub room-to : (o : List ℕ) → length s ≤ length o → length c ≤ length o
  room-to o h = omega (arith, ok-to)

  pub room-ends : (o : List ℕ) → length s ≤ length o → length d ≤ length o
  room-ends o h = omega (arith, ok-ends)

  pub ok-count : length s ≡ length (stored_links (link_columns s b c d))
  unfolding stored_links
  ok-count =
      let z = length-sums 0 s in
      sym (length-links (sums 0 s) b c d (omega (arith, ok_from)) (omega (arith, ok-to)) (omega (arith, ok-ends)) ∙ z)

  pub ok-written : (x y z w x' y' z' w' : List ℕ) → x' ≡ over (sums 0 s) x → y' ≡ over b y → z' ≡ over c z → w' ≡ over d w
      → link_columns x' y' z' w' ≡ links_over (stored_links (link_columns s b c d)) (link_columns x y z w)
  unfolding stored_links
  ok-written x y z w x' y' z' w' e f g h =
      let m = length-sums 0 s in
      rw (links-over (sums 0 s) b c d (link_columns x y z w) (omega (arith, ok_from)) (omega (arith, ok-to)) (omega (arith, ok-ends)), e, f, g, h)
