-- Ranges and links of a cover in bytes: one turn of each loop over them, and each answer of the functions that test them.
use Rattle.std.specs.Prelude.{Err, Ok}
use mathlib.Core.Path.{◌≡◌, sym}
use mathlib.Core.Bool.{Bool, true, false, not}
use mathlib.Core.List.{List, map}
use mathlib.Core.Option.{some}
use Prim.Native.Nat.{ℕ, zero, suc, ◌+◌, ◌-◌, ◌*◌, ◌≤◌, ◌<◌}
use native.Mathlib.Nat.{sub-zero}
use native.Mathlib.Omega.{arith}
use lib.ListN.{length, take, drop, length-take}
use lib.Seq.{sets, length-sets, length-take-le, drop-drop}
use borrow.Author.Tests.{lt-ltb, le-ltb, le-leb, lt-leb, not-true, not-false}
use Rattle.lists.specs.Lists.{all}
use Rattle.lists.specs.Order.{rising, rises_above}
use Rattle.lists.proofs.Slices.{take-sets}
use Rattle.columns.specs.Refusal.{first_of}
use Rattle.columns.specs.declared.refusal.Refusal.TheVariants.{CoverForm}
use Rattle.cover.specs.Cover.{ranges_ok, links_ok, range_rules, link_rules}
use Rattle.cover.specs.Answers.{link_columns}
use Rattle.archive_bytes.specs.Bytes.{column}
use Rattle.archive_bytes.proofs.Several.{be-drop, be-front, several-none, several-cons}
use Rattle.archive.specs.Bytes.{be, several}
use Rattle.archive.specs.Parse.{range_at}
use Rattle.archive.proofs.Back.{length-several}
use Rattle.archive_read.specs.bodies.View.{cover_in}
use Rattle.columns.specs.Answers.{ruling}
use Rattle.cleaning.specs.Taking.{cover_rules}
use Rattle.run_rules.specs.parts.Back.{in_order, links_at, sized}

-- ── chains rise ──────────────────────────────────────────────────────────────────────────────

abbrev chains_in : ℕ → List ℕ → List ℕ
chains_in n b = map (λ x. x.chain) (several 12 range_at n b)

pub first-chain : {x : ℕ} (n : ℕ) (b : List ℕ) (q : ℕ) → 0 < n → x ≡ be 4 b q → rising (chains_in n (drop q b)) ≡ rises_above x (chains_in (n - 1) (drop (q + 12) b))
unfolding rising several range_at
first-chain zero b q h d = absurd (omega arith)
first-chain (suc n) b q h d = let z : suc n - 1 ≡ n = omega arith in rw (z, d, be-front 4 b q, drop-drop 12 q b)

pub no-chains : (n : ℕ) (b : List ℕ) (q : ℕ) → n ≡ 0 → true ≡ rising (chains_in n (drop q b))
unfolding rising several
no-chains n b q h = rw h

module _ {t : Bool} (low n i : ℕ) (b : List ℕ) (p : ℕ) (e : t ≡ rises_above low (chains_in (n - i) (drop p b))) where
  pub chains-done : n ≤ i → true ≡ t
  unfolding rises_above
  chains-done h = rw (e, several-none 12 range_at n i b p h)

  pub chain-level : {x : ℕ} → i < n → x ≡ be 4 b p → x ≤ low → false ≡ t
  unfolding rises_above range_at
  chain-level {x} h d f = rw (e, several-cons 12 range_at n i b p h, be-front 4 b p, ← d, le-ltb low x f)

  pub chain-above : {x : ℕ} → i < n → x ≡ be 4 b p → low < x → t ≡ rises_above x (chains_in (n - (i + 1)) (drop (p + 12) b))
  unfolding rises_above range_at
  chain-above {x} h d f = rw (e, several-cons 12 range_at n i b p h, be-front 4 b p, ← d, lt-ltb low x f)

-- ── minima and maxima ────────────────────────────────────────────────────────────────────────

pub order-start : (n : ℕ) (b : List ℕ) (q : ℕ) → all in_order (several 12 range_at n (drop q b)) ≡ all in_order (several 12 range_at (n - 0) (drop q b))
order-start n b q = rw sub-zero

module _ {t : Bool} (n i : ℕ) (b : List ℕ) (p : ℕ) (e : t ≡ all in_order (several 12 range_at (n - i) (drop p b))) where
  pub order-done : n ≤ i → true ≡ t
  unfolding all
  order-done h = rw (e, several-none 12 range_at n i b p h)

  module _ {x y : ℕ} (h : i < n) (d : x ≡ be 4 b (p + 4)) (f : y ≡ be 4 b (p + 8)) where
    pub order-bad : y < x → false ≡ t
    unfolding all in_order range_at
    order-bad k = rw (e, several-cons 12 range_at n i b p h, be-drop 4 b p 4, be-drop 4 b p 8, ← d, ← f, lt-leb x y k)

    pub order-on : x ≤ y → t ≡ all in_order (several 12 range_at (n - (i + 1)) (drop (p + 12) b))
    unfolding all in_order range_at
    order-on k = rw (e, several-cons 12 range_at n i b p h, be-drop 4 b p 4, be-drop 4 b p 8, ← d, ← f, le-leb x y k)

module _ (n : ℕ) (b : List ℕ) (q : ℕ) {a : Bool} (d : a ≡ rising (chains_in n (drop q b))) where
  pub chains-bad : not a ≡ true → false ≡ ranges_ok (several 12 range_at n (drop q b))
  unfolding ranges_ok
  chains-bad h = rw (← d, not-true a h)

  pub then-order : {r : Bool} → not a ≡ false → r ≡ all in_order (several 12 range_at n (drop q b)) → r ≡ ranges_ok (several 12 range_at n (drop q b))
  unfolding ranges_ok in_order
  then-order h k = rw (← d, not-false a h) k

-- ── links ────────────────────────────────────────────────────────────────────────────────────

pub links-count : (k : ℕ) (was l vs : List ℕ) → k ≤ 1024 → l ≡ sets was 0 vs → length was ≡ 1024 → k ≡ length (take k l)
links-count k was l vs h e u = sym (length-take-le k l (rw (e, length-sets, u) h))

loaded : (k : ℕ) (b : List ℕ) (p : ℕ) (was l : List ℕ) → k ≤ 1024 → length was ≡ 1024 → l ≡ sets was 0 (column 4 k b p) → take k l ≡ column 4 k b p
loaded k b p was l h u e = rw e (take-sets was (column 4 k b p) k (length-several _ _ _ _) (omega arith))

pub links_few : (k : ℕ) (l : List ℕ) → k ≤ 1024 → length (take k l) ≤ 1024
links_few k l h = simp length-take (omega arith)

module _ (k : ℕ) (b : List ℕ) (p : ℕ) (o w u v : List ℕ) (h : k ≤ 1024) (m : length o ≡ 1024) (n : length w ≡ 1024) (d : u ≡ sets o 0 (column 4 k b p))
    (e : v ≡ sets w 0 (column 4 k b (p + k * 4))) {r : Bool} where
  pub ends-loaded : (x y : List ℕ) → r ≡ links_ok (link_columns x y (take k u) (take k v)) → r ≡ links_ok (link_columns x y (column 4 k b p) (column 4 k b (p + k * 4)))
  ends-loaded x y g = rw (← loaded k b p o u h m d, ← loaded k b (p + k * 4) w v h n e) g

  pub links-loaded : r ≡ links_ok (link_columns (take k u) (take k v) (column 4 k b (p + k * 4 + k * 4)) (column 4 k b (p + k * 4 + k * 4 + k * 4))) → r ≡ links_ok (links_at b p k)
  unfolding links_at
  links-loaded g = rw (← loaded k b p o u h m d, ← loaded k b (p + k * 4) w v h n e) g

-- ── a cover ──────────────────────────────────────────────────────────────────────────────────

module _ (b : List ℕ) (rows m k : ℕ) {a : Bool} (d : a ≡ ranges_ok (several 12 range_at m (drop (rows * 4 + rows * 4 + 4) b))) where
  pub ranges-bad : not a ≡ true → Err CoverForm ≡ ruling (cover_rules (some (cover_in b rows (sized m k))))
  unfolding cover_in range_rules link_rules first_of
  ranges-bad h = rw (← d, not-true a h)

  module _ (h : not a ≡ false) {c : Bool} (e : c ≡ links_ok (links_at b (rows * 4 + rows * 4 + 4 + m * 12 + 4) k)) where
    pub links-bad : not c ≡ true → Err CoverForm ≡ ruling (cover_rules (some (cover_in b rows (sized m k))))
    unfolding cover_in range_rules link_rules first_of links_at
    links-bad g = rw (← d, not-false a h, ← e, not-true c g)

    pub cover-kept : not c ≡ false → (Ok tt) ≡ ruling (cover_rules (some (cover_in b rows (sized m k))))
    unfolding cover_in range_rules link_rules first_of links_at
    cover-kept g = rw (← d, not-false a h, ← e, not-false c g)
