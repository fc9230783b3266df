-- The covers of all groups, seen at one group: its ranges stand from its end of the table up to the next one's.
use mathlib.Core.Path.{◌≡◌, ap, sym, ◌∙◌}
use mathlib.Core.List.{List, ◌++◌, map, map-append}
use Prim.Native.Nat.{ℕ, ◌+◌, ◌-◌, ◌*◌, ◌≤◌, ◌<◌}
use native.Mathlib.Nat.{zero-add}
use native.Mathlib.Numerals.{add-one}
use native.Mathlib.Omega.{arith}
use lib.ListN.{length, get_or, take, drop, length-append}
use lib.Seq.{take-take, take-add, take_at, drop_at}
use Rattle.lists.specs.Lists.{flat, joined, part, up_from}
use Rattle.lists.proofs.Flat.{flat_append, joined-append, up_from-append}
use Rattle.cover.specs.Chains.{Range}
use Rattle.run_state.specs.declared.Groups.{Groups}
use Rattle.run_section.specs.declared.Counts.{Counts}
use Rattle.run_section.specs.declared.covers.Covers.{Covers}
use Rattle.run_section.specs.Covers.{ranges_at, ranges_to, words, CoversAt, CoversCounted}
use Rattle.run_section.proofs.covers.Joining.{words-length, to-next}

-- a list behind another at the front of a table
behind : (t front back : List ℕ) (a n : ℕ) → length front ≡ a → take a t ≡ front → take (a + n) t ≡ front ++ back → part a n t ≡ back
unfolding part
behind t front back a n l e f =
    let q : front ++ take n (drop a t) ≡ front ++ back = ap (λ xs. xs ++ take n (drop a t)) (sym e) ∙ sym (take-add a n t) ∙ f in
    sym (drop_at front (take n (drop a t)) a l) ∙ ap (drop a) q ∙ drop_at front back a l

module _ (z : Counts) (groups : Groups) (rows table : List ℕ) (c : Covers) (k : CoversAt z groups rows table c) where
  -- the ranges of the groups from group g on
  after : ℕ → List Range
  after g = joined (map (ranges_at z groups rows) (up_from g (groups.count - g)))

  split : (g : ℕ) → g ≤ groups.count → ranges_to z groups rows groups.count ≡ ranges_to z groups rows g ++ after g
  unfolding ranges_to after
  split g h =
      let r = ranges_at z groups rows in
      let n = groups.count - g in
      let e : groups.count ≡ g + n = omega arith in
      ap (λ m. joined (map r (up_from 0 m))) e
      ∙ rw (up_from-append 0 g n, zero-add g, map-append r (up_from 0 g) (up_from g n)) (joined-append (map r (up_from 0 g)) (map r (up_from g n)))

  -- the ranges of the groups before group g stand before its end
  pub stored-to : (g : ℕ) → g ≤ groups.count → take (3 * get_or c.ends g 0) table ≡ flat words (ranges_to z groups rows g)
  stored-to g h =
      let m = groups.count in
      let e = k.ends_at g h in
      let s = split g h in
      let l : get_or c.ends g 0 ≤ get_or c.ends m 0 =
      omega (arith, e, k.ends_at m (omega arith), ap length s, length-append (ranges_to z groups rows g) (after g)) in
      sym (take-take (3 * get_or c.ends g 0) (3 * get_or c.ends m 0) table (omega arith))
      ∙ rw (k.stored, s, flat_append words (ranges_to z groups rows g) (after g))
      (take_at (flat words (ranges_to z groups rows g)) (flat words (after g)) (3 * get_or c.ends g 0) (omega (arith, words-length (ranges_to z groups rows g), e)))

  module _ (g : ℕ) (h : g < groups.count) where
    ends-apart : get_or c.ends (g + 1) 0 ≡ get_or c.ends g 0 + length (ranges_at z groups rows g)
    ends-apart =
        omega (
          arith,
          k.ends_at g (omega arith),
          k.ends_at (g + 1) (omega arith),
          ap (λ m. length (ranges_to z groups rows m)) (add-one g),
          ap length (to-next z groups rows g),
          length-append (ranges_to z groups rows g) (ranges_at z groups rows g),
        )

    pub ends_rise : get_or c.ends g 0 ≤ get_or c.ends (g + 1) 0
    ends_rise = omega (arith, ends-apart)

    pub ends_few : get_or c.ends (g + 1) 0 ≤ 1024
    ends_few = k.few (g + 1) (omega arith)

    pub ends_count : get_or c.ends (g + 1) 0 - get_or c.ends g 0 ≡ length (ranges_at z groups rows g)
    ends_count = omega (arith, ends-apart)

    pub ranges_there : part (3 * get_or c.ends g 0) (3 * (get_or c.ends (g + 1) 0 - get_or c.ends g 0)) table ≡ flat words (ranges_at z groups rows g)
    ranges_there =
        let e = get_or c.ends g 0 in
        let f = get_or c.ends (g + 1) 0 in
        let q : 3 * e + 3 * (f - e) ≡ 3 * f = omega (arith, ends_rise) in
        behind table (flat words (ranges_to z groups rows g)) (flat words (ranges_at z groups rows g)) (3 * e) (3 * (f - e))
        (omega (arith, words-length (ranges_to z groups rows g), k.ends_at g (omega arith))) (stored-to g (omega arith))
        (ap (λ m. take m table) q ∙ stored-to (g + 1) (omega arith)
        ∙ rw (add-one g, to-next z groups rows g) (flat_append words (ranges_to z groups rows g) (ranges_at z groups rows g)))

pub covers-counted : (z : Counts) (groups : Groups) (rows table : List ℕ) (c : Covers) → CoversAt z groups rows table c → CoversCounted z groups rows c
covers-counted z groups rows table c k = record {
  ends_rise = λ g h. ends_rise z groups rows table c k g h;
  ends_count = λ g h. ends_count z groups rows table c k g h;
  ends_few = λ g h. ends_few z groups rows table c k g h;
  rises_where = k.rises_where;
}
