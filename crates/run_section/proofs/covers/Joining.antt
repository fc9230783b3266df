-- The ranges of groups one after the other: those of one group more.
use mathlib.Core.Path.{◌≡◌, refl, ap, sym, ◌∙◌, subst}
use mathlib.Core.Bool.{Bool, false}
use mathlib.Core.Logic.{inl, inr}
use mathlib.Core.List.{List, [], ◌∷◌, ◌++◌, map, append-nil}
use Prim.Native.Nat.{ℕ, zero, suc, ◌+◌, ◌*◌, ◌≤◌, ◌<◌}
use native.Mathlib.Nat.{zero-add, eq-or-lt_of_le}
use native.Mathlib.Numerals.{add-one}
use native.Mathlib.Omega.{arith}
use mir.Val.{Fits}
use mir.Syntax.{w64}
use lib.ListN.{length, get_or, set, take, drop, length-append}
use lib.Seq.{get_or-set_same, get_or-set_other, length-take-le, take_at, sets-eq, length-sets}
use Rattle.lists.specs.Lists.{flat, joined, up_from}
use Rattle.lists.proofs.Tests.{tested}
use Rattle.lists.proofs.Slices.{take_none}
use Rattle.lists.proofs.Flat.{flat_append, joined-append, map-up_from-snoc}
use Rattle.lists.proofs.Cut.{length-blocks}
use Rattle.cover.specs.Chains.{Range}
use Rattle.archive.proofs.Back.{length-several}
use Rattle.cleaning.proofs.Places.{place-rises}
use Rattle.cleaning.proofs.OutputFigures.{ranges-few}
use Rattle.run_state.specs.declared.Groups.{Groups}
use Rattle.run_state.specs.View.{has_cover}
use Rattle.run_section.specs.declared.Counts.{Counts}
use Rattle.run_section.specs.declared.covers.Added.{Added}
use Rattle.run_section.specs.Tables.{keys}
use Rattle.run_section.specs.Covers.{label_here, labels_from, start_at, rows_at, labels_at, ranges_at, rises_at, ranges_to, words, laid, AddedTo, CoversTo}
use Rattle.run_section.proofs.Placing.{at_most}

pub words-length : (rs : List Range) → length (flat words rs) ≡ 3 * length rs
words-length rs = length-blocks words 3 (λ r. refl) rs

module _ (z : Counts) (groups : Groups) (rows : List ℕ) where
  pub to-next : (g : ℕ) → ranges_to z groups rows (suc g) ≡ ranges_to z groups rows g ++ ranges_at z groups rows g
  unfolding ranges_to joined
  to-next g =
      let r = ranges_at z groups rows in
      rw (map-up_from-snoc r 0 g, zero-add g, joined-append (map r (up_from 0 g)) (r g ∷ []), append-nil (r g))

  -- a group has no more ranges than rows
  at-few : (g : ℕ) → length (ranges_at z groups rows g) ≤ rows_at z rows g
  unfolding ranges_at labels_at labels_from
  at-few g = elim (tested (has_cover groups g)) [
    | inl e ↦ rw e (omega (arith, ranges-few (labels_at z rows g), length-several 4 label_here (rows_at z rows g) (drop (start_at z rows g * 4) rows)))
    | inr e ↦ rw e (omega arith)
  ]

  -- nor have groups
  pub to-few : (g : ℕ) → length (ranges_to z groups rows g) ≤ start_at z rows g
  unfolding ranges_to joined up_from
  to-few zero = omega arith
  to-few (suc g) =
      omega (
        arith,
        ap length (to-next g),
        length-append (ranges_to z groups rows g) (ranges_at z groups rows g),
        to-few g,
        at-few g,
        place-rises g (suc g) (keys 4 z.rows rows) (omega arith),
      )

  pub to-most : (g : ℕ) → z.rows ≤ 1024 → length (ranges_to z groups rows g) ≤ 1024
  to-most g h = omega (arith, to-few g, at_most 4 z.rows g rows)

-- ranges stored behind others
pub laid-front : (at : ℕ) (rs : List Range) (t front : List ℕ) → at + length rs ≤ 1024 → length t ≡ 3072 → take (3 * at) t ≡ front
    → take (3 * (at + length rs)) (laid at rs t) ≡ front ++ flat words rs
unfolding laid
laid-front at rs t front h l e =
    let w = words-length rs in
    let q : length (take (3 * at) t ++ flat words rs) ≡ 3 * (at + length rs) =
    omega (arith, length-append (take (3 * at) t) (flat words rs), length-take-le (3 * at) t (omega arith), w) in
    rw (
      sets-eq (flat words rs) t (3 * at) (omega arith),
      take_at (take (3 * at) t ++ flat words rs) (drop (3 * at + length (flat words rs)) t) (3 * (at + length rs)) q,
      e,
    )

-- ── one group more ───────────────────────────────────────────────────────────────────────────

module _ (z : Counts) (groups : Groups) (rows t ends : List ℕ) (rises : List Bool) (g : ℕ) (k : CoversTo z groups rows t g ends rises) (at : ℕ)
    (e : at ≡ get_or ends g 0) where
  pub end-place : at ≤ start_at z rows g
  end-place = omega (arith, k.ends_at g (omega arith), to-few z groups rows g)

  module _ (r : Added) (t' : List ℕ) (d : AddedTo (ranges_at z groups rows g) (rises_at z groups rows g) t t' at r) (few : z.rows ≤ 1024) where
    end-next : at + r.count ≡ length (ranges_to z groups rows (suc g))
    end-next =
        omega (
          arith,
          k.ends_at g (omega arith),
          d.count_is,
          ap length (to-next z groups rows g),
          length-append (ranges_to z groups rows g) (ranges_at z groups rows g),
        )

    pub end_fits : Fits w64 (at + r.count)
    end_fits = record { fits = omega (arith, end-next, to-most z groups rows (suc g) few) }

    pub same-room : length t ≡ 3072 → length t' ≡ 3072
    unfolding laid
    same-room l = ap length d.table_is ∙ length-sets t (3 * at) (flat words (ranges_at z groups rows g)) ∙ l

    stored_next : length t ≡ 3072 → take (3 * (at + r.count)) t' ≡ flat words (ranges_to z groups rows (suc g))
    stored_next l =
        let rs = ranges_at z groups rows g in
        rw (
          d.table_is,
          d.count_is,
          laid-front at rs t (flat words (ranges_to z groups rows g)) (omega (arith, end-next, d.count_is, to-most z groups rows (suc g) few)) l
              (rw e k.stored),
          to-next z groups rows g,
        ) (sym (flat_append words (ranges_to z groups rows g) rs))

    ends_next : length ends ≡ 17 → g < 16 → (j : ℕ) → j ≤ suc g → get_or (set ends (suc g) (at + r.count)) j 0 ≡ length (ranges_to z groups rows j)
    ends_next m h j p = elim (eq-or-lt_of_le p) [
      | inl o ↦ rw o (get_or-set_same ends (suc g) (at + r.count) 0 (omega arith) ∙ end-next)
      | inr q ↦ get_or-set_other ends (suc g) j (at + r.count) 0 (λ o. omega arith) ∙ k.ends_at j (omega arith)
    ]

    rises_next : length rises ≡ 16 → g < 16 → (j : ℕ) → j < suc g → get_or (set rises g r.rises) j false ≡ rises_at z groups rows j
    rises_next n h j p = let w : j ≤ g = omega arith in elim (eq-or-lt_of_le w) [
      | inl o ↦ rw o (get_or-set_same rises g r.rises false (omega arith) ∙ d.rises_is)
      | inr q ↦ get_or-set_other rises g j r.rises false (λ o. omega arith) ∙ k.rises_where j q
    ]

    pub covers-turn : length t ≡ 3072 → length ends ≡ 17 → length rises ≡ 16 → g < groups.count → groups.count ≤ 16
        → CoversTo z groups rows t' (g + 1) (set ends (g + 1) (at + r.count)) (set rises g r.rises)
    covers-turn l m n h i = rw (add-one g) (record {
      ends_at = ends_next m (omega arith);
      stored = rw (get_or-set_same ends (suc g) (at + r.count) 0 (omega arith)) (stored_next l);
      rises_where = rises_next n (omega arith);
      few = λ j p. omega (arith, ends_next m (omega arith) j p, to-most z groups rows j few);
    })

pub covers-none : (z : Counts) (groups : Groups) (rows t ends : List ℕ) (rises : List Bool) → get_or ends 0 0 ≡ 0 → CoversTo z groups rows t 0 ends rises
unfolding ranges_to joined up_from
covers-none z groups rows t ends rises e = record {
  ends_at = λ j p. let o : j ≡ 0 = omega arith in rw (o, e);
  stored = rw (e, take_none t);
  rises_where = λ j p. absurd (omega arith);
  few = λ j p. let o : j ≡ 0 = omega arith in rw (o, e) (omega arith);
}

pub covers-all : (z : Counts) (groups : Groups) (rows t ends : List ℕ) (rises : List Bool) (g : ℕ) → g ≤ groups.count → groups.count ≤ g
    → CoversTo z groups rows t g ends rises → CoversTo z groups rows t groups.count ends rises
covers-all z groups rows t ends rises g h i k = subst (λ n. CoversTo z groups rows t n ends rises) {x = g} {y = groups.count} (omega arith) k
