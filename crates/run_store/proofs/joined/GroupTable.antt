-- The table of groups with a file more, and the labels of its rows.
use mathlib.Core.Path.{◌≡◌, refl, sym, ◌∙◌, ap}
use mathlib.Core.Bool.{Bool, true, false, cond}
use mathlib.Core.List.{List, [], ◌∷◌, ◌++◌}
use mathlib.Core.Option.{none, some}
use mathlib.Core.Logic.{◌⊎◌, inl, inr}
use Prim.Native.Nat.{ℕ, zero, suc, ◌<◌, ◌+◌}
use native.Mathlib.Nat.{add-zero, zero-add}
use native.Mathlib.Numerals.{add-one}
use native.Mathlib.Omega.{arith}
use lib.Dec.{eqb}
use lib.ListN.{length, get_or}
use lib.Seq.{get_or-set_same, get_or-set_other}
use borrow.Author.Tests.{eq-eqb, ne_eqb}
use Rattle.lists.specs.Lists.{up_from}
use Rattle.lists.proofs.Filters.{each_below}
use Rattle.lists.proofs.Flat.{map-ext, map-up_from-snoc, length-map-up_from}
use Rattle.archive.specs.Parse.{depth_read}
use Rattle.cleaning.specs.Archive.{join_depth}
use Rattle.cleaning.specs.Sheet.{Facts}
use Rattle.cleaning.specs.Held
use Rattle.cleaning.specs.Held.{join_facts}
use Rattle.run_state.specs.declared.Groups.{Groups}
use Rattle.run_state.specs.View.{flagged, listed, has_cover, facts_at}
use Rattle.run_store.specs.grow.Column.{bit}
use Rattle.run_store.specs.parts.Grown.{smaller, greater, groups_new, groups_joined, groups_with}
use Rattle.run_store.proofs.joined.Grows.{listed-grown, flag-back}

-- ── facts in a list ──────────────────────────────────────────────────────────────────────────

facts-new : (xs : List Facts) (n : ℕ) (h : Facts) → length xs ≡ n → Held.facts_at n xs h ≡ xs ++ (h ∷ [])
unfolding Held.facts_at
facts-new [] zero h e = refl
facts-new [] (suc n) h e = absurd (omega arith)
facts-new (x ∷ xs) zero h e = absurd (omega arith)
facts-new (x ∷ xs) (suc n) h e = ap (λ r. x ∷ r) (facts-new xs n h (omega arith))

facts-last : (xs : List Facts) (x : Facts) (n : ℕ) (h : Facts) → length xs ≡ n → Held.facts_at n (xs ++ (x ∷ [])) h ≡ xs ++ (join_facts x h ∷ [])
unfolding Held.facts_at
facts-last [] x zero h e = refl
facts-last [] x (suc n) h e = absurd (omega arith)
facts-last (y ∷ xs) x zero h e = absurd (omega arith)
facts-last (y ∷ xs) x (suc n) h e = ap (λ r. y ∷ r) (facts-last xs x n h (omega arith))

-- ── a group more, or the last one again ──────────────────────────────────────────────────────

pub record Table (g : Groups) (n : ℕ) : Type 0 where
  pub known : n < length g.known
  pub least : n < length g.least
  pub greatest : n < length g.greatest
  pub covers : n < length g.covered

module _ (g : Groups) (n flag least greatest : ℕ) (covered : Bool) (t : Table g n) where
  abbrev facts : Facts
  facts = record { depth = depth_read flag least greatest; covered = covered }

  new-before : (i : ℕ) → i < n → facts_at (groups_new g n flag least greatest covered) i ≡ facts_at g i
  unfolding facts_at groups_new
  new-before i h =
      let z : i ≡ n → ⊥ = λ e. omega arith in
      rw (
        get_or-set_other g.known n i (bit (eqb flag 1)) 0 z,
        get_or-set_other g.least n i least 0 z,
        get_or-set_other g.greatest n i greatest 0 z,
        get_or-set_other g.covered n i (bit covered) 0 z,
      )

  new-here : facts_at (groups_new g n flag least greatest covered) n ≡ facts
  unfolding facts_at groups_new
  new-here =
      rw (
        get_or-set_same g.known n (bit (eqb flag 1)) 0 t.known,
        get_or-set_same g.least n least 0 t.least,
        get_or-set_same g.greatest n greatest 0 t.greatest,
        get_or-set_same g.covered n (bit covered) 0 t.covers,
        flag-back (eqb flag 1),
        flag-back covered,
      )

  joined-before : (i : ℕ) → i < n → facts_at (groups_joined g n flag least greatest) i ≡ facts_at g i
  unfolding facts_at groups_joined
  joined-before i h =
      let z : i ≡ n → ⊥ = λ e. omega arith in
      rw (
        get_or-set_other g.known n i (cond (eqb flag 1) (get_or g.known n 0) 0) 0 z,
        get_or-set_other g.least n i (smaller (get_or g.least n 0) least) 0 z,
        get_or-set_other g.greatest n i (greater (get_or g.greatest n 0) greatest) 0 z,
      )

  depth-joined : (a b : Bool) (k : ℕ) → flagged k ≡ b → cond (flagged (cond a k 0))
      (some (record { least = smaller (get_or g.least n 0) least; greatest = greater (get_or g.greatest n 0) greatest })) none
      ≡ join_depth (cond b (some (record { least = get_or g.least n 0; greatest = get_or g.greatest n 0 })) none) (cond a (some (record { least = least; greatest = greatest })) none)
  depth-joined true true k e = rw e
  depth-joined true false k e = rw e
  depth-joined false true k e = refl
  depth-joined false false k e = refl

  joined-here : facts_at (groups_joined g n flag least greatest) n ≡ join_facts (facts_at g n) facts
  unfolding facts_at groups_joined
  joined-here =
      rw (
        get_or-set_same g.known n (cond (eqb flag 1) (get_or g.known n 0) 0) 0 t.known,
        get_or-set_same g.least n (smaller (get_or g.least n 0) least) 0 t.least,
        get_or-set_same g.greatest n (greater (get_or g.greatest n 0) greatest) 0 t.greatest,
      )
      (ap (λ d. record { depth = d; covered = has_cover g n }) (depth-joined (eqb flag 1) (flagged (get_or g.known n 0)) (get_or g.known n 0) refl))

  pub new-listed : n ≡ g.count → listed (facts_at (groups_new g n flag least greatest covered)) (g.count + 1) ≡ Held.facts_at n (listed (facts_at g) g.count) facts
  unfolding groups_new facts_at
  new-listed e =
      rw (← e) (listed-grown (facts_at (groups_new g n flag least greatest covered)) (facts_at g) n (facts ∷ []) facts new-before at
      ∙ sym (facts-new (listed (facts_at g) n) n facts (length-map-up_from (facts_at g) 0 n)))
    where
      at : (j : ℕ) → j < 1 → facts_at (groups_new g n flag least greatest covered) (n + j) ≡ get_or (facts ∷ []) j facts
      at zero h = rw (add-zero n) new-here
      at (suc j) h = absurd (omega arith)

  pub joined-listed : n + 1 ≡ g.count → listed (facts_at (groups_joined g n flag least greatest)) g.count ≡ Held.facts_at n (listed (facts_at g) g.count) facts
  unfolding groups_joined facts_at
  joined-listed e =
      rw (← e, add-one n)
      (map-up_from-snoc (facts_at (groups_joined g n flag least greatest)) 0 n
      ∙ ap (λ r. r ++ (facts_at (groups_joined g n flag least greatest) (0 + n) ∷ []))
      (map-ext _ _ (up_from 0 n) (each_below (λ i. facts_at (groups_joined g n flag least greatest) i ≡ facts_at g i) n joined-before))
      ∙ ap (λ x. listed (facts_at g) n ++ (x ∷ [])) (ap (facts_at (groups_joined g n flag least greatest)) (zero-add n) ∙ joined-here)
      ∙ sym (facts-last (listed (facts_at g) n) (facts_at g n) n facts (length-map-up_from (facts_at g) 0 n))
      ∙ ap (λ r. Held.facts_at n r facts) (ap (λ x. listed (facts_at g) n ++ (x ∷ [])) (ap (facts_at g) (sym (zero-add n))) ∙ sym (map-up_from-snoc (facts_at g) 0 n)))

  -- the table is the list of facts with those of the file joined
  pub groups-grown : (n ≡ g.count) ⊎ (n + 1 ≡ g.count)
      → listed (facts_at (groups_with g n flag least greatest covered)) (groups_with g n flag least greatest covered).count ≡ Held.facts_at n (listed (facts_at g) g.count) facts
  unfolding groups_with groups_new groups_joined
  groups-grown (inl e) = rw (eq-eqb n g.count e) (new-listed e)
  groups-grown (inr e) = rw (ne_eqb n g.count (λ f. omega arith)) (joined-listed e)

  -- groups that were there keep their covers
  pub covers-stay : (k : ℕ) → (n ≡ g.count) ⊎ (n + 1 ≡ g.count) → k < g.count → has_cover (groups_with g n flag least greatest covered) k ≡ has_cover g k
  unfolding groups_with groups_new groups_joined
  covers-stay k (inl e) h = rw (eq-eqb n g.count e, get_or-set_other g.covered n k (bit covered) 0 (λ f. omega arith))
  covers-stay k (inr e) h = rw (ne_eqb n g.count (λ f. omega arith))

  pub cover-here : (n ≡ g.count) ⊎ (n + 1 ≡ g.count) → (n < g.count → has_cover g n ≡ covered) → has_cover (groups_with g n flag least greatest covered) n ≡ covered
  unfolding groups_with groups_new groups_joined
  cover-here (inl e) h = rw (eq-eqb n g.count e, get_or-set_same g.covered n (bit covered) 0 t.covers) (flag-back covered)
  cover-here (inr e) h = rw (ne_eqb n g.count (λ f. omega arith)) (h (omega arith))
