-- The rows of a cleaned archive are its events that are not erased: what holds of all events' bodies holds of the rows', in the same order.
use mathlib.Core.Path.{◌≡◌, refl, ap, ap₂, sym, ◌∙◌}
use mathlib.Core.Bool.{Bool, true, false, cond, ◌&&◌, ◌||◌, not, false≢true}
use mathlib.Core.List.{List, [], ◌∷◌, map, map-map, Memᴰ}
use mathlib.Core.Logic.{◌⊎◌, inl, inr}
use Prim.Native.Nat.{ℕ, suc, ◌-◌, ◌≤◌, ◌<◌}
use native.Mathlib.Omega.{arith}
use native.Mathlib.Nat.{zero-add}
use lib.Dec.{leb, eqb}
use lib.ListN.{length, get_or}
use borrow.Author.Tests.{leb-true, eqb-true}
use Rattle.columns.specs.Limits.{Served}
use Rattle.lists.specs.Lists.{any, filter, sum, up_from, Each}
use Rattle.lists.specs.Order.{level_above, not_falling}
use Rattle.lists.proofs.Tests.{tested, both, all-each}
use Rattle.lists.proofs.Each.{each-imp, each_map, each-get_or}
use Rattle.lists.proofs.Flat.{map-ext, length-up_from, get_or-up_from}
use Rattle.cleaning.specs.Archive.{Body, Event, Archive, blank, at}
use Rattle.cleaning.specs.Cleaning.{survivors_from, survivors}
use Rattle.cleaning.specs.Summary.{kept_by, summary}
use Rattle.cleaning.specs.Resolving.{survives_in, groups_survive}
use Rattle.lists.proofs.Filters.{each-filter}
use Rattle.lists.proofs.Sums.{sum-map, sum-filter}
use Rattle.lists.proofs.Rising.{level-lower}
use Rattle.cleaning.proofs.Survivors.{Survives, get_or-past, survive-from}

-- the events that are not erased
unfoldable pub kept_events : List Event → List Event
kept_events es = filter (λ e. not e.erased) es

kept_from : (n : ℕ) (es : List Event) → map (λ p. get_or es (p - n) blank) (survivors_from n es) ≡ kept_events es
unfolding survivors_from kept_events filter
kept_from n [] = refl
kept_from n (e ∷ es) =
    go e.erased
    (map-ext f (λ p. get_or es (p - suc n) blank) ps
    (each-imp (Survives (suc n) es) (λ p. f p ≡ get_or es (p - suc n) blank) ps (λ p s. get_or-past n e es p s.0.0) (survive-from (suc n) es))
    ∙ kept_from (suc n) es)
  where
    f : ℕ → Event
    f p = get_or (e ∷ es) (p - n) blank

    ps : List ℕ
    ps = survivors_from (suc n) es

    go : (b : Bool) → map f ps ≡ kept_events es → map f (cond b ps (n ∷ ps)) ≡ cond (not b) (e ∷ kept_events es) (kept_events es)
    go true h = h
    go false h = ap₂ (λ x xs. x ∷ xs) (ap (λ i. get_or (e ∷ es) i blank) {x = n - n} {y = 0} (omega arith)) h

pub kept-events : (A : Archive) → map (at A) (survivors A) ≡ kept_events A.events
unfolding survivors at
kept-events A = kept_from A.start A.events

-- ── bodies ───────────────────────────────────────────────────────────────────────────────────

module _ (K : ℕ) (served : Served K) {B : Type 0} (A : Archive) (f : Body → B) where
  pub map_rows : map (λ r. f r.body) (summary K A).rows ≡ map (λ e. f e.body) (kept_events A.events)
  unfolding summary kept_by
  map_rows =
      map-map (λ r. f r.body) (kept_by K A) (survivors A) ∙ sym (map-map (λ e. f e.body) (at A) (survivors A))
      ∙ ap (map (λ e. f e.body)) (kept-events A)

each-of-map : {A B : Type 0} (P : B → Type 0) (f : A → B) (xs : List A) → Each P (map f xs) → Each (λ x. P (f x)) xs
each-of-map P f [] h = tt
each-of-map P f (x ∷ xs) h = (h.0, each-of-map P f xs h.1)

-- what each event's body has, each row's has
pub each_row : (K : ℕ) (served : Served K) (A : Archive) (P : Body → Type 0) → Each (λ e. P e.body) A.events → Each (λ r. P r.body) (summary K A).rows
unfolding kept_events
each_row K served A P h =
    each-of-map P (λ r. r.body) (summary K A).rows
    (rw (map_rows K served A (λ b. b)) (each_map P (λ e. e.body) (kept_events A.events) (each-filter (λ e. not e.erased) (λ e. P e.body) A.events h)))

-- a figure of the rows' bodies sums to no more than that of all events' bodies
pub sum_rows : (K : ℕ) (served : Served K) (A : Archive) (f : Body → ℕ) → sum (λ r. f r.body) (summary K A).rows ≤ sum (λ e. f e.body) A.events
unfolding kept_events
sum_rows K served A f =
    let e = ap (sum (λ n. n)) (map_rows K served A f) in
    omega (
      arith,
      sum-map (λ n. n) (λ r. f r.body) (summary K A).rows,
      sum-map (λ n. n) (λ e. f e.body) (kept_events A.events),
      sum-filter (λ e. f e.body) (λ e. not e.erased) A.events,
    )

-- ── groups of rows ───────────────────────────────────────────────────────────────────────────

abbrev pub group_number : Event → ℕ
group_number e = e.body.group

level-kept : (low : ℕ) (es : List Event) → level_above low (map group_number es) ≡ true → level_above low (map group_number (kept_events es)) ≡ true
unfolding level_above kept_events filter
level-kept low [] h = refl
level-kept low (e ∷ es) h =
    let p = both (leb low (group_number e)) (level_above (group_number e) (map group_number es)) h in
    go (not e.erased) (rw p.0 (level-kept (group_number e) es p.1))
    (level-kept low es (level-lower low (group_number e) (map group_number es) (leb-true low (group_number e) p.0) p.1))
  where
    go : (b : Bool) → level_above low (map group_number (e ∷ kept_events es)) ≡ true → level_above low (map group_number (kept_events es)) ≡ true
        → level_above low (map group_number (cond b (e ∷ kept_events es) (kept_events es))) ≡ true
    go true h g = h
    go false h g = g

pub rows-level : (K : ℕ) (served : Served K) (A : Archive) → not_falling (map group_number A.events) ≡ true → not_falling (map (λ r. r.body.group) (summary K A).rows) ≡ true
unfolding not_falling
rows-level K served A h = rw (map_rows K served A (λ b. b.group)) (level-kept 0 A.events h)

survivor-kept : (g : ℕ) (es : List Event) → any (survives_in g) es ≡ true → Memᴰ g (map group_number (kept_events es))
unfolding any survives_in kept_events filter
survivor-kept g [] h = absurd (false≢true h)
survivor-kept g (e ∷ es) h = go (not e.erased) (tested (eqb (group_number e) g)) h (survivor-kept g es)
  where
    go : (b : Bool) → (eqb (group_number e) g ≡ true) ⊎ (eqb (group_number e) g ≡ false) → ((b && eqb (group_number e) g) || any (survives_in g) es) ≡ true
        → (any (survives_in g) es ≡ true → Memᴰ g (map group_number (kept_events es)))
        → Memᴰ g (map group_number (cond b (e ∷ kept_events es) (kept_events es)))
    go true (inl t) h ih = Memᴰ.head (sym (eqb-true (group_number e) g t))
    go true (inr t) h ih = Memᴰ.tail (ih (rw t at h))
    go false t h ih = ih h

pub group-has-row : (K : ℕ) (served : Served K) (A : Archive) → groups_survive A ≡ true → (g : ℕ) → g < length A.groups → Memᴰ g (map (λ r. r.body.group) (summary K A).rows)
unfolding groups_survive
group-has-row K served A h g l =
    let n = length A.groups in
    let t = each-get_or (λ g. any (survives_in g) A.events ≡ true) (up_from 0 n) g 0
    (all-each (λ g. any (survives_in g) A.events) (up_from 0 n) h) (rw (length-up_from 0 n) l) in
    rw (map_rows K served A (λ b. b.group)) (survivor-kept g A.events (rw (get_or-up_from 0 n g 0 l, zero-add g) at t))
