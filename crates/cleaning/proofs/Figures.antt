-- All events of sources that follow one another: how many they and their references are, where their numbers end, and that their groups do not fall.
use mathlib.Core.Path.{◌≡◌, refl}
use mathlib.Core.Bool.{true, cond}
use mathlib.Core.List.{List, [], ◌∷◌, ◌++◌, map}
use mathlib.Core.Logic.{inl, inr}
use mathlib.Core.Option.{Option, none, some}
use Prim.Native.Nat.{ℕ, zero, suc, ◌+◌, ◌≤◌, ◌<◌}
use native.Mathlib.Omega.{arith}
use lib.Dec.{eqb}
use lib.ListN.{length, length-append, length-map}
use borrow.Author.Tests.{le-leb, eqb-true, ne_eqb}
use Rattle.lists.specs.Lists.{flat, filter, sum, up_from, Each}
use Rattle.lists.specs.Order.{level_above, not_falling}
use Rattle.lists.proofs.Tests.{tested}
use Rattle.lists.proofs.Each.{each_all}
use Rattle.lists.proofs.Flat.{length-flat}
use Rattle.columns.specs.Limits.{Served, end64}
use Rattle.archive.specs.File.{Row, Unresolved}
use Rattle.cleaning.specs.Source.{Source, end_of}
use Rattle.cleaning.specs.Archive.{Taken, Event, Reference, references_in, body_of, events_from, start_of}
use Rattle.lists.proofs.Sums.{sum-ext, sum-le, sum_both, sum-flat}
use Rattle.lists.proofs.Rising.{level-lower}
use Rattle.cleaning.proofs.Taken.{FollowsLast, Followed}
use Rattle.cleaning.proofs.Events.{events_in, length-events_in}
use Rattle.cleaning.proofs.Kept.{group_number}

module _ (K : ℕ) (served : Served K) (t : Taken) where
  -- ── how many events ──────────────────────────────────────────────────────────────────────────

  pub length-events : (ss : List Source) → length (flat (events_in K t) ss) ≡ sum (λ s. length s.rows) ss
  length-events ss = rw (length-flat (events_in K t) ss)
      (sum-ext (λ s. length (events_in K t s)) (λ s. length s.rows) ss (each_all (λ s. length (events_in K t s) ≡ length s.rows) (length-events_in K t) ss))

  ends-after : (before : Source) (ss : List Source) → Followed K (some before) ss → end_of before < end64 → end_of before + length (flat (events_in K t) ss) < end64
  ends-after before [] f l = omega arith
  ends-after before (s ∷ ss) f l =
      omega (arith, ends-after s ss f.2 f.0.numbers, f.1.first, length-append (events_in K t s) (flat (events_in K t) ss), length-events_in K t s)

  pub ends-before : (ss : List Source) → Followed K none ss → start_of ss + length (flat (events_in K t) ss) < end64
  ends-before [] f = omega arith
  ends-before (s ∷ ss) f =
      omega (arith, ends-after s ss f.2 f.0.numbers, length-append (events_in K t s) (flat (events_in K t) ss), length-events_in K t s)

  -- ── groups do not fall ───────────────────────────────────────────────────────────────────────

  -- events of one group before others of that group or above it
  level-block : (g low : ℕ) (es fs : List Event) → Each (λ e. group_number e ≡ g) es → low ≤ g → level_above g (map group_number fs) ≡ true
      → level_above low (map group_number (es ++ fs)) ≡ true
  unfolding level_above
  level-block g low [] fs h l a = level-lower low g (map group_number fs) l a
  level-block g low (e ∷ es) fs h l a = rw (h.0, le-leb low g l) (level-block g g es fs h.1 (omega arith) a)

  of-group : (s : Source) (i : ℕ) (rows : List Row) → Each (λ e. group_number e ≡ s.group) (events_from K t s i rows)
  unfolding events_from body_of
  of-group s i [] = tt
  of-group s i (row ∷ rows) = (refl, of-group s (suc i) rows)

  groups-from : (low : ℕ) (before : Option Source) (ss : List Source) → ((s : Source) → FollowsLast before s → low ≤ s.group) → Followed K before ss
      → level_above low (map group_number (flat (events_in K t) ss)) ≡ true
  unfolding level_above
  groups-from low before [] b f = refl
  groups-from low before (s ∷ ss) b f =
      level-block s.group low (events_in K t s) (flat (events_in K t) ss) (of-group s 0 s.rows) (b s f.1)
      (groups-from s.group (some s) ss (λ r g. elim g.group [ inl e ↦ omega arith | inr e ↦ omega arith ]) f.2)

  pub groups-level : (ss : List Source) → Followed K none ss → not_falling (map group_number (flat (events_in K t) ss)) ≡ true
  unfolding not_falling
  groups-level ss f = groups-from 0 none ss (λ s g. omega arith) f

-- ── how many references ──────────────────────────────────────────────────────────────────────

abbrev records_of : List Unresolved → ℕ → ℕ
records_of us n = length (filter (λ u. eqb u.child n) us)

abbrev is_child : ℕ → ℕ → ℕ
is_child c n = cond (eqb c n) 1 0

-- a number is among the numbers from a on at most once
no-child : (c a m : ℕ) → c < a → sum (is_child c) (up_from a m) ≡ 0
unfolding sum up_from
no-child c a zero l = refl
no-child c a (suc m) l = rw (ne_eqb c a (omega arith)) (omega (arith, no-child c (suc a) m (omega arith)))

one-child : (c a m : ℕ) → sum (is_child c) (up_from a m) ≤ 1
unfolding sum up_from
one-child c a zero = omega arith
one-child c a (suc m) = elim (tested (eqb c a)) [
  | inl e ↦ rw e (omega (arith, no-child c (suc a) m (omega (arith, eqb-true c a e))))
  | inr e ↦ rw e (omega (arith, one-child c (suc a) m))
]

records-cons : (u : Unresolved) (us : List Unresolved) (n : ℕ) → records_of (u ∷ us) n ≡ is_child u.child n + records_of us n
unfolding filter
records-cons u us n = elim (tested (eqb u.child n)) [ inl e ↦ rw e (omega arith) | inr e ↦ rw e (omega arith) ]

no-records : (ns : List ℕ) → sum (records_of []) ns ≡ 0
unfolding sum filter
no-records [] = refl
no-records (n ∷ ns) = omega (arith, no-records ns)

few-records : (us : List Unresolved) (ns : List ℕ) → ((c : ℕ) → sum (is_child c) ns ≤ 1) → sum (records_of us) ns ≤ length us
few-records [] ns h = omega (arith, no-records ns)
few-records (u ∷ us) ns h =
    omega (
      arith,
      sum-ext (records_of (u ∷ us)) (λ n. is_child u.child n + records_of us n) ns
          (each_all (λ n. records_of (u ∷ us) n ≡ is_child u.child n + records_of us n) (records-cons u us) ns),
      sum_both (is_child u.child) (records_of us) ns,
      h u.child,
      few-records us ns h,
    )

length-references : (us : List Unresolved) (n : ℕ) → length (references_in us n) ≡ records_of us n
unfolding references_in
length-references us n = length-map {B = Reference} (filter (λ u. eqb u.child n) us) (λ u. record { kind = u.kind; handle = u.handle })

references-from : (K : ℕ) (served : Served K) (t : Taken) (s : Source) (i : ℕ) (rows : List Row)
    → sum (λ e. length e.body.unresolved) (events_from K t s i rows) ≡ sum (records_of s.unresolved) (up_from (s.first + i) (length rows))
unfolding sum up_from events_from body_of
references-from K served t s i [] = refl
references-from K served t s i (row ∷ rows) =
    let n : s.first + suc i ≡ suc (s.first + i) = omega arith in
    rw (length-references s.unresolved (s.first + i), references-from K served t s (suc i) rows, n)

pub few-references : (K : ℕ) (served : Served K) (t : Taken) (ss : List Source) → sum (λ e. length e.body.unresolved) (flat (events_in K t) ss) ≤ sum (λ s. length s.unresolved) ss
few-references K served t ss =
    rw (sum-flat (λ e. length e.body.unresolved) (events_in K t) ss)
    (sum-le (λ s. sum (λ e. length e.body.unresolved) (events_in K t s)) (λ s. length s.unresolved) ss
    (each_all (λ s. sum (λ e. length e.body.unresolved) (events_in K t s) ≤ length s.unresolved)
    (λ s. rw (references-from K served t s 0 s.rows)
    (few-records s.unresolved (up_from (s.first + 0) (length s.rows)) (λ c. one-child c (s.first + 0) (length s.rows)))) ss))
