-- The verdict of a walk or a shared ancestor from the verdict of the reading.
use Rattle.std.specs.Prelude.{Err, None, Ok, Result, Some}
use Rattle.std.specs.declared.option.Option as rust
use mathlib.Core.Path.{◌≡◌, sym, ◌∙◌, ap, subst}
use mathlib.Core.Logic.{inl, inr}
use mathlib.Core.List.{List, [], ◌++◌}
use mathlib.Core.Option.{none, some}
use Prim.Native.Nat.{ℕ, ◌≤◌, min}
use native.Mathlib.Omega.{arith}
use lib.Dec.{ltb}
use lib.ListN.{length, take, drop}
use borrow.Author.Tests.{lt-ltb, le-ltb, ltb-true, ltb-false}
use Rattle.lists.specs.Lists.{any, joined, sum}
use Rattle.lists.proofs.Tests.{tested}
use Rattle.columns.specs.Refusal.{refused, accepted, unless, short, limits}
use Rattle.columns.specs.EdgeSet.{EdgeSet, cut}
use Rattle.columns.specs.Reading.{slots_of, decode_set}
use Rattle.columns.specs.Questions.{list_of}
use Rattle.columns.specs.Walk.{walked, levels}
use Rattle.columns.specs.Walk as definition
use Rattle.columns.specs.Answers.{room, lent_rules, in_one, counted_of, written_in, written_over}
use Rattle.columns.specs.declared.refusal.Refusal.{Refusal}
use Rattle.columns_levels.specs.frontier.Frontier.{parents_in}
use Rattle.columns_levels.specs.rounds.Rounds.{ends_from}
use Rattle.columns_levels.specs.rounds.Closure.{Answer}
use Rattle.columns_walk.specs.Handing.{rooms, handed_of, numbers_of, ends_of, Promised}
use Rattle.columns_levels.proofs.targets.Verdicts.{same-alone, was_read, was-refused, whole, parents-are, parents-fun}

-- ── limits ───────────────────────────────────────────────────────────────────────────────────

-- the least of two rooms and of what is needed is short where one of the rooms is
same-short : (n a b : ℕ) → n ≡ min (min a b) 4096 → any short (room n) ≡ any short (rooms a b)
unfolding any short
same-short n a b e = elim (tested (ltb a 4096)) [
  | inl f ↦ rw (lt-ltb n 4096 (omega (arith, ltb-true a 4096 f)), f)
  | inr f ↦ elim (tested (ltb b 4096)) [
    | inl g ↦ rw (lt-ltb n 4096 (omega (arith, ltb-true b 4096 g)), f, g)
    | inr g ↦ rw (le-ltb n 4096 (omega (arith, ltb-false a 4096 f, ltb-false b 4096 g)), f, g)
  ]
]

pub same-rules : (K n a b first rows end : ℕ) (s : EdgeSet) → n ≡ min (min a b) 4096 → lent_rules K 0 first rows end s (room n) ≡ lent_rules K 0 first rows end s (rooms a b)
unfolding lent_rules limits
same-rules K n a b first rows end s e = rw (same-short n a b e)

-- ── the walk ─────────────────────────────────────────────────────────────────────────────────

module _ (K n a b first rows end : ℕ) (s : EdgeSet) (kind limit start : ℕ) (r : Result ℕ Refusal) (e : r ≡ counted_of (in_one (decode_set K 0 first rows end s (room n)))) (q : ℕ)
    (mq : q ≡ min a b) (mm : n ≡ min q 4096) where
  m : n ≡ min (min a b) 4096
  m = mm ∙ ap (λ (j : ℕ). min j 4096) mq

  refused-walk : (why : Refusal) → r ≡ Err why → definition.walk K first rows end s kind limit start (rooms a b) ≡ refused why
  unfolding definition.walk lent_rules unless
  refused-walk why f = rw (sym (same-rules K n a b first rows end s m) ∙ was-refused K n first rows end s r e why f)

  pub walk_refused : (why : Refusal) → r ≡ Err why → Err why ≡ handed_of (definition.walk K first rows end s kind limit start (rooms a b))
  unfolding handed_of
  walk_refused why f = rw (refused-walk why f)

  pub walk-out : (why : Refusal) → r ≡ Err why → (out : List ℕ) → out ≡ written_over out (numbers_of (definition.walk K first rows end s kind limit start (rooms a b)))
  unfolding written_over numbers_of
  walk-out why f out = rw (refused-walk why f)

  pub walk_ends : (why : Refusal) → r ≡ Err why → (ends : List ℕ) → ends ≡ written_over ends (ends_of (definition.walk K first rows end s kind limit start (rooms a b)))
  unfolding written_over ends_of
  walk_ends why f ends = rw (refused-walk why f)

  module _ (k : ℕ) (f : r ≡ Ok k) where
    all-kept : lent_rules K 0 first rows end s (room n) ≡ none
    all-kept = was_read K n first rows end s r e k f

    pub room_out : 4096 ≤ a
    room_out = let w = whole K n first rows end s all-kept in let z = m in omega arith

    pub room-ends : 4096 ≤ b
    room-ends = let w = whole K n first rows end s all-kept in let z = m in omega arith

    module _ (l t : List ℕ) (g : t ≡ written_over (take n l) (in_one (decode_set K 0 first rows end s (room n))) ++ drop n l) (slot : ℕ) (ks : slot ≡ kind) (U : ℕ) (w : U ≡ K) where
      same-parents : levels (parents_in U first slot s.offsets t) limit start ≡ levels (list_of K first (slots_of K first s) kind) limit start
      same-parents = rw w (ap (λ (i : ℕ). levels (parents_in K first i s.offsets t) limit start) ks
          ∙ ap (λ (p : ℕ → List ℕ). levels p limit start) (parents-fun K first kind s.offsets t (slots_of K first s) (parents-are K n first rows end s all-kept l t g)))

      accepted-walk : definition.walk K first rows end s kind limit start (rooms a b) ≡ accepted (walked (levels (parents_in U first slot s.offsets t) limit start))
      unfolding definition.walk lent_rules unless
      accepted-walk = rw (sym (same-rules K n a b first rows end s m) ∙ all-kept, same-parents)

      pub walk-handed : (h : ℕ × ℕ) → h ≡ (length (levels (parents_in U first slot s.offsets t) limit start), sum length (levels (parents_in U first slot s.offsets t) limit start))
          → Ok h ≡ handed_of (definition.walk K first rows end s kind limit start (rooms a b))
      unfolding handed_of walked
      walk-handed h q = rw (accepted-walk, q)

      pub walk-numbers : (out out' : List ℕ) → out' ≡ written_in out (joined (levels (parents_in U first slot s.offsets t) limit start))
          → out' ≡ written_over out (numbers_of (definition.walk K first rows end s kind limit start (rooms a b)))
      unfolding written_over numbers_of walked
      walk-numbers out out' q = rw (accepted-walk, q)

      pub walk-stops : (ends ends' : List ℕ) → ends' ≡ written_in ends (ends_from 0 (levels (parents_in U first slot s.offsets t) limit start))
          → ends' ≡ written_over ends (ends_of (definition.walk K first rows end s kind limit start (rooms a b)))
      unfolding written_over ends_of walked
      walk-stops ends ends' q = rw (accepted-walk, q)

-- ── the shared ancestor ──────────────────────────────────────────────────────────────────────

module _ (K first rows end : ℕ) (s : EdgeSet) (kind a b : ℕ) (r : Result ℕ Refusal) (e : r ≡ counted_of (in_one (decode_set K 0 first rows end s (room 4096)))) where
  pub ancestor-refused : (why : Refusal) → r ≡ Err why → lent_rules K 0 first rows end s [] ≡ some why
  ancestor-refused why f = sym (same-alone K first rows end s) ∙ was-refused K 4096 first rows end s r e why f

  pub ancestor-found : (k : ℕ) → r ≡ Ok k → (l t : List ℕ) → t ≡ written_over (take 4096 l) (in_one (decode_set K 0 first rows end s (room 4096))) ++ drop 4096 l
      → (slot : ℕ) → slot ≡ kind → (U : ℕ) → U ≡ K → (o : rust.Option ℕ) → Answer o (parents_in U first slot s.offsets t) a b
      → Promised (Ok o) (lent_rules K 0 first rows end s []) (list_of K first (slots_of K first s) kind) a b
  ancestor-found k f l t g slot ks U w o x =
      let c = was_read K 4096 first rows end s r e k f in
      let d : lent_rules K 0 first rows end s [] ≡ none = sym (same-alone K first rows end s) ∙ c in
      let i : cut s.offsets t ≡ slots_of K first s = parents-are K 4096 first rows end s c l t g in
      go o d (subst (λ (p : ℕ → List ℕ). Answer o p a b) (rw w (ap (λ (u : ℕ). parents_in K first u s.offsets t) ks ∙ parents-fun K first kind s.offsets t (slots_of K first s) i)) x)
    where
      go : (o : rust.Option ℕ) → lent_rules K 0 first rows end s [] ≡ none → Answer o (list_of K first (slots_of K first s) kind) a b
          → Promised (Ok o) (lent_rules K 0 first rows end s []) (list_of K first (slots_of K first s) kind) a b
      go (Some x) d y = (d, y)
      go None d y = (d, y)
