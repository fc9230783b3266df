-- The verdict of a step from the verdict of the reading, and the limits of the two lists.
use Rattle.std.specs.Prelude.{Err, Ok, Result}
use mathlib.Core.Path.{◌≡◌, sym, ◌∙◌, ap}
use mathlib.Core.Bool.{Bool, true, false, ◌||◌, or-true, or-false}
use mathlib.Core.Logic.{inl, inr}
use mathlib.Core.List.{List, [], ◌∷◌, ◌++◌}
use mathlib.Core.Option.{none, some}
use Prim.Native.Nat.{ℕ, ◌≤◌, ◌<◌, min}
use native.Mathlib.Omega.{arith}
use lib.Dec.{ltb}
use lib.ListN.{length, take, drop}
use borrow.Author.Tests.{lt-ltb, le-ltb, ltb-true, ltb-false}
use Rattle.lists.specs.Lists.{any}
use Rattle.lists.proofs.Tests.{tested, any_append}
use Rattle.lists.proofs.Once.{or-is-false}
use Rattle.columns.specs.Limits.{max_records, max_numbers}
use Rattle.columns.specs.Refusal.{refused, accepted, unless, refuse, first_of, short, limits}
use Rattle.columns.specs.EdgeSet.{EdgeSet}
use Rattle.columns.specs.Reading.{set_rules, slots_of, set_lengths, decode_set}
use Rattle.columns.specs.Questions.{list_of}
use Rattle.columns.specs.Walk.{level}
use Rattle.columns.specs.Answers.{room, limits_of, lent_rules, in_one, counted_of, written_in, written_over}
use Rattle.columns.specs.declared.refusal.Refusal.{Refusal}
use Rattle.columns.specs.declared.refusal.Refusal.TheVariants.{SliceShort, OverRecords, OverNumbers}
use Rattle.columns_levels.specs.frontier.Frontier.{parents_in}
use Rattle.columns_levels.proofs.targets.Verdicts.{was_read, was-refused, whole, parents-are, parents-fun}
use Rattle.columns_walk.specs.level.Step.{next}

-- ── lists that are not too long ──────────────────────────────────────────────────────────────

same-short : (n a : ℕ) → n ≡ min a 4096 → any short (room a) ≡ any short (room n)
unfolding any short
same-short n a e = elim (tested (ltb a 4096)) [
  | inl f ↦ rw (lt-ltb n 4096 (omega (arith, ltb-true a 4096 f)), f)
  | inr f ↦ rw (le-ltb n 4096 (omega (arith, ltb-false a 4096 f)), f)
]

module _ (K first rows end : ℕ) (s : EdgeSet) (kind limit : ℕ) (visited frontier : List ℕ) (i : any (ltb max_numbers) (length visited ∷ length frontier ∷ []) ≡ false)
    (n a : ℕ) (m : n ≡ min a 4096) where
  no_longer : any (ltb max_numbers) (set_lengths s ++ (length visited ∷ length frontier ∷ [])) ≡ any (ltb max_numbers) (set_lengths s)
  no_longer = any_append (ltb max_numbers) (set_lengths s) (length visited ∷ length frontier ∷ []) ∙ rw i (or-false (any (ltb max_numbers) (set_lengths s)))

  as_read : next K first rows end s kind limit visited frontier (room a) ≡ unless (lent_rules K 0 first rows end s (room n)) (level (list_of K first (slots_of K first s) kind) limit visited frontier)
  unfolding next lent_rules limits
  as_read = rw (no_longer, same-short n a m)

  module _ (r : Result ℕ Refusal) (e : r ≡ counted_of (in_one (decode_set K 0 first rows end s (room n)))) where
    next-is-refused : (why : Refusal) → r ≡ Err why → next K first rows end s kind limit visited frontier (room a) ≡ refused why
    unfolding unless
    next-is-refused why f = as_read ∙ rw (was-refused K n first rows end s r e why f)

    pub next-refused : (why : Refusal) → r ≡ Err why → Err why ≡ counted_of (next K first rows end s kind limit visited frontier (room a))
    unfolding counted_of
    next-refused why f = rw (next-is-refused why f)

    pub next-kept : (why : Refusal) → r ≡ Err why → (out : List ℕ) → out ≡ written_over out (next K first rows end s kind limit visited frontier (room a))
    unfolding written_over
    next-kept why f out = rw (next-is-refused why f)

    module _ (k : ℕ) (f : r ≡ Ok k) where
      all-kept : lent_rules K 0 first rows end s (room n) ≡ none
      all-kept = was_read K n first rows end s r e k f

      pub room_out : 4096 ≤ a
      room_out = let w = whole K n first rows end s all-kept in omega arith

      module _ (l t : List ℕ) (g : t ≡ written_over (take n l) (in_one (decode_set K 0 first rows end s (room n))) ++ drop n l) (slot : ℕ) (ks : slot ≡ kind) (U : ℕ) (w : U ≡ K) where
        same-level : level (parents_in U first slot s.offsets t) limit visited frontier ≡ level (list_of K first (slots_of K first s) kind) limit visited frontier
        same-level =
            rw w (ap (λ (i : ℕ). level (parents_in K first i s.offsets t) limit visited frontier) ks
            ∙ ap (λ (p : ℕ → List ℕ). level p limit visited frontier) (parents-fun K first kind s.offsets t (slots_of K first s) (parents-are K n first rows end s all-kept l t g)))

        accepted-next : next K first rows end s kind limit visited frontier (room a) ≡ accepted (level (parents_in U first slot s.offsets t) limit visited frontier)
        unfolding unless
        accepted-next = as_read ∙ rw (all-kept, same-level)

        pub next-counted : (c : ℕ) → c ≡ length (level (parents_in U first slot s.offsets t) limit visited frontier)
            → Ok c ≡ counted_of (next K first rows end s kind limit visited frontier (room a))
        unfolding counted_of
        next-counted c q = rw (accepted-next, q)

        pub next-written : (out out' : List ℕ) → out' ≡ written_in out (level (parents_in U first slot s.offsets t) limit visited frontier)
            → out' ≡ written_over out (next K first rows end s kind limit visited frontier (room a))
        unfolding written_over
        next-written out out' q = rw (accepted-next, q)

pub few-visited : (a b : ℕ) → any (ltb max_numbers) (a ∷ b ∷ []) ≡ false → a ≤ 4096
unfolding any
few-visited a b e = ltb-false 4096 a (or-is-false (ltb 4096 a) (ltb 4096 b || false) e).0

-- ── a list that is too long ──────────────────────────────────────────────────────────────────

pub many-rows : (rows : ℕ) → 1024 < rows → some OverRecords ≡ limits_of rows true false
unfolding limits_of any first_of
many-rows rows h = rw (lt-ltb 1024 rows h)

pub long-list : (rows : ℕ) → rows ≤ 1024 → some OverNumbers ≡ limits_of rows true false
unfolding limits_of any first_of
long-list rows h = rw (le-ltb 1024 rows h)

module _ (K first rows end : ℕ) (s : EdgeSet) (kind limit : ℕ) (visited frontier : List ℕ) (a : ℕ) (why : Refusal) (e : some why ≡ limits_of rows true false) (b : Bool)
    (h : b ≡ any (ltb max_numbers) (length visited ∷ length frontier ∷ [])) (k : b ≡ true) where
  some-long : any (ltb max_numbers) (set_lengths s ++ (length visited ∷ length frontier ∷ [])) ≡ true
  some-long = any_append (ltb max_numbers) (set_lengths s) (length visited ∷ length frontier ∷ []) ∙ rw (sym h ∙ k) (or-true (any (ltb max_numbers) (set_lengths s)))

  long-verdict : next K first rows end s kind limit visited frontier (room a) ≡ refused why
  unfolding next limits limits_of first_of unless
  long-verdict = rw some-long (go (any (ltb max_records) (rows ∷ [])) e)
    where
      go : (b : Bool) → some why ≡ first_of (refuse OverRecords b ∷ some OverNumbers ∷ none ∷ [])
          → unless (first_of (first_of (refuse OverRecords b ∷ some OverNumbers ∷ refuse SliceShort (any short (room a)) ∷ []) ∷ set_rules K 0 first rows end s ∷ []))
          (level (list_of K first (slots_of K first s) kind) limit visited frontier) ≡ refused why
      go true q = let z : why ≡ OverRecords = cc in rw z
      go false q = let z : why ≡ OverNumbers = cc in rw z

  pub long-refused : Err why ≡ counted_of (next K first rows end s kind limit visited frontier (room a))
  unfolding counted_of
  long-refused = rw long-verdict

  pub long_kept : (out : List ℕ) → out ≡ written_over out (next K first rows end s kind limit visited frontier (room a))
  unfolding written_over
  long_kept out = rw long-verdict

pub not-long : (a b : ℕ) (r : Bool) → r ≡ any (ltb max_numbers) (a ∷ b ∷ []) → r ≡ false → any (ltb max_numbers) (a ∷ b ∷ []) ≡ false
not-long a b r e f = sym e ∙ f
