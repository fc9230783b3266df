-- The events of sources that follow one another: their numbers are consecutive, and the parents of each are below it.
use mathlib.Core.Path.{◌≡◌, refl, subst}
use mathlib.Core.List.{List, [], ◌∷◌}
use mathlib.Core.Logic.{inl, inr}
use mathlib.Core.Option.{Option, none, some}
use Prim.Native.Nat.{ℕ, suc, ◌+◌, ◌-◌, ◌*◌}
use native.Mathlib.Nat.{zero-add}
use native.Mathlib.Omega.{arith}
use lib.Dec.{ltb}
use lib.ListN.{length, get_or, take, drop, length-take, get_or-eq_default}
use lib.Seq.{get_or-take, get_or-drop}
use borrow.Author.Tests.{ltb-true, ltb-false}
use Rattle.lists.specs.Lists.{flat, part, Each}
use Rattle.lists.proofs.Slots.{slot_row}
use Rattle.lists.proofs.Tests.{tested}
use Rattle.columns.specs.Limits.{Served}
use Rattle.columns.specs.EdgeSet.{event_of}
use Rattle.archive.specs.File.{Row}
use Rattle.cleaning.specs.Source.{Source, end_of}
use Rattle.cleaning.specs.Archive.{Taken, Event, events_from, start_of, archive_of, blank, at, parents_of}
use Rattle.cleaning.specs.Routes.{AllBelow, Valid}
use Rattle.lists.proofs.From.{EachFrom, from-eq, from-append, from-get_or}
use Rattle.cleaning.proofs.Sides.{SlotBelow}
use Rattle.cleaning.proofs.Taken.{Sound, Followed}

-- the events of a source
abbrev pub events_in : (K : ℕ) → Taken → Source → List Event
events_in K t s = events_from K t s 0 s.rows

length-events_from : (K : ℕ) (t : Taken) (s : Source) (i : ℕ) (rows : List Row) → length (events_from K t s i rows) ≡ length rows
unfolding events_from
length-events_from K t s i [] = refl
length-events_from K t s i (row ∷ rows) = rw (length-events_from K t s (suc i) rows)

pub length-events_in : (K : ℕ) (t : Taken) (s : Source) → length (events_in K t s) ≡ length s.rows
length-events_in K t s = length-events_from K t s 0 s.rows

-- ── one source after the other ───────────────────────────────────────────────────────────────

module _ (K : ℕ) (served : Served K) (t : Taken) (P : ℕ → Event → Type 0) where
  from-followed : (n : ℕ) (before : Source) (ss : List Source) → Followed K (some before) ss → n ≡ end_of before
      → Each (λ s. EachFrom P s.first (events_in K t s)) ss → EachFrom P n (flat (events_in K t) ss)
  from-followed n before [] f e h = tt
  from-followed n before (s ∷ ss) f e h =
      from-append P n (events_in K t s) (flat (events_in K t) ss) (from-eq P s.first n (events_in K t s) (omega (arith, f.1.first)) h.0)
      (from-followed (n + length (events_in K t s)) s ss f.2 (omega (arith, f.1.first, length-events_in K t s)) h.1)

  -- what holds of the events of each source under its own numbers holds of all under the archive's
  pub from-sources : (ss : List Source) → Followed K none ss → Each (λ s. EachFrom P s.first (events_in K t s)) ss
      → EachFrom P (start_of ss) (flat (events_in K t) ss)
  from-sources [] f h = tt
  from-sources (s ∷ ss) f h =
      from-append P s.first (events_in K t s) (flat (events_in K t) ss) h.0
      (from-followed (s.first + length (events_in K t s)) s ss f.2 (omega (arith, length-events_in K t s)) h.1)

-- ── parents below ────────────────────────────────────────────────────────────────────────────

-- the parents of an event are below its number
abbrev pub ParentsBelow : ℕ → Event → Type 0
ParentsBelow n e = (k : ℕ) → AllBelow n (parents_of k e)

get_or-below : (K first slot : ℕ) (lists : List (List ℕ)) (i : ℕ) → EachFrom (SlotBelow K first) slot lists → AllBelow (event_of K first (slot + i)) (get_or lists i [])
get_or-below K first slot lists i h = elim (tested (ltb i (length lists))) [
  | inl e ↦ from-get_or (SlotBelow K first) slot lists i [] h (ltb-true i (length lists) e)
  | inr e ↦ rw (get_or-eq_default lists [] {n = i} (ltb-false i (length lists) e)) tt
]

pub part-below : (K : ℕ) (served : Served K) (first i k : ℕ) (lists : List (List ℕ)) → EachFrom (SlotBelow K first) 0 lists → AllBelow (first + i) (get_or (part (K * i) K lists) k [])
unfolding part
part-below K served first i k lists h = elim (tested (ltb k K)) [
  | inl e ↦ let l = ltb-true k K e in
      rw (get_or-take K (drop (K * i) lists) k [] l, get_or-drop (K * i) lists k [])
      (subst (λ n. AllBelow n (get_or lists (K * i + k) [])) {x = event_of K first (0 + (K * i + k))} {y = first + i} (rw (zero-add (K * i + k), slot_row K i k l))
      (get_or-below K first 0 lists (K * i + k) h))
  | inr e ↦ let l = ltb-false k K e in rw (get_or-eq_default (take K (drop (K * i) lists)) [] {n = k} (simp length-take (omega arith))) tt
]

events-below : (K : ℕ) (served : Served K) (t : Taken) (s : Source) → Sound K s → (i : ℕ) (rows : List Row) → EachFrom ParentsBelow (s.first + i) (events_from K t s i rows)
unfolding events_from parents_of
events-below K served t s h i [] = tt
events-below K served t s h i (row ∷ rows) = (
  (λ k. part-below K served s.first i k s.forward h.below),
  from-eq ParentsBelow (s.first + suc i) (suc (s.first + i)) (events_from K t s (suc i) rows) (omega arith) (events-below K served t s h (suc i) rows),
)

each_below : (K : ℕ) (served : Served K) (t : Taken) (before : Option Source) (ss : List Source) → Followed K before ss → Each (λ s. EachFrom ParentsBelow s.first (events_in K t s)) ss
each_below K served t before [] f = tt
each_below K served t before (s ∷ ss) f =
    (from-eq ParentsBelow (s.first + 0) s.first (events_in K t s) (omega arith) (events-below K served t s f.0 0 s.rows), each_below K served t (some s) ss f.2)

pub valid-sources : (K : ℕ) (served : Served K) (ss : List Source) → Followed K none ss → Valid (archive_of K (record { sources = ss }))
unfolding Valid archive_of at parents_of
valid-sources K served ss f k p l = elim (tested (ltb i (length es))) [
  | inl e ↦ subst (λ n. AllBelow n (parents_of k (get_or es i blank))) {x = start_of ss + i} {y = p} (omega arith)
      (from-get_or ParentsBelow (start_of ss) es i blank (from-sources K served t ParentsBelow ss f (each_below K served t none ss f)) (ltb-true i (length es) e) k)
  | inr e ↦ rw (get_or-eq_default es blank {n = i} (ltb-false i (length es) e)) tt
]
  where
    t : Taken
    t = record { sources = ss }

    es : List Event
    es = flat (events_in K t) ss

    i : ℕ
    i = p - start_of ss
