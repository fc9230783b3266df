-- The turns of the loops that write targets, as laws of lists.
use mathlib.Core.Path.{◌≡◌, sym, ◌∙◌}
use mathlib.Core.Bool.{true}
use mathlib.Core.List.{List, [], ◌++◌, map}
use Prim.Native.Nat.{ℕ, ◌≤◌, ◌<◌, ◌+◌, ◌-◌}
use native.Mathlib.Numerals.{add-one}
use native.Mathlib.Omega.{arith}
use lib.IntN.{ℤ, pos}
use lib.ListN.{length, get_or, set, drop, length-append, length-set, drop_of_length-le}
use lib.Seq.{slice, slice-cons, sets, set_out}
use mir.Syntax.{w64}
use mir.Val.{SFits}
use mir.ValLaws.{to_z-of_z}
use Rattle.lists.specs.Lists.{all, joined}
use Rattle.lists.proofs.Tests.{both}
use Rattle.lists.proofs.Slices.{slice-none, sets-append}
use Rattle.columns.specs.EdgeSet.{cut, event_of, target_of}
use Rattle.columns.specs.Reading.{targets_from, slots_of}
use Rattle.columns.specs.Answers.{named, columns_of}
use Rattle.columns.specs.Readable.{Readable, Edged}
use Rattle.columns.proofs.Offsets.{cut-length, some-offset, starts-at}
use Rattle.columns.proofs.Targets.{length-targets, slot-list, slot-count, no_edges}
use Rattle.columns_slots.proofs.sets.Turns.{at}

-- ── one event's deltas ───────────────────────────────────────────────────────────────────────

pub past_end : (l : List ℕ) (i x : ℕ) → length l ≤ i → l ≡ set l i x
past_end l i x h = sym (set_out l i x h)

module _ (event i to : ℕ) (ds : List ℤ) (h : i < to) (k : to ≤ length ds) where
  module _ (e : all (named event) (slice i to ds) ≡ true) where
    parts : (named event (get_or ds i (pos 0)) ≡ true) × (all (named event) (slice (i + 1) to ds) ≡ true)
    unfolding all
    parts = rw add-one (both _ _ (rw (slice-cons i to ds (pos 0)) at e))

    pub this-named : SFits w64 (get_or ds i (pos 0)) → named event (at ds i) ≡ true
    this-named s = rw (to_z-of_z w64 (get_or ds i (pos 0)) s) parts.0

    rest-named : all (named event) (slice (i + 1) to ds) ≡ true
    rest-named = parts.1

  one-target : {t : List ℕ} (was out : List ℕ) (p v : ℕ) → out ≡ set was p v → v ≡ target_of event (at ds i) → SFits w64 (get_or ds i (pos 0)) → t ≡ sets was p (map (target_of event) (slice i to ds))
      → t ≡ sets out (p + 1) (map (target_of event) (slice (i + 1) to ds))
  one-target was out p v f g s e = rw (e, add-one p, add-one i, slice-cons i to ds (pos 0), f, g, to_z-of_z w64 (get_or ds i (pos 0)) s)

-- where the writing of an event's targets into `was` from `at` on stands: `out` has all before `past`, and the deltas from i on are left
abbrev pub Writing : ℕ → List ℤ → ℕ → ℕ → List ℕ → ℕ → List ℕ → ℕ → ℕ → Type 0
Writing event ds from to was at out past i = (from ≤ i) × (i ≤ to) × (past ≡ at + (i - from)) × (length out ≡ length was) × (all (named event) (slice i to ds) ≡ true)
    × (sets was at (map (target_of event) (slice from to ds)) ≡ sets out past (map (target_of event) (slice i to ds)))

pub target-put : (event : ℕ) (ds : List ℤ) (from to : ℕ) (was : List ℕ) (start : ℕ) (out : List ℕ) (past i : ℕ) → Writing event ds from to was start out past i
    → i < to → to ≤ length ds → SFits w64 (get_or ds i (pos 0)) → (v : ℕ) → v ≡ target_of event (at ds i) → (next : List ℕ) → next ≡ set out past v
    → Writing event ds from to was start next (past + 1) (i + 1)
target-put event ds from to was start out past i w h k s v g next f = (
  omega arith,
  omega arith,
  omega arith,
  rw f (simp length-set w.3),
  rest-named event i to ds h k w.4,
  one-target event i to ds h k out next past v f g s w.5,
)

pub targets-done : {t : List ℕ} (event i to : ℕ) (ds : List ℤ) (out : List ℕ) (p : ℕ) → t ≡ sets out p (map (target_of event) (slice i to ds)) → to ≤ i → out ≡ t
targets-done event i to ds out p e h = rw (e, slice-none i to ds h)

-- ── a slot ───────────────────────────────────────────────────────────────────────────────────

module _ (K first : ℕ) (offsets : List ℕ) (deltas : List ℤ) (r : Edged K first offsets deltas) (slot : ℕ) (h : slot + 1 < length offsets)
    (event from to : ℕ) (e : event ≡ event_of K first slot) (f : from ≡ get_or offsets slot 0) (g : to ≡ get_or offsets (slot + 1) 0) where
  pub slot-ends : (at n : ℕ) → n ≡ at + (to - from) → n ≡ at + length (get_or (targets_from K first 0 (cut offsets deltas)) slot [])
  slot-ends at n i = rw (slot-count K first offsets deltas r slot h event from to e f g) i

  pub slot-written : (at : ℕ) (was out : List ℕ) → out ≡ sets was at (map (target_of event) (slice from to deltas)) → out ≡ sets was at (get_or (targets_from K first 0 (cut offsets deltas)) slot [])
  slot-written at was out i = rw (slot-list K first offsets deltas r slot h event from to e f g) i

-- ── all slots ────────────────────────────────────────────────────────────────────────────────

-- a list is written, and the next one stands where it ends
module _ (at next : ℕ) (whole list rest : List ℕ) (w : whole ≡ list ++ rest) (f : next ≡ at + length list) where
  pub rest-written : {t : List ℕ} (was out : List ℕ) → t ≡ sets was at whole → out ≡ sets was at list → t ≡ sets out next rest
  rest-written was out e g = rw (e, w, sets-append was at list rest, f, g)

  pub rest-counted : {n : ℕ} → n ≡ at + length whole → n ≡ next + length rest
  rest-counted e = e ∙ rw (w, length-append) (omega arith)

-- the targets of all slots from one on
abbrev pub onward : (K : ℕ) → ℕ → List ℕ → List ℤ → ℕ → List ℕ
onward K first offsets deltas slot = joined (drop slot (targets_from K first 0 (cut offsets deltas)))

pub no_more : (K first : ℕ) (offsets : List ℕ) (deltas : List ℤ) (slot : ℕ) → length offsets ≤ slot + 1 → onward K first offsets deltas slot ≡ []
unfolding joined
no_more K first offsets deltas slot h =
    let all = targets_from K first 0 (cut offsets deltas) in
    rw (drop_of_length-le all {i = slot} (omega (arith, cut-length offsets deltas, length-targets K first 0 (cut offsets deltas))))

module _ (K first : ℕ) (offsets : List ℕ) (deltas : List ℤ) (r : Edged K first offsets deltas) where
  pub has-offset : 0 < length offsets
  has-offset = some-offset (length deltas) offsets r.climbs

  pub first-offset : 0 ≡ get_or offsets 0 0
  first-offset = sym (starts-at (length deltas) offsets r.climbs)

-- ── a set without edges ──────────────────────────────────────────────────────────────────────

module _ (K first count : ℕ) (offsets : List ℕ) (deltas : List ℤ) where
  module _ (r : Readable K first (columns_of count offsets deltas)) (h : count ≡ 0) where
    pub none-counted : 0 ≡ length (joined (slots_of K first (columns_of count offsets deltas)))
    none-counted = rw (no_edges K first count offsets deltas r h)

    pub none_written : (out : List ℕ) → out ≡ sets out 0 (joined (slots_of K first (columns_of count offsets deltas)))
    none_written out = rw (no_edges K first count offsets deltas r h)

  pub csr-counted : (n : ℕ) → n ≡ length (joined (targets_from K first 0 (cut offsets deltas))) → n ≡ length (joined (slots_of K first (columns_of count offsets deltas)))
  unfolding slots_of
  csr-counted n e = e

  pub csr-written : (was out : List ℕ) → out ≡ sets was 0 (joined (targets_from K first 0 (cut offsets deltas))) → out ≡ sets was 0 (joined (slots_of K first (columns_of count offsets deltas)))
  unfolding slots_of
  csr-written was out e = e
