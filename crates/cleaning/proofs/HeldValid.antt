-- The archive that is held is valid where the slots' parents are below their events, which stays so with a source more.
use mathlib.Core.Path.{◌≡◌, sym, subst, ap}
use mathlib.Core.Logic.{inl, inr}
use mathlib.Core.List.{List, [], ◌∷◌}
use Prim.Native.Nat.{ℕ, suc, ◌+◌, ◌-◌, ◌*◌}
use native.Mathlib.Nat.{mul-add-div}
use native.Mathlib.Omega.{arith}
use lib.Dec.{ltb}
use lib.ListN.{length, get_or, get_or-eq_default}
use borrow.Author.Tests.{ltb-true, ltb-false}
use Rattle.lists.proofs.Tests.{tested}
use Rattle.lists.proofs.From.{EachFrom, from-append, from-eq}
use Rattle.columns.specs.Limits.{Served}
use Rattle.columns.specs.EdgeSet.{event_of}
use Rattle.cleaning.specs.Source.{Source}
use Rattle.cleaning.specs.Archive.{blank, at, parents_of}
use Rattle.cleaning.specs.Routes.{AllBelow, Valid}
use Rattle.cleaning.specs.Sheet.{parents_at}
use Rattle.cleaning.specs.Held.{Held, event_at, archive_held, sheet_with, held_with}
use Rattle.cleaning.proofs.Sides.{SlotBelow}
use Rattle.cleaning.proofs.Taken.{Sound}
use Rattle.cleaning.proofs.Events.{part-below}
use Rattle.cleaning.proofs.SheetFacts.{Rows}
use Rattle.cleaning.proofs.HeldRows.{Ready}
use Rattle.cleaning.proofs.HeldColumns.{events-length, event-held}

-- the parents in every slot are below the slot's event
abbrev pub SlotsBelow : (K : ℕ) → Held → Type 0
SlotsBelow K h = EachFrom (SlotBelow K h.sheet.start) 0 h.sheet.lists

-- ── valid archives ───────────────────────────────────────────────────────────────────────────

pub valid-held : (K : ℕ) (served : Served K) (h : Held) → Rows K h → SlotsBelow K h → Valid (archive_held K h)
unfolding Valid archive_held at parents_of event_at parents_at
valid-held K served h r b k p l = elim (tested (ltb i (length h.erased))) [
  | inl e ↦ rw (event-held K served h r i (ltb-true i (length h.erased) e))
      (subst (λ n. AllBelow n (get_or (parents_at K h.sheet i) k [])) {x = h.sheet.start + i} {y = p} (omega arith)
      (part-below K served h.sheet.start i k h.sheet.lists b))
  | inr e ↦ rw (get_or-eq_default (archive_held K h).events blank {n = i} (omega (arith, ltb-false i (length h.erased) e, events-length K served h r))) tt
]
  where
    i : ℕ
    i = p - h.sheet.start

-- ── a source more ────────────────────────────────────────────────────────────────────────────

-- slots of events whose numbers count from n events before
shift-slots : (K : ℕ) (served : Served K) (start first n i : ℕ) (lists : List (List ℕ)) → start + n ≡ first → EachFrom (SlotBelow K first) i lists
    → EachFrom (SlotBelow K start) (K * n + i) lists
shift-slots K served start first n i [] e h = tt
shift-slots K served start first n i (ps ∷ lists) e h = (
  subst (λ m. AllBelow m ps) {x = event_of K first i} {y = event_of K start (K * n + i)} (rw (mul-add-div served.some n i) (omega arith)) h.0,
  from-eq (SlotBelow K start) (K * n + suc i) (suc (K * n + i)) lists (omega arith) (shift-slots K served start first n (suc i) lists e h.1),
)

no-slots : (K : ℕ) (served : Served K) (start : ℕ) (lists : List (List ℕ)) → length lists ≡ 0 → EachFrom (SlotBelow K start) 0 lists
no-slots K served start [] e = tt
no-slots K served start (ps ∷ lists) e = absurd (omega (arith, e))

pub below-with : (K : ℕ) (served : Served K) (h : Held) (s : Source) → Ready K h s → Sound K s → SlotsBelow K h → SlotsBelow K (held_with h s)
unfolding held_with sheet_with
below-with K served h s q d b =
    let start = (sheet_with h.sheet s).start in
    let n = length h.erased in
    let old : EachFrom (SlotBelow K start) 0 h.sheet.lists = elim (tested (ltb 0 n)) [
      | inl e ↦ subst (λ m. EachFrom (SlotBelow K m) 0 h.sheet.lists) (sym (q.stays (ltb-true 0 n e))) b
      | inr e ↦ no-slots K served start h.sheet.lists (let z : n ≡ 0 = omega (arith, ltb-false 0 n e) in omega (arith, q.rows.lists, ap (λ x. K * x) z))
    ] in
    from-append (SlotBelow K start) 0 h.sheet.lists s.forward old
    (from-eq (SlotBelow K start) (K * n + 0) (0 + length h.sheet.lists) s.forward (omega (arith, q.rows.lists))
    (shift-slots K served start s.first n 0 s.forward q.start d.below))
