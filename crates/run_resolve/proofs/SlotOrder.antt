-- The new parents of every survivor are below its new number, slot by slot.
use mathlib.Core.Path.{◌≡◌, refl, sym, subst, ◌∙◌}
use mathlib.Core.Bool.{true}
use mathlib.Core.List.{List, [], ◌∷◌, map}
use Prim.Native.Nat.{ℕ, zero, suc, ◌+◌, ◌*◌, ◌<◌}
use native.Mathlib.Omega.{arith}
use lib.ListN.{length}
use borrow.Author.Tests.{eqb-true, lt-ltb}
use Rattle.lists.specs.Lists.{flat, part, up_from}
use Rattle.lists.proofs.Tests.{all-of}
use Rattle.lists.proofs.Each.{each-imp}
use Rattle.lists.proofs.From.{EachFrom, from-eq, from-append, from_each}
use Rattle.columns.specs.Limits.{kinds}
use Rattle.columns.proofs.Served.{kinds-served}
use Rattle.columns.specs.EdgeSet.{event_of}
use Rattle.cleaning.specs.Archive.{Body}
use Rattle.cleaning.specs.Routes.{AllBelow}
use Rattle.cleaning.specs.Summary.{Kept, kept}
use Rattle.cleaning.specs.Sheet.{Sheet, row_count, body_at, parents_at, summary_of}
use Rattle.cleaning.specs.Memo.{tables}
use Rattle.cleaning.specs.Held.{Held, archive_held}
use Rattle.cleaning.specs.Survivors.{survivor_sheet}
use Rattle.cleaning.specs.Runs.{slotted}
use Rattle.cleaning.proofs.Good.{RowsFrom}
use Rattle.cleaning.proofs.Sides.{SlotBelow}
use Rattle.cleaning.proofs.Parts.{parts_all}
use Rattle.cleaning.proofs.HeldColumns.{tables-length}
use Rattle.cleaning.proofs.SurvivorSheet.{summary-held}
use Rattle.cleaning.proofs.Tabled.{tabled-summary}
use Rattle.cleaning.proofs.NewLists.{lists-good}
use Rattle.cleaning.proofs.Neat.{Neat, neat-valid, survivors-tidy}
use Rattle.run_state.specs.Valid.{below, earlier}

-- ── slots of rows ────────────────────────────────────────────────────────────────────────────

earlier-slots : (start slot : ℕ) (lists : List (List ℕ)) → EachFrom (SlotBelow kinds start) slot lists → earlier start slot lists ≡ true
unfolding earlier below
earlier-slots start slot [] h = refl
earlier-slots start slot (ps ∷ lists) h =
    let event = event_of kinds start slot in
    rw (all-of (below event) ps (each-imp (λ p. p < event) (λ p. below event p ≡ true) ps (λ p l. lt-ltb p event l) h.0))
    (earlier-slots start (suc slot) lists h.1)

module _ (start : ℕ) (body : ℕ → Body) (parents : ℕ → List (List ℕ)) where
  rows : ℕ → ℕ → List Kept
  rows i n = map (λ j. kept (body j) (parents j)) (up_from i n)

  -- the slots of rows with good lists
  rows-below : (i n : ℕ) → RowsFrom kinds (start + i) (rows i n) → EachFrom (SlotBelow kinds start) (kinds * i) (flat parents (up_from i n))
  unfolding rows up_from
  rows-below i zero h = tt
  rows-below i (suc n) h =
      let g = h.0 in
      from-append (SlotBelow kinds start) (kinds * i) (parents i) (flat parents (up_from (suc i) n))
      (from_each (SlotBelow kinds start) (AllBelow (start + i)) (kinds * i + kinds) (kinds * i) (parents i)
      (λ j ps a b q. subst (λ m. AllBelow m ps) {x = start + i} {y = event_of kinds start j} (omega arith) q) (omega (arith, g.each_kind)) g.below)
      (from-eq (SlotBelow kinds start) (kinds * suc i) (kinds * i + length (parents i)) (flat parents (up_from (suc i) n)) (omega (arith, g.each_kind))
      (rows-below (suc i) n (subst (λ m. RowsFrom kinds m (rows (suc i) n)) {x = suc (start + i)} {y = start + suc i} (omega arith) h.1)))

sheet-below : (s : Sheet) → length s.lists ≡ kinds * row_count s → RowsFrom kinds s.start (summary_of kinds s).rows → earlier s.start 0 s.lists ≡ true
unfolding summary_of parents_at rows
sheet-below s e h =
    let n = row_count s in
    let parents : ℕ → List (List ℕ) = λ j. part (kinds * j) kinds s.lists in
    let z : RowsFrom kinds (s.start + 0) (rows s.start (body_at s) parents 0 n) = subst
    (λ m. RowsFrom kinds m (rows s.start (body_at s) parents 0 n)) {x = s.start} {y = s.start + 0} (omega arith) h in
    earlier-slots s.start 0 s.lists (subst (EachFrom (SlotBelow kinds s.start) 0) (parts_all kinds n s.lists e) (rows-below s.start (body_at s) parents 0 n z))

-- ── the survivors of a neat run ──────────────────────────────────────────────────────────────

module _ (h : Held) (n : Neat kinds h) where
  pub survivors-earlier : earlier h.sheet.start 0 (survivor_sheet kinds h (slotted (length (archive_held kinds h).events) (tables kinds (archive_held kinds h)))).lists ≡ true
  unfolding survivor_sheet archive_held
  survivors-earlier =
      let A = archive_held kinds h in
      let s = survivor_sheet kinds h (slotted (length A.events) (tables kinds A)) in
      let v = neat-valid kinds kinds-served h n in
      let e = summary-held kinds kinds-served h (tables kinds A) n.rows (tables-length kinds kinds-served A) ∙ tabled-summary kinds kinds-served A v in
      sheet-below s (eqb-true (length s.lists) (kinds * row_count s) (survivors-tidy kinds kinds-served h n).each_list)
      (subst (λ S. RowsFrom kinds A.start S.rows) (sym e) (lists-good kinds kinds-served A v))
