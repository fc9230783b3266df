-- The figures that the code adds up are those of what is held and of the archive's files: 42 and 43 are the definitions'.
use mathlib.Core.Path.{◌≡◌, sym, ap, ◌∙◌}
use mathlib.Core.Bool.{true, false≢true}
use mathlib.Core.List.{List, [], ◌∷◌}
use Prim.Native.Nat.{ℕ, ◌+◌, ◌-◌, ◌*◌, ◌≤◌}
use native.Mathlib.Omega.{arith}
use lib.Dec.{leb, eqb, ltb}
use lib.ListN.{length, take, length-drop}
use lib.Seq.{slice, length-take-le}
use borrow.Author.Tests.{leb-true, eqb-true}
use Rattle.lists.specs.Lists.{sum}
use Rattle.lists.specs.Order.{climbs_to}
use Rattle.lists.proofs.Tests.{both}
use Rattle.lists.proofs.Flat.{length-map-up_from}
use Rattle.columns.specs.Limits.{kinds, max_numbers}
use Rattle.columns.specs.EdgeSet.{from_to, offsets_form, cut_from, cut}
use Rattle.columns.proofs.Offsets.{low-high}
use Rattle.archive.specs.File.{File}
use Rattle.archive_read.specs.Sums.{totals}
use Rattle.archive_groups.specs.Groups.{groups_over}
use Rattle.cleaning.specs.Held.{records_over, numbers_over}
use Rattle.cleaning.specs.Taking.{carries}
use Rattle.cleaning.proofs.Carried.{carries-counted}
use Rattle.run_state.specs.declared.Edges.{Edges}
use Rattle.run_state.specs.declared.Held.{Held}
use Rattle.run_state.specs.View.{facts_at, unresolved_at, root_at, link_at, slots_in, sheet_in, held_in}
use Rattle.run_state.specs.Valid.{edges_ok, sheet_ok, held_ok}
use Rattle.run_state.specs.order.Long.{LongEdges, LongHeld}
use Rattle.run_state.proofs.order.TidySheets.{tags-length, edges-form}
use Rattle.run_rules.specs.limits.Figures.{figures, many_records, many_numbers}

-- ── the numbers of lists ─────────────────────────────────────────────────────────────────────

sums-from : (high a : ℕ) (bs column : List ℕ) → climbs_to high a bs ≡ true → high ≤ length column → a + sum length (cut_from a bs column) ≡ high
unfolding climbs_to cut_from sum
sums-from high a [] column e h = omega (arith, eqb-true a high e)
sums-from high a (b ∷ bs) column e h =
    let q = both (leb a b) (climbs_to high b bs) e in
    let l = leb-true a b q.0 in
    let m : length (slice a b column) ≡ b - a = length-drop a (take b column) ∙ ap (λ n. n - a) (length-take-le b column (omega (arith, low-high high b bs q.1))) in
    rw m (omega (arith, sums-from high b bs column q.1 h))

-- as many numbers stand in the lists as are held
pub slots-sum : (n : ℕ) (e : Edges) → LongEdges e → edges_ok n e ≡ true → sum length (slots_in n e) ≡ e.count
unfolding edges_ok slots_in offsets_form from_to cut sum
slots-sum n e l k = go (take (kinds * n + 1) e.offsets) (both (eqb (length (take (kinds * n + 1) e.offsets)) (kinds * n + 1)) _ (both (leb e.count max_numbers) _ k).1).1
  where
    few : e.count ≤ length (take e.count e.targets)
    few = let b = leb-true e.count max_numbers (both (leb e.count max_numbers) _ k).0 in
        rw (length-take-le e.count e.targets (omega (arith, l.targets))) (omega arith)

    go : (os : List ℕ) → from_to 0 e.count os ≡ true → sum length (cut os (take e.count e.targets)) ≡ e.count
    go [] f = absurd (false≢true f)
    go (a ∷ bs) f =
        let q = both (eqb a 0) (climbs_to e.count a bs) f in
        let z = eqb-true a 0 q.0 in
        omega (arith, sums-from e.count a bs (take e.count e.targets) q.1 few)

-- ── the figures ──────────────────────────────────────────────────────────────────────────────

pub references-same : (fs : List File) → ltb 0 (totals fs).references ≡ carries fs
unfolding totals
references-same fs = sym (carries-counted fs)

module _ (h : Held) (l : LongHeld h) (k : held_ok h ≡ true) (fs : List File) where
  sheet-ok : sheet_ok h.sheet ≡ true
  unfolding held_ok
  sheet-ok = (both (sheet_ok h.sheet) _ k).0

  pub records-same : many_records (figures h) (totals fs) (groups_over h.sheet.groups.count fs) ≡ records_over (held_in h) fs
  unfolding many_records records_over figures totals groups_over held_in sheet_in
  records-same = rw (
    tags-length h.sheet l.sheet sheet-ok,
    length-map-up_from (root_at h.sheet.roots) 0 h.sheet.roots.count,
    length-map-up_from (unresolved_at h.sheet.unresolved) 0 h.sheet.unresolved.count,
    length-map-up_from (link_at h.sheet.links) 0 h.sheet.links.count,
    length-map-up_from (facts_at h.sheet.groups) 0 h.sheet.groups.count,
  )

  pub numbers-same : many_numbers (figures h) (totals fs) ≡ numbers_over (held_in h) fs
  unfolding many_numbers numbers_over figures totals held_in sheet_in held_ok
  numbers-same =
      let e = (both (sheet_ok h.sheet) _ k).1 in
      rw (
        slots-sum h.sheet.rows.count h.sheet.edges l.sheet.edges (edges-form h.sheet l.sheet sheet-ok),
        slots-sum h.sheet.rows.count h.reverse l.reverse (both (edges_ok h.sheet.rows.count h.reverse) _ e).0,
        slots-sum h.sheet.rows.count h.inbound l.inbound (both (edges_ok h.sheet.rows.count h.reverse) _ e).1,
      )
