-- The columns of the survivors stand for the survivors' sheet.
use mathlib.Core.Path.{◌≡◌}
use mathlib.Core.List.{List}
use Prim.Native.Nat.{ℕ}
use lib.ListN.{length, take}
use Rattle.columns.specs.Limits.{kinds}
use Rattle.lists.proofs.Flat.{length-map-up_from}
use Rattle.cleaning.specs.Survivors.{survivor_sheet}
use Rattle.run_state.specs.declared.Edges.{Edges}
use Rattle.run_state.specs.declared.Sheet.{Sheet}
use Rattle.run_state.specs.declared.Held.{Held}
use Rattle.run_state.specs.View.{facts_at, sheet_in, held_in}
use Rattle.run_compact.specs.Columns.{gone}
use Rattle.run_resolve.proofs.sheet.KeptViews.{labels_kept}
use Rattle.run_resolve.specs.parents.Renewal.{EdgesKept}
use Rattle.run_resolve.specs.survivor_sheet.Survive.{SheetKept}

pub sheet-survives : (h : Held) (lists : List (List ℕ)) (e : Edges) (r : Sheet) → length (take h.sheet.rows.count h.erased) ≡ h.sheet.rows.count
    → EdgesKept (take h.sheet.rows.count h.erased) lists e → SheetKept (take h.sheet.rows.count h.erased) e h.sheet r
    → sheet_in r ≡ survivor_sheet kinds (held_in h) lists
unfolding sheet_in held_in survivor_sheet gone
sheet-survives h lists e r l o k =
    let s = h.sheet in
    let fs = take s.rows.count h.erased in
    rw (
      k.start,
      k.subject,
      k.groups,
      k.rows.groups,
      k.rows.tags,
      labels_kept s.groups fs s.rows r.rows l k.rows,
      k.rows.count,
      k.edges,
      o.slots,
      k.unresolved,
      k.roots,
      k.links,
      length-map-up_from (facts_at s.groups) 0 s.groups.count,
    )
