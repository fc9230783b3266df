-- Document 01, 42 and 43: the figures of what a run holds and of an archive's files, added; before them 23 of references, of which a run holds none.
-- proofs/limits/Limits has that they are the definitions'.
use Rattle.std.specs.Prelude.{Bool, ◌||◌, [], ◌∷◌, ◌+◌, ltb}
use Rattle.std.proofs.Math.Option.{Option}
use Rattle.columns.specs.Limits.{max_records, max_numbers}
use Rattle.columns.specs.Refusal.{refuse, first_of}
use Rattle.columns.specs.declared.refusal.Refusal.{Refusal}
use Rattle.columns.specs.declared.refusal.Refusal.TheVariants.{OverRecords, OverNumbers, RecordBroken}
use Rattle.archive_read.specs.declared.files.Totals.{Totals}
use Rattle.run_state.specs.declared.Held.{Held}

unfoldable pub figures : Held → Totals
figures h = record {
  files = 0;
  events = h.sheet.rows.count;
  roots = h.sheet.roots.count;
  unresolved = h.sheet.unresolved.count;
  ranges = h.ranges;
  links = h.sheet.links.count;
  forward = h.sheet.edges.count;
  reverse = h.reverse.count;
  inbound = h.inbound.count;
  references = 0;
}

unfoldable pub many_records : Totals → Totals → Bool → Bool
many_records a b groups =
    ltb max_records (a.events + b.events)
    || ltb max_records (a.roots + b.roots)
    || ltb max_records (a.unresolved + b.unresolved)
    || ltb max_records (a.ranges + b.ranges)
    || ltb max_records (a.links + b.links)
    || groups

unfoldable pub many_numbers : Totals → Totals → Bool
many_numbers a b =
    ltb max_numbers (a.forward + b.forward)
    || ltb max_numbers (a.reverse + b.reverse)
    || ltb max_numbers (a.inbound + b.inbound)

unfoldable pub limit_rules : Held → Totals → Bool → Option Refusal
limit_rules h t groups =
    first_of (refuse RecordBroken (ltb 0 t.references) ∷ refuse OverRecords (many_records (figures h) t groups) ∷ refuse OverNumbers (many_numbers (figures h) t) ∷ [])
