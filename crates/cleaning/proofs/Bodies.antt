-- The bodies of a taken archive's events are good: their group is there, a label stands just where the group has links, and every number is in
-- its bits.
use mathlib.Core.Path.{◌≡◌, sym}
use mathlib.Core.Bool.{false≢true}
use mathlib.Core.List.{List, [], ◌∷◌, map}
use mathlib.Core.Logic.{inl, inr}
use mathlib.Core.Option.{Option, none, some}
use Prim.Native.Nat.{ℕ, zero, suc, ◌+◌, ◌<◌, ◌^◌}
use native.Mathlib.Omega.{arith}
use native.Mathlib.Nat.{not-suc-le-zero, le_of_suc-le-suc}
use lib.Dec.{eqb}
use lib.ListN.{length, get_or, get_elem?, length-map, get_or-map}
use Rattle.lists.specs.Lists.{flat, filter, Each}
use Rattle.lists.proofs.Tests.{tested}
use Rattle.lists.proofs.Each.{each-flat, each_map, each-imp, each_both}
use Rattle.columns.specs.Limits.{Served, reference_kinds}
use Rattle.columns.specs.Reading.{Label}
use Rattle.cover.specs.Chains.{Link, sort_links}
use Rattle.archive.specs.File.{Row, Unresolved, Root}
use Rattle.cleaning.specs.Source.{SourceCover, Source, is_there}
use Rattle.cleaning.specs.Archive.{Taken, Reference, Group, label_in, root_in, references_in, body_of, events_from}
use Rattle.cleaning.specs.Summary.{sorted, group_summary}
use Rattle.cleaning.specs.Writing.{no_group}
use Rattle.cleaning.proofs.Good.{GoodLabel, GoodRoot, GoodBody}
use Rattle.lists.proofs.Filters.{each-filter}
use Rattle.cleaning.proofs.Taken.{RecordIn, Sound}
use Rattle.cleaning.proofs.Events.{events_in}
use Rattle.cleaning.proofs.Fitting.{LabelFits, CoverFitting, Fitting}
use Rattle.cleaning.proofs.Groups.{Covered}

-- ── parts of a body ──────────────────────────────────────────────────────────────────────────

label_at : (ls : List Link) (labels : List Label) (i : ℕ) → Each LabelFits labels → i < length labels → GoodLabel (some ls) (get_elem? labels i)
label_at ls [] i h l = absurd (not-suc-le-zero l)
label_at ls (x ∷ xs) zero h l = h.0
label_at ls (x ∷ xs) (suc i) h l = label_at ls xs i h.1 (le_of_suc-le-suc l)

good-label : (links : Option (List Link)) (c : Option SourceCover) (rows i : ℕ) → is_there links ≡ is_there c → CoverFitting rows c → i < rows
    → GoodLabel (sorted links) (label_in c i)
good-label none none rows i e h l = tt
good-label none (some c) rows i e h l = absurd (false≢true e)
good-label (some ls) none rows i e h l = absurd (false≢true (sym e))
good-label (some ls) (some c) rows i e h l = label_at (sort_links ls) c.labels i h.1 (omega (arith, h.0))

good-root : (rs : List Root) (i : ℕ) → Each (λ r. r.handle < 2 ^ 64) rs → GoodRoot (root_in rs i)
unfolding root_in
good-root [] i h = tt
good-root (r ∷ rs) i h = elim (tested (eqb r.row i)) [ inl e ↦ rw e h.0 | inr e ↦ rw e (good-root rs i h.1) ]

abbrev GoodReference : Reference → Type 0
GoodReference u = (u.kind < reference_kinds) × (u.handle < 2 ^ 32)

good-references : (us : List Unresolved) (n : ℕ) → Each (λ u. (u.kind < reference_kinds) × (u.handle < 2 ^ 32)) us → Each GoodReference (references_in us n)
unfolding references_in
good-references us n h =
    each_map GoodReference (λ u. record { kind = u.kind; handle = u.handle }) (filter (λ u. eqb u.child n) us)
    (each-filter (λ u. eqb u.child n) (λ u. (u.kind < reference_kinds) × (u.handle < 2 ^ 32)) us h)

-- ── bodies ───────────────────────────────────────────────────────────────────────────────────

module _ (K : ℕ) (served : Served K) (t : Taken) (gs : List Group) (s : Source) (c : Covered gs s) (h : Sound K s) (f : Fitting s) where
  good-body : (i : ℕ) (row : Row) → i < length s.rows → row.tag < 2 ^ 64 → GoodBody (map group_summary gs) (body_of s i row)
  unfolding body_of
  good-body i row l g = record {
    group = omega (arith, c.0, length-map gs group_summary);
    tag = g;
    label = rw (get_or-map group_summary gs s.group no_group)
        (good-label (get_or gs s.group no_group).links s.cover (length s.rows) i c.1 f.cover l);
    root = good-root s.roots i f.handles;
    unresolved = good-references s.unresolved (s.first + i)
        (each-imp (λ u. RecordIn s u × (u.handle < 2 ^ 32)) (λ u. (u.kind < reference_kinds) × (u.handle < 2 ^ 32)) s.unresolved (λ u b. (b.0.2, b.1))
        (each_both (RecordIn s) (λ u. u.handle < 2 ^ 32) s.unresolved h.unresolved f.references));
  }

  bodies-from : (i : ℕ) (rows : List Row) → i + length rows ≡ length s.rows → Each (λ r. r.tag < 2 ^ 64) rows
      → Each (λ e. GoodBody (map group_summary gs) e.body) (events_from K t s i rows)
  unfolding events_from
  bodies-from i [] e g = tt
  bodies-from i (row ∷ rows) e g = (good-body i row (omega arith) g.0, bodies-from (suc i) rows (omega arith) g.1)

  bodies-in : Each (λ e. GoodBody (map group_summary gs) e.body) (events_in K t s)
  bodies-in = bodies-from 0 s.rows (omega arith) f.tags

pub good-bodies : (K : ℕ) (served : Served K) (t : Taken) (gs : List Group) (ss : List Source) → Each (λ s. Covered gs s × (Sound K s × Fitting s)) ss
    → Each (λ e. GoodBody (map group_summary gs) e.body) (flat (events_in K t) ss)
good-bodies K served t gs ss h =
    each-flat (λ e. GoodBody (map group_summary gs) e.body) (events_in K t) ss
    (each-imp (λ s. Covered gs s × (Sound K s × Fitting s)) (λ s. Each (λ e. GoodBody (map group_summary gs) e.body) (events_in K t s)) ss
    (λ s b. bodies-in K served t gs s b.0 b.1.0 b.1.1) h)
