-- What is filled and renewed column by column is what is held after the files of an archive, resolved.
use Rattle.std.specs.Prelude.{Err, None, Ok, Some, Option, Result}
use mathlib.Core.Path.{◌≡◌, refl, sym, ap, subst, ◌∙◌}
use mathlib.Core.Bool.{Bool, true, false, not}
use mathlib.Core.List.{List}
use Prim.Native.Nat.{ℕ, ◌+◌, ◌-◌, ◌^◌, ◌≤◌}
use native.Mathlib.Omega.{arith}
use lib.ListN.{length, take}
use Rattle.columns.specs.Limits.{kinds}
use Rattle.lists.specs.Lists.{all}
use Rattle.lists.specs.Order.{not_falling}
use Rattle.columns.specs.Building.{in_file}
use Rattle.columns.specs.declared.refusal.Refusal.{Refusal}
use Rattle.columns.specs.declared.refusal.Refusal.TheVariants.{GroupOrder, OverNumbers, NoSurvivor}
use Rattle.run_renumber.specs.NewLists.{new_lists}
use Rattle.cleaning.specs.Survivors.{keep_unresolved, keep_roots, sort_groups}
use Rattle.run_state.specs.declared.Unresolved.{Unresolved}
use Rattle.run_state.specs.declared.Roots.{Roots}
use Rattle.run_state.specs.declared.Links.{Links}
use Rattle.run_state.specs.declared.Rows.{Rows}
use Rattle.run_state.specs.declared.Sheet.{Sheet}
use Rattle.run_state.specs.declared.Held.{Held}
use Rattle.run_state.specs.View.{listed, unresolved_at, root_at, link_at, slots_in}
use Rattle.run_state.specs.Valid.{edges_ok, below, sheet_ok, counts_ok}
use Rattle.run_compact.specs.Columns.{gone}
use Rattle.run_state.specs.order.Ordered.{filled}
use Rattle.run_state.specs.order.Long.{LongLinks, LongSheet}
use Rattle.run_state.specs.ByColumns.{rows_of, edges_of}
use Rattle.run_resolve.specs.sheet.Kept.{RowsKept}
use Rattle.run_resolve.proofs.sheet.Asking.{few-held, edges-held, flags-held}
use Rattle.run_resolve.specs.parents.Renewal.{Renewal, renewed_of}
use Rattle.run_resolve.specs.survivor_sheet.Survive.{SheetKept}
use Rattle.run_resolve.proofs.survivor_sheet.SheetParts.{part-unresolved, part-roots, part-links, part-groups, flags-few, flags-end, children-here, roots-here, links-level}
use Rattle.run_resolve.specs.Outcome.{flags_in, ListsRenewed, SurvivorsIn, ResolvedBy}
use Rattle.run_resolve.proofs.SurvivorColumns.{sheet-ok, flags-count, numbers-end, lists-renewed, survivors_in}
use Rattle.run_resolve.proofs.Answered.{no_source, lists-over, lists-within, survivors-counted, group-lost, all-kept}
use Rattle.run_store.specs.turns.Parts.{Parts, parts_of, stored}
use Rattle.run_store.specs.declared.names.Names.{Names}
use Rattle.run_store.specs.names.Named.{Named}
use Rattle.run_clean.specs.Survived.{Gathered}

module _ (h : Held) (l : List ℕ) (n : Names) (d : Named h l n) where
  -- what is held after the files
  abbrev after : Held
  after = d.held

  abbrev parts : Parts
  parts = stored h l

  is : parts ≡ parts_of after
  is = sym d.parts

  fine : sheet_ok after.sheet ≡ true
  fine = sheet-ok after d.ok d.order d.long

  start_is : n.start ≡ after.sheet.start
  start_is = ap (λ m. m.start) d.names

  groups-is : n.groups ≡ after.sheet.groups
  groups-is = ap (λ m. m.groups) d.names

  resolved-by : (r : Result Sheet Refusal) → ResolvedBy after r → Gathered h l r
  resolved-by r k = record { held = after; whole = d.whole; ok = d.ok; order = d.order; resolved = k }

  -- 24
  pub no-file : n.groups.count ≡ 0 → Gathered h l (Err GroupOrder)
  no-file z = resolved-by _ (no_source after (ap (λ g. g.count) (sym groups-is) ∙ z))

  pub few-groups : n.groups.count ≤ 16
  few-groups = rw groups-is (part-groups after.sheet fine)

  pub few-links : parts.links.count ≤ 1024
  few-links = rw is (part-links after.sheet fine)

  pub level-links : not_falling (take parts.links.count parts.links.groups) ≡ true
  level-links = rw is (links-level after.sheet d.order)

  pub links-long : LongLinks parts.links
  links-long = rw is d.long.sheet.links

  pub few-unresolved : parts.unresolved.count ≤ 1024
  few-unresolved = rw is (part-unresolved after.sheet fine)

  pub few-roots : parts.roots.count ≤ 1024
  few-roots = rw is (part-roots after.sheet fine)

  module _ {i : ℕ} {gs ts cs ss fs : List ℕ} (rows : rows_of i gs ts cs ss ≡ parts.rows) (flags : fs ≡ parts.erased) where
    rows_is : rows_of i gs ts cs ss ≡ after.sheet.rows
    rows_is = rows ∙ ap (λ p. p.rows) is

    count_is : i ≡ after.sheet.rows.count
    count_is = ap (λ r. r.count) rows_is

    flags-is : fs ≡ after.erased
    flags-is = flags ∙ ap (λ p. p.erased) is

    front-is : take i fs ≡ flags_in after
    front-is = rw (count_is, flags-is)

    front-counted : length (take i fs) ≡ after.sheet.rows.count
    front-counted = ap length front-is ∙ flags-count after d.ok d.order d.long

    pub few_rows : i ≤ 1024
    few_rows = rw count_is (few-held after d.ok d.long)

    pub front-room : i ≤ length fs
    front-room = omega (arith, few_rows, ap length flags-is, flags-held after d.ok d.long)

    pub front-count : i ≡ length (take i fs)
    front-count = count_is ∙ sym front-counted

    pub flags_long : length fs ≡ 1024
    flags_long = ap length flags-is ∙ flags-held after d.ok d.long

    pub rows_end : n.start + i ≤ 2 ^ 64 - 1
    rows_end = rw (start_is, count_is) (numbers-end after d.ok d.order d.long)

    pub edges-form : edges_ok i parts.edges ≡ true
    edges-form = rw (count_is, is) (edges-held after d.ok d.long)

    pub front-few : length (take i fs) ≤ 1024
    front-few = flags-few after.sheet fine (take i fs) front-counted

    pub front-end : n.start + length (take i fs) ≤ 2 ^ 64 - 1
    front-end = rw start_is (flags-end after.sheet fine (take i fs) front-counted)

    pub children-fit : all (in_file n.start (n.start + length (take i fs))) (take parts.unresolved.count parts.unresolved.children) ≡ true
    children-fit = rw (start_is, is) (children-here after.sheet fine (take i fs) front-counted)

    pub roots-fit : all (below (length (take i fs))) (take parts.roots.count parts.roots.rows) ≡ true
    roots-fit = rw is (roots-here after.sheet fine (take i fs) front-counted)

    module _ (some : n.groups.count ≡ 0 → ⊥) (g : Option ℕ) (os os' : List ℕ)
        (k : Renewal (take i fs) (new_lists kinds n.start (take i fs) (slots_in i parts.edges)) (renewed_of g os os')) where
      renewed : ListsRenewed after (renewed_of g os os')
      renewed =
          lists-renewed after d.ok d.order d.long (renewed_of g os os')
          (subst (λ v. Renewal (flags_in after) (new_lists kinds v.start (flags_in after) (slots_in after.sheet.rows.count after.sheet.edges)) (renewed_of g os os')) d.names
          (rw (front-is, count_is, is) at k))

      sourced : after.sheet.groups.count ≡ 0 → ⊥
      sourced z = some (ap (λ v. v.count) groups-is ∙ z)

      -- 43
      pub too_many : g ≡ None → Gathered h l (Err OverNumbers)
      too_many f = resolved-by _ (lists-over after sourced (renewed_of g os os') renewed (rw f))

      module _ (m : ℕ) (f : g ≡ Some m) (u : Unresolved) (r : Roots) (w : Links) (q : Rows)
          (us : listed (unresolved_at u) u.count ≡ keep_unresolved n.start (gone (take i fs)) (listed (unresolved_at parts.unresolved) parts.unresolved.count))
          (uf : u.count ≤ parts.unresolved.count)
          (rs : listed (root_at r) r.count ≡ keep_roots (gone (take i fs)) (listed (root_at parts.roots) parts.roots.count))
          (re : r.count ≤ parts.roots.count)
          (ls : (w.count ≤ 1024) × (listed (link_at w) w.count ≡ sort_groups n.groups.count (listed (link_at parts.links) parts.links.count)))
          (ks : RowsKept (take i fs) (rows_of (length (take i fs)) gs ts cs ss) q) where
        abbrev sheet : Sheet
        sheet = record { start = n.start; subject = n.subject; groups = n.groups; rows = q; edges = edges_of m os os'; unresolved = u; roots = r; links = w }

        upto : ListsRenewed after (renewed_of (Some m) os os')
        upto = rw f at renewed

        rows-kept : RowsKept (flags_in after) after.sheet.rows q
        rows-kept = subst (λ v. RowsKept v after.sheet.rows q) front-is (subst (λ v. RowsKept (take i fs) v q) ((rw (sym front-count)) ∙ rows_is) ks)

        kept : SheetKept (flags_in after) (edges_of m os os') after.sheet sheet
        kept = record {
          start = start_is;
          subject = ap (λ v. v.subject) d.names;
          groups = groups-is;
          rows = rows-kept;
          edges = refl;
          unresolved = rw (start_is, front-is, is) at us;
          unresolved_few = rw is at uf;
          roots = rw (front-is, is) at rs;
          roots_few = rw is at re;
          links = rw (groups-is, is) at ls.1;
          links_few = ls.0;
        }

        module _ (long : LongSheet sheet) where
          within : SurvivorsIn after sheet
          within = survivors_in after d.ok d.order d.long (edges_of m os os') (lists-within after (renewed_of (Some m) os os') upto (edges_of m os os') refl) sheet kept long

          pub sheet-counted : counts_ok sheet ≡ true
          sheet-counted = survivors-counted after sheet within

          module _ {a : Bool} (b : a ≡ filled sheet) where
            -- 27
            pub one-empty : not a ≡ true → Gathered h l (Err NoSurvivor)
            one-empty v = resolved-by _ (group-lost after sourced (renewed_of (Some m) os os') upto (edges_of m os os') refl sheet within b v)

            pub all-full : not a ≡ false → Gathered h l (Ok sheet)
            all-full v = resolved-by _ (all-kept after sourced (renewed_of (Some m) os os') upto (edges_of m os os') refl sheet within b v)
