-- The file of a group, by the tables: its sets out of the lists of parents and of children.
use mathlib.Core.Path.{◌≡◌, ◌∙◌}
use mathlib.Core.List.{List}
use Prim.Native.Nat.{ℕ, ◌+◌, ◌<◌}
use Rattle.columns.specs.Limits.{kinds}
use Rattle.columns.proofs.Served.{kinds-served}
use Rattle.columns.specs.Building.{built_of}
use Rattle.cleaning.specs.Sheet.{Sheet}
use Rattle.cleaning.specs.Sections.{section_first, section_end, sheet_end, section_lists, section_children, section_graph, section_file}
use Rattle.cleaning.specs.Sections.{cover_where, section_labels}
use Rattle.cleaning.proofs.SectionSets.{section-built}
use Rattle.run_state.specs.declared.Groups.{Groups}
use Rattle.run_state.specs.View.{facts_at}
use Rattle.run_section.specs.declared.Counts.{Counts}
use Rattle.run_section.specs.declared.Section.{Section}
use Rattle.run_section.specs.Tables.{sheet_of}
use Rattle.run_section.specs.Sections.{SectionAt}
use Rattle.run_section.specs.Ready.{Ready, Children}
use Rattle.run_section.specs.Files.{lists_at, links_at, sets_at, sets_over, file_at}
use Rattle.run_section.proofs.Sectioned.{rows-count, facts-are, start_is, end_is, rows_are, tags-are, unresolved-are, roots-are, links-are, same_once, same_end, all-children}

module _ (z : Counts) (subject : List ℕ) (groups : Groups) (rows unresolved roots links offsets targets : List ℕ) where
  abbrev S : Sheet
  S = sheet_of z subject groups rows unresolved roots links offsets targets

  module _ (g : ℕ) (s : Section) (h : SectionAt z g rows unresolved roots links s) (ready : Ready z subject groups rows unresolved roots links offsets targets) (there : g < groups.count)
      {starts kids : List ℕ} (children : Children z offsets targets starts kids) where
    first-is : section_first S g ≡ z.start + s.rows.from
    unfolding sheet_of
    first-is = rw (start_is z subject groups rows unresolved roots links offsets targets g s h)

    last-is : section_end S g ≡ z.start + s.rows.to
    unfolding sheet_of
    last-is = rw (end_is z subject groups rows unresolved roots links offsets targets g s h)

    all-is : sheet_end S ≡ z.start + z.rows
    unfolding sheet_of
    all-is = rw (rows-count z subject groups rows unresolved roots links offsets targets)

    lists-are : section_lists kinds S g ≡ lists_at s offsets targets
    unfolding sheet_of
    lists-are = rw (start_is z subject groups rows unresolved roots links offsets targets g s h, rows_are z subject groups rows unresolved roots links offsets targets g s h)

    children-are : section_children kinds S g ≡ lists_at s starts kids
    children-are =
        rw (
          all-children z subject groups rows unresolved roots links offsets targets g s h ready there children,
          start_is z subject groups rows unresolved roots links offsets targets g s h,
          rows_are z subject groups rows unresolved roots links offsets targets g s h,
        )

    pub sets-are : built_of kinds (section_graph kinds S g) ≡ sets_at z s offsets targets starts kids
    unfolding sets_over
    sets-are =
        section-built kinds kinds-served S ready.tidy g (same_once z subject groups rows unresolved roots links offsets targets g s h ready there children)
        (same_end z subject groups rows unresolved roots links offsets targets g s h ready there children)
        ∙ rw (first-is, last-is, all-is, lists-are, children-are)

    pub file-is : section_file kinds S g ≡ file_at z subject groups g s rows unresolved roots (sets_at z s offsets targets starts kids)
        (cover_where (facts_at groups g).covered (section_labels S g) (links_at s links))
    unfolding section_file file_at sheet_of
    file-is =
        rw (
          sets-are,
          unresolved-are z subject groups rows unresolved roots links offsets targets g s h,
          roots-are z subject groups rows unresolved roots links offsets targets g s h,
          links-are z subject groups rows unresolved roots links offsets targets g s h,
          tags-are z subject groups rows unresolved roots links offsets targets g s h,
          first-is,
          facts-are z subject groups rows unresolved roots links offsets targets g there,
        )
