-- One group measured: its rules are building's, the length is that of its file.
use Rattle.std.specs.Prelude.{Ok, Result}
use mathlib.Core.Path.{◌≡◌, sym, ap, ◌∙◌}
use mathlib.Core.Bool.{true, cond}
use mathlib.Core.List.{List, []}
use Prim.Native.Nat.{ℕ, suc, ◌+◌, ◌-◌, ◌*◌, ◌≤◌, ◌<◌}
use native.Mathlib.Omega.{arith}
use lib.ListN.{length, drop}
use Rattle.columns.specs.Limits.{kinds, max_subject}
use Rattle.columns.specs.Building.{build_rules}
use Rattle.columns.specs.Answers.{ruling}
use Rattle.columns.specs.declared.refusal.Refusal.{Refusal}
use Rattle.archive.specs.Encode.{file_bytes}
use Rattle.archive.proofs.Back.{length-several}
use Rattle.cleaning.specs.Sheet.{Sheet}
use Rattle.cleaning.specs.Sections.{section_graph, section_file, section_labels}
use Rattle.run_state.specs.declared.Groups.{Groups}
use Rattle.run_state.specs.View.{has_cover, facts_at}
use Rattle.run_section.specs.declared.Counts.{Counts}
use Rattle.run_section.specs.declared.Section.{Section}
use Rattle.run_section.specs.declared.facts.Facts.{Facts}
use Rattle.run_section.specs.declared.covers.Covers.{Covers}
use Rattle.run_section.specs.Tables.{sheet_of}
use Rattle.run_section.specs.Sections.{SectionAt}
use Rattle.run_section.specs.Facts.{FactsAt}
use Rattle.run_section.specs.Rules.{Lists}
use Rattle.run_section.specs.Ready.{Ready, Children}
use Rattle.run_section.specs.Covers.{CoversCounted, ranges_at, labels_at, labels_from, label_here, start_at, rows_at}
use Rattle.run_section.specs.Files.{many}
use Rattle.run_section.specs.Measures.{Inside, faults_at, size_by, ruled, SectionMeasured, MeasuredGroup}
use Rattle.run_section.proofs.Sectioned.{rules-are}
use Rattle.run_section.proofs.Filed.{file-is}
use Rattle.run_section.proofs.Measured.{file-length}
use Rattle.run_section.proofs.CoverSections.{labels-section, rises-section, ranges-section}

module _ (z : Counts) (subject : List ℕ) (groups : Groups) (rows unresolved roots links offsets targets : List ℕ)
    (ready : Ready z subject groups rows unresolved roots links offsets targets) where
  abbrev S : Sheet
  S = sheet_of z subject groups rows unresolved roots links offsets targets

  module _ {starts kids : List ℕ} (children : Children z offsets targets starts kids) where
    -- the lists of both tables are in form
    pub both-lists : Lists z.rows offsets targets starts kids
    both-lists = record { parents = ready.form; children = children.form; few_parents = ready.few.parents; few_children = children.few }

  pub subject-short : length subject ≤ max_subject
  subject-short = ready.few.short

  module _ (g : ℕ) (there : g < groups.count) where
    pub group-few : g < 16
    group-few = omega (arith, ready.few.groups_count)

    module _ (s : Section) (at : SectionAt z g rows unresolved roots links s) where
      pub section-inside : Inside z s unresolved
      section-inside = record {
        few_rows = ready.few.rows;
        end = ready.few.end;
        rows_rise = at.rows_span.rises;
        rows_within = at.rows_span.within;
        unresolved_rise = at.unresolved_at.rises;
        unresolved_there = omega (arith, at.unresolved_at.within, ready.sorted.by_child.there);
        unresolved_few = omega (arith, at.unresolved_at.within, ready.few.unresolved);
        roots_rise = at.roots_at.rises;
        roots_few = omega (arith, at.roots_at.within, ready.few.roots);
        links_rise = at.links_span.rises;
        links_few = omega (arith, at.links_span.within, ready.few.links);
      }

      module _ {starts kids : List ℕ} (children : Children z offsets targets starts kids) (covers : Covers) (counted : CoversCounted z groups rows covers) (f : Facts)
          (facts : FactsAt groups covers g f)
        where
          pub ranges-rise : f.from ≤ f.to
          ranges-rise = omega (arith, facts.from_is, facts.to_is, counted.ends_rise g there)

          pub ranges-few : f.to - f.from ≤ 1024
          ranges-few = omega (arith, facts.to_is, counted.ends_few g there)

          ranges-are : f.to - f.from ≡ length (ranges_at z groups rows g)
          ranges-are = rw (facts.from_is, facts.to_is) (counted.ends_count g there)

          labels-count : has_cover groups g ≡ true → length (section_labels S g) ≡ many s.rows
          unfolding labels_at labels_from
          labels-count h =
              let e : suc g ≡ g + 1 = omega arith in
              let labels : section_labels S g ≡ labels_at z rows g =
              labels-section z subject groups rows unresolved roots links offsets targets ready.sorted.by_group g ∙ ap (λ b. cond b (labels_at z rows g) []) h in
              ap length labels ∙ length-several 4 label_here (rows_at z rows g) (drop (start_at z rows g * 4) rows) ∙ rw (e, ← at.rows_span.from_is, ← at.rows_span.to_is)

          module _ (m : Result ℕ Refusal) (measured : SectionMeasured z (length subject) f.known f.rises (f.to - f.from) s unresolved offsets targets starts kids m) where
            rules-told : ruled m ≡ ruling (build_rules kinds (section_graph kinds S g))
            unfolding faults_at
            rules-told =
                measured.rules ∙ ap ruling (sym (rules-are z subject groups rows unresolved roots links offsets targets g s at ready there children facts.known_is
                (facts.rises_is ∙ counted.rises_where g there ∙ sym (rises-section z subject groups rows unresolved roots links offsets targets ready.sorted.by_group g))))

            size-told : {n : ℕ} → m ≡ Ok n → n ≡ length (file_bytes (section_file kinds S g))
            unfolding size_by facts_at
            size-told k =
                let lists = both-lists children in
                measured.size_is k ∙ rw facts.known_is.cover_is
                (sym (ap (λ x. length (file_bytes x)) (file-is z subject groups rows unresolved roots links offsets targets g s at ready there children)
                ∙ file-length z subject groups g s rows unresolved roots links offsets targets starts kids lists at.rows_span.rises at.rows_span.within
                (has_cover groups g) (section_labels S g) (f.to - f.from) labels-count
                (λ h. ap length (ranges-section z subject groups rows unresolved roots links offsets targets ready.sorted.by_group g) ∙ sym ranges-are)))

            pub group-measured : MeasuredGroup S g m
            group-measured = record { rules = rules-told; length_is = size-told; few = measured.few }
