-- What a listing answers: the files of a sheet are the outputs of its summary, and each way out is the verdict.
use Rattle.std.specs.Prelude.{Err, Ok, Result}
use mathlib.Core.Path.{◌≡◌, refl, sym, ap, ap₂, ◌∙◌}
use mathlib.Core.Bool.{true}
use mathlib.Core.List.{List, [], ◌∷◌, ◌++◌}
use mathlib.Core.Option.{none}
use Prim.Native.Nat.{ℕ, ◌+◌, ◌*◌, ◌≤◌, ◌<◌}
use native.Mathlib.Omega.{arith}
use lib.Dec.{ltb}
use lib.ListN.{length, take, drop}
use lib.Seq.{sets-eq, take_at, drop_at}
use mir.Syntax.{w64}
use mir.Val.{Fits}
use borrow.Author.Tests.{lt-ltb, le-ltb}
use Rattle.columns.specs.Limits.{kinds}
use Rattle.columns.proofs.Served.{kinds-served}
use Rattle.lists.specs.Lists.{up_from}
use Rattle.lists.proofs.Flat.{map-ext}
use Rattle.lists.proofs.Filters.{each_below}
use Rattle.columns.specs.Refusal as verdict
use Rattle.columns.specs.Refusal.{unless, refuse, first_of}
use Rattle.columns.specs.declared.refusal.Refusal.{Refusal}
use Rattle.columns.specs.declared.refusal.Refusal.TheVariants.{SliceShort}
use Rattle.columns.proofs.Told.{told, told-kept}
use Rattle.cleaning.specs.Sections.{Tidy, Filled, section_file, section_rules}
use Rattle.cleaning.specs.Writing.{output_of, outputs, group_numbers}
use Rattle.cleaning.specs.Lines.{listing_text}
use Rattle.cleaning.specs.Listed.{listing_need, listed}
use Rattle.cleaning.specs.Step.{printed, list_into}
use Rattle.cleaning.specs.Sheet as plain
use Rattle.cleaning.specs.Sheet.{groups_of_sheet, summary_of}
use Rattle.cleaning.proofs.SheetFiles.{file-section, filled-section, groups-length, rules-sections}
use Rattle.run_state.specs.declared.Held.{Held}
use Rattle.run_state.specs.declared.Sheet.{Sheet}
use Rattle.run_state.specs.declared.Groups.{Groups}
use Rattle.run_state.specs.Valid.{held_ok}
use Rattle.run_state.specs.View.{held_in, sheet_in}
use Rattle.run_state.specs.order.Ordered.{ordered}
use Rattle.run_state.specs.order.Long.{LongHeld}
use Rattle.run_section.specs.declared.Counts.{Counts}
use Rattle.run_section.specs.Measures.{ruled}
use Rattle.run_section.specs.declared.prepare.Prepared.{Prepared}
use Rattle.run_section.specs.Tables.{sheet_of}
use Rattle.run_section.specs.Laid.{counts_of}
use Rattle.run_section.specs.Covers.{CoversCounted}
use Rattle.run_section.specs.Prepared.{LaidBy, subject_in, offsets_in, targets_in}
use Rattle.run_write.proofs.Lent.{sheet_is}
use Rattle.run_section.specs.Ready.{Ready, Children}
use Rattle.run_records.specs.Lengths.{MeasuredBy}
use Rattle.run_resolve.proofs.sheet.Asking.{few-held}
use Rattle.run_resolve.specs.Outcome.{archive_in}
use Rattle.run_text.specs.numbers.Wrote.{Wrote}
use Rattle.run_list.specs.Rows.{maps_text}
use Rattle.run_list.specs.Groups.{section_files, lines_of, need_of, Spanned}
use Rattle.run_list.specs.Listed.{Lists, text_with}
use Rattle.run_list.proofs.OverRows.{event-count}
use Rattle.run_list.proofs.BySheet.{files-lines, files-need, spanned}

files-sections : (s : plain.Sheet) → Tidy kinds s → Filled s → outputs kinds (summary_of kinds s) ≡ section_files s
unfolding outputs section_files summary_of groups_of_sheet
files-sections s t f =
    let e : group_numbers (summary_of kinds s) ≡ up_from 0 (length s.groups) = ap (up_from 0) (groups-length s.links 0 s.groups) in
    rw e
    (map-ext (output_of kinds (summary_of kinds s)) (section_file kinds s) (up_from 0 (length s.groups))
    (each_below _ (length s.groups) (λ g l. file-section kinds kinds-served s t g l (filled-section s f g l))))

module _ (h : Held) (ok : held_ok h ≡ true) (o : ordered h.sheet ≡ true) (hl : LongHeld h) where
  pub rows_fit : Fits w64 (46 * h.sheet.rows.count)
  rows_fit = record { fits = omega (arith, few-held h ok hl) }

  pub need-fits : {bytes : ℕ} → bytes ≤ 6196736 → Fits w64 (46 * h.sheet.rows.count + (bytes + 32))
  need-fits few = record { fits = omega (arith, few-held h ok hl) }

  module _ (z : Counts) (subject : List ℕ) (groups : Groups) (rows unresolved roots links offsets targets : List ℕ)
      (ready : Ready z subject groups rows unresolved roots links offsets targets) (whole : Filled (sheet_of z subject groups rows unresolved roots links offsets targets))
      {m : Result ℕ Refusal} (d : MeasuredBy (sheet_of z subject groups rows unresolved roots links offsets targets) m) where
    abbrev S : plain.Sheet
    S = sheet_of z subject groups rows unresolved roots links offsets targets

    by-sections : (room : ℕ) → listed kinds room (archive_in h) (summary_of kinds S)
        ≡ unless (first_of (section_rules kinds S ∷ refuse SliceShort (ltb room (listing_need (archive_in h) (section_files S))) ∷ [])) (listing_text (archive_in h) (section_files S))
    unfolding listed
    by-sections room = rw (rules-sections kinds kinds-served S ready.tidy whole, files-sections S ready.tidy whole)

    pub list-refused : (was : List ℕ) (x : Refusal) → m ≡ Err x → {r : Result ℕ Refusal} → r ≡ Err x → Lists (held_in h) S was was r
    unfolding unless first_of
    list-refused was x e i = rw i (record {
      answers = sym (ap list_into {y = verdict.refused x} (by-sections (length was) ∙ rw (told (section_rules kinds S) d.rules (ap ruled e))));
      rest = refl;
      within = omega arith;
    })

    module _ {k : ℕ} (e : m ≡ Ok k) {starts kids : List ℕ} (children : Children z offsets targets starts kids) where
      rules-kept : section_rules kinds S ≡ none
      rules-kept = told-kept (section_rules kinds S) d.rules (ap ruled e)

      pub in_reach : Spanned z groups.count rows offsets targets starts kids
      in_reach = spanned z subject groups rows unresolved roots links offsets targets ready children rules-kept

      module _ {bytes : ℕ} (n : bytes ≡ need_of z groups.count rows offsets targets starts kids) where
        need-told : listing_need (archive_in h) (section_files S) ≡ 46 * h.sheet.rows.count + (bytes + 32)
        unfolding listing_need
        need-told = omega (arith, event-count h ok o hl, files-need z subject groups rows unresolved roots links offsets targets ready children)

        pub list-short : (was : List ℕ) → length was < 46 * h.sheet.rows.count + (bytes + 32) → Lists (held_in h) S was was (Err SliceShort)
        unfolding unless first_of
        list-short was g = record {
          answers = sym (ap list_into {y = verdict.refused SliceShort} (by-sections (length was)
              ∙ rw (rules-kept, lt-ltb (length was) (listing_need (archive_in h) (section_files S)) (omega (arith, need-told)))));
          rest = refl;
          within = omega arith;
        }

        text-is : text_with (archive_in h) (lines_of z groups.count rows offsets targets starts kids) ≡ listing_text (archive_in h) (section_files S)
        unfolding text_with listing_text maps_text
        text-is = rw (files-lines z subject groups rows unresolved roots links offsets targets ready children)

        pub list_all : {was is : List ℕ} {r : ℕ} → 46 * h.sheet.rows.count + (bytes + 32) ≤ length was
            → Wrote (text_with (archive_in h) (lines_of z groups.count rows offsets targets starts kids))
            (46 * h.sheet.rows.count + (need_of z groups.count rows offsets targets starts kids + 32)) was 0 is r
            → Lists (held_in h) S was is (Ok r)
        unfolding unless first_of
        list_all {was} {is} {r} g w =
            let t = listing_text (archive_in h) (section_files S) in
            let need = listing_need (archive_in h) (section_files S) in
            let v = rw text-is at w in
            let k : r ≡ length t = omega (arith, v.next) in
            let z : 0 + length t ≡ length t = omega arith in
            let p : is ≡ t ++ drop (length t) was = v.stored ∙ sets-eq t was 0 (omega (arith, v.short)) ∙ rw z in
            let q : take r is ≡ t = rw (p, k) (take_at t (drop (length t) was) (length t) refl) in
            record {
              answers = ap₂ (λ k l. printed (record { length = k; bytes = l })) k q
                  ∙ sym (ap list_into {y = verdict.accepted t} (by-sections (length was) ∙ rw (rules-kept, le-ltb (length was) need (omega (arith, need-told)))));
              rest = rw (p, k) (drop_at t (drop (length t) was) (length t) refl);
              within = omega (arith, v.short);
            }

-- what was laid is the sheet
module _ (s : Sheet) (p : Prepared) (rows unresolved roots links starts kids : List ℕ) (d : LaidBy s rows unresolved roots links starts kids p) where
  pub counted : CoversCounted (counts_of s) s.groups rows p.covers → CoversCounted p.counts s.groups rows p.covers
  counted k = rw d.counts_are k

  pub listed-laid : (h : Held) {was is : List ℕ} {r : Result ℕ Refusal}
      → Lists (held_in h) (sheet_of p.counts (subject_in s) s.groups rows unresolved roots links (offsets_in s) (targets_in s)) was is r → Lists (held_in h) (sheet_in s) was is r
  listed-laid h w = rw (sheet_is s p rows unresolved roots links starts kids d) at w
