-- What writing answers: the archive where no rule is broken and it has room.
use Rattle.std.specs.Prelude.{Err, Ok, Result}
use mathlib.Core.Path.{◌≡◌, refl, sym, ap, ap₂, ◌∙◌}
use mathlib.Core.Bool.{cond}
use mathlib.Core.List.{List, ◌++◌}
use mathlib.Core.Option.{none}
use Prim.Native.Nat.{ℕ, ◌+◌, ◌≤◌, ◌<◌}
use native.Mathlib.Omega.{arith}
use lib.Dec.{leb}
use lib.ListN.{length, take, drop}
use lib.Seq.{sets, sets-eq, take_at, drop_at}
use borrow.Author.Tests.{le-leb, lt-leb}
use Rattle.columns.specs.Limits.{kinds}
use Rattle.columns.proofs.Served.{kinds-served}
use Rattle.columns.specs.Refusal.{unless}
use Rattle.columns.specs.declared.refusal.Refusal.{Refusal}
use Rattle.columns.specs.declared.refusal.Refusal.TheVariants.{SliceShort}
use Rattle.columns.proofs.Told.{told, told-kept}
use Rattle.cleaning.specs.Sheet.{Sheet, summary_of}
use Rattle.cleaning.specs.Writing.{written}
use Rattle.cleaning.specs.Sections.{Tidy, Filled, section_rules, section_bytes}
use Rattle.cleaning.specs.Step.{all_of, refused, wrote, write_into}
use Rattle.cleaning.proofs.SheetFiles.{written-sections}
use Rattle.run_section.specs.Measures.{ruled}
use Rattle.run_records.specs.Lengths.{MeasuredBy}
use Rattle.run_write.specs.Answers.{Wrote}

-- ── what writing answers ─────────────────────────────────────────────────────────────────────

module _ (s : Sheet) (t : Tidy kinds s) (f : Filled s) where
  as-sections : written kinds (summary_of kinds s) ≡ unless (section_rules kinds s) (section_bytes kinds s)
  as-sections = written-sections kinds kinds-served s t f

  module _ {m : Result ℕ Refusal} (d : MeasuredBy s m) (was : List ℕ) where
    pub wrote-refused : (x : Refusal) → m ≡ Err x → {r : Result ℕ Refusal} → r ≡ Err x → Wrote s was was r
    unfolding unless
    wrote-refused x e i = rw i (record {
      answers = sym (ap (write_into (length was)) (as-sections ∙ ap (λ r. unless r (section_bytes kinds s)) (told (section_rules kinds s) d.rules (ap ruled e))));
      rest = refl;
      within = omega arith;
    })

    module _ {k : ℕ} (e : m ≡ Ok k) where
      no-rule : section_rules kinds s ≡ none
      no-rule = told-kept (section_rules kinds s) d.rules (ap ruled e)

      all-accepted : write_into (length was) (written kinds (summary_of kinds s))
          ≡ cond (leb (length (section_bytes kinds s)) (length was)) (wrote (all_of (section_bytes kinds s))) (refused SliceShort)
      unfolding unless
      all-accepted = ap (write_into (length was)) (as-sections ∙ ap (λ r. unless r (section_bytes kinds s)) no-rule)

      pub wrote-short : length was < k → Wrote s was was (Err SliceShort)
      wrote-short h =
          let q : length was < length (section_bytes kinds s) = omega (arith, d.length_is e) in
          record { answers = sym (all-accepted ∙ rw (lt-leb (length (section_bytes kinds s)) (length was) q)); rest = refl; within = omega arith }

      -- bytes that hold the measured length hold all files
      pub has_room : {room : ℕ} → k ≤ room → length (section_bytes kinds s) ≤ room
      has_room {room} h = omega (arith, h, d.length_is e)

      module _ (h : k ≤ length was) where
        pub wrote_all : {is : List ℕ} → is ≡ sets was 0 (section_bytes kinds s) → Wrote s was is (Ok k)
        wrote_all {is} q =
            let w = section_bytes kinds s in
            let n : k ≡ length w = d.length_is e in
            let z : 0 + length w ≡ length w = omega arith in
            let p : is ≡ w ++ drop (length w) was = q ∙ sets-eq w was 0 (omega arith) ∙ rw z in
            let t : take k is ≡ w = rw (p, n) (take_at w (drop (length w) was) (length w) refl) in
            record {
              answers = ap₂ (λ i l. wrote (record { length = i; bytes = l })) n t ∙ sym (all-accepted ∙ rw (le-leb (length w) (length was) (omega arith)));
              rest = rw (p, n) (drop_at w (drop (length w) was) (length w) refl);
              within = h;
            }
