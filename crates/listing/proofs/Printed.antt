-- What is printed of an archive is its listing: the text that was written, or the line of the refusal.
use Rattle.std.specs.Prelude.{Err, Ok, Result}
use mathlib.Core.Path.{◌≡◌, ap, ◌∙◌}
use mathlib.Core.List.{List}
use Prim.Native.Nat.{ℕ, ◌≤◌}
use native.Mathlib.Omega.{arith}
use lib.ListN.{length, get_or}
use mir.Syntax.{w8}
use mir.Val.{Fits}
use Rattle.columns.specs.Limits.{kinds}
use Rattle.columns.specs.declared.refusal.Refusal.{Refusal}
use Rattle.cleaning.specs.Lines.{refused_line}
use Rattle.cleaning.specs.Step.{printed}
use Rattle.cleaning.specs.Listing.{listing}
use Rattle.run_text.specs.numbers.Wrote.{Wrote}
use Rattle.run_write.specs.Answers.{answer_of, Gives}
use Rattle.run_take.proofs.Answers.{files-fit}
use Rattle.run_print.specs.Whole.{listing_from, said}
use Rattle.run_print.proofs.OverSources.{listing-said}
use Rattle.listing.specs.Printed.{Printed}
use Rattle.messages.proofs.Prefix.{counts, front}

module _ (bytes : List ℕ) (fit : (i : ℕ) → Fits w8 (get_or bytes i 0)) {was mid : List ℕ} (h : 437792 ≤ length was) (same : length mid ≡ length was)
    {w : Result ℕ Refusal} (g : Gives printed (listing_from bytes) was mid w) where
  is-listing : said (answer_of printed w mid) ≡ listing kinds bytes
  is-listing = ap said g.answers ∙ listing-said (length was) h bytes (files-fit bytes fit)

  pub refusal-printed : {is : List ℕ} {r : ℕ} (x : Refusal) → w ≡ Err x → Wrote (refused_line x) 29 mid 0 is r → length is ≡ length mid
      → Printed bytes is r
  refusal-printed {is} {r} x e p kept =
      record { within = counts r is (omega (arith, p.next, p.short)); text = front p (omega arith) ∙ (rw e at is-listing) }

  pub text_printed : (n : ℕ) → w ≡ Ok n → Printed bytes mid n
  text_printed n e = let k : n ≤ length was = rw e at g.within in record { within = counts n mid (omega arith); text = rw e at is-listing }
