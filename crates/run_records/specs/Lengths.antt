-- Document 01, "Cleaning" and "Archive records": what measuring all groups' output files answers.
use Rattle.std.specs.Prelude.{◌≡◌, ℕ, length, Ok, Result}
use Rattle.columns.specs.Limits.{kinds}
use Rattle.columns.specs.Answers.{ruling}
use Rattle.cleaning.specs.Sheet.{Sheet}
use Rattle.cleaning.specs.Sections.{section_rules, section_bytes}
use Rattle.columns.specs.declared.refusal.Refusal.{Refusal}
use Rattle.run_section.specs.Measures.{ruled}

-- the first broken rule of all groups; where there is none, how long the archive is
pub record MeasuredBy (s : Sheet) (r : Result ℕ Refusal) : Type 0 where
  pub rules : ruled r ≡ ruling (section_rules kinds s)
  pub length_is : {n : ℕ} → r ≡ Ok n → n ≡ length (section_bytes kinds s)
