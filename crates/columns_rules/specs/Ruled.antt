-- What building's rules answer, and those of a file and its parents (1 to 5).
use Rattle.std.specs.Prelude.{not, List, [], ◌∷◌, ℕ, length}
use Rattle.std.proofs.Math.Option.{Option}
use Rattle.columns.specs.Limits.{kinds}
use Rattle.columns.specs.Refusal.{refuse, first_of}
use Rattle.columns.specs.Building.{subject_ok, numbers_ok, slot_rules}
use Rattle.columns.specs.EdgeSet.{offsets_form, cut}
use Rattle.columns.specs.declared.refusal.Refusal.{Refusal}
use Rattle.columns.specs.declared.refusal.Refusal.TheVariants.{SubjectLength, EdgeEntries, NumberRange}

-- 1 to 5
unfoldable pub file_rules : List ℕ → ℕ → ℕ → List ℕ → List ℕ → Option Refusal
file_rules subject first rows offsets targets =
    first_of (refuse SubjectLength (not (subject_ok subject))
    ∷ refuse EdgeEntries (not (offsets_form kinds rows (length targets) offsets))
    ∷ refuse NumberRange (not (numbers_ok first rows))
    ∷ slot_rules kinds first 0 (cut offsets targets)
    ∷ [])
