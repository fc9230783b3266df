-- Demand 3 at two archives: other rows are erased in each, and linked otherwise, and both are cleaned to the same bytes. So the claim's premises are met by
-- archives that differ. proofs/Pair has its proof.
use Rattle.std.specs.Prelude.{true, false, List, [], ◌∷◌, ◌≡◌}
use Rattle.columns.specs.Limits.{kinds}
use Rattle.archive.specs.File.{File}
use Rattle.archive.specs.Encode.{encode}
use Rattle.cleaning.specs.Step.{Call, takes, resolves, writes, Bytes, all_of, fresh}
use Rattle.cleaning.specs.History.{history, archive_in, Wrote}
use Rattle.cleaning.specs.Alike.{Alike}
use Rattle.cleaning.specs.Worked.{event, plain_file, worked_file}
use Rattle.cleaning.specs.Listing.{cleaned_bytes}

-- the worked archive has two erased events one after the other; this one has a single erased event, with another tag, in the place of both
unfoldable pub other_file : File
other_file = plain_file 100
    (event false 1 ∷ event true 7 ∷ event false 4 ∷ [])
    ((90 ∷ []) ∷ []
    ∷ (100 ∷ 95 ∷ []) ∷ (100 ∷ [])
    ∷ (101 ∷ []) ∷ (101 ∷ [])
    ∷ [])

-- an archive of one file taken, resolved and written into 400 bytes
unfoldable pub cleaning_of : File → List Call
cleaning_of f = takes (encode (f ∷ [])) ∷ resolves ∷ writes 400 ∷ []

-- the premises of the claim hold of two lists of calls that take different archives, and both lists write the same
pub record Meets (cs ds : List Call) (w : Bytes) : Type 0 where
  pub differ : cs ≡ ds → ⊥
  pub alike : Alike kinds (archive_in kinds (history kinds fresh cs)) (archive_in kinds (history kinds fresh ds))
  pub left : Wrote (history kinds fresh cs) w
  pub right : Wrote (history kinds fresh ds) w

abbrev pub PairMeets : Type 0
PairMeets = Meets (cleaning_of worked_file) (cleaning_of other_file) (all_of (cleaned_bytes kinds (encode (worked_file ∷ []))))
