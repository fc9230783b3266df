-- 24-031-no_source-no0: its listing and its cleaned bytes.
use Rattle.std.specs.Prelude.{◌≡◌, refl, List, [], ◌∷◌, ℕ}
use Rattle.columns.specs.Limits.{kinds}
use Rattle.cleaning.specs.Listing.{listing, cleaned_bytes}

input : List ℕ
input = []

listed : listing kinds input ≡ 114 ∷ 101 ∷ 102 ∷ 117 ∷ 115 ∷ 101 ∷ 100 ∷ 32 ∷ 50 ∷ 52 ∷ 10 ∷ []
unfolding listing input
listed = refl

written : cleaned_bytes kinds input ≡ []
unfolding cleaned_bytes input
written = refl
