-- Every row of document 01's table agrees with the rules, by computation.
use mathlib.Core.Path.{◌≡◌, refl}
use mathlib.Core.List.{map}
use Rattle.cleaning.specs.Computes.{computes}
use Rattle.cleaning.specs.Listing.{listing}
use Rattle.cleaning.specs.Worked.{worked_file, erased_file, told, worked_walk, answer_of, table}

pub worked : map (λ line. answer_of line.question) table ≡ map (λ line. line.reply) table
unfolding computes listing worked_file erased_file told worked_walk answer_of table
worked = refl
