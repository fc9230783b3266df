use Rattle.cover_build.proofs.Ruled.{over-told, short-told, uneven-told, kept-told}
use Rattle.cover_build.proofs.build_rules.Goals as goal

pub returns-then-any_over : goal.returns-then-any_over
returns-then-any_over c = search over-told

pub returns-then-any_short : goal.returns-then-any_short
returns-then-any_short c = search short-told

pub returns-then-not-are_even : goal.returns-then-not-are_even
returns-then-not-are_even c = search uneven-told

pub returns : goal.returns
returns c = search kept-told
