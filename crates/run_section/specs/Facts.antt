-- What is known of one group: its depth, whether it has a cover, rule 10, and where its ranges stand.
use Rattle.std.specs.Prelude.{◌≡◌, false, ℕ, ◌+◌, get_or}
use Rattle.run_state.specs.declared.Groups.{Groups}
use Rattle.run_section.specs.declared.covers.Covers.{Covers}
use Rattle.run_section.specs.declared.facts.Facts.{Facts}
use Rattle.run_section.specs.Rules.{KnownOf}

pub record FactsAt (groups : Groups) (covers : Covers) (g : ℕ) (f : Facts) : Type 0 where
  pub known_is : KnownOf groups g f.known
  pub rises_is : f.rises ≡ get_or covers.rises g false
  pub from_is : f.from ≡ get_or covers.ends g 0
  pub to_is : f.to ≡ get_or covers.ends (g + 1) 0
