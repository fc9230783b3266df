-- What the rules of an archive look at of what is held.
use Rattle.std.specs.Prelude.{◌≡◌, ◌≤◌, take}
use Rattle.cleaning.specs.Held.{look_back}
use Rattle.run_state.specs.declared.Held.{Held}
use Rattle.run_state.specs.View.{sheet_in}
use Rattle.run_rules.specs.limits.Figures.{figures}
use Rattle.run_rules.specs.parts.Back.{back_of}
use Rattle.run_take.specs.declared.Known.{Known}

pub record KnownOf (h : Held) (k : Known) : Type 0 where
  pub figures_are : k.figures ≡ figures h
  pub groups_are : k.groups ≡ h.sheet.groups.count
  pub back_is : back_of k.back (take k.subject.length k.subject.bytes) ≡ look_back (sheet_in h.sheet)
  pub short : k.subject.length ≤ 255
