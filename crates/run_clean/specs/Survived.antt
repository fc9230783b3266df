-- What a whole cleaning has between the bytes of an archive and what is written: the survivors, of an archive that a fresh run takes.
use Rattle.std.specs.Prelude.{◌≡◌, true, List, ℕ, Err, Result}
use Rattle.columns.specs.Limits.{kinds}
use Rattle.columns.specs.Refusal.{refused, accepted}
use Rattle.columns.specs.declared.refusal.Refusal.{Refusal}
use Rattle.archive.specs.Parse.{parse}
use Rattle.cleaning.specs.Held.{nothing, hold_more}
use Rattle.run_state.specs.declared.Sheet.{Sheet}
use Rattle.run_state.specs.declared.Held.{Held}
use Rattle.run_state.specs.Blank.{blank}
use Rattle.run_state.specs.View.{held_in}
use Rattle.run_state.specs.Valid.{held_ok}
use Rattle.run_state.specs.order.Ordered.{ordered}
use Rattle.run_store.specs.turns.Going.{held_after}
use Rattle.run_store.specs.turns.Parts.{Accepted}
use Rattle.run_resolve.specs.Outcome.{ResolvedBy}

-- nothing is held, and the archive may be stored
pub record Alone (h : Held) (l : List ℕ) : Type 0 where
  pub none : h ≡ blank
  pub accepted : Accepted h l

-- what is held after the files of an archive, resolved
pub record Gathered (h : Held) (l : List ℕ) (r : Result Sheet Refusal) : Type 0 where
  pub held : Held
  pub whole : held_in held ≡ held_after h (parse kinds l)
  pub ok : held_ok held ≡ true
  pub order : ordered held.sheet ≡ true
  pub resolved : ResolvedBy held r

-- a taking that is refused, or what is held after it, resolved
pub data Survived (l : List ℕ) (r : Result Sheet Refusal) : Type 0 where
  untaken : (x : Refusal) → hold_more kinds nothing (parse kinds l) ≡ refused x → r ≡ Err x → Survived l r
  taken : (h : Held) → hold_more kinds nothing (parse kinds l) ≡ accepted (held_in h) → held_ok h ≡ true → ordered h.sheet ≡ true → ResolvedBy h r → Survived l r
