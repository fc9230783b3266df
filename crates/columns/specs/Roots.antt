-- Document 01, 16: `state_root_entries`, its own question, answered in the given order.
use Rattle.std.specs.Prelude.{not, List, [], ◌∷◌, map, ℕ, ◌+◌, ◌-◌, length}
use Rattle.lists.specs.Lists.{all}
use Rattle.columns.specs.Refusal.{Verdict, unless, refuse, first_of, Lent, limits}
use Rattle.columns.specs.Building.{in_file}
use Rattle.columns.specs.declared.refusal.Refusal.TheVariants.{RootOutside}

-- the rows of the events that have a state root; each is an event of the file
unfoldable pub root_entries : ℕ → ℕ → List ℕ → List Lent → Verdict (List ℕ)
root_entries first rows events lent =
    unless (first_of (limits (rows ∷ length events ∷ []) [] lent ∷ refuse RootOutside (not (all (in_file first (first + rows)) events)) ∷ []))
    (map (λ event. event - first) events)
