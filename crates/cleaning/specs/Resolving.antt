-- Document 01, 24, 43, 27: what resolving refuses.
use Rattle.std.specs.Prelude.{Bool, ◌&&◌, not, List, [], ◌∷◌, ℕ, ltb, eqb, length}
use Rattle.std.proofs.Math.Option.{Option}
use Rattle.lists.specs.Lists.{all, any, sum, is_empty, up_from}
use Rattle.columns.specs.Limits.{max_numbers}
use Rattle.columns.specs.Refusal.{refuse, first_of}
use Rattle.columns.specs.declared.refusal.Refusal.{Refusal}
use Rattle.columns.specs.declared.refusal.Refusal.TheVariants.{GroupOrder, OverNumbers, NoSurvivor}
use Rattle.cleaning.specs.Archive.{Event, Archive, Taken}

-- the entries of all events' new lists of all kinds, erased events' own lists too
unfoldable pub entries : List (List (List ℕ)) → ℕ
entries ts = sum (sum length) ts

-- a survivor of a group
unfoldable pub survives_in : ℕ → Event → Bool
survives_in g e = not e.erased && eqb e.body.group g

-- every group has a survivor
unfoldable pub groups_survive : Archive → Bool
groups_survive A = all (λ g. any (survives_in g) A.events) (up_from 0 (length A.groups))

-- no source, too many entries in the new lists, an output file without a survivor
unfoldable pub resolve_rules : Taken → Archive → List (List (List ℕ)) → Option Refusal
resolve_rules t A ts =
    first_of (refuse GroupOrder (is_empty t.sources)
    ∷ refuse OverNumbers (ltb max_numbers (entries ts))
    ∷ refuse NoSurvivor (not (groups_survive A))
    ∷ [])
