-- Building's rules on a granule (14, 15): every target of its slots is in reach of signed 64 bits.
use Rattle.std.specs.Prelude.{Bool, true, not, ◌&&◌, List, [], ◌∷◌, map, ℕ, suc, ◌+◌, ◌*◌, ltb}
use Rattle.std.proofs.Math.Option.{Option}
use Rattle.columns.specs.Limits.{kinds}
use Rattle.lists.specs.Lists.{all, part}
use Rattle.columns.specs.Refusal.{refuse, first_of}
use Rattle.columns.specs.Building.{fits63, deltas_fit, reverse_lists}
use Rattle.columns.specs.EdgeSet.{delta_of, event_of}
use Rattle.columns.specs.declared.refusal.Refusal.{Refusal}
use Rattle.columns.specs.declared.refusal.Refusal.TheVariants.{GranuleRows, DeltaRange}

-- every target of an event is in reach of signed 64 bits
unfoldable pub spans_fit : ℕ → List ℕ → Bool
spans_fit event ts = all fits63 (map (delta_of event) ts)

-- every target of the slots from `slot` on is in reach of its event
unfoldable pub slots_fit : ℕ → ℕ → List (List ℕ) → Bool
slots_fit first slot [] = true
slots_fit first slot (ts ∷ lists) = spans_fit (event_of kinds first slot) ts && slots_fit first (suc slot) lists

-- 14 and 15, of the lists of a file and its inbound lists
unfoldable pub span_rules : ℕ → ℕ → List (List ℕ) → List (List ℕ) → ℕ → ℕ → Option Refusal
span_rules first rows lists inbound from n =
    first_of (refuse GranuleRows (ltb rows (from + n))
    ∷ refuse DeltaRange (not (deltas_fit kinds (first + from) (part (2 * from) (2 * n) lists)))
    ∷ refuse DeltaRange (not (deltas_fit kinds (first + from) (part (2 * from) (2 * n) (reverse_lists kinds first rows lists))))
    ∷ refuse DeltaRange (not (deltas_fit kinds (first + from) (part (2 * from) (2 * n) inbound)))
    ∷ [])
