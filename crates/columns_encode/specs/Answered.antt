-- What building answers and leaves in the six slices that it is lent, as views of its verdict.
use Rattle.std.specs.Prelude.{List, ℕ, zero, suc, ℤ, Err, Ok, Result}
use Rattle.std.proofs.lemmas.List.Edits.{sets}
use Rattle.columns.specs.Limits.{kinds}
use Rattle.columns.specs.Refusal.{Verdict, refused, accepted, unless}
use Rattle.columns.specs.EdgeSet.{EdgeSet}
use Rattle.columns.specs.Building.{InboundColumns, Built, reverse_lists, inbound_lists}
use Rattle.columns_sets.specs.sets.Reached.{set_at}
use Rattle.columns_encode.specs.Grouped.{late_rules}
use Rattle.columns.specs.declared.refusal.Refusal.{Refusal}
use Rattle.columns_encode.specs.Encoded.{counts_of}
use Rattle.columns_encode.specs.declared.writing.Counts.{Counts}

-- the verdict of a file that keeps the limits and 1 to 10
unfoldable pub late_verdict : ℕ → ℕ → List (List ℕ) → InboundColumns → ℕ → ℕ → Verdict Built
late_verdict first rows lists e from n =
    unless (late_rules first rows lists e from n)
    (record { forward = set_at first from n lists; reverse = set_at first from n (reverse_lists kinds first rows lists); inbound = set_at first from n (inbound_lists kinds first rows e) })

-- how many edges each set has, or the refusal
unfoldable pub encoded_of : Verdict Built → Result Counts Refusal
encoded_of (refused r) = Err r
encoded_of (accepted b) = Ok (counts_of b.forward b.reverse b.inbound)

-- a set of a granule by its number
abbrev pub set_in : ℕ → Built → EdgeSet
set_in zero b = b.forward
set_in (suc zero) b = b.reverse
set_in (suc (suc set)) b = b.inbound

-- a slice lent for a set's offsets: they stand from its start on, and behind them it is as it was; after a refusal all is as it was
unfoldable pub offsets_laid : ℕ → Verdict Built → List ℕ → List ℕ
offsets_laid set (refused r) was = was
offsets_laid set (accepted b) was = sets was 0 (set_in set b).offsets

-- a slice lent for a set's deltas, the same way
unfoldable pub deltas_laid : ℕ → Verdict Built → List ℤ → List ℤ
deltas_laid set (refused r) was = was
deltas_laid set (accepted b) was = sets was 0 (set_in set b).deltas
