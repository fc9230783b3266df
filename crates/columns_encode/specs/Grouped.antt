-- Building's rules 11 to 15 in the groups in which they are tested.
use Rattle.std.specs.Prelude.{not, List, [], ◌∷◌, ℕ, ◌+◌}
use Rattle.std.proofs.Math.Option.{Option}
use Rattle.columns.specs.Limits.{kinds}
use Rattle.lists.specs.Lists.{all, distinct}
use Rattle.columns.specs.Refusal.{refuse, first_of}
use Rattle.columns.specs.Building.{InboundColumns, record_count, inbound_lists}
use Rattle.columns.specs.declared.refusal.Refusal.{Refusal}
use Rattle.columns.specs.declared.refusal.Refusal.TheVariants.{InboundTwice}
use Rattle.columns_rules.specs.records.Recorded.{inbound_from}
use Rattle.columns_rules.specs.spans.Spanned.{span_rules}

-- 11 to 13
unfoldable pub edge_rules : ℕ → ℕ → InboundColumns → Option Refusal
edge_rules first rows e =
    first_of (inbound_from first (first + rows) e.children e.parents e.kinds_given 0 (record_count e.children e.parents e.kinds_given)
    ∷ refuse InboundTwice (not (all distinct (inbound_lists kinds first rows e)))
    ∷ [])

-- 11 to 15
unfoldable pub late_rules : ℕ → ℕ → List (List ℕ) → InboundColumns → ℕ → ℕ → Option Refusal
late_rules first rows lists e from n = first_of (edge_rules first rows e ∷ span_rules first rows lists (inbound_lists kinds first rows e) from n ∷ [])

-- 13 to 15, of the lists of a file and its inbound lists
unfoldable pub table_rules : ℕ → ℕ → List (List ℕ) → List (List ℕ) → ℕ → ℕ → Option Refusal
table_rules first rows lists inbound from n =
    first_of (refuse InboundTwice (not (all distinct inbound)) ∷ span_rules first rows lists inbound from n ∷ [])
