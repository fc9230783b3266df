-- The groups of building's rules, one after the other, are building's rules.
use mathlib.Core.Path.{◌≡◌, refl}
use mathlib.Core.List.{[], ◌∷◌}
use mathlib.Core.Option.{Option, none, some}
use Rattle.columns.specs.Limits.{kinds}
use Rattle.columns.specs.Refusal.{first_of}
use Rattle.columns.specs.Building.{Graph, slots_in, all_unresolved_rules, all_inbound_rules, forward_part, reverse_part, inbound_part, build_rules}
use Rattle.columns_rules.specs.Ruled.{file_rules}
use Rattle.columns_rules.specs.records.Recorded.{unresolved_from, inbound_from, depth_rules, record_rules}
use Rattle.columns_rules.specs.spans.Spanned.{span_rules}
use Rattle.columns_encode.specs.Grouped.{edge_rules, late_rules}
use Rattle.columns.specs.declared.refusal.Refusal.{Refusal}

groups : (a1 a2 a3 a4 b1 b2 b3 c1 c2 d1 d2 d3 d4 : Option Refusal)
    → first_of (a1 ∷ a2 ∷ a3 ∷ a4 ∷ b1 ∷ b2 ∷ b3 ∷ c1 ∷ c2 ∷ d1 ∷ d2 ∷ d3 ∷ d4 ∷ [])
    ≡ first_of (first_of (a1 ∷ a2 ∷ a3 ∷ a4 ∷ []) ∷ first_of (b1 ∷ first_of (b2 ∷ b3 ∷ []) ∷ []) ∷ first_of (first_of (c1 ∷ c2 ∷ []) ∷ first_of (d1 ∷ d2 ∷ d3 ∷ d4 ∷ []) ∷ []) ∷ [])
unfolding first_of
groups (some x) a2 a3 a4 b1 b2 b3 c1 c2 d1 d2 d3 d4 = refl
groups none (some x) a3 a4 b1 b2 b3 c1 c2 d1 d2 d3 d4 = refl
groups none none (some x) a4 b1 b2 b3 c1 c2 d1 d2 d3 d4 = refl
groups none none none (some x) b1 b2 b3 c1 c2 d1 d2 d3 d4 = refl
groups none none none none (some x) b2 b3 c1 c2 d1 d2 d3 d4 = refl
groups none none none none none (some x) b3 c1 c2 d1 d2 d3 d4 = refl
groups none none none none none none (some x) c1 c2 d1 d2 d3 d4 = refl
groups none none none none none none none (some x) c2 d1 d2 d3 d4 = refl
groups none none none none none none none none (some x) d1 d2 d3 d4 = refl
groups none none none none none none none none none (some x) d2 d3 d4 = refl
groups none none none none none none none none none none (some x) d3 d4 = refl
groups none none none none none none none none none none none (some x) d4 = refl
groups none none none none none none none none none none none none (some x) = refl
groups none none none none none none none none none none none none none = refl

pub all-rules : (g : Graph) → build_rules kinds g
    ≡ first_of (file_rules g.subject g.first g.rows g.offsets g.targets
    ∷ record_rules g.first g.rows g.unresolved.children g.unresolved.kinds_given g.unresolved.flags g.depth g.labels
    ∷ late_rules g.first g.rows (slots_in g) g.inbound g.granule_first g.granule_rows
    ∷ [])
unfolding build_rules file_rules depth_rules record_rules edge_rules span_rules late_rules unresolved_from inbound_from all_unresolved_rules all_inbound_rules forward_part reverse_part inbound_part
all-rules g = groups _ _ _ _ _ _ _ _ _ _ _ _ _
