-- Building's rules on records and labels (6 to 12), from a place on, and in the groups in which they are tested.
use Rattle.std.specs.Prelude.{Bool, true, false, not, List, [], ◌∷◌, ℕ, ◌+◌}
use Rattle.std.proofs.Math.Option.{Option, none, some}
use Rattle.std.proofs.Math.ListN.{get_elem?}
use Rattle.columns.specs.Limits.{kinds}
use Rattle.lists.specs.Lists.{up_from}
use Rattle.columns.specs.Refusal.{refuse, first_of, first_in}
use Rattle.columns.specs.Building.{Depth, InboundColumns, record_count, depth_ok, labels_rules, unresolved_rules, inbound_rules}
use Rattle.columns.specs.Reading.{Labels}
use Rattle.columns.specs.declared.refusal.Refusal.{Refusal}
use Rattle.columns.specs.declared.refusal.Refusal.TheVariants.{DepthOrder}
use Rattle.columns.specs.declared.depth.Depth as given
use Rattle.columns.specs.declared.depth.Depth.TheVariants.{Unknown, Between}

-- 6 and 7 of n unresolved records, from place i on
unfoldable pub unresolved_from : ℕ → ℕ → List ℕ → List ℕ → List ℕ → ℕ → ℕ → Option Refusal
unresolved_from first end cs ks fs i n = first_in (λ j. unresolved_rules first end (get_elem? cs j) (get_elem? ks j) (get_elem? fs j)) (up_from i n)

-- 11 and 12 of n inbound edges, from place i on
unfoldable pub inbound_from : ℕ → ℕ → List ℕ → List ℕ → List ℕ → ℕ → ℕ → Option Refusal
inbound_from first end cs ps ks i n = first_in (λ j. inbound_rules kinds first end (get_elem? cs j) (get_elem? ps j) (get_elem? ks j)) (up_from i n)

-- labels as lent: none where there is no cover
abbrev pub labels_given : Bool → List ℕ → List ℕ → Option Labels
labels_given false chains seqs = none
labels_given true chains seqs = some (record { chains = chains; seqs = seqs })

-- depth as given: none where it is not known
unfoldable pub depth_of : given.Depth → Option Depth
depth_of Unknown = none
depth_of (Between least greatest) = some (record { least = least; greatest = greatest })

abbrev pub inbound_of : List ℕ → List ℕ → List ℕ → InboundColumns
inbound_of cs ps ks = record { children = cs; parents = ps; kinds_given = ks }

-- 8 to 10
unfoldable pub depth_rules : ℕ → Option Depth → Option Labels → Option Refusal
depth_rules rows depth labels = first_of (refuse DepthOrder (not (depth_ok depth)) ∷ labels_rules rows labels ∷ [])

-- 6 to 10
unfoldable pub record_rules : ℕ → ℕ → List ℕ → List ℕ → List ℕ → Option Depth → Option Labels → Option Refusal
record_rules first rows cs ks fs depth labels = first_of (unresolved_from first (first + rows) cs ks fs 0 (record_count cs ks fs) ∷ depth_rules rows depth labels ∷ [])
