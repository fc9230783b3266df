-- Document 01, "Edge columns": parents, children and label of a number. A number outside the granule has none.
use Rattle.std.specs.Prelude.{cond, List, [], ◌∷◌, ◌++◌, ℕ, ◌+◌, ◌-◌, ◌*◌, ltb, length, get_or}
use Rattle.std.proofs.Math.Option.{Option, none}
use Rattle.std.proofs.Math.ListN.{get_elem?}
use Rattle.columns.specs.Limits.{max_numbers}
use Rattle.columns.specs.Refusal.{Verdict, unless, refuse, first_of, Lent, limits}
use Rattle.columns.specs.EdgeSet.{EdgeSet, forward, reverse, inbound}
use Rattle.columns.specs.declared.refusal.Refusal.TheVariants.{OverNumbers}
use Rattle.columns.specs.Reading.{Label, Labels, set_rules, slots_of, label_rules, labels_of, set_lengths}

-- the list of a number and a kind, out of the lists of the slots from `first` on
unfoldable pub list_of : (K : ℕ) → ℕ → List (List ℕ) → ℕ → ℕ → List ℕ
list_of K first lists kind number = cond (ltb number first) [] (get_or lists (K * (number - first) + kind) [])

-- the parents of a number: its forward list
unfoldable pub parents : (K : ℕ) → ℕ → ℕ → ℕ → EdgeSet → ℕ → ℕ → List Lent → Verdict (List ℕ)
parents K first rows end f kind number lent =
    unless (first_of (limits (rows ∷ []) (set_lengths f) lent ∷ set_rules K forward first rows end f ∷ []))
    (list_of K first (slots_of K first f) kind number)

-- the children of a number: its reverse list, then its inbound list
unfoldable pub children_of : (K : ℕ) → ℕ → EdgeSet → EdgeSet → ℕ → ℕ → List ℕ
children_of K first r i kind number = list_of K first (slots_of K first r) kind number ++ list_of K first (slots_of K first i) kind number

-- an answer is a column of numbers too, and two sets may hold more for one number than a column does (43)
unfoldable pub children : (K : ℕ) → ℕ → ℕ → ℕ → EdgeSet → EdgeSet → ℕ → ℕ → List Lent → Verdict (List ℕ)
children K first rows end r i kind number lent =
    unless (first_of (limits (rows ∷ []) (set_lengths r ++ set_lengths i) lent
    ∷ set_rules K reverse first rows end r
    ∷ set_rules K inbound first rows end i
    ∷ refuse OverNumbers (ltb max_numbers (length (children_of K first r i kind number)))
    ∷ []))
    (children_of K first r i kind number)

-- the label at a place, if there is one
unfoldable pub label_at : ℕ → List Label → ℕ → Option Label
label_at first labels number = cond (ltb number first) none (get_elem? labels (number - first))

-- the label of a number
unfoldable pub label : ℕ → ℕ → Labels → ℕ → Verdict (Option Label)
label first rows c number =
    unless (first_of (limits (rows ∷ []) (length c.chains ∷ length c.seqs ∷ []) [] ∷ label_rules rows c ∷ []))
    (label_at first (labels_of c.chains c.seqs) number)
