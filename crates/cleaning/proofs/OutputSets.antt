-- The sets of an output file as building makes them: of the rows' lists, of those turned round, of the edges of other files; and 17 to 19 pass them.
use mathlib.Core.Path.{◌≡◌, ap}
use mathlib.Core.List.{List}
use mathlib.Core.Option.{none}
use Prim.Native.Nat.{ℕ, ◌*◌, ◌<◌}
use native.Mathlib.Omega.{arith}
use native.Mathlib.Nat.{add-zero, mul-zero}
use lib.ListN.{length}
use lib.Seq.{take_all}
use Rattle.lists.specs.Lists.{part}
use Rattle.lists.proofs.Each.{each-imp}
use Rattle.columns.specs.Limits.{Served, end64}
use Rattle.columns.specs.EdgeSet.{forward, reverse, inbound, set_of}
use Rattle.columns.specs.Reading.{set_rules}
use Rattle.columns.specs.Building.{InboundColumns, reverse_lists, inbound_lists, forward_part, reverse_part, inbound_part, granule_start, Built, built_of}
use Rattle.columns.proofs.ReadBack.{AllowedFrom, set-rules, cut-joined}
use Rattle.columns.proofs.Turned.{length-table}
use Rattle.cleaning.specs.Summary.{Summary}
use Rattle.cleaning.specs.Writing.{rows_in, edges_of, inbound_columns, slots_of_rows, graph_of_rows, graph_of, group_at, file_of_rows, output_of}
use Rattle.cleaning.proofs.Good.{GoodLists, Good}
use Rattle.cleaning.proofs.Blocks.{GoodRow, rows_counted, rows-first, rows-good}
use Rattle.cleaning.proofs.Followed.{length-slots}
use Rattle.cleaning.proofs.Outputs.{forward-part, rows_kinds}
use Rattle.cleaning.proofs.OutputSides.{forward-side, reverse-side, inbound-side, first_of, end_of, end-within, children-past}

-- ── what they are made of ────────────────────────────────────────────────────────────────────

abbrev pub forward_of : Summary → ℕ → List (List ℕ)
forward_of S g = slots_of_rows (rows_in S g)

abbrev pub reverse_of : (K : ℕ) → Summary → ℕ → List (List ℕ)
reverse_of K S g = reverse_lists K (first_of S g) (length (rows_in S g)) (forward_of S g)

abbrev pub edges_to : Summary → ℕ → InboundColumns
edges_to S g = inbound_columns (edges_of S g (first_of S g) (end_of S g))

abbrev pub inbound_of : (K : ℕ) → Summary → ℕ → List (List ℕ)
inbound_of K S g = inbound_lists K (first_of S g) (length (rows_in S g)) (edges_to S g)

abbrev pub sets_of : (K : ℕ) → Summary → ℕ → Built
sets_of K S g = record { forward = set_of K (first_of S g) (forward_of S g); reverse = set_of K (first_of S g) (reverse_of K S g); inbound = set_of K (first_of S g) (inbound_of K S g) }

module _ (K : ℕ) (served : Served K) (S : Summary) (good : Good K S) (g : ℕ) where
  pub forward-full : length (forward_of S g) ≡ K * length (rows_in S g)
  forward-full = length-slots K served (rows_in S g) (rows_kinds K served S good g)

  pub reverse-full : length (reverse_of K S g) ≡ K * length (rows_in S g)
  unfolding reverse_lists
  reverse-full = length-table K _ (first_of S g) (length (rows_in S g))

  pub inbound-full : length (inbound_of K S g) ≡ K * length (rows_in S g)
  unfolding inbound_lists
  inbound-full = length-table K _ (first_of S g) (length (rows_in S g))

  pub parts-forward : forward_part K (graph_of S g) ≡ forward_of S g
  unfolding graph_of
  parts-forward = forward-part K served S g (group_at S g) (rows_in S g) (rows_kinds K served S good g)

  pub parts-reverse : reverse_part K (graph_of S g) ≡ reverse_of K S g
  unfolding reverse_part graph_of graph_of_rows part
  parts-reverse = rw (cut-joined (forward_of S g), mul-zero K) (take_all (K * length (rows_in S g)) (reverse_of K S g) (omega (arith, reverse-full)))

  pub parts-inbound : inbound_part K (graph_of S g) ≡ inbound_of K S g
  unfolding inbound_part graph_of graph_of_rows part
  parts-inbound = rw (mul-zero K) (take_all (K * length (rows_in S g)) (inbound_of K S g) (omega (arith, inbound-full)))

  pub starts_first : granule_start (graph_of S g) ≡ first_of S g
  unfolding graph_of graph_of_rows
  starts_first = add-zero (first_of S g)

  pub output-sets : output_of K S g ≡ file_of_rows S.subject g (group_at S g) (rows_in S g) (sets_of K S g)
  unfolding output_of built_of
  output-sets = ap (file_of_rows S.subject g (group_at S g) (rows_in S g)) (λ i. record {
    forward = set_of K (starts_first i) (parts-forward i);
    reverse = set_of K (starts_first i) (parts-reverse i);
    inbound = set_of K (starts_first i) (parts-inbound i);
  })

  -- ── 17 to 19 ─────────────────────────────────────────────────────────────────────────────────

  module _ (l : g < length S.groups) where
    fits : end_of S g < end64
    fits = omega (arith, end-within K served S good g l, good.numbers)

    side : AllowedFrom K forward (first_of S g) (end_of S g) 0 (forward_of S g)
    side =
        forward-side K served (first_of S g) (rows_in S g) (rw (rows-first K served S good g l) (rows_counted K served S good g l)) (omega (arith, fits))
        (each-imp (GoodRow K S g) (λ r. GoodLists K r.number r.row.parents) (rows_in S g) (λ r h. h.lists) (rows-good K served S good g))

    pub forward-rules : set_rules K forward (first_of S g) (length (rows_in S g)) (end_of S g) (sets_of K S g).forward ≡ none
    forward-rules = set-rules K forward (first_of S g) (length (rows_in S g)) (end_of S g) (forward_of S g) forward-full side

    pub reverse-rules : set_rules K reverse (first_of S g) (length (rows_in S g)) (end_of S g) (sets_of K S g).reverse ≡ none
    reverse-rules =
        set-rules K reverse (first_of S g) (length (rows_in S g)) (end_of S g) (reverse_of K S g) reverse-full
        (reverse-side K served (first_of S g) (length (rows_in S g)) (end_of S g) (forward_of S g) side (omega arith) (omega (arith, fits)))

    pub inbound-rules : set_rules K inbound (first_of S g) (length (rows_in S g)) (end_of S g) (sets_of K S g).inbound ≡ none
    inbound-rules =
        set-rules K inbound (first_of S g) (length (rows_in S g)) (end_of S g) (inbound_of K S g) inbound-full
        (inbound-side K served (first_of S g) (length (rows_in S g)) (end_of S g) (edges_to S g) (omega (arith, fits)) (children-past K served S good g l))
