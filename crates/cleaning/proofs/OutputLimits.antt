-- The output files of a good summary are within the limits of 42 and 43.
use mathlib.Core.Path.{◌≡◌, ap, ◌∙◌}
use mathlib.Core.Bool.{Bool, false}
use mathlib.Core.List.{[], map}
use Prim.Native.Nat.{ℕ, suc, ◌+◌, ◌≤◌, ◌<◌}
use native.Mathlib.Omega.{arith}
use borrow.Author.Tests.{le-ltb, lt-leb, ltb-true}
use lib.Dec.{ltb, leb}
use lib.ListN.{length, length-map}
use Rattle.lists.specs.Lists.{joined, sum, once}
use Rattle.lists.proofs.Tests.{both}
use Rattle.lists.proofs.Each.{each-get_or}
use Rattle.lists.proofs.Flat.{length-flat, length-joined, length-up_from}
use Rattle.columns.specs.Limits.{Served, max_records, max_groups, max_numbers}
use Rattle.columns.specs.Building.{in_file}
use Rattle.cleaning.specs.Taking.{group_count, stored_ranges, stored_link_count, over_records, over_numbers}
use Rattle.cleaning.specs.Summary.{Summary}
use Rattle.cleaning.specs.Writing.{numbered, rows_in, edges_of, slots_of_rows, no_group, group_at, output_of, outputs, group_numbers}
use Rattle.cleaning.proofs.Good.{GoodGroup, link_number, Good}
use Rattle.cleaning.proofs.Numbers.{sum-numbered}
use Rattle.cleaning.proofs.Blocks.{rows_before, rows-first, before-all, before-rises}
use Rattle.cleaning.proofs.Outputs.{row_of}
use Rattle.cleaning.proofs.OutputSides.{first_of, end_of, end-next}
use Rattle.cleaning.proofs.OutputSets.{forward_of, reverse_of, inbound_of, forward-full}
use Rattle.lists.proofs.Sums.{sum-flat}
use Rattle.lists.proofs.Counting.{sum_below, sum-equal, sum_ones, sum-swap, bit, at_most_one}
use Rattle.cleaning.proofs.Turnings.{reverse-entries, inbound-entries, targets, edges-entries}
use Rattle.cleaning.proofs.OutputFigures.{roots_few, cover-ranges, cover-links, references-counted, once-few, length-deltas, files-sum, within, rows-sum, groups-sum}

module _ (K : ℕ) (served : Served K) (S : Summary) (good : Good K S) where
  -- ── 42 ───────────────────────────────────────────────────────────────────────────────────────

  all-events : sum (λ g. length (rows_in S g)) (group_numbers S) ≤ max_records
  all-events = omega (arith, before-all K served S good, good.row_count)

  pub few-events : sum (λ f. length f.rows) (outputs K S) ≤ max_records
  few-events = omega (arith, files-sum K served S good (λ f. length f.rows) (λ g. length (rows_in S g)) (λ g l. omega (arith, length-map (rows_in S g) row_of)), all-events)

  pub few-roots : sum (λ f. length f.roots) (outputs K S) ≤ max_records
  few-roots = omega (arith, files-sum K served S good (λ f. length f.roots) (λ g. length (rows_in S g)) (λ g l. roots_few 0 (rows_in S g)), all-events)

  pub few-unresolved : sum (λ f. length f.unresolved) (outputs K S) ≤ max_records
  few-unresolved =
      omega (
        arith,
        files-sum K served S good (λ f. length f.unresolved) (λ g. sum (λ r. length r.row.body.unresolved) (rows_in S g))
            (λ g l. omega (arith, references-counted (rows_in S g))),
        rows-sum K served S good (λ r. length r.body.unresolved),
        good.references,
      )

  pub few-ranges : sum (λ f. stored_ranges f.cover) (outputs K S) ≤ max_records
  few-ranges =
      omega (arith, files-sum K served S good (λ f. stored_ranges f.cover) (λ g. length (rows_in S g)) (λ g l. cover-ranges (group_at S g).links (rows_in S g)), all-events)

  pub few-links : sum (λ f. stored_link_count f.cover) (outputs K S) ≤ max_records
  few-links =
      omega (
        arith,
        files-sum K served S good (λ f. stored_link_count f.cover) (λ g. link_number (group_at S g).links)
            (λ g l. omega (arith, cover-links (group_at S g).links (rows_in S g) (each-get_or GoodGroup S.groups g no_group good.groups l).2)),
        groups-sum K served S good (λ g. link_number g.links),
        good.links,
      )

  few-groups : ltb max_groups (group_count [] (outputs K S)) ≡ false
  unfolding group_count once outputs
  few-groups = le-ltb max_groups (group_count [] (outputs K S)) (omega (
    arith,
    once-few [] (map (λ f. f.group) (outputs K S)),
    length-map (outputs K S) (λ f. f.group),
    length-map (group_numbers S) (output_of K S),
    length-up_from 0 (length S.groups),
    good.group_count,
  ))

  pub records-within : over_records [] (outputs K S) ≡ false
  unfolding over_records
  records-within =
      rw (
        within K served S good max_records _ (λ f. length f.rows) few-events,
        within K served S good max_records _ (λ f. length f.roots) few-roots,
        within K served S good max_records _ (λ f. length f.unresolved) few-unresolved,
        within K served S good max_records _ (λ f. stored_ranges f.cover) few-ranges,
        within K served S good max_records _ (λ f. stored_link_count f.cover) few-links,
        few-groups,
      )

  -- ── 43 ───────────────────────────────────────────────────────────────────────────────────────

  entries-of : (g : ℕ) → sum length (forward_of S g) ≡ sum (λ r. sum length r.row.parents) (rows_in S g)
  unfolding slots_of_rows
  entries-of g = sum-flat length (λ r. r.row.parents) (rows_in S g)

  length-targets : length (targets S) ≡ sum (λ r. sum length r.parents) S.rows
  unfolding numbered
  length-targets =
      length-flat (λ r. joined r.row.parents) (numbered S)
      ∙ sum-equal (λ r. length (joined r.row.parents)) (λ r. sum length r.row.parents) (λ r. length-joined r.row.parents) (numbered S)
      ∙ sum-numbered (λ r. sum length r.parents) S.start S.rows

  all-entries : sum (λ g. sum (λ r. sum length r.row.parents) (rows_in S g)) (group_numbers S) ≤ max_numbers
  all-entries = omega (arith, rows-sum K served S good (λ r. sum length r.parents), good.entries)

  pub few_forward : sum (λ f. length f.forward.deltas) (outputs K S) ≤ max_numbers
  few_forward = omega (
    arith,
    all-entries,
    files-sum K served S good (λ f. length f.forward.deltas) (λ g. sum (λ r. sum length r.row.parents) (rows_in S g))
        (λ g l. omega (arith, length-deltas K served (first_of S g) (forward_of S g), entries-of g)),
  )

  pub few_reverse : sum (λ f. length f.reverse.deltas) (outputs K S) ≤ max_numbers
  few_reverse = omega (
    arith,
    all-entries,
    files-sum K served S good (λ f. length f.reverse.deltas) (λ g. sum (λ r. sum length r.row.parents) (rows_in S g))
        (λ g l. omega (
          arith,
          length-deltas K served (first_of S g) (reverse_of K S g),
          entries-of g,
          reverse-entries K served (first_of S g) (length (rows_in S g)) (forward_of S g) (forward-full K served S good g),
        )),
  )

  -- whether an entry is in the numbers of a group
  abbrev into : ℕ → ℕ → Bool
  into g p = in_file (S.start + rows_before S g) (S.start + rows_before S (suc g)) p

  -- an entry is in the numbers of one group
  one-group : (p : ℕ) → sum (λ g. bit (into g p)) (group_numbers S) ≤ 1
  unfolding in_file
  one-group p =
      at_most_one (λ g. into g p)
      (λ j k e l. let below : p < S.start + rows_before S (suc j) = ltb-true p _ (both (leb (S.start + rows_before S j) p) _ e).1 in
      rw (lt-leb (S.start + rows_before S k) p (omega (arith, before-rises K served S good (suc j) k l)))) 0 (length S.groups)

  edges : (g : ℕ) → g < length S.groups → sum length (inbound_of K S g) ≤ sum (λ p. bit (into g p)) (targets S)
  edges g l =
      let same : sum (λ p. bit (in_file (first_of S g) (end_of S g) p)) (targets S) ≡ sum (λ p. bit (into g p)) (targets S) =
      ap (λ n. sum (λ p. bit (in_file n (end_of S g) p)) (targets S)) (rows-first K served S good g l)
      ∙ ap (λ n. sum (λ p. bit (in_file (S.start + rows_before S g) n p)) (targets S)) (end-next K served S good g l) in
      omega (arith, inbound-entries K served (first_of S g) (length (rows_in S g)) (edges_of S g (first_of S g) (end_of S g)), edges-entries S g (first_of S g) (end_of S g), same)

  pub few_inbound : sum (λ f. length f.inbound.deltas) (outputs K S) ≤ max_numbers
  few_inbound =
      omega (
        arith,
        files-sum K served S good (λ f. length f.inbound.deltas) (λ g. sum (λ p. bit (into g p)) (targets S))
            (λ g l. omega (arith, length-deltas K served (first_of S g) (inbound_of K S g), edges g l)),
        sum-swap (λ g p. bit (into g p)) (group_numbers S) (targets S),
        sum_below (λ p. sum (λ g. bit (into g p)) (group_numbers S)) (λ p. 1) one-group (targets S),
        sum_ones (targets S),
        length-targets,
        good.entries,
      )

  pub numbers-within : over_numbers [] (outputs K S) ≡ false
  unfolding over_numbers
  numbers-within =
      rw (
        within K served S good max_numbers _ (λ f. length f.forward.deltas) few_forward,
        within K served S good max_numbers _ (λ f. length f.reverse.deltas) few_reverse,
        within K served S good max_numbers _ (λ f. length f.inbound.deltas) few_inbound,
      )
