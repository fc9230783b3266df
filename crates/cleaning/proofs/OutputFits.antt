-- The output files of a good summary have bytes, where every event minus target is a number of signed 64 bits: every number fits its field.
use mathlib.Core.Path.{◌≡◌, sym, ap}
use mathlib.Core.Bool.{true}
use mathlib.Core.Logic.{inl, inr}
use mathlib.Core.List.{List, map}
use Prim.Native.Nat.{ℕ, zero, suc, ◌+◌, ◌*◌, ◌≤◌, ◌<◌, ◌^◌}
use native.Mathlib.Nat.{mul-le-mul_left}
use native.Mathlib.Omega.{arith}
use borrow.Author.Tests.{leb-true, eqb-true, eqb-false}
use lib.Dec.{ltb, eqb}
use lib.ListN.{length, length-map}
use Rattle.lists.specs.Lists.{flat, all, sum, up_from, Each}
use Rattle.lists.proofs.Tests.{tested, both, all-each}
use Rattle.lists.proofs.Each.{each-imp, each_map, each_both, each-get_or}
use Rattle.lists.proofs.Flat.{length-starts}
use Rattle.columns.specs.Limits.{Served, max_records, max_numbers, max_subject}
use Rattle.columns.specs.EdgeSet.{set_of}
use Rattle.columns.specs.Building.{Graph, subject_ok, granule_start, deltas_fit, forward_part, reverse_part, inbound_part}
use Rattle.archive.specs.File.{File}
use Rattle.archive.specs.Fits.{UnresolvedFits, SetFits, FileFits}
use Rattle.archive.proofs.References.{none-fit}
use Rattle.cleaning.specs.Taking.{stored_ranges, stored_link_count}
use Rattle.cleaning.specs.Summary.{Summary}
use Rattle.cleaning.specs.Writing.{Numbered, rows_in, unresolved_of, roots_from, graph_of, group_at, no_group, file_of_rows, output_of, outputs, group_numbers}
use Rattle.cleaning.specs.Accepted.{spans_fit}
use Rattle.cleaning.proofs.Good.{GoodGroup, GoodLabel, GoodRoot, Good}
use Rattle.lists.proofs.Filters.{each_below}
use Rattle.cleaning.proofs.Blocks.{GoodRow, rows_before, rows_counted, before-within, rows-good}
use Rattle.cleaning.proofs.Outputs.{row_of, references-each}
use Rattle.cleaning.proofs.OutputSides.{first_of, end-within}
use Rattle.cleaning.proofs.OutputSets.{forward_of, reverse_of, inbound_of, sets_of, forward-full, reverse-full, inbound-full, parts-forward, parts-reverse, parts-inbound, starts_first, output-sets}
use Rattle.cleaning.proofs.OutputLimits.{few-events, few-roots, few-unresolved, few-ranges, few-links, few_forward, few_reverse, few_inbound}
use Rattle.cleaning.proofs.ByteLengths.{FewEdges, short-rows, short-unresolved, short-roots, short-edges}
use Rattle.cleaning.proofs.RecordFits.{set-fits, references-ordered, roots-ordered, roots-fit, cover-fits}
use Rattle.lists.proofs.Sums.{sum-map}

-- one figure is at most the sum of all
sum-has : (f : ℕ → ℕ) (i n g : ℕ) → i ≤ g → g < i + n → f g ≤ sum f (up_from i n)
unfolding sum up_from
sum-has f i zero g l h = absurd (omega arith)
sum-has f i (suc n) g l h = elim (tested (eqb i g)) [
  | inl e ↦ let s : i ≡ g = eqb-true i g e in rw s (omega arith)
  | inr e ↦ omega (arith, sum-has f (suc i) n g (omega (arith, eqb-false i g e)) (omega arith))
]

module _ (K : ℕ) (served : Served K) (S : Summary) (good : Good K S) (g : ℕ) (l : g < length S.groups) where
  abbrev rs : List Numbered
  rs = rows_in S g

  -- the output file of the group
  abbrev file : File
  file = file_of_rows S.subject g (group_at S g) rs (sets_of K S g)

  -- a figure within a limit over all files is within it here
  one-file : (limit : ℕ) (f : File → ℕ) → sum f (outputs K S) ≤ limit → f file ≤ limit
  unfolding outputs
  one-file limit f h =
      let here : f (output_of K S g) ≤ limit =
      omega (arith, sum-map f (output_of K S) (group_numbers S), sum-has (λ i. f (output_of K S i)) 0 (length S.groups) g (omega arith) (omega arith)) in
      rw (output-sets K served S good g) at here

  row_number : length (map row_of rs) ≡ length rs
  row_number = length-map rs row_of

  few_rows : length (map row_of rs) ≤ max_records
  few_rows = one-file max_records (λ f. length f.rows) (few-events K served S good)

  this-group : GoodGroup (group_at S g)
  this-group = each-get_or GoodGroup S.groups g no_group good.groups l

  -- ── sets ───────────────────────────────────────────────────────────────────────────────────

  module _ (lists : List (List ℕ)) (full : length lists ≡ K * length rs) (few : length (set_of K (first_of S g) lists).deltas ≤ max_numbers) where
    set_here : deltas_fit K (first_of S g) lists ≡ true → SetFits K (length (map row_of rs)) (set_of K (first_of S g) lists)
    set_here fit = set-fits K served (first_of S g) (length (map row_of rs)) lists (omega (arith, full, ap (λ x. K * x) row_number)) few fit

    few-here : FewEdges K (set_of K (first_of S g) lists)
    unfolding set_of
    few-here = (omega (arith, length-starts 0 lists, ap (λ x. K * x) row_number, mul-le-mul_left K few_rows), few)

  forward-few : length (set_of K (first_of S g) (forward_of S g)).deltas ≤ max_numbers
  forward-few = one-file max_numbers (λ f. length f.forward.deltas) (few_forward K served S good)

  reverse-few : length (set_of K (first_of S g) (reverse_of K S g)).deltas ≤ max_numbers
  reverse-few = one-file max_numbers (λ f. length f.reverse.deltas) (few_reverse K served S good)

  inbound-few : length (set_of K (first_of S g) (inbound_of K S g)).deltas ≤ max_numbers
  inbound-few = one-file max_numbers (λ f. length f.inbound.deltas) (few_inbound K served S good)

  -- 15 passes the three sets
  abbrev fit : List (List ℕ) → Type 0
  fit lists = deltas_fit K (first_of S g) lists ≡ true

  spans : spans_fit K (graph_of S g) ≡ true → fit (forward_of S g) × fit (reverse_of K S g) × fit (inbound_of K S g)
  unfolding spans_fit
  spans h =
      let G : Graph = graph_of S g in
      let start = starts_first K served S good g in
      let p = both (deltas_fit K (granule_start G) (forward_part K G)) _ h in
      let q = both (deltas_fit K (granule_start G) (reverse_part K G)) (deltas_fit K (granule_start G) (inbound_part K G)) p.1 in
      (rw (start, parts-forward K served S good g) at p.0, rw (start, parts-reverse K served S good g) at q.0, rw (start, parts-inbound K served S good g) at q.1)

  -- ── records ────────────────────────────────────────────────────────────────────────────────

  references-fit : Each UnresolvedFits (flat unresolved_of rs)
  references-fit =
      references-each K served S good g UnresolvedFits l (λ u low high kind handle. (omega (arith, before-within K served S good (suc g) l, good.numbers), omega arith, handle))

  rows-have : (P : Numbered → Type 0) → ((r : Numbered) → GoodRow K S g r → P r) → Each P rs
  rows-have P f = each-imp (GoodRow K S g) P rs f (rows-good K served S good g)

  file-fits : spans_fit K (graph_of S g) ≡ true → FileFits K (output_of K S g)
  unfolding subject_ok
  file-fits h = rw (output-sets K served S good g) record {
    first = omega (arith, end-within K served S good g l, good.numbers);
    row_count = omega (arith, few_rows);
    group = omega (arith, good.group_count);
    subject = omega (arith, leb-true (length S.subject) max_subject (both (ltb 0 (length S.subject)) _ good.subject).1);
    subject_bytes = good.subject_bytes;
    depth = this-group.1;
    forward = set_here (forward_of S g) (forward-full K served S good g) forward-few (spans h).0;
    reverse = set_here (reverse_of K S g) (reverse-full K served S good g) reverse-few (spans h).1;
    inbound = set_here (inbound_of K S g) (inbound-full K served S good g) inbound-few (spans h).2;
    tags = each_map (λ r. r.tag < 256 ^ 8) row_of rs (rows-have (λ r. r.row.body.tag < 256 ^ 8) (λ r k. k.body.tag));
    unresolved_count = omega (arith, few-references);
    unresolved = references-fit;
    unresolved_order = references-ordered (S.start + rows_before S g) rs (rows_counted K served S good g l);
    root_count = omega (arith, few-roots-here);
    roots = roots-fit 0 rs (omega (arith, row_number, few_rows)) (rows-have (λ r. GoodRoot r.row.body.root) (λ r k. k.body.root));
    root_order = roots-ordered 0 rs;
    cover = cover-fits (group_at S g).links rs (length (map row_of rs)) (sym row_number) few_rows this-group.2
        (one-file max_records (λ f. stored_ranges f.cover) (few-ranges K served S good)) (one-file max_records (λ f. stored_link_count f.cover) (few-links K served S good))
        (rows-have (λ r. GoodLabel (group_at S g).links r.row.body.label) (λ r k. rw k.group at k.body.label));
    references = none-fit rs (sym row_number);
    edges_short = short-edges K served file (few-here (forward_of S g) (forward-full K served S good g) forward-few)
        (few-here (reverse_of K S g) (reverse-full K served S good g) reverse-few) (few-here (inbound_of K S g) (inbound-full K served S good g) inbound-few);
    rows_short = short-rows (map row_of rs) few_rows;
    unresolved_short = short-unresolved (flat unresolved_of rs) few-references;
    roots_short = short-roots (roots_from 0 rs) few-roots-here;
  }
    where
      few-references : length (flat unresolved_of rs) ≤ max_records
      few-references = one-file max_records (λ f. length f.unresolved) (few-unresolved K served S good)

      few-roots-here : length (roots_from 0 rs) ≤ max_records
      few-roots-here = one-file max_records (λ f. length f.roots) (few-roots K served S good)

pub files-fit : (K : ℕ) (served : Served K) (S : Summary) → Good K S → all (λ g. spans_fit K (graph_of S g)) (group_numbers S) ≡ true → Each (FileFits K) (outputs K S)
unfolding outputs
files-fit K served S good h =
    let fit : ℕ → Type 0 = λ g. spans_fit K (graph_of S g) ≡ true in
    each_map (FileFits K) (output_of K S) (group_numbers S)
    (each-imp (λ g. (g < length S.groups) × fit g) (λ g. FileFits K (output_of K S g)) (group_numbers S) (λ g w. file-fits K served S good g w.0 w.1)
    (each_both (λ g. g < length S.groups) fit (group_numbers S) (each_below (λ g. g < length S.groups) (length S.groups) (λ g l. l))
    (all-each (λ g. spans_fit K (graph_of S g)) (group_numbers S) h)))
