-- Building an output file of a good summary is refused with 10 and 15 or not at all; so the cleaned form of files that meet neither is written.
use mathlib.Core.Path.{◌≡◌, refl, sym, subst, ◌∙◌}
use mathlib.Core.Bool.{Bool, true, ◌&&◌}
use mathlib.Core.List.{List, []}
use mathlib.Core.Option.{Option, none, some}
use Prim.Native.Nat.{ℕ, suc, ◌+◌, ◌≤◌, ◌<◌, ◌^◌}
use native.Mathlib.Omega.{arith}
use lib.Dec.{ltb}
use lib.ListN.{length}
use borrow.Author.Tests.{lt-ltb, le-ltb}
use Rattle.lists.specs.Lists.{flat, all, distinct, joined, starts, Each}
use Rattle.lists.proofs.Tests.{both, all-each}
use Rattle.lists.proofs.Each.{each-flat, each_map, each-imp, each_both, each-get_or}
use Rattle.lists.proofs.Pairs.{each-up_from}
use Rattle.columns.specs.Limits.{Served, end64, reference_kinds}
use Rattle.columns.specs.EdgeSet.{offsets_form}
use Rattle.columns.specs.Building.{Graph, subject_ok, numbers_ok, all_unresolved_rules, depth_ok, seqs_rise, labels_rules, all_inbound_rules, inbound_lists, deltas_fit}
use Rattle.columns.specs.Building.{granule_start, forward_part, reverse_part, inbound_part, build_rules}
use Rattle.columns.specs.declared.refusal.Refusal.TheVariants.{SubjectLength, EdgeEntries, NumberRange, DepthOrder, SeqNotRising, InboundTwice, GranuleRows, DeltaRange}
use Rattle.columns.proofs.ReadBack.{cut-joined, starts-form}
use Rattle.cover.specs.Chains.{Link}
use Rattle.archive.specs.File.{File}
use Rattle.cleaning.specs.Summary.{Summary, summary}
use Rattle.cleaning.specs.Writing.{Numbered, rows_in, first_number, unresolved_of, labels_in, labels_of_group, slots_of_rows, unresolved_columns, edges_of, inbound_columns}
use Rattle.cleaning.specs.Writing.{graph_of_rows, no_group, group_at, graph_of, group_numbers, write_rules}
use Rattle.cleaning.specs.History.{archive_of_files}
use Rattle.cleaning.specs.Accepted.{labels_rise, chains_rise, spans_fit, Cleanable}
use Rattle.cleaning.proofs.Good.{GoodLabel, GoodGroup, GoodLists, Good}
use Rattle.columns.proofs.FirstBroken.{none_of, none_in, passes, fails}
use Rattle.cleaning.proofs.Numbers.{Counted, counted-within}
use Rattle.cleaning.proofs.Blocks.{GoodRow, rows_before, rows_counted, rows-first, before-next, before-within, rows-good}
use Rattle.cleaning.proofs.Followed.{labels-columns, length-labels, length-slots}
use Rattle.cleaning.proofs.Outputs.{rows_kinds}
use Rattle.cleaning.proofs.Inbound.{Inbound, edges-inbound}
use Rattle.cleaning.proofs.EdgesOnce.{edges-once}
use Rattle.cleaning.proofs.RowRules.{row-slots-none, labels-rules, RecordPasses, unresolved-none, inbound-none}
use Rattle.cleaning.proofs.Goodness.{good}

-- ── 9 ────────────────────────────────────────────────────────────────────────────────────────

labels-none : (links : Option (List Link)) (rs : List Numbered) → Each (λ r. GoodLabel links r.row.body.label) rs
    → labels_rise (labels_of_group links rs) ≡ true → labels_rules (length rs) (labels_of_group links rs) ≡ none
labels-none none rs h s = refl
labels-none (some links) rs h s =
    labels-rules (length rs) (labels_in rs) (length-labels links rs h) ∙ passes SeqNotRising (seqs_rise [] (labels_in rs)) (rw (labels-columns (labels_in rs)) at s)

-- ── a group ──────────────────────────────────────────────────────────────────────────────────

-- the numbers of a group's rows: the first, and one past the last
abbrev low : Summary → ℕ → ℕ
low S g = first_number (rows_in S g)

abbrev high : Summary → ℕ → ℕ
high S g = first_number (rows_in S g) + length (rows_in S g)

module _ (K : ℕ) (served : Served K) (S : Summary) (h : Good K S) (g : ℕ) (l : g < length S.groups) where
  counted : Counted (low S g) (rows_in S g)
  counted = subst (λ n. Counted n (rows_in S g)) (sym (rows-first K served S h g l)) (rows_counted K served S h g l)

  high_is : high S g ≡ S.start + rows_before S (suc g)
  high_is = omega (arith, rows-first K served S h g l, before-next K served S h g)

  numbers_fit : high S g < end64
  numbers_fit = omega (arith, high_is, before-within K served S h (suc g) l, h.numbers)

  group-good : GoodGroup (group_at S g)
  group-good = each-get_or GoodGroup S.groups g no_group h.groups l

  lists-good : Each (λ r. GoodLists K r.number r.row.parents) (rows_in S g)
  lists-good = each-imp (GoodRow K S g) (λ r. GoodLists K r.number r.row.parents) (rows_in S g) (λ r b. b.lists) (rows-good K served S h g)

  records-pass : Each (RecordPasses K served (low S g) (high S g)) (flat unresolved_of (rows_in S g))
  unfolding unresolved_of
  records-pass =
      each-flat (RecordPasses K served (low S g) (high S g)) unresolved_of (rows_in S g)
      (each-imp (λ r. ((low S g ≤ r.number) × (r.number < high S g)) × GoodRow K S g r) (λ r. Each (RecordPasses K served (low S g) (high S g)) (unresolved_of r))
      (rows_in S g)
      (λ r b. each_map (RecordPasses K served (low S g) (high S g)) (λ u. record { child = r.number; kind = u.kind; handle = u.handle }) r.row.body.unresolved
      (each-imp (λ u. (u.kind < reference_kinds) × (u.handle < 2 ^ 32)) (λ u. (low S g ≤ r.number) × (r.number < high S g) × (u.kind < reference_kinds))
      r.row.body.unresolved
      (λ u c. (b.0.0, b.0.1, c.0)) b.1.body.unresolved))
      (each_both (λ r. (low S g ≤ r.number) × (r.number < high S g)) (GoodRow K S g) (rows_in S g)
      (counted-within (low S g) (rows_in S g) counted) (rows-good K served S h g)))

  edges-pass : Each (Inbound K (low S g) (high S g)) (edges_of S g (low S g) (high S g))
  edges-pass = rw (high_is, rows-first K served S h g l) (edges-inbound K served S h g)

  labels-pass : chains_rise (graph_of S g) ≡ true → labels_rules (length (rows_in S g)) (labels_of_group (group_at S g).links (rows_in S g)) ≡ none
  unfolding chains_rise graph_of graph_of_rows
  labels-pass c =
      labels-none (group_at S g).links (rows_in S g)
      (each-imp (GoodRow K S g) (λ r. GoodLabel (group_at S g).links r.row.body.label) (rows_in S g)
      (λ r b. subst (λ n. GoodLabel (group_at S n).links r.row.body.label) b.group b.body.label) (rows-good K served S h g)) c

  pub write-rules : chains_rise (graph_of S g) ≡ true → spans_fit K (graph_of S g) ≡ true → build_rules K (graph_of S g) ≡ none
  unfolding build_rules graph_of graph_of_rows numbers_ok all_unresolved_rules all_inbound_rules unresolved_columns inbound_columns spans_fit
  write-rules c s =
      let G : Graph = graph_of S g in
      let slots : List (List ℕ) = slots_of_rows (rows_in S g) in
      let n : ℕ = length (rows_in S g) in
      let fit : List (List ℕ) → Bool = deltas_fit K (granule_start G) in
      let d = both (fit (forward_part K G)) (fit (reverse_part K G) && fit (inbound_part K G)) s in
      let e = both (fit (reverse_part K G)) (fit (inbound_part K G)) d.1 in
      none_of _ (
        passes SubjectLength (subject_ok S.subject) h.subject,
        (
          passes EdgeEntries (offsets_form K n (length (joined slots)) (starts 0 slots)) (starts-form K n slots (length-slots K served (rows_in S g) (rows_kinds K served S h g))),
          (
            passes NumberRange (ltb (high S g) end64) (lt-ltb (high S g) end64 numbers_fit),
            (
              rw (cut-joined slots) (row-slots-none K served (low S g) (rows_in S g) counted lists-good),
              (
                unresolved-none K served (low S g) (high S g) (flat unresolved_of (rows_in S g)) records-pass,
                (
                  passes DepthOrder (depth_ok (group_at S g).depth) group-good.0,
                  (
                    labels-pass c,
                    (
                      inbound-none K served (low S g) (high S g) (edges_of S g (low S g) (high S g)) edges-pass,
                      (
                        passes InboundTwice (all distinct (inbound_lists K (low S g) n (inbound_columns (edges_of S g (low S g) (high S g)))))
                            (edges-once K served S h g (low S g) (high S g) (low S g) n),
                        (
                          fails GranuleRows (ltb n (0 + n)) (le-ltb n (0 + n) (omega arith)),
                          (
                            passes DeltaRange (fit (forward_part K G)) d.0,
                            (
                              passes DeltaRange (fit (reverse_part K G)) e.0,
                              (passes DeltaRange (fit (inbound_part K G)) e.1, tt),
                            ),
                          ),
                        ),
                      ),
                    ),
                  ),
                ),
              ),
            ),
          ),
        ),
      )

-- ── all groups ───────────────────────────────────────────────────────────────────────────────

pub nothing-refused : (K : ℕ) (served : Served K) (fs : List File) → Cleanable K fs → write_rules K (summary K (archive_of_files K fs)) ≡ none
unfolding write_rules
nothing-refused K served fs c =
    let S : Summary = summary K (archive_of_files K fs) in
    none_in (λ g. build_rules K (graph_of S g)) (group_numbers S)
    (each-imp (λ g. ((0 ≤ g) × (g < 0 + length S.groups)) × ((chains_rise (graph_of S g) ≡ true) × (spans_fit K (graph_of S g) ≡ true)))
    (λ g. build_rules K (graph_of S g) ≡ none) (group_numbers S)
    (λ g b. write-rules K served S (good K served fs c) g (omega arith) b.1.0 b.1.1)
    (each_both (λ g. (0 ≤ g) × (g < 0 + length S.groups)) (λ g. (chains_rise (graph_of S g) ≡ true) × (spans_fit K (graph_of S g) ≡ true)) (group_numbers S)
    (each-up_from 0 (length S.groups))
    (each_both (λ g. chains_rise (graph_of S g) ≡ true) (λ g. spans_fit K (graph_of S g) ≡ true) (group_numbers S)
    (all-each (λ g. chains_rise (graph_of S g)) (group_numbers S) c.chains)
    (all-each (λ g. spans_fit K (graph_of S g)) (group_numbers S) c.spans))))
