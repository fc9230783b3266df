-- Building as a whole: its limits and first rules, then the rest. What the definition answers is what the two parts of the code do.
use Rattle.std.specs.Prelude.{Err, Ok, Result}
use mathlib.Core.Path.{◌≡◌, refl, sym, ◌∙◌, ap}
use mathlib.Core.Bool.{Bool, true, false}
use mathlib.Core.List.{List, [], ◌∷◌, ◌++◌}
use mathlib.Core.Option.{Option, none, some}
use Prim.Native.Nat.{ℕ, ◌+◌, ◌≤◌, ◌<◌}
use lib.Dec.{ltb}
use lib.IntN.{ℤ}
use lib.ListN.{length}
use borrow.Author.Tests.{ltb-true, ltb-false}
use Rattle.lists.specs.Lists.{any}
use Rattle.lists.proofs.Tests.{any_append}
use Rattle.lists.proofs.Once.{or-is-false}
use Rattle.columns.specs.Limits.{kinds, end64, max_numbers}
use Rattle.columns.specs.Refusal.{refused, unless, first_of, short, limits}
use Rattle.columns.specs.EdgeSet.{offsets_form, cut}
use Rattle.columns.specs.Reading.{Labels, label_lengths, idle_labels}
use Rattle.columns.specs.Building.{Depth, record_count, numbers_ok, slot_rules, forward_part, reverse_part, inbound_part, build_rules, built_of, graph_lengths, graph_records, build_beside}
use Rattle.columns.specs.declared.refusal.Refusal.{Refusal}
use Rattle.columns.specs.declared.refusal.Refusal.TheVariants.{EdgeEntries, NumberRange, SliceShort, OverRecords, OverNumbers}
use Rattle.columns.proofs.FirstBroken.{each_none, not-refused, passed}
use Rattle.columns.specs.Answers.{ruling}
use Rattle.columns_rules.specs.Ruled.{file_rules}
use Rattle.columns.proofs.Told.{told, told-kept, last-rule}
use Rattle.columns_rules.specs.records.Recorded.{depth_of, labels_given, inbound_of}
use Rattle.columns.specs.declared.depth.Depth as given
use Rattle.columns_encode.specs.declared.writing.Counts.{Counts}
use Rattle.columns_encode.specs.Grouped.{late_rules}
use Rattle.columns_encode.specs.Encoded.{rooms, Rooms, Early, limit_rules, input_rules, early_rules}
use Rattle.columns_encode.specs.Answered.{late_verdict, encoded_of, offsets_laid, deltas_laid}
use Rattle.columns_encode.proofs.RuleGroups.{all-rules}
use Rattle.columns_encode.specs.Lent.{graph_of, slices_of, build_lent}

regroup : (l f r t : Option Refusal) → first_of (l ∷ first_of (f ∷ r ∷ t ∷ []) ∷ []) ≡ first_of (first_of (l ∷ first_of (f ∷ r ∷ []) ∷ []) ∷ t ∷ [])
unfolding first_of
regroup (some x) f r t = refl
regroup none (some x) r t = refl
regroup none none (some x) t = refl
regroup none none none (some x) = refl
regroup none none none none = refl

-- ── slices that are long enough ──────────────────────────────────────────────────────────────

rooms-kept : (fo fd ro rd io id : ℕ) → any short (slices_of fo fd ro rd io id) ≡ false → Rooms fo fd ro rd io id
unfolding any short
rooms-kept fo fd ro rd io id e =
    let a = or-is-false (ltb fo 2049) _ e in
    let b = or-is-false (ltb fd 4096) _ a.1 in
    let c = or-is-false (ltb ro 2049) _ b.1 in
    let d = or-is-false (ltb rd 4096) _ c.1 in
    let f = or-is-false (ltb io 2049) _ d.1 in
    let g = or-is-false (ltb id 4096) _ f.1 in
    record {
      forward_offsets = ltb-false fo 2049 a.0;
      forward_deltas = ltb-false fd 4096 b.0;
      reverse_offsets = ltb-false ro 2049 c.0;
      reverse_deltas = ltb-false rd 4096 d.0;
      inbound_offsets = ltb-false io 2049 f.0;
      inbound_deltas = ltb-false id 4096 g.0;
    }

-- ── what the first rules say ─────────────────────────────────────────────────────────────────

module _ (idle subject : List ℕ) (first rows : ℕ) (offsets targets cs ks fs : List ℕ) (depth : Option Depth) (labels : Option Labels) (inbound parents given : ℕ) (tight : Bool)
    {r : Result (Unit {0}) Refusal} (e : r ≡ ruling (early_rules idle subject first rows offsets targets cs ks fs depth labels inbound parents given tight)) (h : r ≡ Ok tt) where
  both-none : (limit_rules rows (record_count cs ks fs) (any (ltb max_numbers) (idle ++ (length offsets ∷ length targets ∷ inbound ∷ parents ∷ given ∷ label_lengths labels))) tight ≡ none)
      × (input_rules subject first rows offsets targets cs ks fs depth labels ≡ none)
  unfolding early_rules
  both-none = let q = each_none _ (told-kept (early_rules idle subject first rows offsets targets cs ks fs depth labels inbound parents given tight) e h) in (q.0, q.1.0)

  few : (rows ≤ 1024) × (length targets ≤ 4096) × (inbound ≤ 4096)
  unfolding limit_rules any
  few =
      let q = each_none _ both-none.0 in
      let a = or-is-false (ltb 1024 rows) _ (not-refused OverRecords _ q.0) in
      let i = or-is-false (any (ltb max_numbers) idle) _ (sym (any_append (ltb max_numbers) idle _) ∙ not-refused OverNumbers _ q.1.0) in
      let b = or-is-false (ltb 4096 (length offsets)) _ i.1 in
      let c = or-is-false (ltb 4096 (length targets)) _ b.1 in
      let d = or-is-false (ltb 4096 inbound) _ c.1 in
      (ltb-false 1024 rows a.0, ltb-false 4096 (length targets) c.0, ltb-false 4096 inbound d.0)

  file : (offsets_form kinds rows (length targets) offsets ≡ true) × (first + rows < end64) × (slot_rules kinds first 0 (cut offsets targets) ≡ none)
  unfolding input_rules file_rules numbers_ok
  file =
      let q = each_none _ (each_none _ both-none.1).0 in
      (passed EdgeEntries _ q.1.0, ltb-true (first + rows) end64 (passed NumberRange _ q.1.1.0), q.1.1.1.0)

  pub early-given : Early first rows offsets targets inbound
  early-given = record { few = few.0; last = file.1; form = file.0; parents = file.2; short = few.1; edges = few.2 }

  pub rooms-given : (fo fd ro rd io id : ℕ) → tight ≡ any short (rooms fo fd ++ (rooms ro rd ++ rooms io id)) → Rooms fo fd ro rd io id
  unfolding limit_rules
  rooms-given fo fd ro rd io id t = rooms-kept fo fd ro rd io id (sym t ∙ not-refused SliceShort tight (each_none _ both-none.0).1.1.0)

-- ── the two parts ────────────────────────────────────────────────────────────────────────────

module _ (subject : List ℕ) (first rows : ℕ) (offsets targets cs ks fs : List ℕ) (depth : given.Depth) (labelled : Bool) (chains seqs ic ip ik : List ℕ) (from n : ℕ)
    (fo fd ro rd io id : ℕ) (tight : Bool) (t : tight ≡ any short (rooms fo fd ++ (rooms ro rd ++ rooms io id))) {r : Result (Unit {0}) Refusal}
    (e : r ≡ ruling (early_rules (idle_labels labelled chains seqs) subject first rows offsets targets cs ks fs (depth_of depth) (labels_given labelled chains seqs)
    (length ic) (length ip) (length ik) tight)) where
  rules-are : first_of (limits (graph_records (graph_of subject first rows offsets targets cs ks fs depth labelled chains seqs ic ip ik from n))
      (idle_labels labelled chains seqs ++ graph_lengths (graph_of subject first rows offsets targets cs ks fs depth labelled chains seqs ic ip ik from n))
      (slices_of fo fd ro rd io id) ∷ build_rules kinds (graph_of subject first rows offsets targets cs ks fs depth labelled chains seqs ic ip ik from n) ∷ [])
      ≡ first_of (early_rules (idle_labels labelled chains seqs) subject first rows offsets targets cs ks fs (depth_of depth) (labels_given labelled chains seqs) (length ic)
      (length ip) (length ik) tight ∷ late_rules first rows (cut offsets targets) (inbound_of ic ip ik) from n ∷ [])
  unfolding graph_records graph_lengths limits early_rules limit_rules input_rules
  rules-are = rw (all-rules (graph_of subject first rows offsets targets cs ks fs depth labelled chains seqs ic ip ik from n), t) (regroup _ _ _ _)

  module _ (h : r ≡ Ok tt) where
    early-none : early_rules (idle_labels labelled chains seqs) subject first rows offsets targets cs ks fs (depth_of depth) (labels_given labelled chains seqs) (length ic)
        (length ip) (length ik) tight ≡ none
    early-none = told-kept (early_rules (idle_labels labelled chains seqs) subject first rows offsets targets cs ks fs (depth_of depth) (labels_given labelled chains seqs)
        (length ic) (length ip) (length ik) tight) e h

    build-kept : build_lent subject first rows offsets targets cs ks fs depth labelled chains seqs ic ip ik from n (slices_of fo fd ro rd io id)
        ≡ late_verdict first rows (cut offsets targets) (inbound_of ic ip ik) from n
    unfolding build_beside late_verdict built_of forward_part reverse_part inbound_part first_of
    build-kept = rw (rules-are, early-none) (ap (λ o. unless o
        (built_of kinds (graph_of subject first rows offsets targets cs ks fs depth labelled chains seqs ic ip ik from n)))
        (last-rule (late_rules first rows (cut offsets targets) (inbound_of ic ip ik) from n)))

    pub whole-answer : (x : Result Counts Refusal) → x ≡ encoded_of (late_verdict first rows (cut offsets targets) (inbound_of ic ip ik) from n)
        → x ≡ encoded_of (build_lent subject first rows offsets targets cs ks fs depth labelled chains seqs ic ip ik from n (slices_of fo fd ro rd io id))
    whole-answer x f = rw build-kept f

    pub whole-offsets : (set : ℕ) (was out : List ℕ) → out ≡ offsets_laid set (late_verdict first rows (cut offsets targets) (inbound_of ic ip ik) from n) was
        → out ≡ offsets_laid set (build_lent subject first rows offsets targets cs ks fs depth labelled chains seqs ic ip ik from n (slices_of fo fd ro rd io id)) was
    whole-offsets set was out f = rw build-kept f

    pub whole-deltas : (set : ℕ) (was out : List ℤ) → out ≡ deltas_laid set (late_verdict first rows (cut offsets targets) (inbound_of ic ip ik) from n) was
        → out ≡ deltas_laid set (build_lent subject first rows offsets targets cs ks fs depth labelled chains seqs ic ip ik from n (slices_of fo fd ro rd io id)) was
    whole-deltas set was out f = rw build-kept f

  module _ (x : Refusal) (h : r ≡ Err x) where
    build-broken : build_lent subject first rows offsets targets cs ks fs depth labelled chains seqs ic ip ik from n (slices_of fo fd ro rd io id) ≡ refused x
    unfolding build_beside unless first_of
    build-broken = rw (
      rules-are,
      told (early_rules (idle_labels labelled chains seqs) subject first rows offsets targets cs ks fs (depth_of depth)
          (labels_given labelled chains seqs) (length ic) (length ip) (length ik) tight) e h,
    )

    pub whole-refused : Err x ≡ encoded_of (build_lent subject first rows offsets targets cs ks fs depth labelled chains seqs ic ip ik from n (slices_of fo fd ro rd io id))
    unfolding encoded_of
    whole-refused = rw build-broken

    pub whole-offsets-as-were : (set : ℕ) (was : List ℕ) → was
        ≡ offsets_laid set (build_lent subject first rows offsets targets cs ks fs depth labelled chains seqs ic ip ik from n (slices_of fo fd ro rd io id)) was
    unfolding offsets_laid
    whole-offsets-as-were set was = rw build-broken

    pub whole-deltas-as-were : (set : ℕ) (was : List ℤ) → was
        ≡ deltas_laid set (build_lent subject first rows offsets targets cs ks fs depth labelled chains seqs ic ip ik from n (slices_of fo fd ro rd io id)) was
    unfolding deltas_laid
    whole-deltas-as-were set was = rw build-broken
