-- The verdict on a file past its first rules, as what is answered and what is left in the six slices.
use Rattle.std.specs.Prelude.{Err, Ok, Result}
use mathlib.Core.Path.{◌≡◌, sym, ◌∙◌, ap}
use mathlib.Core.Bool.{true}
use mathlib.Core.List.{List}
use mathlib.Core.Option.{none}
use Prim.Native.Nat.{ℕ, ◌+◌, ◌*◌, ◌≤◌}
use native.Mathlib.Omega.{arith}
use lib.IntN.{ℤ}
use lib.ListN.{length, get_or, take}
use lib.Seq.{sets, take_all, get_or-take}
use borrow.Author.Tests.{ltb-false}
use Rattle.columns.specs.Limits.{kinds}
use Rattle.lists.specs.Lists.{joined, part}
use Rattle.lists.proofs.Flat.{length-joined, get_or-starts}
use Rattle.columns.specs.Refusal.{refused, accepted, unless}
use Rattle.columns.specs.EdgeSet.{cut}
use Rattle.columns.specs.Building.{deltas_fit, reverse_lists, inbound_lists}
use Rattle.columns.specs.declared.refusal.Refusal.{Refusal}
use Rattle.columns.specs.declared.refusal.Refusal.TheVariants.{GranuleRows, DeltaRange}
use Rattle.columns.proofs.FirstBroken.{each_none, not-refused, passed}
use Rattle.columns.proofs.ReadBack.{cut-joined, starts-form}
use Rattle.columns.specs.Answers.{ruling}
use Rattle.columns.proofs.Told.{told, told-kept}
use Rattle.columns_rules.specs.records.Recorded.{inbound_of}
use Rattle.columns_rules.specs.spans.Spanned.{span_rules}
use Rattle.columns_sets.proofs.transpose.ReadBack.{slots-once}
use Rattle.columns_sets.proofs.inbound.ReadBack.{length-arrived}
use Rattle.columns_sets.specs.sets.Reached.{set_at}
use Rattle.columns_encode.specs.Grouped.{late_rules}
use Rattle.columns_encode.specs.Encoded.{counts_of, Early, Arranged, Ready}
use Rattle.columns_encode.specs.Answered.{late_verdict, encoded_of, offsets_laid, deltas_laid}
use Rattle.columns_encode.specs.declared.writing.Counts.{Counts}

module _ (first rows from n : ℕ) (offsets targets cs ps ks : List ℕ) {r : Result (Unit {0}) Refusal} (e : r ≡ ruling (late_rules first rows (cut offsets targets) (inbound_of cs ps ks) from n)) where
  -- ── refused ──────────────────────────────────────────────────────────────────────────────────

  module _ (x : Refusal) (f : r ≡ Err x) where
    verdict-broken : late_verdict first rows (cut offsets targets) (inbound_of cs ps ks) from n ≡ refused x
    unfolding late_verdict unless
    verdict-broken = rw (told (late_rules first rows (cut offsets targets) (inbound_of cs ps ks) from n) e f)

    pub late-refused : Err x ≡ encoded_of (late_verdict first rows (cut offsets targets) (inbound_of cs ps ks) from n)
    unfolding encoded_of
    late-refused = rw verdict-broken

    pub offsets-as-were : (set : ℕ) (was : List ℕ) → was ≡ offsets_laid set (late_verdict first rows (cut offsets targets) (inbound_of cs ps ks) from n) was
    unfolding offsets_laid
    offsets-as-were set was = rw verdict-broken

    pub deltas-as-were : (set : ℕ) (was : List ℤ) → was ≡ deltas_laid set (late_verdict first rows (cut offsets targets) (inbound_of cs ps ks) from n) was
    unfolding deltas_laid
    deltas-as-were set was = rw verdict-broken

  -- ── accepted ─────────────────────────────────────────────────────────────────────────────────

  module _ (f : r ≡ Ok tt) where
    late-none : late_rules first rows (cut offsets targets) (inbound_of cs ps ks) from n ≡ none
    late-none = told-kept (late_rules first rows (cut offsets targets) (inbound_of cs ps ks) from n) e f

    span_none : span_rules first rows (cut offsets targets) (inbound_lists kinds first rows (inbound_of cs ps ks)) from n ≡ none
    unfolding late_rules
    span_none = (each_none _ late-none).1.0

    inside : from + n ≤ rows
    unfolding span_rules
    inside = ltb-false rows (from + n) (not-refused GranuleRows _ (each_none _ span_none).0)

    forward-fits : deltas_fit kinds (first + from) (part (2 * from) (2 * n) (cut offsets targets)) ≡ true
    unfolding span_rules
    forward-fits = passed DeltaRange _ (each_none _ span_none).1.0

    reverse-fits : deltas_fit kinds (first + from) (part (2 * from) (2 * n) (reverse_lists kinds first rows (cut offsets targets))) ≡ true
    unfolding span_rules
    reverse-fits = passed DeltaRange _ (each_none _ span_none).1.1.0

    inbound-fits : deltas_fit kinds (first + from) (part (2 * from) (2 * n) (inbound_lists kinds first rows (inbound_of cs ps ks))) ≡ true
    unfolding span_rules
    inbound-fits = passed DeltaRange _ (each_none _ span_none).1.1.1.0

    verdict-kept : late_verdict first rows (cut offsets targets) (inbound_of cs ps ks) from n
        ≡ accepted (record {
          forward = set_at first from n (cut offsets targets);
          reverse = set_at first from n
              (reverse_lists kinds first rows (cut offsets targets));
          inbound = set_at first from n (inbound_lists kinds first rows (inbound_of cs ps ks));
        })
    unfolding late_verdict unless
    verdict-kept = rw late-none

    pub forward_offsets : (was out : List ℕ) → out ≡ sets was 0 (set_at first from n (cut offsets targets)).offsets
        → out ≡ offsets_laid 0 (late_verdict first rows (cut offsets targets) (inbound_of cs ps ks) from n) was
    unfolding offsets_laid
    forward_offsets was out h = rw verdict-kept h

    pub forward_deltas : (was out : List ℤ) → out ≡ sets was 0 (set_at first from n (cut offsets targets)).deltas
        → out ≡ deltas_laid 0 (late_verdict first rows (cut offsets targets) (inbound_of cs ps ks) from n) was
    unfolding deltas_laid
    forward_deltas was out h = rw verdict-kept h

    pub reverse_offsets : (was out : List ℕ) → out ≡ sets was 0 (set_at first from n (reverse_lists kinds first rows (cut offsets targets))).offsets
        → out ≡ offsets_laid 1 (late_verdict first rows (cut offsets targets) (inbound_of cs ps ks) from n) was
    unfolding offsets_laid
    reverse_offsets was out h = rw verdict-kept h

    pub reverse_deltas : (was out : List ℤ) → out ≡ sets was 0 (set_at first from n (reverse_lists kinds first rows (cut offsets targets))).deltas
        → out ≡ deltas_laid 1 (late_verdict first rows (cut offsets targets) (inbound_of cs ps ks) from n) was
    unfolding deltas_laid
    reverse_deltas was out h = rw verdict-kept h

    module _ (offs list : List ℕ) (a : r ≡ Ok tt → Arranged rows (inbound_lists kinds first rows (inbound_of cs ps ks)) offs list) (m : ℕ) (q : m ≡ get_or offs (2 * rows) 0) where
      many_is : m ≡ length (joined (inbound_lists kinds first rows (inbound_of cs ps ks)))
      many_is =
          q ∙ sym (get_or-take (2 * rows + 1) offs (2 * rows) 0 (omega arith)) ∙ ap (λ l. get_or l (2 * rows) 0) (a f).offsets
          ∙ get_or-starts 0 (inbound_lists kinds first rows (inbound_of cs ps ks)) (2 * rows) 0 (omega (arith, length-arrived first rows (inbound_of cs ps ks)))
          ∙ rw (take_all (2 * rows) (inbound_lists kinds first rows (inbound_of cs ps ks)) (omega (arith, length-arrived first rows (inbound_of cs ps ks))))
          (omega (arith, length-joined (inbound_lists kinds first rows (inbound_of cs ps ks))))

      list-is : take m list ≡ joined (inbound_lists kinds first rows (inbound_of cs ps ks))
      list-is = rw many_is (a f).targets

      back : cut (take (2 * rows + 1) offs) (take m list) ≡ inbound_lists kinds first rows (inbound_of cs ps ks)
      back = rw ((a f).offsets, list-is) (cut-joined (inbound_lists kinds first rows (inbound_of cs ps ks)))

      pub ready : Early first rows offsets targets (length cs) → Ready first rows from n offsets targets offs list m
      ready given = record {
        forward = record { few = given.few; last = given.last; inside = inside; form = given.form; fits = forward-fits };
        reverse = record {
          few = given.few;
          last = given.last;
          inside = inside;
          form = given.form;
          short = given.short;
          once = slots-once first 0 (cut offsets targets) given.parents;
          fits = reverse-fits;
        };
        inbound = record {
          few = given.few;
          last = given.last;
          inside = inside;
          form = rw ((a f).offsets, list-is) (starts-form kinds rows (inbound_lists kinds first rows (inbound_of cs ps ks)) (length-arrived first rows (inbound_of cs ps ks)));
          fits = rw back inbound-fits;
        };
        long = (a f).long;
        many = omega (arith, many_is, (a f).many);
        short = omega (arith, many_is, (a f).short);
      }

      pub late-counted : (c : Counts) → c ≡ counts_of (set_at first from n (cut offsets targets))
          (set_at first from n (reverse_lists kinds first rows (cut offsets targets))) (set_at first from n (cut (take (2 * rows + 1) offs) (take m list)))
          → Ok c ≡ encoded_of (late_verdict first rows (cut offsets targets) (inbound_of cs ps ks) from n)
      unfolding encoded_of
      late-counted c h = rw verdict-kept (ap Ok (rw back at h))

      pub inbound_offsets : (was out : List ℕ) → out ≡ sets was 0 (set_at first from n (cut (take (2 * rows + 1) offs) (take m list))).offsets
          → out ≡ offsets_laid 2 (late_verdict first rows (cut offsets targets) (inbound_of cs ps ks) from n) was
      unfolding offsets_laid
      inbound_offsets was out h = rw verdict-kept (rw back at h)

      pub inbound_deltas : (was out : List ℤ) → out ≡ sets was 0 (set_at first from n (cut (take (2 * rows + 1) offs) (take m list))).deltas
          → out ≡ deltas_laid 2 (late_verdict first rows (cut offsets targets) (inbound_of cs ps ks) from n) was
      unfolding deltas_laid
      inbound_deltas was out h = rw verdict-kept (rw back at h)
