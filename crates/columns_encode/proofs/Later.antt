-- The rules of inbound edges and of a granule, one after another, and the inbound lists as they are left for writing.
use Rattle.std.specs.Prelude.{Err, Ok, Result}
use mathlib.Core.Path.{◌≡◌, refl, sym, ◌∙◌, ap}
use mathlib.Core.Bool.{Bool, true, false, not}
use mathlib.Core.List.{List, [], ◌∷◌, ◌++◌}
use mathlib.Core.Option.{Option, none, some}
use Prim.Native.Nat.{ℕ, ◌+◌, ◌*◌, ◌≤◌}
use native.Mathlib.Omega.{arith}
use lib.ListN.{length, take, drop, length-append}
use lib.Seq.{take_at}
use borrow.Author.Tests.{not-true, not-false}
use Rattle.columns.specs.Limits.{kinds}
use Rattle.lists.specs.Lists.{all, distinct, joined, starts}
use Rattle.lists.specs.Order.{not_falling}
use Rattle.lists.proofs.Flat.{length-starts}
use Rattle.columns.specs.Refusal.{refuse, first_of}
use Rattle.columns.specs.EdgeSet.{offsets_form, cut}
use Rattle.columns.specs.Building.{record_count, inbound_lists}
use Rattle.columns.specs.declared.refusal.Refusal.{Refusal}
use Rattle.columns.specs.declared.refusal.Refusal.TheVariants.{InboundTwice}
use Rattle.columns.specs.Answers.{ruling}
use Rattle.columns.proofs.Told.{told-kept, last-rule, stops-here, goes_on}
use Rattle.columns_rules.specs.records.Recorded.{inbound_of, inbound_from}
use Rattle.columns_encode.proofs.KeptEdges.{edges-given}
use Rattle.columns_sets.specs.counting.GivenEdges.{Edges}
use Rattle.columns_rules.specs.spans.Spanned.{span_rules}
use Rattle.columns_sets.proofs.inbound.ReadBack.{length-arrived, arrived-lent, arrived-back, arrived-level}
use Rattle.columns_encode.specs.Grouped.{edge_rules, late_rules, table_rules}
use Rattle.columns_encode.specs.Encoded.{Early, Arranged}

-- ── 13, then 14 and 15 ───────────────────────────────────────────────────────────────────────

module _ (first rows : ℕ) (lists inbound : List (List ℕ)) (from n : ℕ) {a : Bool} (e : a ≡ all distinct inbound) where
  pub given-twice : not a ≡ true → Err InboundTwice ≡ ruling (table_rules first rows lists inbound from n)
  unfolding table_rules first_of
  given-twice p = rw (← e, not-true a p)

  pub then-spans : not a ≡ false → {s : Result (Unit {0}) Refusal} → s ≡ ruling (span_rules first rows lists inbound from n) → s ≡ ruling (table_rules first rows lists inbound from n)
  unfolding table_rules first_of
  then-spans p k = rw (← e, not-false a p) (k ∙ ap ruling (sym (last-rule (span_rules first rows lists inbound from n))))

-- ── lists in order ───────────────────────────────────────────────────────────────────────────

module _ (first rows : ℕ) (cs ps ks : List ℕ) (m : ℕ) (e : m ≡ length (joined (inbound_lists kinds first rows (inbound_of cs ps ks))))
    (offs was : List ℕ) (f : offs ≡ starts 0 (inbound_lists kinds first rows (inbound_of cs ps ks)) ++ drop (2 * rows + 1) was) (list old : List ℕ)
    (g : list ≡ joined (inbound_lists kinds first rows (inbound_of cs ps ks)) ++ drop m old) where
  pub arrived-long : 2 * rows + 1 ≤ length offs
  arrived-long =
      rw (
        f,
        length-append (starts 0 (inbound_lists kinds first rows (inbound_of cs ps ks))) (drop (2 * rows + 1) was),
        length-starts 0 (inbound_lists kinds first rows (inbound_of cs ps ks)),
        length-arrived first rows (inbound_of cs ps ks),
      ) (omega arith)

  pub arrived-many : m ≤ length list
  arrived-many = rw (g, length-append (joined (inbound_lists kinds first rows (inbound_of cs ps ks))) (drop m old)) (omega arith)

  pub lent-form : offsets_form kinds rows (length (take m list)) (take (2 * rows + 1) offs) ≡ true
  lent-form = arrived-lent first rows (inbound_of cs ps ks) m e offs (drop (2 * rows + 1) was) f list (drop m old) g

  pub lent_level : all not_falling (cut (take (2 * rows + 1) offs) (take m list)) ≡ true
  lent_level = arrived-level first rows (inbound_of cs ps ks) m e offs (drop (2 * rows + 1) was) f list (drop m old) g

  pub arranged : (offsets targets : List ℕ) → Early first rows offsets targets (length cs) → m ≤ length cs → Arranged rows (inbound_lists kinds first rows (inbound_of cs ps ks)) offs list
  arranged offsets targets given few = record {
    long = arrived-long;
    many = omega (arith, arrived-many);
    offsets = rw f (take_at (starts 0 (inbound_lists kinds first rows (inbound_of cs ps ks))) (drop (2 * rows + 1) was) (2 * rows + 1)
        (omega (arith, length-starts 0 (inbound_lists kinds first rows (inbound_of cs ps ks)), length-arrived first rows (inbound_of cs ps ks))));
    targets = rw g (take_at (joined (inbound_lists kinds first rows (inbound_of cs ps ks))) (drop m old) (length (joined (inbound_lists kinds first rows (inbound_of cs ps ks)))) refl);
    short = omega (arith, given.edges);
  }

  pub arranged-says : (lists : List (List ℕ)) (from n : ℕ) {r : Result (Unit {0}) Refusal} → r ≡ ruling (table_rules first rows lists (cut (take (2 * rows + 1) offs) (take m list)) from n)
      → r ≡ ruling (table_rules first rows lists (inbound_lists kinds first rows (inbound_of cs ps ks)) from n)
  arranged-says lists from n h = rw (arrived-back first rows (inbound_of cs ps ks) m e offs (drop (2 * rows + 1) was) f list (drop m old) g) at h

-- ── 11 and 12, then the others ───────────────────────────────────────────────────────────────

regroup : (a b c : Option Refusal) → first_of (first_of (a ∷ b ∷ []) ∷ c ∷ []) ≡ first_of (a ∷ first_of (b ∷ c ∷ []) ∷ [])
unfolding first_of
regroup (some x) b c = refl
regroup none (some x) c = refl
regroup none none (some x) = refl
regroup none none none = refl

module _ (first rows : ℕ) (lists : List (List ℕ)) (cs ps ks : List ℕ) (from n : ℕ) {r : Result (Unit {0}) Refusal}
    (e : r ≡ ruling (inbound_from first (first + rows) cs ps ks 0 (record_count cs ps ks))) where
  late-are : late_rules first rows lists (inbound_of cs ps ks) from n
      ≡ first_of (inbound_from first (first + rows) cs ps ks 0 (record_count cs ps ks) ∷ table_rules first rows lists (inbound_lists kinds first rows (inbound_of cs ps ks)) from n ∷ [])
  unfolding late_rules edge_rules table_rules
  late-are = regroup (inbound_from first (first + rows) cs ps ks 0 (record_count cs ps ks))
      (refuse InboundTwice (not (all distinct (inbound_lists kinds first rows (inbound_of cs ps ks))))) (span_rules first rows lists (inbound_lists kinds first rows (inbound_of cs ps ks)) from n)

  pub late-stops : (x : Refusal) → r ≡ Err x → Err x ≡ ruling (late_rules first rows lists (inbound_of cs ps ks) from n)
  late-stops x f = rw late-are (stops-here (inbound_from first (first + rows) cs ps ks 0 (record_count cs ps ks))
      (table_rules first rows lists (inbound_lists kinds first rows (inbound_of cs ps ks)) from n) e x f)

  pub late-then : r ≡ Ok tt → {s : Result (Unit {0}) Refusal} → s ≡ ruling (table_rules first rows lists (inbound_lists kinds first rows (inbound_of cs ps ks)) from n)
      → s ≡ ruling (late_rules first rows lists (inbound_of cs ps ks) from n)
  late-then f k = rw late-are (goes_on (inbound_from first (first + rows) cs ps ks 0 (record_count cs ps ks))
      (table_rules first rows lists (inbound_lists kinds first rows (inbound_of cs ps ks)) from n) e f k)

pub late-edges : (first rows : ℕ) (cs ps ks : List ℕ) {r : Result (Unit {0}) Refusal} → r ≡ ruling (inbound_from first (first + rows) cs ps ks 0 (record_count cs ps ks)) → r ≡ Ok tt
    → Edges first rows cs ps ks
late-edges first rows cs ps ks e f = edges-given first rows cs ps ks (told-kept (inbound_from first (first + rows) cs ps ks 0 (record_count cs ps ks)) e f)

pub never-kept : {A : Type 0} {x : Refusal} → ◌≡◌ {A = Result (Unit {0}) Refusal} (Err x) (Ok tt) → A
never-kept e = let z : ◌≡◌ {A = ℕ} 0 1 = cc in absurd (omega arith)
