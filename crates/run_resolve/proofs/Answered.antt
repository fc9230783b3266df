-- Resolving's rules in their order: each refusal, and the answer where no rule is broken.
use Rattle.std.specs.Prelude.{Err, None, Ok, Some}
use Rattle.std.specs.declared.option.Option as rust
use mathlib.Core.Path.{◌≡◌, refl, sym, ◌∙◌}
use mathlib.Core.Bool.{Bool, true, false, not}
use Prim.Native.Nat.{ℕ, zero, suc, ◌<◌}
use native.Mathlib.Omega.{arith}
use borrow.Author.Tests.{le-ltb, lt-ltb, not-true, not-false}
use Rattle.lists.specs.Lists.{is_empty, up_from}
use Rattle.lists.proofs.Tests.{both}
use Rattle.columns.specs.Limits.{max_numbers}
use Rattle.columns.specs.Refusal.{first_of}
use Rattle.columns.specs.declared.refusal.Refusal.TheVariants.{GroupOrder, OverNumbers, NoSurvivor}
use Rattle.cleaning.specs.Memo.{tables}
use Rattle.cleaning.specs.Resolving.{entries}
use Rattle.cleaning.specs.Runs.{held_rules}
use Rattle.run_state.specs.declared.Edges.{Edges}
use Rattle.run_state.specs.declared.Sheet.{Sheet}
use Rattle.run_state.specs.declared.Held.{Held}
use Rattle.run_state.specs.View.{listed, sheet_in, held_in}
use Rattle.run_state.specs.Valid.{counts_ok, sheet_ok}
use Rattle.run_state.specs.order.Ordered.{filled}
use Rattle.run_resolve.specs.parents.Renewal.{EdgesKept}
use Rattle.run_resolve.specs.Outcome.{flags_in, new_in, rules_in, ListsKept, ListsRenewed, SurvivorsIn, ResolvedBy}

none-listed : {A : Type 0} (f : ℕ → A) (n : ℕ) → n ≡ 0 → is_empty (listed f n) ≡ true
unfolding is_empty up_from
none-listed f zero e = refl
none-listed f (suc n) e = absurd (omega arith)

some-listed : {A : Type 0} (f : ℕ → A) (n : ℕ) → (n ≡ 0 → ⊥) → is_empty (listed f n) ≡ false
unfolding is_empty up_from
some-listed f zero e = absurd (e refl)
some-listed f (suc n) e = refl

module _ (h : Held) where
  -- 24
  pub no_source : h.sheet.groups.count ≡ 0 → ResolvedBy h (Err GroupOrder)
  unfolding rules_in held_rules first_of held_in sheet_in
  no_source z = rw (none-listed _ h.sheet.groups.count z)

  module _ (n : h.sheet.groups.count ≡ 0 → ⊥) (q : rust.Option Edges) (k : ListsRenewed h q) where
    -- 43
    pub lists-over : q ≡ None → ResolvedBy h (Err OverNumbers)
    unfolding rules_in held_rules first_of held_in sheet_in
    lists-over o = let m : max_numbers < entries (tables _ _) = rw o at k in rw (some-listed _ h.sheet.groups.count n, lt-ltb max_numbers _ m)

    module _ (e : Edges) (o : q ≡ Some e) (s : Sheet) (w : SurvivorsIn h s) {a : Bool} (g : a ≡ filled s) where
      lists : ListsKept h e
      lists = rw o at k

      -- 27
      pub group-lost : not a ≡ true → ResolvedBy h (Err NoSurvivor)
      unfolding rules_in held_rules first_of held_in sheet_in
      group-lost b = rw (some-listed _ h.sheet.groups.count n, le-ltb max_numbers _ lists.within, ← w.reached, ← g, not-true a b)

      pub all-kept : not a ≡ false → ResolvedBy h (Ok s)
      unfolding rules_in held_rules first_of held_in sheet_in
      all-kept b = record {
        ruled = rw (some-listed _ h.sheet.groups.count n, le-ltb max_numbers _ lists.within, ← w.reached, ← g, not-false a b);
        view = w.view;
        valid = w.valid;
        in_order = w.in_order;
        whole = sym g ∙ not-false a b;
        once = w.once;
      }

pub lists-within : (h : Held) (q : rust.Option Edges) → ListsRenewed h q → (e : Edges) → q ≡ Some e → EdgesKept (flags_in h) (new_in h) e
lists-within h q k e o = let l : ListsKept h e = rw o at k in l.kept

pub survivors-counted : (h : Held) (s : Sheet) → SurvivorsIn h s → counts_ok s ≡ true
unfolding sheet_ok
survivors-counted h s w = (both (counts_ok s) _ w.valid).0
