-- The limits and rules of what a question reads, one after the other, and what is known of columns that keep them.
use Rattle.std.specs.Prelude.{Err, Ok, Result}
use mathlib.Core.Path.{◌≡◌, sym, ◌∙◌, ap}
use mathlib.Core.Bool.{Bool, true, false, or-false}
use mathlib.Core.List.{List, [], ◌∷◌, ◌++◌}
use mathlib.Core.Option.{none}
use Prim.Native.Nat.{ℕ}
use native.Mathlib.Omega.{arith}
use lib.Dec.{ltb, eqb}
use lib.IntN.{ℤ}
use lib.ListN.{length}
use borrow.Author.Tests.{eqb-true}
use Rattle.lists.specs.Lists.{any, all}
use Rattle.lists.proofs.Tests.{both, any_append}
use Rattle.lists.proofs.Once.{or-is-false}
use Rattle.columns.specs.Limits.{max_numbers}
use Rattle.columns.specs.Refusal.{Lent, short, limits}
use Rattle.columns.specs.EdgeSet.{EdgeSet, reverse, inbound}
use Rattle.columns.specs.Reading.{set_rules, set_lengths, label_rules}
use Rattle.columns.specs.Answers.{short32, columns_of, label_columns, room, limits_of, both_rules, ruling}
use Rattle.columns.specs.Readable.{Readable}
use Rattle.columns.specs.declared.refusal.Refusal.{Refusal}
use Rattle.columns.specs.declared.refusal.Refusal.TheVariants.{LabelColumns, LabelRange}
use Rattle.columns.proofs.FirstBroken.{each_none, passed}
use Rattle.columns.proofs.Checks.{then-rest, then-broken, few-numbers, few-deltas}
use Rattle.columns.proofs.Told.{last-rule, told-kept}
use Rattle.columns_ask.specs.Views.{children_rules, lent_label_rules}

-- ── limits ───────────────────────────────────────────────────────────────────────────────────

-- a reverse set and an inbound set
module _ (K first rows end rc : ℕ) (ro : List ℕ) (rd : List ℤ) (ic : ℕ) (io : List ℕ) (id : List ℤ) (out : ℕ) (over : Bool) (k : Result (Unit {0}) Refusal)
    (f : over ≡ any (ltb max_numbers) (length ro ∷ length rd ∷ length io ∷ length id ∷ []))
    (e : k ≡ ruling (limits_of rows over (ltb out 4096))) where
  both-limits : limits (rows ∷ []) (set_lengths (columns_of rc ro rd) ++ set_lengths (columns_of ic io id)) (room out) ≡ limits_of rows over (ltb out 4096)
  unfolding limits limits_of set_lengths short any
  both-limits = rw (f, or-false (ltb out 4096))

  pub children-kept : k ≡ Ok tt → (q : Result (Unit {0}) Refusal) → q ≡ ruling (both_rules K first rows end (columns_of rc ro rd) (columns_of ic io id))
      → q ≡ ruling (children_rules K first rows end (columns_of rc ro rd) (columns_of ic io id) (room out))
  unfolding children_rules both_rules
  children-kept h q g = then-rest k _ _ (e ∙ ap ruling (sym both-limits)) h q g

  pub children-broken : (why : Refusal) → k ≡ Err why → Err why ≡ ruling (children_rules K first rows end (columns_of rc ro rd) (columns_of ic io id) (room out))
  unfolding children_rules
  children-broken why h = then-broken k _ _ (e ∙ ap ruling (sym both-limits)) why h

-- label columns
module _ (rows : ℕ) (chains seqs : List ℕ) (over : Bool) (k : Result (Unit {0}) Refusal) (f : over ≡ any (ltb max_numbers) (length chains ∷ length seqs ∷ []))
    (e : k ≡ ruling (limits_of rows over false)) where
  label-limits : limits (rows ∷ []) (length chains ∷ length seqs ∷ []) [] ≡ limits_of rows over false
  unfolding limits limits_of any
  label-limits = rw f

  pub labels_in : k ≡ Ok tt → (q : Result (Unit {0}) Refusal) → q ≡ ruling (label_rules rows (label_columns chains seqs)) → q ≡ ruling (lent_label_rules rows (label_columns chains seqs))
  unfolding lent_label_rules
  labels_in h q g = then-rest k _ _ (e ∙ ap ruling (sym label-limits)) h q (g ∙ ap ruling (sym (last-rule (label_rules rows (label_columns chains seqs)))))

  pub labels-out : (why : Refusal) → k ≡ Err why → Err why ≡ ruling (lent_label_rules rows (label_columns chains seqs))
  unfolding lent_label_rules
  labels-out why h = then-broken k _ _ (e ∙ ap ruling (sym label-limits)) why h

-- ── columns whose rules are kept ─────────────────────────────────────────────────────────────

module _ (K first rows end : ℕ) (r i : EdgeSet) (lent : List Lent) (k : Result (Unit {0}) Refusal) (e : k ≡ ruling (children_rules K first rows end r i lent)) (h : k ≡ Ok tt) where
  apart : (any (ltb max_numbers) (set_lengths r) ≡ false) × (any (ltb max_numbers) (set_lengths i) ≡ false)
  unfolding children_rules
  apart = or-is-false _ _ (sym (any_append (ltb max_numbers) (set_lengths r) (set_lengths i)) ∙ few-numbers _ _ lent (each_none _ (told-kept _ e h)).0)

  rules : (set_rules K reverse first rows end r ≡ none) × (set_rules K inbound first rows end i ≡ none)
  unfolding children_rules
  rules =
      let p = each_none _ (told-kept _ e h) in
      (p.1.0, p.1.1.0)

  pub readable-reverse : Readable K first r
  readable-reverse = record { set = reverse; rows = rows; end = end; kept = rules.0; few = few-deltas r apart.0 }

  pub readable-inbound : Readable K first i
  readable-inbound = record { set = inbound; rows = rows; end = end; kept = rules.1; few = few-deltas i apart.1 }

-- label columns
module _ (rows : ℕ) (chains seqs : List ℕ) (k : Result (Unit {0}) Refusal) (e : k ≡ ruling (lent_label_rules rows (label_columns chains seqs))) (h : k ≡ Ok tt) where
  lent-labels : label_rules rows (label_columns chains seqs) ≡ none
  unfolding lent_label_rules
  lent-labels = (each_none _ (told-kept _ e h)).1.0

  counts : (length chains ≡ rows) × (length seqs ≡ rows)
  unfolding label_rules
  counts =
      let p = both (eqb (length chains) rows) _ (passed LabelColumns _ (each_none _ lent-labels).0) in
      (eqb-true _ _ p.0, eqb-true _ _ p.1)

  ranges : (all short32 chains ≡ true) × (all short32 seqs ≡ true)
  unfolding label_rules
  ranges = both (all short32 chains) _ (passed LabelRange _ (each_none _ lent-labels).1.0)

  pub as_many : length seqs ≡ length chains
  as_many = omega (arith, counts.0, counts.1)

  pub short-chains : all short32 chains ≡ true
  short-chains = ranges.0

  pub short-seqs : all short32 seqs ≡ true
  short-seqs = ranges.1
