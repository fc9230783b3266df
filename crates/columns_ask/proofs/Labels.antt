-- What a question for a label answers.
use Rattle.std.specs.Prelude.{Err, None, Ok, Result, Some, Option}
use mathlib.Core.Path.{◌≡◌, refl}
use mathlib.Core.Bool.{true}
use mathlib.Core.List.{List, [], ◌∷◌}
use mathlib.Core.Option.{none, some}
use Prim.Native.Nat.{ℕ, zero, suc, ◌≤◌, ◌<◌, ◌-◌}
use native.Mathlib.Omega.{arith}
use lib.ListN.{length, get_or, get_elem?}
use borrow.Author.Tests.{lt-ltb, le-ltb, ltb-true}
use Rattle.lists.specs.Lists.{all}
use Rattle.lists.proofs.Tests.{both}
use Rattle.columns.specs.Limits.{end32}
use Rattle.columns.specs.Refusal.{accepted, unless}
use Rattle.columns.specs.Reading.{labels_of}
use Rattle.columns.specs.Questions.{label_at, label}
use Rattle.columns.specs.Answers.{short32, label_columns, ruling}
use Rattle.columns_ask.specs.Views.{lent_label_rules, labelled_of}
use Rattle.columns.specs.declared.refusal.Refusal.{Refusal}
use Rattle.columns_ask.specs.declared.ChainLabel.{ChainLabel}
use Rattle.columns.proofs.Told.{told-kept, told}

pub short-at : (l : List ℕ) (i : ℕ) → all short32 l ≡ true → i < length l → get_or l i 0 < end32
unfolding all
short-at [] i e h = absurd (omega arith)
short-at (x ∷ l) zero e h = ltb-true x end32 (both (short32 x) _ e).0
short-at (x ∷ l) (suc i) e h = short-at l i (both (short32 x) _ e).1 (omega arith)

pub short-beside : (l m : List ℕ) (i : ℕ) → all short32 m ≡ true → i < length l → length m ≡ length l → get_or m i 0 < end32
short-beside l m i e h k = short-at m i e (omega arith)

no_label : (cs ss : List ℕ) (i : ℕ) → length cs ≤ i → get_elem? (labels_of cs ss) i ≡ none
unfolding labels_of
no_label [] ss i h = refl
no_label (c ∷ cs) [] i h = refl
no_label (c ∷ cs) (s ∷ ss) zero h = absurd (omega arith)
no_label (c ∷ cs) (s ∷ ss) (suc i) h = no_label cs ss i (omega arith)

a-label : (cs ss : List ℕ) (i : ℕ) → i < length cs → length ss ≡ length cs → get_elem? (labels_of cs ss) i ≡ some (record { chain = get_or cs i 0; seq = get_or ss i 0 })
unfolding labels_of
a-label [] ss i h e = absurd (omega arith)
a-label (c ∷ cs) [] i h e = absurd (omega arith)
a-label (c ∷ cs) (s ∷ ss) zero h e = refl
a-label (c ∷ cs) (s ∷ ss) (suc i) h e = a-label cs ss i (omega arith) (omega arith)

module _ (first : ℕ) (chains seqs : List ℕ) (number : ℕ) where
  pub label-below : number < first → (Ok None) ≡ labelled_of (accepted (label_at first (labels_of chains seqs) number))
  unfolding label_at
  label-below h = rw (lt-ltb number first h)

  module _ (h : first ≤ number) where
    pub label-past : length chains ≤ number - first → (Ok None) ≡ labelled_of (accepted (label_at first (labels_of chains seqs) number))
    unfolding label_at
    label-past k = rw (le-ltb number first h, no_label chains seqs (number - first) k)

    pub label-told : (c s : ℕ) → number - first < length chains → length seqs ≡ length chains → c ≡ get_or chains (number - first) 0 → s ≡ get_or seqs (number - first) 0
        → Ok (Some (record { chain = c; seq = s })) ≡ labelled_of (accepted (label_at first (labels_of chains seqs) number))
    unfolding label_at
    label-told c s k i f g = rw (le-ltb number first h, a-label chains seqs (number - first) k i, f, g)

  module _ (rows : ℕ) (k : Result (Unit {0}) Refusal) (e : k ≡ ruling (lent_label_rules rows (label_columns chains seqs))) where
    pub label_kept : k ≡ Ok tt → (r : Result (Option ChainLabel) Refusal) → r ≡ labelled_of (accepted (label_at first (labels_of chains seqs) number))
        → r ≡ labelled_of (label first rows (label_columns chains seqs) number)
    unfolding label lent_label_rules unless
    label_kept h r f = rw (told-kept (lent_label_rules rows (label_columns chains seqs)) e h) f

    pub label-refused : (why : Refusal) → k ≡ Err why → Err why ≡ labelled_of (label first rows (label_columns chains seqs) number)
    unfolding label lent_label_rules unless
    label-refused why h = rw (told (lent_label_rules rows (label_columns chains seqs)) e h)
