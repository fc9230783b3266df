-- What a question over lent columns tests first, and its label as the answer.
use Rattle.std.specs.Prelude.{List, [], ◌∷◌, ◌++◌, ℕ, ltb, length, Err, None, Ok, Result, Some}
use Rattle.std.proofs.Math.Option.{Option, none, some}
use Rattle.std.specs.declared.option.Option as rust
use Rattle.columns.specs.Limits.{max_numbers}
use Rattle.columns.specs.Refusal.{Verdict, refused, accepted, refuse, first_of, Lent, limits}
use Rattle.columns.specs.EdgeSet.{EdgeSet, reverse, inbound}
use Rattle.columns.specs.Reading.{Label, Labels, set_rules, set_lengths, label_rules}
use Rattle.columns.specs.Questions.{children_of}
use Rattle.columns.specs.declared.refusal.Refusal.{Refusal}
use Rattle.columns_ask.specs.declared.ChainLabel.{ChainLabel}
use Rattle.columns.specs.declared.refusal.Refusal.TheVariants.{OverNumbers}

-- the limits and the rules of the two sets that children come from
unfoldable pub children_rules : (K : ℕ) → ℕ → ℕ → ℕ → EdgeSet → EdgeSet → List Lent → Option Refusal
children_rules K first rows end r i lent =
    first_of (limits (rows ∷ []) (set_lengths r ++ set_lengths i) lent ∷ set_rules K reverse first rows end r ∷ set_rules K inbound first rows end i ∷ [])

-- the same, and whether the number asked for has more children than a column holds
unfoldable pub asked_rules : (K : ℕ) → ℕ → ℕ → ℕ → EdgeSet → EdgeSet → ℕ → ℕ → List Lent → Option Refusal
asked_rules K first rows end r i kind number lent =
    first_of (children_rules K first rows end r i lent ∷ refuse OverNumbers (ltb max_numbers (length (children_of K first r i kind number))) ∷ [])

-- the limits and the rules of label columns that are lent by themselves
unfoldable pub lent_label_rules : ℕ → Labels → Option Refusal
lent_label_rules rows c = first_of (limits (rows ∷ []) (length c.chains ∷ length c.seqs ∷ []) [] ∷ label_rules rows c ∷ [])

-- the label, none, or the refusal
abbrev pub labelled_of : Verdict (Option Label) → Result (rust.Option ChainLabel) Refusal
labelled_of (refused r) = Err r
labelled_of (accepted none) = Ok None
labelled_of (accepted (some l)) = Ok (Some (record { chain = l.chain; seq = l.seq }))
