-- The output files of a good summary that meet neither 10 nor 15 are again files that a run takes, resolves and writes, and their summary is that summary.
use mathlib.Core.Path.{◌≡◌, refl, subst, sym}
use mathlib.Core.Bool.{true, false}
use mathlib.Core.List.{map}
use Prim.Native.Nat.{ℕ, zero, suc}
use native.Mathlib.Omega.{arith}
use lib.ListN.{length}
use Rattle.columns.specs.Limits.{Served}
use Rattle.lists.specs.Lists.{all, is_empty, up_from}
use Rattle.cleaning.specs.Summary.{Summary}
use Rattle.cleaning.specs.Writing.{graph_of, output_of, outputs, group_numbers}
use Rattle.cleaning.specs.Accepted.{chains_rise, spans_fit, Cleanable}
use Rattle.cleaning.proofs.Good.{Good}
use Rattle.cleaning.proofs.Again.{archive-again, summary-again}
use Rattle.cleaning.proofs.Carried.{none-carried}
use Rattle.cleaning.proofs.OutputRules.{files-rules}
use Rattle.cleaning.proofs.OutputLimits.{records-within, numbers-within}
use Rattle.cleaning.proofs.OutputFits.{files-fit}
use Rattle.cleaning.proofs.Resolved.{groups-survive, few_entries}

some-output : (K : ℕ) (served : Served K) (S : Summary) → Good K S → is_empty (outputs K S) ≡ false
unfolding outputs is_empty up_from
some-output K served S good = go (length S.groups) refl
  where
    go : (n : ℕ) → n ≡ length S.groups → is_empty (map (output_of K S) (up_from 0 n)) ≡ false
    go zero e = absurd (omega (arith, good.some))
    go (suc n) e = refl

-- neither 10 nor 15 is met in any group
abbrev pub Writable : (K : ℕ) → Summary → Type 0
Writable K S = (all (λ g. chains_rise (graph_of S g)) (group_numbers S) ≡ true) × (all (λ g. spans_fit K (graph_of S g)) (group_numbers S) ≡ true)

pub cleanable-again : (K : ℕ) (served : Served K) (S : Summary) → Good K S → Writable K S → Cleanable K (outputs K S)
cleanable-again K served S good w =
    let again = subst (Writable K) (sym (summary-again K served S good)) w in record {
      fits = files-fit K served S good w.1;
      files = some-output K served S good;
      references = none-carried K S;
      records = records-within K served S good;
      numbers = numbers-within K served S good;
      rules = files-rules K served S good;
      new_lists = rw (archive-again K served S good) (few_entries K served S good);
      survivors = rw (archive-again K served S good) (groups-survive K served S good);
      chains = again.0;
      spans = again.1;
    }
