-- What measuring answers, by the calls that make it.
use Rattle.std.specs.Prelude.{Err, Ok, Result}
use mathlib.Core.Path.{◌≡◌, sym, ap, ◌∙◌}
use mathlib.Core.Bool.{Bool, ◌&&◌}
use mathlib.Core.List.{List}
use Prim.Native.Nat.{ℕ, ◌-◌, ◌*◌, ◌≤◌}
use native.Mathlib.Omega.{arith}
use lib.Dec.{ltb}
use lib.ListN.{drop}
use Rattle.lists.specs.Lists.{all}
use Rattle.columns.specs.Building.{Built, depth_ok}
use Rattle.columns.specs.Answers.{ruling}
use Rattle.columns.specs.declared.refusal.Refusal.{Refusal}
use Rattle.archive_bytes.specs.Bytes.{several}
use Rattle.archive_store.specs.sizes.FileSize.{max_file_size}
use Rattle.run_section.specs.declared.Counts.{Counts}
use Rattle.run_section.specs.declared.Section.{Section}
use Rattle.run_section.specs.declared.rules.Known.{Known}
use Rattle.run_section.specs.declared.sizes.Edges.{Edges}
use Rattle.run_section.specs.Tables.{unresolved_in}
use Rattle.run_section.specs.Rules.{kind_fits, depth_in, faults, spans_in}
use Rattle.run_section.specs.Files.{sets_at}
use Rattle.run_section.specs.Sizes.{EdgesOf, size_at}
use Rattle.run_section.specs.Measures.{faults_at, size_by, ruled, SectionMeasured}

pub size-of-edges : (size : ℕ) (s : Section) (b : Built) (e : Edges) (covered : Bool) (ranges : ℕ) {r : ℕ} → EdgesOf b e → r ≡ size_at size s e covered ranges → r ≡ size_by size s b covered ranges
unfolding size_at size_by
size-of-edges size s b e covered ranges h q = rw (← h.forward_is, ← h.reverse_is, ← h.inbound_is) q

module _ (z : Counts) (size : ℕ) (k : Known) (rises : Bool) (ranges : ℕ) (s : Section) (unresolved offsets targets starts kids : List ℕ) {v : Result (Unit {0}) Refusal}
    (e : v ≡ ruling (faults (ltb 0 size) (all kind_fits (several 3 unresolved_in (s.unresolved.to - s.unresolved.from) (drop (s.unresolved.from * 3) unresolved))) (depth_ok (depth_in k)) rises
    (spans_in z.start s.rows.from (s.rows.to - s.rows.from) offsets targets && spans_in z.start s.rows.from (s.rows.to - s.rows.from) starts kids))) where
  same : v ≡ faults_at z size k rises s unresolved offsets targets starts kids
  unfolding faults_at
  same = e

  pub measured-broken : (x : Refusal) → v ≡ Err x → {r : Result ℕ Refusal} → r ≡ Err x → SectionMeasured z size k rises ranges s unresolved offsets targets starts kids r
  measured-broken x b {r} i = record {
    rules = ap ruled i ∙ sym b ∙ same;
    size_is = λ {n} e. absurd (let z : ◌≡◌ {A = ℕ} 0 1 = cc in omega arith);
    few = λ {n} e. absurd (let z : ◌≡◌ {A = ℕ} 0 1 = cc in omega arith);
  }

  pub measured-kept : v ≡ Ok tt → {n : ℕ} → n ≡ size_by size s (sets_at z s offsets targets starts kids) k.covered ranges → n ≤ max_file_size
      → SectionMeasured z size k rises ranges s unresolved offsets targets starts kids (Ok n)
  measured-kept b {n} q f = record {
    rules = sym b ∙ same;
    size_is = λ {n = m} e. let i : m ≡ n = cc in i ∙ q;
    few = λ {n = m} e. let i : m ≡ n = cc in omega arith;
  }
