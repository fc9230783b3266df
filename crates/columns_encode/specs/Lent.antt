-- What `encode_graph_blocks` is lent, as a graph to build and as slices for the three sets, its verdict on that, and what it leaves in the slices.
use Rattle.std.specs.Prelude.{◌≡◌, Bool, List, ◌++◌, ℕ, ℤ, Result}
use Rattle.columns.specs.Limits.{kinds}
use Rattle.columns.specs.Refusal.{Verdict, Lent}
use Rattle.columns.specs.Reading.{idle_labels}
use Rattle.columns.specs.Building.{Graph, Built, build_beside}
use Rattle.columns_rules.specs.records.Recorded.{depth_of, labels_given, inbound_of}
use Rattle.columns.specs.declared.refusal.Refusal.{Refusal}
use Rattle.columns.specs.declared.depth.Depth as given
use Rattle.columns_encode.specs.declared.writing.Counts.{Counts}
use Rattle.columns_encode.specs.Encoded.{rooms}
use Rattle.columns_encode.specs.Answered.{encoded_of, offsets_laid, deltas_laid}

-- the file, its records and the granule
abbrev pub graph_of : List ℕ → ℕ → ℕ → List ℕ → List ℕ → List ℕ → List ℕ → List ℕ → given.Depth → Bool → List ℕ → List ℕ → List ℕ → List ℕ → List ℕ → ℕ → ℕ → Graph
graph_of subject first rows offsets targets cs ks fs depth labelled chains seqs ic ip ik from n = record {
  subject = subject;
  first = first;
  rows = rows;
  offsets = offsets;
  targets = targets;
  unresolved = record { children = cs; kinds_given = ks; flags = fs };
  depth = depth_of depth;
  labels = labels_given labelled chains seqs;
  inbound = inbound_of ic ip ik;
  granule_first = from;
  granule_rows = n;
}

-- six slices of these lengths, for the offsets and deltas of the forward, the reverse and the inbound set
abbrev pub slices_of : ℕ → ℕ → ℕ → ℕ → ℕ → ℕ → List Lent
slices_of fo fd ro rd io id = rooms fo fd ++ (rooms ro rd ++ rooms io id)

-- the verdict on what is lent. Label columns are lent also where there are no labels
abbrev pub build_lent : List ℕ → ℕ → ℕ → List ℕ → List ℕ → List ℕ → List ℕ → List ℕ → given.Depth → Bool → List ℕ → List ℕ → List ℕ → List ℕ → List ℕ → ℕ → ℕ → List Lent → Verdict Built
build_lent subject first rows offsets targets cs ks fs depth labelled chains seqs ic ip ik from n lent =
    build_beside kinds (idle_labels labelled chains seqs) (graph_of subject first rows offsets targets cs ks fs depth labelled chains seqs ic ip ik from n) lent

-- the answer of a verdict, and what six slices hold after it
pub record Answers (v : Verdict Built) (r : Result Counts Refusal) (fo : List ℕ) (fd : List ℤ) (ro : List ℕ) (rd : List ℤ) (io : List ℕ) (id : List ℤ)
    (fo' : List ℕ) (fd' : List ℤ) (ro' : List ℕ) (rd' : List ℤ) (io' : List ℕ) (id' : List ℤ) : Type 0 where
  pub answer : r ≡ encoded_of v
  pub forward_offsets : fo' ≡ offsets_laid 0 v fo
  pub forward_deltas : fd' ≡ deltas_laid 0 v fd
  pub reverse_offsets : ro' ≡ offsets_laid 1 v ro
  pub reverse_deltas : rd' ≡ deltas_laid 1 v rd
  pub inbound_offsets : io' ≡ offsets_laid 2 v io
  pub inbound_deltas : id' ≡ deltas_laid 2 v id
