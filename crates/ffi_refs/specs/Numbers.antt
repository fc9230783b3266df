-- What `resolve_graph` answers by numbers, and what it leaves in the slices that it is lent.
use Rattle.std.specs.Prelude.{◌≡◌, List, ℕ, Err, Ok, Result}
use Rattle.columns.specs.Refusal.{number_of, Verdict}
use Rattle.columns_refs.specs.References.{Resolution}
use Rattle.columns_refs.specs.Resolved.{resolved_of, laid, offsets_column, parents_column, children_column, kinds_column, handles_column}
use Rattle.columns.specs.declared.refusal.Refusal.{Refusal}
use Rattle.columns_refs.specs.declared.Made.{Made}
use Rattle.ffi_refs.specs.declared.Resolved.{Resolved}

unfoldable pub told_of : Result Made Refusal → Resolved
told_of (Ok made) = record { refusal = 0; parents = made.parents; unresolved = made.unresolved }
told_of (Err r) = record { refusal = number_of r; parents = 0; unresolved = 0 }

-- the answer of a verdict by numbers, and what five slices hold after it
pub record Told (v : Verdict Resolution) (r : Resolved) (os ps cs ks hs os' ps' cs' ks' hs' : List ℕ) : Type 0 where
  pub answer : r ≡ told_of (resolved_of v)
  pub offsets : os' ≡ laid offsets_column v os
  pub parents : ps' ≡ laid parents_column v ps
  pub children : cs' ≡ laid children_column v cs
  pub kinds : ks' ≡ laid kinds_column v ks
  pub handles : hs' ≡ laid handles_column v hs
