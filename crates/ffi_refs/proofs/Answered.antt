-- An answer by numbers follows from what `resolve_graph` answers.
use Rattle.std.specs.Prelude.{Result}
use mathlib.Core.List.{List}
use mathlib.Core.Path.{◌≡◌, ap, ◌∙◌}
use Prim.Native.Nat.{ℕ}
use Rattle.columns.specs.Refusal.{Verdict}
use Rattle.columns_refs.specs.References.{Resolution}
use Rattle.columns_refs.specs.Resolved.{Answers}
use Rattle.ffi_refs.specs.Numbers.{told_of, Told}
use Rattle.columns.specs.declared.refusal.Refusal.{Refusal}
use Rattle.columns_refs.specs.declared.Made.{Made}
use Rattle.ffi_refs.specs.declared.Resolved.{Resolved}

pub answered : {v : Verdict Resolution} {r : Resolved} {os ps cs ks hs os' ps' cs' ks' hs' : List ℕ} (x : Result Made Refusal)
    → Answers v x os ps cs ks hs os' ps' cs' ks' hs' → r ≡ told_of x → Told v r os ps cs ks hs os' ps' cs' ks' hs'
answered x a h =
    record {
      answer = h ∙ ap told_of a.answer;
      offsets = a.offsets;
      parents = a.parents;
      children = a.children;
      kinds = a.kinds;
      handles = a.handles;
    }
