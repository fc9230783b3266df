-- A neat run can take a source that follows what it looks back at.
use mathlib.Core.Path.{◌≡◌, ap, subst}
use mathlib.Core.Bool.{true, false}
use mathlib.Core.List.{List, ◌∷◌, foldl}
use mathlib.Core.Logic.{◌⊎◌, inl, inr}
use mathlib.Core.Option.{some}
use Prim.Native.Nat.{ℕ, suc, ◌≤◌, ◌<◌}
use native.Mathlib.Omega.{arith}
use lib.ListN.{length}
use Rattle.columns.specs.Limits.{kinds}
use Rattle.columns.proofs.Served.{kinds-served}
use Rattle.lists.specs.Lists.{is_empty, up_from, add}
use Rattle.lists.proofs.Tests.{tested}
use Rattle.lists.proofs.Once.{fold-grows}
use Rattle.lists.proofs.Flat.{length-up_from}
use Rattle.cleaning.specs.Source.{Source}
use Rattle.cleaning.specs.Held.{Held, look_back}
use Rattle.cleaning.proofs.Taken.{FollowsLast}
use Rattle.cleaning.proofs.HeldRows.{Ready, ready}
use Rattle.cleaning.proofs.HeldLimits.{add-number}
use Rattle.cleaning.proofs.Neat.{Neat, looks_like, look-back, held-last, ready-first}

module _ (h : Held) (n : Neat kinds h) where
  pub ready_held : (s : Source) → FollowsLast (look_back h.sheet) s → Ready kinds h s
  ready_held s f = go (tested (is_empty h.sheet.groups))
    where
      go : (is_empty h.sheet.groups ≡ true) ⊎ (is_empty h.sheet.groups ≡ false) → Ready kinds h s
      go (inl b) = ready-first kinds kinds-served h n b s (subst (λ x. FollowsLast x s) (look-back h.sheet true b) f)
      go (inr b) = ready kinds kinds-served (some (looks_like h.sheet)) h s (held-last kinds kinds-served h n b) (subst (λ x. FollowsLast x s) (look-back h.sheet false b) f)

-- ── group numbers ────────────────────────────────────────────────────────────────────────────

-- a group is below the limit that the groups of all files keep
pub group-below : (n g m : ℕ) (gs : List ℕ) → g ≤ n → n ≤ suc g → length (foldl add (up_from 0 n) (g ∷ gs)) ≤ m → g < m
group-below n g m gs l k h =
    let z : foldl add (up_from 0 n) (g ∷ gs) ≡ foldl add (up_from 0 (suc g)) gs = ap (λ s. foldl add s gs) (add-number n g l k) in
    omega (arith, fold-grows (up_from 0 (suc g)) gs, length-up_from 0 (suc g), ap length z)
