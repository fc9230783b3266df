-- The new keys in order, cut to the limit, are the level.
use mathlib.Core.Path.{◌≡◌, refl, sym, ◌∙◌, ap}
use mathlib.Core.List.{List}
use Prim.Native.Nat.{ℕ, ◌+◌, ◌≤◌}
use native.Mathlib.Omega.{arith}
use lib.ListN.{length, take}
use lib.Seq.{slice, sets, length-take-le}
use Rattle.lists.specs.Order.{sort}
use Rattle.lists.proofs.Slices.{sets-front}
use Rattle.columns.specs.Walk.{level}
use Rattle.columns.specs.Answers.{written_in}
use Rattle.columns_levels.specs.frontier.Frontier.{copied, Laid}
use Rattle.columns_walk.specs.level.Step.{unvisited, News}

-- ── lay ──────────────────────────────────────────────────────────────────────────────────────

module _ (buf buf' new : List ℕ) (e : ℕ) (x : Laid 0 buf buf' e new) where
  pub laid-count : e ≡ length new
  laid-count = sym (ap length (sym x.list) ∙ length-take-le e buf' x.upto)

  pub laid_out : (out out' : List ℕ) → out' ≡ copied out 0 (slice 0 (0 + e) buf') → length buf' ≡ 4096 → 4096 ≤ length out → out' ≡ written_in out new
  unfolding copied
  laid_out out out' q k h =
      let z : 0 + e ≡ e = omega arith in
      q ∙ ap (λ (j : ℕ). sets out 0 (slice 0 j buf')) z ∙ ap (λ (j : List ℕ). sets out 0 j) x.list ∙ sets-front out new (omega (arith, laid-count, x.upto))

-- ── hand ─────────────────────────────────────────────────────────────────────────────────────

level-unvisited : (p : ℕ → List ℕ) (limit : ℕ) (visited frontier : List ℕ) → take limit (sort (unvisited p visited frontier)) ≡ level p limit visited frontier
unfolding level unvisited
level-unvisited p limit visited frontier = refl

module _ (p : ℕ → List ℕ) (limit n r : ℕ) (visited frontier keys : List ℕ) (x : News keys n r (unvisited p visited frontier)) where
  level-keys : take limit (sort (slice n r keys)) ≡ level p limit visited frontier
  level-keys = rw x.are (level-unvisited p limit visited frontier)

  pub level-count : (e : ℕ) → e ≡ length (take limit (sort (slice n r keys))) → e ≡ length (level p limit visited frontier)
  level-count e q = q ∙ ap length level-keys

  pub level_out : (out out' : List ℕ) → out' ≡ written_in out (take limit (sort (slice n r keys))) → out' ≡ written_in out (level p limit visited frontier)
  level_out out out' q = q ∙ ap (λ (l : List ℕ). written_in out l) level-keys
