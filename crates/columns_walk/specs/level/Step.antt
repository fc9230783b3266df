-- Document 01, `GraphWalk::next`: one level over one file's forward columns, from what was visited and the last level. A walk is this step
-- repeated (`repeated` in proofs/level/Repeated): each level goes behind what was visited, its length off the limit, until one is empty.
use Rattle.std.specs.Prelude.{◌≡◌, not, List, [], ◌∷◌, ◌++◌, ℕ, ◌-◌, ◌≤◌, length}
use Rattle.std.proofs.Math.Seq.{slice}
use Rattle.lists.specs.Lists.{flat, filter, mem, once}
use Rattle.columns.specs.Limits.{max_numbers}
use Rattle.columns.specs.Refusal.{Verdict, unless, first_of, Lent, limits}
use Rattle.columns.specs.EdgeSet.{EdgeSet, forward}
use Rattle.columns.specs.Reading.{set_rules, slots_of, set_lengths}
use Rattle.columns.specs.Questions.{list_of}
use Rattle.columns.specs.Walk.{level}

-- the level after a frontier, of which at most `limit` numbers are handed out. The two lists are columns like the file's own (43)
unfoldable pub next : (K : ℕ) → ℕ → ℕ → ℕ → EdgeSet → ℕ → ℕ → List ℕ → List ℕ → List Lent → Verdict (List ℕ)
next K first rows end f kind limit visited frontier lent =
    unless (first_of (limits (rows ∷ []) (set_lengths f ++ (length visited ∷ length frontier ∷ [])) lent ∷ set_rules K forward first rows end f ∷ []))
    (level (list_of K first (slots_of K first f) kind) limit visited frontier)

-- ── how it is made ───────────────────────────────────────────────────────────────────────────

-- the parents of a frontier that were not visited, each once
unfoldable pub unvisited : (ℕ → List ℕ) → List ℕ → List ℕ → List ℕ
unvisited parents_of visited frontier = once (filter (λ n. not (mem n visited)) (flat parents_of frontier))

-- those are the keys from n to r, and no more than a column holds
pub record News (keys : List ℕ) (n r : ℕ) (new : List ℕ) : Type 0 where
  pub more : n ≤ r
  pub upto : r ≤ length keys
  pub few : r - n ≤ max_numbers
  pub are : slice n r keys ≡ new
