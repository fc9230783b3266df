-- Demand 3: archives that are alike in what survives.
use mathlib.Core.List.{List, Memᴰ}
use Rattle.std.specs.Prelude.{◌⊎◌, ◌↔◌, ◌≡◌, ℕ, ◌≤◌, ◌<◌}
use Rattle.std.proofs.Math.Option.{Option, none, some}
use Rattle.lists.specs.Lists.{Pairs, once}
use Rattle.cover.specs.Chains.{Link}
use Rattle.cleaning.specs.Archive.{Group, Archive, at}
use Rattle.cleaning.specs.Routes.{ends}
use Rattle.cleaning.specs.Cleaning.{rank, survivors}

-- the same links as a set
abbrev pub SameSet : List Link → List Link → Type 0
SameSet ls ms = (l : Link) → Memᴰ l ls ↔ Memᴰ l ms

-- a chain cover in both or in neither, with the same links
abbrev pub SameCover : Option (List Link) → Option (List Link) → Type 0
SameCover none none = Unit {0}
SameCover none (some ms) = ⊥
SameCover (some ls) none = ⊥
SameCover (some ls) (some ms) = SameSet ls ms

pub record SameGroup (g h : Group) : Type 0 where
  pub same_depth : g.depth ≡ h.depth
  pub same_cover : SameCover g.links h.links

-- the same end: the same number before the start, or a survivor of the same rank
unfoldable pub SameEnd : Archive → Archive → ℕ → ℕ → Type 0
SameEnd A B p q = ((p < A.start) × (p ≡ q)) ⊎ ((A.start ≤ p) × (B.start ≤ q) × (rank A p ≡ rank B q))

-- survivor p of A and survivor q of B
pub record SameSurvivor (K : ℕ) (A B : Archive) (p q : ℕ) : Type 0 where
  pub same_group : (at A p).body.group ≡ (at B q).body.group
  pub same_tag : (at A p).body.tag ≡ (at B q).body.tag
  pub same_label : (at A p).body.label ≡ (at B q).body.label
  pub same_root : (at A p).body.root ≡ (at B q).body.root
  pub same_unresolved : (at A p).body.unresolved ≡ (at B q).body.unresolved
  pub same_ends : (k : ℕ) → k < K → Pairs (SameEnd A B) (once (ends A k p)) (once (ends B k q))

pub record Alike (K : ℕ) (A B : Archive) : Type 0 where
  pub same_start : A.start ≡ B.start
  pub same_subject : A.subject ≡ B.subject
  pub same_groups : Pairs SameGroup A.groups B.groups
  pub same_survivors : Pairs (SameSurvivor K A B) (survivors A) (survivors B)
