-- What holds of the cleaned form of every archive that a run takes and resolves. Writing, and taking the output again, rest on these facts alone.
use mathlib.Core.Bool.{true}
use mathlib.Core.List.{List, [], ◌∷◌, map, Memᴰ}
use mathlib.Core.Option.{Option, none, some}
use mathlib.Core.Path.{◌≡◌}
use Prim.Native.Nat.{ℕ, suc, ◌+◌, ◌≤◌, ◌<◌, ◌^◌}
use lib.ListN.{length, get_or}
use Rattle.lists.specs.Lists.{Each, sum, distinct}
use Rattle.lists.specs.Order.{not_falling}
use Rattle.columns.specs.Limits.{max_records, max_numbers, max_groups, reference_kinds}
use Rattle.columns.specs.Reading.{Label}
use Rattle.columns.specs.Building.{subject_ok, depth_ok}
use Rattle.cover.specs.Chains.{Link, links_rise}
use Rattle.archive.specs.Fits.{DepthFits}
use Rattle.cleaning.specs.Archive.{Body, Group}
use Rattle.cleaning.specs.Summary.{Kept, Summary}
use Rattle.cleaning.specs.Writing.{no_group}

-- the new lists of the row of number n: one for each kind, each number once, all below n
pub record GoodLists (K : ℕ) (n : ℕ) (lists : List (List ℕ)) : Type 0 where
  pub each_kind : length lists ≡ K
  pub once : Each (λ ps. distinct ps ≡ true) lists
  pub below : Each (λ ps. Each (λ p. p < n) ps) lists

abbrev pub RowsFrom : (K : ℕ) → ℕ → List Kept → Type 0
RowsFrom K n [] = Unit {0}
RowsFrom K n (r ∷ rs) = GoodLists K n r.parents × RowsFrom K (suc n) rs

abbrev pub LinkFits : Link → Type 0
LinkFits l = (l.from_chain < 2 ^ 32) × (l.from_seq < 2 ^ 32) × (l.to_chain < 2 ^ 32) × (l.to_seq < 2 ^ 32)

-- links rise strictly, in 32 bits
abbrev pub GoodLinks : Option (List Link) → Type 0
GoodLinks none = Unit {0}
GoodLinks (some ls) = (links_rise ls ≡ true) × Each LinkFits ls

abbrev pub GoodGroup : Group → Type 0
GoodGroup g = (depth_ok g.depth ≡ true) × DepthFits g.depth × GoodLinks g.links

-- a label exactly where the group has a cover
abbrev pub GoodLabel : Option (List Link) → Option Label → Type 0
GoodLabel none none = Unit {0}
GoodLabel none (some l) = ⊥
GoodLabel (some ls) none = ⊥
GoodLabel (some ls) (some l) = (l.chain < 2 ^ 32) × (l.seq < 2 ^ 32)

abbrev pub GoodRoot : Option ℕ → Type 0
GoodRoot none = Unit {0}
GoodRoot (some h) = h < 2 ^ 64

pub record GoodBody (groups : List Group) (b : Body) : Type 0 where
  pub group : b.group < length groups
  pub tag : b.tag < 2 ^ 64
  pub label : GoodLabel (get_or groups b.group no_group).links b.label
  pub root : GoodRoot b.root
  pub unresolved : Each (λ u. (u.kind < reference_kinds) × (u.handle < 2 ^ 32)) b.unresolved

abbrev pub link_number : Option (List Link) → ℕ
link_number none = 0
link_number (some ls) = length ls

pub record Good (K : ℕ) (S : Summary) : Type 0 where
  pub subject : subject_ok S.subject ≡ true
  pub subject_bytes : Each (λ b. b < 256) S.subject
  pub some : 0 < length S.groups
  pub group_count : length S.groups ≤ max_groups
  pub row_count : length S.rows ≤ max_records
  pub numbers : S.start + length S.rows < 2 ^ 64
  pub lists : RowsFrom K S.start S.rows
  pub entries : sum (λ r. sum length r.parents) S.rows ≤ max_numbers
  pub bodies : Each (λ r. GoodBody S.groups r.body) S.rows
  pub order : not_falling (map (λ r. r.body.group) S.rows) ≡ true
  pub every : (g : ℕ) → g < length S.groups → Memᴰ g (map (λ r. r.body.group) S.rows)
  pub groups : Each GoodGroup S.groups
  pub links : sum (λ g. link_number g.links) S.groups ≤ max_records
  pub references : sum (λ r. length r.body.unresolved) S.rows ≤ max_records
