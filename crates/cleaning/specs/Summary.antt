-- Document 01, "Cleaning" and demand 3: all that a cleaned archive depends on. Whatever was erased is gone from it.
use Rattle.std.specs.Prelude.{List, [], map, ℕ, ◌-◌, get_or}
use Rattle.std.proofs.Math.Option.{Option, none, some}
use Rattle.lists.specs.Lists.{up_from}
use Rattle.cover.specs.Chains.{Link, sort_links}
use Rattle.cleaning.specs.Archive.{Body, Group, Archive, at}
use Rattle.cleaning.specs.Cleaning.{new_parents, survivors}

-- a survivor's row: what follows it, and its new parents, a list for each kind
pub record Kept : Type 0 where
  pub body : Body
  pub parents : List (List ℕ)

-- start, subject, groups with their links sorted and repeats dropped, survivors in old order
pub record Summary : Type 0 where
  pub start : ℕ
  pub subject : List ℕ
  pub groups : List Group
  pub rows : List Kept

abbrev pub sorted : Option (List Link) → Option (List Link)
sorted none = none
sorted (some ls) = some (sort_links ls)

abbrev pub group_summary : Group → Group
group_summary g = record { depth = g.depth; links = sorted g.links }

abbrev pub kept : Body → List (List ℕ) → Kept
kept b lists = record { body = b; parents = lists }

abbrev pub summary_with : (ℕ → Kept) → Archive → Summary
summary_with row_of A = record { start = A.start; subject = A.subject; groups = map group_summary A.groups; rows = map row_of (survivors A) }

-- the row of a survivor by the routes
unfoldable pub kept_by : (K : ℕ) → Archive → ℕ → Kept
kept_by K A p = kept (at A p).body (map (λ k. new_parents A k p) (up_from 0 K))

-- an archive cleaned, by the routes
unfoldable pub summary : (K : ℕ) → Archive → Summary
summary K A = summary_with (kept_by K A) A

-- the row of a survivor out of tables that hold every event's new lists, kind by kind
unfoldable pub kept_in : Archive → List (List (List ℕ)) → ℕ → Kept
kept_in A ts p = kept (at A p).body (map (λ t. get_or t (p - A.start) []) ts)

-- an archive cleaned, out of tables
unfoldable pub tabled : Archive → List (List (List ℕ)) → Summary
tabled A ts = summary_with (kept_in A ts) A
