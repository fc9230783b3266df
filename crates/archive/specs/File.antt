-- Document 01, "Archive records", and document 02, L1: a file as its seven records say it.
use Rattle.std.specs.Prelude.{Bool, true, false, List, [], ◌∷◌, map, ℕ}
use Rattle.std.proofs.Math.Option.{Option}
use Rattle.columns.specs.EdgeSet.{EdgeSet}
use Rattle.columns.specs.Reading.{Labels}
use Rattle.columns.specs.Building.{Depth}
use Rattle.cover.specs.Chains.{Range}
use Rattle.cover.specs.Cover.{LinkColumns}

-- a row: whether it is erased, and its tag
pub record Row : Type 0 where
  pub erased : Bool
  pub tag : ℕ

-- an unresolved reference of a child to a parent that the host names by a handle
pub record Unresolved : Type 0 where
  pub child : ℕ
  pub kind : ℕ
  pub handle : ℕ

-- the handle of a row's state root; rows count from 0 in their file
pub record Root : Type 0 where
  pub row : ℕ
  pub handle : ℕ

-- a chain cover as stored: labels row by row, ranges, links with differences in their first column
pub record CoverColumns : Type 0 where
  pub labels : Labels
  pub ranges : List Range
  pub links : LinkColumns

-- a row's reference to another event: by its sequence number, or by a handle of the host's in another space
pub record Reference : Type 0 where
  pub kind : ℕ
  pub space : ℕ
  pub target : ℕ

-- whether some row has a reference
unfoldable pub any_reference : List (List Reference) → Bool
any_reference [] = false
any_reference ([] ∷ rest) = any_reference rest
any_reference ((r ∷ rs) ∷ rest) = true

-- the references of rows that have none
abbrev pub no_references : {A : Type 0} → List A → List (List Reference)
no_references rows = map (λ r. []) rows

-- references: row by row, as many lists as there are rows
pub record File : Type 0 where
  pub first : ℕ
  pub group : ℕ
  pub subject : List ℕ
  pub depth : Option Depth
  pub forward : EdgeSet
  pub reverse : EdgeSet
  pub inbound : EdgeSet
  pub rows : List Row
  pub unresolved : List Unresolved
  pub roots : List Root
  pub cover : Option CoverColumns
  pub references : List (List Reference)
