-- Document 01, the order of an archive's rules: the rules of a file whose parts lie at given places, in the groups in which they are tested.
use Rattle.std.specs.Prelude.{Bool, cond, List, [], ◌∷◌, ℕ, ◌+◌, ◌≤◌, take, drop}
use Rattle.std.proofs.Math.Option.{Option, none, some}
use Rattle.columns.specs.Limits.{max_records, max_numbers}
use Rattle.columns.specs.Refusal.{first_of}
use Rattle.columns.specs.declared.refusal.Refusal.{Refusal}
use Rattle.archive.specs.Bytes.{several}
use Rattle.archive.specs.Parse.{depth_read, unresolved_at, root_at}
use Rattle.archive_read.specs.bodies.View.{set_in, cover_in}
use Rattle.archive_read.specs.declared.bodies.HeadAt.{HeadAt}
use Rattle.archive_read.specs.Layout.{part_in}
use Rattle.archive_read.specs.declared.records.FrontAt.{FrontAt}
use Rattle.archive_read.specs.declared.records.MiddleAt.{MiddleAt}
use Rattle.archive_read.specs.declared.records.TailAt.{TailAt}
use Rattle.archive_read.specs.declared.records.FileAt.{FileAt}
use Rattle.cleaning.specs.Source.{Source}
use Rattle.cleaning.specs.Taking.{cover_rules}
use Rattle.run_rules.specs.parts.Back.{own_rules, back_rules, sets_rules, records_rules}

-- 1, 3, 8, 24, 25, 26 of a head with a subject
unfoldable pub head_rules : Option Source → List ℕ → HeadAt → Bool → Option Refusal
head_rules before subject h covered =
    first_of (own_rules subject h.first h.rows (depth_read h.flag h.least h.greatest) ∷ back_rules before h.group subject h.first covered ∷ [])

-- the subject that stands in the body of record 1
abbrev pub subject_in : List ℕ → FrontAt → List ℕ
subject_in l f = take f.head.subject (drop 14 (part_in l f.file))

-- 17 to 19
unfoldable pub edges_rules : List ℕ → FrontAt → Option Refusal
edges_rules l f = let b = part_in l f.sets in let n = f.head.rows in let s = f.edges in
    sets_rules f.head.first n (f.head.first + n) (set_in b n 0 s.forwards) (set_in b n s.reverse s.reverses) (set_in b n s.inbound s.inbounds)

-- 16, 6, 7
unfoldable pub lists_rules : List ℕ → HeadAt → MiddleAt → TailAt → Option Refusal
lists_rules l h m t =
    records_rules h.first h.rows (h.first + h.rows) (several 16 root_at t.count (drop 4 (part_in l t.roots)))
    (several 13 unresolved_at m.count (drop 4 (part_in l m.unresolved)))

-- 22
unfoldable pub cover_rule : List ℕ → ℕ → TailAt → Option Refusal
cover_rule l n t = cover_rules (cond t.covered (some (cover_in (part_in l t.body) n t.cover)) none)

-- 16, 6, 7, 22
unfoldable pub tail_rules : List ℕ → HeadAt → MiddleAt → TailAt → Option Refusal
tail_rules l h m t = first_of (lists_rules l h m t ∷ cover_rule l h.rows t ∷ [])

-- 17 to 19, 16, 6, 7, 22
unfoldable pub rest_rules : List ℕ → FileAt → Option Refusal
rest_rules l f = first_of (edges_rules l f.front ∷ tail_rules l f.front.head f.middle f.tail ∷ [])

-- a file within the limits that its columns are loaded by
pub record Small (f : FileAt) : Type 0 where
  pub rows : f.front.head.rows ≤ max_records
  pub forwards : f.front.edges.forwards ≤ max_numbers
  pub reverses : f.front.edges.reverses ≤ max_numbers
  pub inbounds : f.front.edges.inbounds ≤ max_numbers
  pub ranges : f.tail.cover.ranges ≤ max_records
  pub links : f.tail.cover.links ≤ max_records
