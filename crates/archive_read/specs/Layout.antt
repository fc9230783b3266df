-- What the reader's answers say of a file and of an archive: each part of a file lies between two places of the archive's bytes.
use Rattle.std.specs.Prelude.{Bool, true, false, cond, List, ◌≡◌, ℕ, ◌+◌, ◌*◌, ◌≤◌, ◌<◌, length, drop, None, Some}
use Rattle.std.specs.declared.option.Option as rust
use Rattle.std.proofs.Math.Option.{Option, none, some}
use Rattle.lists.specs.Lists.{sum}
use Rattle.columns.specs.Limits.{kinds}
use Rattle.archive.specs.Bytes.{several}
use Rattle.archive.specs.Reader.{Parsed, broken, got, Reader, ◌>>=◌, return, record_of, optionally}
use Rattle.archive.specs.File.{Row, Unresolved, Root, CoverColumns, Reference, File}
use Rattle.archive.specs.Parse
use Rattle.archive.specs.Parse.{Head, Sets, row_at, unresolved_at, root_at, references_of}
use Rattle.archive_read.specs.bodies.View.{body_in, head_in, set_end, sets_in, cover_end, cover_in, references_from}
use Rattle.archive_read.specs.declared.bodies.HeadAt.{HeadAt}
use Rattle.archive_read.specs.declared.bodies.EdgesAt.{EdgesAt}
use Rattle.archive_read.specs.declared.bodies.CoverAt.{CoverAt}
use Rattle.archive_read.specs.declared.records.Part.{Part}
use Rattle.archive_read.specs.declared.records.CoverPart.{CoverPart}
use Rattle.archive_read.specs.declared.records.CitesPart.{CitesPart}
use Rattle.archive_read.specs.declared.records.FrontAt.{FrontAt}
use Rattle.archive_read.specs.declared.records.MiddleAt.{MiddleAt}
use Rattle.archive_read.specs.declared.records.TailAt.{TailAt}
use Rattle.archive_read.specs.declared.records.RestAt.{RestAt}
use Rattle.archive_read.specs.declared.records.FileAt.{FileAt}

abbrev pub part_in : List ℕ → Part → List ℕ
part_in l p = body_in l p.at p.end

-- ── one record ───────────────────────────────────────────────────────────────────────────────

abbrev pub body_of : List ℕ → rust.Option Part → Parsed (List ℕ)
body_of l None = broken
body_of l (Some a) = got (part_in l a) a.end

-- a body lies past the place where its record starts, and inside the bytes
abbrev pub Inside : List ℕ → ℕ → rust.Option Part → Type 0
Inside l p None = Unit {0}
Inside l p (Some a) = (p < a.at) × (a.at ≤ a.end) × (a.end ≤ length l)

-- a part ends past place p and inside the bytes
abbrev pub Ends : List ℕ → ℕ → Part → Type 0
Ends l p a = (p < a.end) × (a.end ≤ length l)

-- a part lies inside the bytes, and n bytes of it are there
pub record Holds (l : List ℕ) (a : Part) (n : ℕ) : Type 0 where
  pub starts : a.at ≤ a.end
  pub ends : a.end ≤ length l
  pub long : n ≤ length (part_in l a)

-- the subject is there
abbrev pub HoldsHead : List ℕ → HeadAt → Part → Type 0
HoldsHead l h a = Holds l a (14 + h.subject)

-- so many deltas of each set as there are bytes at the most
abbrev pub FewDeltas : ℕ → EdgesAt → ℕ → Type 0
FewDeltas p s q = (p + s.forwards ≤ q) × (p + s.reverses ≤ q) × (p + s.inbounds ≤ q)

-- the columns of every set are there
pub record HoldsSets (l : List ℕ) (rows : ℕ) (s : EdgesAt) (a : Part) : Type 0 where
  pub forward : Holds l a (set_end rows 0 s.forwards)
  pub reverse : Holds l a (set_end rows s.reverse s.reverses)
  pub inbound : Holds l a (set_end rows s.inbound s.inbounds)

abbrev pub FewOf : ℕ → CoverAt → ℕ → Type 0
FewOf p c q = (p + c.ranges ≤ q) × (p + c.links ≤ q)

-- the columns of a cover are there
abbrev pub HoldsCover : List ℕ → ℕ → CoverAt → Part → Type 0
HoldsCover l rows c a = Holds l a (cover_end rows c.ranges c.links)

abbrev pub optional_of : List ℕ → ℕ → ℕ → rust.Option (rust.Option CoverPart) → Parsed (Option CoverColumns)
optional_of l rows p None = broken
optional_of l rows p (Some None) = got none p
optional_of l rows p (Some (Some c)) = got (some (cover_in (part_in l c.part) rows c.cover)) c.part.end

abbrev pub AfterOptional : List ℕ → ℕ → ℕ → rust.Option (rust.Option CoverPart) → Type 0
AfterOptional l p rows None = Unit {0}
AfterOptional l p rows (Some None) = Unit {0}
AfterOptional l p rows (Some (Some c)) = Ends l p c.part × FewOf p c.cover c.part.end × HoldsCover l rows c.cover c.part

-- 7: so many references, which are there
pub record HoldsCites (l : List ℕ) (rows n : ℕ) (a : Part) : Type 0 where
  pub holds : Holds l a n
  pub counted : n ≡ sum length (references_from rows (part_in l a))

abbrev pub cites_of : List ℕ → ℕ → ℕ → rust.Option (rust.Option CitesPart) → Parsed (Option (List (List Reference)))
cites_of l rows p None = broken
cites_of l rows p (Some None) = got none p
cites_of l rows p (Some (Some c)) = got (some (references_from rows (part_in l c.part))) c.part.end

abbrev pub AfterCites : List ℕ → ℕ → ℕ → rust.Option (rust.Option CitesPart) → Type 0
AfterCites l p rows None = Unit {0}
AfterCites l p rows (Some None) = Unit {0}
AfterCites l p rows (Some (Some c)) = Ends l p c.part × (p + c.count ≤ c.part.end) × HoldsCites l rows c.count c.part

-- ── records in pairs ─────────────────────────────────────────────────────────────────────────

pub record Front : Type 0 where
  pub head : Head
  pub sets : Sets

unfoldable pub front : Reader Front
front = do
  h ← record_of 1 Parse.head
  s ← record_of 2 (Parse.sets kinds h.rows)
  return (record { head = h; sets = s })

unfoldable pub front_in : List ℕ → FrontAt → Front
front_in l f = record { head = head_in (part_in l f.file) f.head; sets = sets_in (part_in l f.sets) f.head.rows f.edges }

abbrev pub front_of : List ℕ → rust.Option FrontAt → Parsed Front
front_of l None = broken
front_of l (Some f) = got (front_in l f) f.sets.end

abbrev pub AfterFront : List ℕ → ℕ → rust.Option FrontAt → Type 0
AfterFront l p None = Unit {0}
AfterFront l p (Some f) = Ends l p f.sets × FewDeltas p f.edges f.sets.end × HoldsHead l f.head f.file × HoldsSets l f.head.rows f.edges f.sets

pub record Middle : Type 0 where
  pub rows : List Row
  pub unresolved : List Unresolved

unfoldable pub middle : ℕ → Reader Middle
middle n = do
  rs ← record_of 3 (Parse.rows n)
  us ← record_of 4 Parse.unresolved
  return (record { rows = rs; unresolved = us })

unfoldable pub middle_in : List ℕ → ℕ → MiddleAt → Middle
middle_in l n m = record { rows = several 9 row_at n (part_in l m.rows); unresolved = several 13 unresolved_at m.count (drop 4 (part_in l m.unresolved)) }

abbrev pub middle_of : List ℕ → ℕ → rust.Option MiddleAt → Parsed Middle
middle_of l n None = broken
middle_of l n (Some m) = got (middle_in l n m) m.unresolved.end

-- the rows and the unresolved references are there
pub record HoldsMiddle (l : List ℕ) (n : ℕ) (m : MiddleAt) : Type 0 where
  pub rows : Holds l m.rows (n * 9)
  pub unresolved : Holds l m.unresolved (4 + m.count * 13)

abbrev pub AfterMiddle : List ℕ → ℕ → ℕ → rust.Option MiddleAt → Type 0
AfterMiddle l p n None = Unit {0}
AfterMiddle l p n (Some m) = Ends l p m.unresolved × (p + n ≤ m.unresolved.end) × (p + m.count ≤ m.unresolved.end) × HoldsMiddle l n m

pub record Tail : Type 0 where
  pub roots : List Root
  pub cover : Option CoverColumns
  pub references : Option (List (List Reference))

-- the roots and the cover
unfoldable pub covered : ℕ → Reader Tail
covered n = do
  ts ← record_of 5 Parse.roots
  c ← optionally 6 (Parse.cover n)
  return (record { roots = ts; cover = c; references = none })

unfoldable pub tail : ℕ → Reader Tail
tail n = do
  t ← covered n
  xs ← optionally 7 (Parse.references n)
  return (record { roots = t.roots; cover = t.cover; references = xs })

unfoldable pub tail_in : List ℕ → ℕ → TailAt → Tail
tail_in l n t = record {
  roots = several 16 root_at t.count (drop 4 (part_in l t.roots));
  cover = cond t.covered (some (cover_in (part_in l t.body) n t.cover)) none;
  references = cond t.cited (some (references_from n (part_in l t.cites))) none;
}

abbrev pub tail_of : List ℕ → ℕ → rust.Option TailAt → Parsed Tail
tail_of l n None = broken
tail_of l n (Some t) = got (tail_in l n t) t.end

-- a tail from the roots and the cover
unfoldable pub covered_with : ℕ → Part → rust.Option CoverPart → TailAt
covered_with n a None =
    record { count = n; roots = a; covered = false; cover = record { ranges = 0; links = 0 }; body = a; cited = false; references = 0; cites = a; end = a.end }
covered_with n a (Some c) =
    record { count = n; roots = a; covered = true; cover = c.cover; body = c.part; cited = false; references = 0; cites = a; end = c.part.end }

-- no references are looked for yet
abbrev pub Plain : rust.Option TailAt → Type 0
Plain None = Unit {0}
Plain (Some t) = t.cited ≡ false

-- a tail with references
unfoldable pub cited_tail : TailAt → ℕ → Part → TailAt
cited_tail t n a = record {
  count = t.count;
  roots = t.roots;
  covered = t.covered;
  cover = t.cover;
  body = t.body;
  cited = true;
  references = n;
  cites = a;
  end = a.end;
}

-- a tail with its references, where there are some
abbrev pub cited_with : TailAt → rust.Option CitesPart → TailAt
cited_with t None = t
cited_with t (Some c) = cited_tail t c.count c.part

-- where there is no cover, it has no ranges and no links
abbrev pub Uncovers : Bool → CoverAt → Type 0
Uncovers true c = Unit {0}
Uncovers false c = (c.ranges ≤ 0) × (c.links ≤ 0)

-- the columns of a cover are there where there is one
abbrev pub MayCover : Bool → List ℕ → ℕ → CoverAt → Part → Type 0
MayCover true l rows c a = HoldsCover l rows c a
MayCover false l rows c a = Unit {0}

-- the references are there where there are some
abbrev pub MayCite : Bool → List ℕ → ℕ → ℕ → Part → Type 0
MayCite true l rows n a = HoldsCites l rows n a
MayCite false l rows n a = n ≤ 0

-- the roots are there, and the cover and the references where there are any
pub record HoldsTail (l : List ℕ) (rows : ℕ) (t : TailAt) : Type 0 where
  pub roots : Holds l t.roots (4 + t.count * 16)
  pub cover : MayCover t.covered l rows t.cover t.body
  pub references : MayCite t.cited l rows t.references t.cites

abbrev pub AfterTail : List ℕ → ℕ → ℕ → rust.Option TailAt → Type 0
AfterTail l p n None = Unit {0}
AfterTail l p n (Some t) = (p < t.end) × (t.end ≤ length l) × (p + t.count ≤ t.end) × FewOf p t.cover t.end × Uncovers t.covered t.cover × HoldsTail l n t
    × (p + t.references ≤ t.end)

pub record Rest : Type 0 where
  pub middle : Middle
  pub tail : Tail

unfoldable pub rest : ℕ → Reader Rest
rest n = do
  m ← middle n
  t ← tail n
  return (record { middle = m; tail = t })

abbrev pub rest_of : List ℕ → ℕ → rust.Option RestAt → Parsed Rest
rest_of l n None = broken
rest_of l n (Some r) = got (record { middle = middle_in l n r.middle; tail = tail_in l n r.tail }) r.tail.end

abbrev pub AfterRest : List ℕ → ℕ → ℕ → rust.Option RestAt → Type 0
AfterRest l p n None = Unit {0}
AfterRest l p n (Some r) =
    (p < r.tail.end) × (r.tail.end ≤ length l) × (p + n ≤ r.tail.end) × (p + r.middle.count ≤ r.tail.end) × (p + r.tail.count ≤ r.tail.end)
    × FewOf p r.tail.cover r.tail.end × Uncovers r.tail.covered r.tail.cover × HoldsMiddle l n r.middle × HoldsTail l n r.tail × (p + r.tail.references ≤ r.tail.end)

-- ── a file ───────────────────────────────────────────────────────────────────────────────────

unfoldable pub file_from : Front → Rest → File
file_from f r = record {
  first = f.head.first;
  group = f.head.group;
  subject = f.head.subject;
  depth = f.head.depth;
  forward = f.sets.forward;
  reverse = f.sets.reverse;
  inbound = f.sets.inbound;
  rows = r.middle.rows;
  unresolved = r.middle.unresolved;
  roots = r.tail.roots;
  cover = r.tail.cover;
  references = references_of r.middle.rows r.tail.references;
}

-- the file whose parts lie at the given places
unfoldable pub file_in : List ℕ → FileAt → File
file_in l f = file_from (front_in l f.front) (record { middle = middle_in l f.front.head.rows f.middle; tail = tail_in l f.front.head.rows f.tail })

abbrev pub file_of : List ℕ → rust.Option FileAt → Parsed File
file_of l None = broken
file_of l (Some f) = got (file_in l f) f.tail.end

-- a file's counts are no more than its bytes, and it ends inside the archive's
abbrev pub Counts : ℕ → FileAt → Type 0
Counts p f =
    (p + f.front.head.rows ≤ f.tail.end) × (p + f.middle.count ≤ f.tail.end) × (p + f.tail.count ≤ f.tail.end)
    × FewOf p f.tail.cover f.tail.end × FewDeltas p f.front.edges f.tail.end × Uncovers f.tail.covered f.tail.cover
    × (p + f.tail.references ≤ f.tail.end)

-- every part of a file is there
pub record HoldsFile (l : List ℕ) (f : FileAt) : Type 0 where
  pub head : HoldsHead l f.front.head f.front.file
  pub sets : HoldsSets l f.front.head.rows f.front.edges f.front.sets
  pub middle : HoldsMiddle l f.front.head.rows f.middle
  pub tail : HoldsTail l f.front.head.rows f.tail

abbrev pub AfterFile : List ℕ → ℕ → rust.Option FileAt → Type 0
AfterFile l p None = Unit {0}
AfterFile l p (Some f) = (p < f.tail.end) × (f.tail.end ≤ length l) × Counts p f × HoldsFile l f
