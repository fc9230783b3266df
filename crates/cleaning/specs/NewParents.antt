-- Demand 2's sentence on new parents, over whole lists of calls and read back from the bytes that are written. proofs/NewParents has its proof.
use mathlib.Core.List.{List, map, Memᴰ}
use Rattle.std.specs.Prelude.{◌≡◌, ℕ, ◌<◌, length}
use Rattle.lists.specs.Lists.{once, Each}
use Rattle.archive.specs.Reader.{got}
use Rattle.archive.specs.Parse.{parse}
use Rattle.cleaning.specs.Archive.{Archive, at, parents_of}
use Rattle.cleaning.specs.Routes.{EndsOf}
use Rattle.cleaning.specs.Cleaning.{renumber, survivors}
use Rattle.cleaning.specs.Step.{Call, takes, resolves, writes, maps, counts, lists, Bytes, fresh}
use Rattle.cleaning.specs.History.{files_in, archive_of_bytes, history, archive_in, Wrote}

-- the list of kind k that the event of p's new number has in the archive B: the ends of p's routes of that kind through erased events of A, each
-- once, in order of first route, under new numbers
pub record NewParents (A B : Archive) (p k : ℕ) : Type 0 where
  pub ends : List ℕ
  pub routes : EndsOf A k (parents_of k (at A p)) ends
  pub held : parents_of k (at B (renumber A p)) ≡ map (renumber A) (once ends)

-- bytes that hold an archive of as many events as A has survivors, each with its new parents
pub record Renewed (K : ℕ) (A : Archive) (bytes : List ℕ) : Type 0 where
  pub archive : parse K bytes ≡ got (files_in (parse K bytes)) (length bytes)
  pub events : length (archive_of_bytes K bytes).events ≡ length (survivors A)
  pub parents : (p k : ℕ) → Memᴰ p (survivors A) → k < K → NewParents A (archive_of_bytes K bytes) p k

-- a taking is given bytes
abbrev pub OfBytes : Call → Type 0
OfBytes (takes b) = Each (λ x. x < 256) b
OfBytes resolves = Unit {0}
OfBytes (writes room) = Unit {0}
OfBytes (maps p) = Unit {0}
OfBytes counts = Unit {0}
OfBytes (lists room) = Unit {0}

abbrev pub ParentsWritten : (K : ℕ) → Type 0
ParentsWritten K = (cs : List Call) → Each OfBytes cs → (w : Bytes) → Wrote (history K fresh cs) w → Renewed K (archive_in K (history K fresh cs)) w.bytes
