-- A whole file: its records written one after the other are the file's bytes, and they read back as the file.
use Rattle.std.proofs.Common.{◌≡◌, ℕ, ◌+◌, ◌<◌, ◌≤◌, List, ◌∷◌, ◌++◌, length, take, drop, refl, ap, ◌∙◌, append_assoc, arith, length-append, length-take-le, drop_at}
use mathlib.Core.Option.{Option}
use lib.Seq.{sets, sets-eq, take-append_seam}
use Rattle.columns.specs.Limits.{kinds}
use Rattle.lists.specs.Lists.{flat, part, Each}
use Rattle.columns.specs.EdgeSet.{EdgeSet}
use Rattle.archive.specs.File.{Row, Unresolved, Root, CoverColumns, File}
use Rattle.archive.specs.Reader.{got}
use Rattle.archive.specs.Parse.{parse}
use Rattle.archive.specs.Encode.{record_bytes, head_bytes, sets_bytes, edges_bytes, row_bytes, unresolved_bytes, root_bytes, counted_bytes, cover_record, references_record, file_bytes, encode}
use Rattle.archive.specs.Fits.{FileFits}
use Rattle.archive.proofs.Round.{parse-encode}
use Rattle.archive.proofs.Faithful.{encode-parse}
use Rattle.archive_store.specs.Lent.{head_from}
use Rattle.archive_store.specs.declared.heads.HeadOut.{HeadOut}
use Rattle.archive_store.proofs.Chained.{then}
use Rattle.archive_store.specs.LentFile.{lent_file}

-- ── a file's records ─────────────────────────────────────────────────────────────────────────

-- seven calls, each where the one before it ended, write the file; without a cover the sixth writes nothing, without references the seventh
module _ (f : File) (l : List ℕ) (at : ℕ) {p q r s t u : ℕ}
    (p-is : p ≡ at + length (record_bytes 1 (head_bytes f))) (q-is : q ≡ p + length (record_bytes 2 (edges_bytes f)))
    (r-is : r ≡ q + length (record_bytes 3 (flat row_bytes f.rows))) (s-is : s ≡ r + length (record_bytes 4 (counted_bytes unresolved_bytes f.unresolved)))
    (t-is : t ≡ s + length (record_bytes 5 (counted_bytes root_bytes f.roots))) (u-is : u ≡ t + length (cover_record f.cover)) where
  pub file-written : {i j k m n o v : List ℕ} → i ≡ sets l at (record_bytes 1 (head_bytes f)) → j ≡ sets i p (record_bytes 2 (edges_bytes f)) → k ≡ sets j q (record_bytes 3 (flat row_bytes f.rows))
      → m ≡ sets k r (record_bytes 4 (counted_bytes unresolved_bytes f.unresolved)) → n ≡ sets m s (record_bytes 5 (counted_bytes root_bytes f.roots))
      → o ≡ sets n t (cover_record f.cover) → v ≡ sets o u (references_record f.references) → v ≡ sets l at (file_bytes f)
  unfolding file_bytes
  file-written {i} {j} {k} {m} {n} a b c d e g h =
      let v = then n t (cover_record f.cover) (references_record f.references) g h u-is in
      let x = then m s (record_bytes 5 (counted_bytes root_bytes f.roots)) _ e v t-is in
      let y = then k r (record_bytes 4 (counted_bytes unresolved_bytes f.unresolved)) _ d x s-is in
      let z = then j q (record_bytes 3 (flat row_bytes f.rows)) _ c y r-is in
      let w = then i p (record_bytes 2 (edges_bytes f)) _ b z q-is in
      then l at (record_bytes 1 (head_bytes f)) _ a w p-is

  pub file-ends : u + length (references_record f.references) ≡ at + length (file_bytes f)
  unfolding file_bytes
  file-ends = simp length-append (omega arith)

-- the records of lent columns are those of the file that they make
module _ (h : HeadOut) (s : List ℕ) (a b c : EdgeSet) (rows : List Row) (us : List Unresolved) (ts : List Root) (cover : Option CoverColumns) where
  pub head-lent : h.rows ≡ length rows → head_from h s ≡ head_bytes (lent_file h s a b c rows us ts cover)
  unfolding head_from head_bytes lent_file
  head-lent e = rw e

  pub edges_lent : sets_bytes a b c ≡ edges_bytes (lent_file h s a b c rows us ts cover)
  unfolding edges_bytes lent_file
  edges_lent = refl

-- ── files one after the other ────────────────────────────────────────────────────────────────

pub files-written : {k m : List ℕ} {p : ℕ} (f : File) (fs : List File) (l : List ℕ) (at : ℕ) → k ≡ sets l at (file_bytes f) → m ≡ sets k p (encode fs) → p ≡ at + length (file_bytes f)
    → m ≡ sets l at (encode (f ∷ fs))
unfolding encode
files-written f fs l at d e h = then l at (file_bytes f) (flat file_bytes fs) d e h

-- ── reading what was written ─────────────────────────────────────────────────────────────────

stands-there : (l b : List ℕ) (at : ℕ) → at + length b ≤ length l → part at (length b) (sets l at b) ≡ b
unfolding part
stands-there l b at h =
    ap (λ x. take (length b) (drop at x)) (sets-eq b l at h ∙ append_assoc (take at l) b (drop (at + length b) l))
    ∙ ap (take (length b)) (drop_at (take at l) (b ++ drop (at + length b) l) at (length-take-le at l (omega arith)))
    ∙ take-append_seam b (drop (at + length b) l)

-- what was written reads as the same files
pub read_back : (fs : List File) → Each (FileFits kinds) fs → (l : List ℕ) (at : ℕ) → at + length (encode fs) ≤ length l
    → parse kinds (part at (length (encode fs)) (sets l at (encode fs))) ≡ got fs (length (encode fs))
read_back fs h l at k = rw (stands-there l (encode fs) at k) (parse-encode kinds fs h)

-- files that were read are written as the same bytes
pub written_back : (bytes : List ℕ) (fs : List File) (q : ℕ) → Each (λ b. b < 256) bytes → parse kinds bytes ≡ got fs q → (l : List ℕ) (at : ℕ) → sets l at (encode fs) ≡ sets l at bytes
written_back bytes fs q h e l at = ap (sets l at) (encode-parse kinds bytes fs q h e).0
