-- Parsing the bytes of files gives those files.
use mathlib.Core.Path.{◌≡◌, refl, sym, ◌∙◌}
use mathlib.Core.Bool.{Bool, true, false}
use mathlib.Core.List.{List, [], ◌∷◌, ◌++◌, map, append_assoc}
use mathlib.Core.Option.{Option, none, some}
use Prim.Native.Nat.{ℕ, zero, suc, ◌≤◌, ◌<◌, ◌+◌, ◌*◌, ◌^◌}
use native.Mathlib.Nat.{zero-add, add_assoc}
use native.Mathlib.Omega.{arith}
use lib.Dec.{leb, eqb}
use lib.ListN.{length, get_or, length-append, length-map}
use borrow.Author.Tests.{lt-leb}
use Rattle.lists.specs.Lists.{Each, flat, all}
use Rattle.lists.specs.Order.{rising, not_falling}
use Rattle.lists.proofs.Each.{each-imp, each_all}
use Rattle.columns.specs.EdgeSet.{EdgeSet}
use Rattle.columns.specs.Building.{Depth}
use Rattle.cover.specs.Chains.{Range}
use Rattle.cover.specs.Cover.{LinkColumns}
use Rattle.archive.specs.Bytes.{bytes_of, unsigned_of}
use Rattle.archive.specs.Reader.{broken, got, ◌>>=◌, byte, number, bytes, table, numbers, record_of, optionally}
use Rattle.archive.specs.File.{Row, Unresolved, Root, CoverColumns, File}
use Rattle.archive.specs.Parse
use Rattle.archive.specs.Parse.{Head, depth_flag_ok, head_end, edge_set, row_at, unresolved_at, root_at, range_at, files, parse}
use Rattle.archive.specs.Encode.{record_bytes, depth_bytes, head_fields, head_bytes, set_bytes, sets_bytes, edges_bytes, flag_of, row_bytes, unresolved_bytes, root_bytes}
use Rattle.archive.specs.Encode.{range_bytes, links_bytes, cover_bytes, counted_bytes, cover_record, file_bytes, encode}
use Rattle.archive.specs.Fits.{DepthFits, SetFits, UnresolvedFits, RootFits, RangeFits, LinksFit, CoverFits, CoverFitsIn, FileFits, Short}
use Rattle.archive_bytes.proofs.Numbers.{length-bytes_of, be-at, signed_all, unsigned-all}
use Rattle.archive.proofs.Forward.{Reads, then-reads, end_reads, again-reads, number-reads, byte_reads, bytes-reads, Item, table-reads, things-read, numbers-read}
use Rattle.archive.proofs.References.{record-found, found_of, no-cover-behind}
use Rattle.archive.proofs.Forward.{counted-read, stops-at-end, record-kind, record-reads, found-reads, none_reads}

-- ── 1 file ───────────────────────────────────────────────────────────────────────────────────

-- what record 1 holds of a file
abbrev head_of : File → Head
head_of f = record { first = f.first; rows = length f.rows; group = f.group; subject = f.subject; depth = f.depth }

depth-reads : (first rows group : ℕ) (subject : List ℕ) (d : Option Depth) → DepthFits d
    → Reads [] (head_end first rows group subject) (depth_bytes d) (record { first = first; rows = rows; group = group; subject = subject; depth = d })
unfolding depth_bytes head_end depth_flag_ok
depth-reads a b c s none g =
    then-reads byte _ (byte_reads 0) (then-reads (number 8) _ (number-reads 8 0 (omega arith)) (end_reads (number 8) _ (number-reads 8 0 (omega arith)) (λ l p k. refl)))
depth-reads a b c s (some d) g =
    then-reads byte _ (byte_reads 1) (then-reads (number 8) _ (number-reads 8 d.least g.0) (end_reads (number 8) _ (number-reads 8 d.greatest g.1) (λ l p k. refl)))

pub head-reads : (h : Head) → h.first < 256 ^ 8 → h.rows < 256 ^ 4 → DepthFits h.depth
    → Reads [] Parse.head (head_fields h.first h.rows h.group h.subject h.depth) h
unfolding Parse.head
head-reads h first rows depth =
    then-reads (number 8) _ (number-reads 8 h.first first) (then-reads (number 4) _ (number-reads 4 h.rows rows) (then-reads byte _ (byte_reads h.group)
    (then-reads byte _ (byte_reads (length h.subject)) (then-reads (bytes (length h.subject)) _ (bytes-reads h.subject)
    (depth-reads h.first h.rows h.group h.subject h.depth depth)))))

depth-length : (d : Option Depth) → length (depth_bytes d) ≡ 17
unfolding depth_bytes bytes_of
depth-length none = refl
depth-length (some d) = refl

head-short : (K : ℕ) (f : File) → FileFits K f → Short (head_bytes f)
unfolding head_bytes
head-short K f k = simp (length-append, length-bytes_of, depth-length) (omega (arith, k.subject))

-- ── 2 edges ──────────────────────────────────────────────────────────────────────────────────

set_reads : (K : ℕ) {post : List ℕ} (rows : ℕ) (s : EdgeSet) → SetFits K rows s → Reads post (edge_set K rows) (set_bytes s) s
unfolding edge_set set_bytes
set_reads K rows s f =
    then-reads (number 4) _ (number-reads 4 s.count f.count) (then-reads (numbers 8 (K * rows + 1)) _ (numbers-read 8 (K * rows + 1) s.offsets f.slots f.offsets)
    (end_reads (numbers 8 s.count) _ (numbers-read 8 s.count (map unsigned_of s.deltas) (length-map s.deltas unsigned_of ∙ sym f.counted) (unsigned-all s.deltas f.deltas))
    (λ l p k. rw (signed_all s.deltas f.deltas))))

pub sets-read : (K n : ℕ) (a b c : EdgeSet) → SetFits K n a → SetFits K n b → SetFits K n c → Reads [] (Parse.sets K n) (sets_bytes a b c) (record { forward = a; reverse = b; inbound = c })
unfolding Parse.sets
sets-read K n a b c f r i =
    then-reads (edge_set K n) _ (set_reads K n a f) (then-reads (edge_set K n) _ (set_reads K n b r) (end_reads (edge_set K n) _ (set_reads K n c i) (λ l p h. refl)))

-- ── 3 rows ───────────────────────────────────────────────────────────────────────────────────

-- a flag that was written is read back
eqb-flag_of : (b : Bool) → eqb (flag_of b) 1 ≡ b
eqb-flag_of true = refl
eqb-flag_of false = refl

row-wide : (r : Row) → length (row_bytes r) ≡ 9
unfolding row_bytes bytes_of
row-wide r = refl

row-item : (r : Row) → r.tag < 256 ^ 8 → Item row_bytes row_at (λ r. r) r
unfolding row_bytes row_at
row-item r h post = rw (eqb-flag_of r.erased, be-at 8 r.tag (flag_of r.erased ∷ []) post h)

flag-item : (r : Row) → Item row_bytes (λ l. get_or l 0 0) (λ r. flag_of r.erased) r
unfolding row_bytes
flag-item r post = refl

flags-pass : (rs : List Row) → all (λ flag. leb flag 1) (map (λ r. flag_of r.erased) rs) ≡ true
unfolding all
flags-pass [] = refl
flags-pass (r ∷ rs) = rw (pass r.erased, flags-pass rs)
  where
    pass : (b : Bool) → leb (flag_of b) 1 ≡ true
    pass true = refl
    pass false = refl

pub rows-read : (rs : List Row) → Each (λ r. r.tag < 256 ^ 8) rs → Reads [] (Parse.rows (length rs)) (flat row_bytes rs) rs
unfolding Parse.rows
rows-read rs k =
    again-reads (table 9 (λ l. get_or l 0 0) (length rs)) _ (table-reads 9 row_bytes row-wide (λ l. get_or l 0 0) (λ r. flag_of r.erased) rs (each_all _ flag-item rs))
    (end_reads (table 9 row_at (length rs)) _ (things-read 9 row_bytes row-wide row_at rs (each-imp _ _ rs row-item k) (length rs) refl) (λ l p h. rw (flags-pass rs)))

-- ── 4 unresolved, 5 roots ────────────────────────────────────────────────────────────────────

unresolved-wide : (u : Unresolved) → length (unresolved_bytes u) ≡ 13
unfolding unresolved_bytes bytes_of
unresolved-wide u = refl

unresolved-item : (u : Unresolved) → UnresolvedFits u → Item unresolved_bytes unresolved_at (λ u. u) u
unfolding unresolved_bytes unresolved_at bytes_of
unresolved-item u h post =
    rw (be-at 8 u.child [] ((u.kind ∷ []) ++ (bytes_of 4 u.handle ++ post)) h.0, be-at 4 u.handle (bytes_of 8 u.child ++ (u.kind ∷ [])) post h.2)

pub unresolved-read : (us : List Unresolved) → Each UnresolvedFits us → length us < 256 ^ 4 → not_falling (map (λ u. u.child) us) ≡ true
    → Reads [] Parse.unresolved (counted_bytes unresolved_bytes us) us
unfolding Parse.unresolved
unresolved-read us k count order =
    counted-read 13 unresolved_bytes unresolved-wide unresolved_at us (each-imp _ _ us unresolved-item k) (λ us. not_falling (map (λ u. u.child) us)) count order

root-wide : (r : Root) → length (root_bytes r) ≡ 16
unfolding root_bytes bytes_of
root-wide r = refl

root-item : (r : Root) → RootFits r → Item root_bytes root_at (λ r. r) r
unfolding root_bytes root_at bytes_of
root-item r h post = rw (be-at 8 r.row [] (bytes_of 8 r.handle ++ post) h.0, be-at 8 r.handle (bytes_of 8 r.row) post h.1)

pub roots-read : (rs : List Root) → Each RootFits rs → length rs < 256 ^ 4 → rising (map (λ r. r.row) rs) ≡ true → Reads [] Parse.roots (counted_bytes root_bytes rs) rs
unfolding Parse.roots
roots-read rs k count order = counted-read 16 root_bytes root-wide root_at rs (each-imp _ _ rs root-item k) (λ rs. rising (map (λ r. r.row) rs)) count order

-- ── 6 cover ──────────────────────────────────────────────────────────────────────────────────

range-wide : (r : Range) → length (range_bytes r) ≡ 12
unfolding range_bytes bytes_of
range-wide r = refl

range-item : (r : Range) → RangeFits r → Item range_bytes range_at (λ r. r) r
unfolding range_bytes range_at bytes_of
range-item r h post = rw (
  be-at 4 r.chain [] (bytes_of 4 r.least ++ (bytes_of 4 r.greatest ++ post)) h.0,
  be-at 4 r.least (bytes_of 4 r.chain) (bytes_of 4 r.greatest ++ post) h.1,
  be-at 4 r.greatest (bytes_of 4 r.chain ++ bytes_of 4 r.least) post h.2,
)

links-read : {post : List ℕ} (c : LinkColumns) → LinksFit c → Reads post Parse.links (links_bytes c) c
unfolding Parse.links links_bytes
links-read c k =
    let n = length c.from_chains in
    then-reads (number 4) _ (number-reads 4 n k.count) (then-reads (numbers 4 n) _ (numbers-read 4 n c.from_chains refl k.from_chains)
    (then-reads (numbers 4 n) _ (numbers-read 4 n c.from_seqs k.second k.from_seqs) (then-reads (numbers 4 n) _ (numbers-read 4 n c.to_chains k.third k.to_chains)
    (end_reads (numbers 4 n) _ (numbers-read 4 n c.to_seqs k.fourth k.to_seqs) (λ l p h. refl)))))

pub cover-reads : (rows : ℕ) (c : CoverColumns) → CoverFits rows c → Reads [] (Parse.cover rows) (cover_bytes c) c
unfolding Parse.cover cover_bytes
cover-reads rows c k =
    let m = length c.ranges in
    then-reads (numbers 4 rows) _ (numbers-read 4 rows c.labels.chains k.chain_count k.chains) (then-reads (numbers 4 rows) _ (numbers-read 4 rows c.labels.seqs k.seq_count k.seqs)
    (then-reads (number 4) _ (number-reads 4 m k.range_count)
    (then-reads (table 12 range_at m) _ (things-read 12 range_bytes range-wide range_at c.ranges (each-imp _ _ c.ranges range-item k.ranges) m refl)
    (end_reads Parse.links _ (links-read c.links k.links) (λ l p h. refl)))))

cover-record-reads : {post : List ℕ} (rows : ℕ) (o : Option CoverColumns) → CoverFitsIn rows o → eqb (get_or post 5 0) 6 ≡ false → Reads post (optionally 6 (Parse.cover rows)) (cover_record o) o
cover-record-reads rows none k g = none_reads 6 (Parse.cover rows) g
cover-record-reads rows (some c) k g = found-reads 6 (Parse.cover rows) k.short (cover-reads rows c k)

-- ── files ────────────────────────────────────────────────────────────────────────────────────

-- a file is read where neither a cover nor references of another stand behind it
file-reads : (K : ℕ) {post : List ℕ} (f : File) → FileFits K f → (eqb (get_or post 5 0) 6 ≡ false) × (eqb (get_or post 5 0) 7 ≡ false) → Reads post (Parse.file K) (file_bytes f) f
unfolding Parse.file file_bytes head_bytes edges_bytes
file-reads K {post} f k g =
    let n = length f.rows in
    then-reads (record_of 1 Parse.head) _ (record-reads 1 Parse.head (head-short K f k) (head-reads (head_of f) k.first k.row_count k.depth))
    (then-reads (record_of 2 (Parse.sets K n)) _ (record-reads 2 (Parse.sets K n) k.edges_short (sets-read K n f.forward f.reverse f.inbound k.forward k.reverse k.inbound))
    (then-reads (record_of 3 (Parse.rows n)) _ (record-reads 3 (Parse.rows n) k.rows_short (rows-read f.rows k.tags))
    (then-reads (record_of 4 Parse.unresolved) _ (record-reads 4 Parse.unresolved k.unresolved_short (unresolved-read f.unresolved k.unresolved k.unresolved_count k.unresolved_order))
    (then-reads (record_of 5 Parse.roots) _ (record-reads 5 Parse.roots k.roots_short (roots-read f.roots k.roots k.root_count k.root_order))
    (then-reads (optionally 6 (Parse.cover n)) _ (cover-record-reads n f.cover k.cover (no-cover-behind f.references post g.0))
    (end_reads (optionally 7 (Parse.references n)) _ (record-found n f.references k.references g.1) (λ l p h. rw (found_of f.rows f.references k.references.row_count))))))))

file-long : (f : File) → 0 < length (file_bytes f)
unfolding file_bytes record_bytes
file-long f = simp (length-append, length-bytes_of) (omega arith)

-- files begin with a record 1
no-end-first : (fs : List File) → (eqb (get_or (encode fs) 5 0) 6 ≡ false) × (eqb (get_or (encode fs) 5 0) 7 ≡ false)
unfolding encode file_bytes
no-end-first [] = (refl, refl)
no-end-first (f ∷ fs) = (rw (append_assoc, record-kind 1), rw (append_assoc, record-kind 1))

files-read : (K : ℕ) (fs : List File) (n : ℕ) (pre : List ℕ) → length fs ≤ n → Each (FileFits K) fs → files K n (pre ++ encode fs) (length pre) ≡ got fs (length pre + length (encode fs))
unfolding encode files ◌>>=◌
files-read K [] zero pre h k = stops-at-end [] broken pre
files-read K [] (suc n) pre h k = stops-at-end [] _ pre
files-read K (f ∷ fs) zero pre h k = absurd (omega arith)
files-read K (f ∷ fs) (suc n) pre h k =
    let q = file-long f in
    let c : length pre < length (pre ++ (file_bytes f ++ encode fs)) = simp length-append (omega arith) in
    let i = rw (append_assoc pre (file_bytes f) (encode fs), length-append pre (file_bytes f)) at (files-read K fs n (pre ++ file_bytes f) (omega arith) k.1) in
    rw (lt-leb (length (pre ++ (file_bytes f ++ encode fs))) (length pre) c, (file-reads K f k.0 (no-end-first fs)).read pre, i, length-append (file_bytes f) (encode fs), add_assoc)

files-no-more-than-bytes : (fs : List File) → length fs ≤ length (encode fs)
unfolding encode
files-no-more-than-bytes [] = omega arith
files-no-more-than-bytes (f ∷ fs) = let h = files-no-more-than-bytes fs in let q = file-long f in simp length-append (omega arith)

-- parsing the bytes of files that fit their fields gives those files
pub parse-encode : (K : ℕ) (fs : List File) → Each (FileFits K) fs → parse K (encode fs) ≡ got fs (length (encode fs))
unfolding parse
parse-encode K fs k = files-read K fs (length (encode fs)) [] (files-no-more-than-bytes fs) k ∙ rw (zero-add (length (encode fs)))
