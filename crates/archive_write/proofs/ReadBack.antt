-- A record that no rule refuses is read back, from the bytes that it was written into, as what its columns say.
use mathlib.Core.Path.{◌≡◌, refl, sym, ◌∙◌}
use mathlib.Core.Bool.{Bool, true, false}
use mathlib.Core.List.{List, [], ◌∷◌, append_assoc}
use mathlib.Core.Option.{none}
use Prim.Native.Nat.{ℕ, ◌≤◌, ◌<◌, ◌+◌, ◌*◌, ◌^◌}
use native.Mathlib.Omega.{arith}
use lib.IntN.{ℤ}
use lib.ListN.{length, take, drop, length-append}
use lib.Seq.{sets, sets-eq, length-take-le}
use mir.Syntax.{w64}
use mir.Val.{SFits}
use borrow.Author.Tests.{eqb-true}
use Rattle.columns.specs.Limits.{kinds}
use Rattle.lists.specs.Lists.{Each, flat, joined}
use Rattle.lists.proofs.Each.{each-imp, each_both}
use Rattle.lists.proofs.Filters.{each_left, each_right}
use Rattle.lists.proofs.Tests.{all-each}
use Rattle.columns.proofs.Offsets.{joined-cut}
use Rattle.archive_bytes.specs.Bytes.{Wide}
use Rattle.archive.specs.Reader.{Reader, got, record_of}
use Rattle.archive.specs.Parse
use Rattle.archive.specs.Parse.{Head, references_ok}
use Rattle.archive.specs.Encode.{record_bytes, sets_bytes, row_bytes, unresolved_bytes, root_bytes, cover_bytes, counted_bytes, references_bytes}
use Rattle.archive.specs.Fits.{DepthFits, SetFits, UnresolvedFits, RootFits, RangeFits, RowReferencesFit, Short}
use Rattle.archive.proofs.Forward.{Reads, record-reads}
use Rattle.archive.proofs.Lengths.{length-record}
use Rattle.archive.proofs.Round.{head-reads, sets-read, rows-read, unresolved-read, roots-read, cover-reads}
use Rattle.archive.proofs.References.{references-read}
use Rattle.archive_store.specs.Lent.{zip2, zip3, depth_from, head_from, set_from, row_from, unresolved_from, root_from, range_from, links_from, cover_from, reference_from, cited_from, Cited}
use Rattle.archive_store.specs.declared.heads.HeadOut.{HeadOut}
use Rattle.archive_store.proofs.Zipped.{length-zip2, length-zip3, each-zip2, each-zip3, rows-again, children-again}
use Rattle.archive_store.proofs.records.Whole.{head-size, sets-size, rows-size, unresolved-size, roots-size, cover-size}
use Rattle.archive_store.proofs.references.Rows.{rows-many, cited-many, references-size}
use Rattle.archive_write.specs.Writes.{rows_of, citing_rows, head_rules, edges_rules, rows_rules, unresolved_rules, roots_rules, cover_rules, references_rules}
use Rattle.archive_write.proofs.Judged.{subject-small, three-same, sets_whole, unresolved-whole, roots-whole, cover_even, few-first-of, sets-fit, cover-fits}
use Rattle.archive_write.proofs.Judged.{has_room, is_ok, few-records, few-numbers}
use Rattle.archive_write.proofs.references.Asked.{references-whole, references-ok, references-few}

-- a record that is read wherever it stands is read from the place that it was written at
module _ {A : Type 0} (k : ℕ) (r : Reader A) {b : List ℕ} {x : A} (s : Short b) (d : Reads [] r b x) where
  there : (l : List ℕ) (at : ℕ) → at + (6 + length b) ≤ length l → record_of k r (sets l at (record_bytes k b)) at ≡ got x (at + length (record_bytes k b))
  there l at h =
      let e = record_bytes k b in
      let i : at + length e ≤ length l = omega (arith, length-record k b) in
      let j : length (take at l) ≡ at = length-take-le at l (omega arith) in
      rw (sets-eq e l at i, append_assoc (take at l) e (drop (at + length e) l)) (rw j at ((record-reads {post = drop (at + length e) l} k r s d).read (take at l)))

-- ── 1 file ───────────────────────────────────────────────────────────────────────────────────

-- what record 1 says
abbrev head_said : HeadOut → List ℕ → Head
head_said h s = record { first = h.first; rows = h.rows; group = h.group; subject = s; depth = depth_from h.known h.least h.greatest }

depth-fits : (known : Bool) (least greatest : ℕ) → least < 2 ^ 64 → greatest < 2 ^ 64 → DepthFits (depth_from known least greatest)
depth-fits true least greatest h k = (omega arith, omega arith)
depth-fits false least greatest h k = tt

pub head-back : (out : List ℕ) (at : ℕ) (h : HeadOut) (s : List ℕ) → head_rules h.rows (length s) (length out) at ≡ none
    → h.first < 2 ^ 64 → h.least < 2 ^ 64 → h.greatest < 2 ^ 64
    → record_of 1 Parse.head (sets out at (record_bytes 1 (head_from h s))) at ≡ got (head_said h s) (at + length (record_bytes 1 (head_from h s)))
unfolding head_from
head-back out at h s e a b c =
    let i = subject-small (length s) (is_ok _ _ _ _ _ _ _ e) in
    let j = few-first-of h.rows _ (few-records _ _ _ _ _ _ _ e) in
    let m = head-size h s in
    let n = has_room _ _ _ _ _ _ _ e in
    there 1 Parse.head (omega arith) (head-reads (head_said h s) (omega arith) (omega arith) (depth-fits h.known h.least h.greatest b c)) out at (omega arith)

-- ── 2 edges ──────────────────────────────────────────────────────────────────────────────────

set-fits : (rows : ℕ) (offsets : List ℕ) (deltas : List ℤ) → length offsets ≡ 2 * rows + 1 → length deltas < 2 ^ 32 → Wide 8 offsets → Each (λ d. SFits w64 d) deltas
    → SetFits kinds rows (set_from offsets deltas)
set-fits rows offsets deltas h k a b = record { slots = h; counted = refl; count = omega arith; offsets = a; deltas = b }

module _ (out : List ℕ) (at : ℕ) (fo ro io : List ℕ) (fd rd id : List ℤ)
    (e : edges_rules (length fo) (length fd) (length ro) (length rd) (length io) (length id) (length out) at ≡ none) where
  pub edges-back : Wide 8 fo → Wide 8 ro → Wide 8 io → Each (λ d. SFits w64 d) fd → Each (λ d. SFits w64 d) rd → Each (λ d. SFits w64 d) id
      → record_of 2 (Parse.sets kinds (rows_of (length fo))) (sets out at (record_bytes 2 (sets_bytes (set_from fo fd) (set_from ro rd) (set_from io id)))) at
      ≡ got (record { forward = set_from fo fd; reverse = set_from ro rd; inbound = set_from io id }) (at + length (record_bytes 2 (sets_bytes (set_from fo fd) (set_from ro rd) (set_from io id))))
  edges-back a b c f g h =
      let w = sets_whole (length fo) (length ro) (length io) (is_ok _ _ _ _ _ _ _ e) in
      let i = sets-fit _ _ _ _ _ _ (few-numbers _ _ _ _ _ _ _ e) in
      let m = sets-size fo ro io fd rd id in
      let n = has_room _ _ _ _ _ _ _ e in
      let p = w.forward in
      let q = w.reverse in
      let r = w.inbound in
      there 2 (Parse.sets kinds (rows_of (length fo))) (omega arith)
      (sets-read kinds (rows_of (length fo)) (set_from fo fd) (set_from ro rd) (set_from io id) (set-fits _ fo fd (omega arith) (omega arith) a f)
      (set-fits _ ro rd (omega arith) (omega arith) b g) (set-fits _ io id (omega arith) (omega arith) c h)) out at (omega arith)

-- ── what is made of columns fits ─────────────────────────────────────────────────────────────

each-any : (xs : List ℕ) → Each (λ x. Unit {0}) xs
each-any [] = tt
each-any (x ∷ xs) = (tt, each-any xs)

row_fits : (flag tag : ℕ) → Unit {0} → tag < 256 ^ 8 → (row_from flag tag).tag < 256 ^ 8
unfolding row_from
row_fits flag tag h k = k

unresolved-fits : (child kind handle : ℕ) → child < 256 ^ 8 → kind < 256 ^ 1 → handle < 256 ^ 4 → UnresolvedFits (unresolved_from child kind handle)
unfolding unresolved_from
unresolved-fits child kind handle h k m = (h, k, m)

root-fits : (row handle : ℕ) → row < 256 ^ 8 → handle < 256 ^ 8 → RootFits (root_from row handle)
unfolding root_from
root-fits row handle h k = (h, k)

range-fits : (chain least greatest : ℕ) → chain < 256 ^ 4 → least < 256 ^ 4 → greatest < 256 ^ 4 → RangeFits (range_from chain least greatest)
unfolding range_from
range-fits chain least greatest h k m = (h, k, m)

-- ── 3 rows ───────────────────────────────────────────────────────────────────────────────────

pub rows_back : (out : List ℕ) (at : ℕ) (flags tags : List ℕ) → rows_rules (length flags) (length tags) (length out) at ≡ none → Wide 8 tags
    → record_of 3 (Parse.rows (length tags)) (sets out at (record_bytes 3 (flat row_bytes (zip2 row_from flags tags)))) at
    ≡ got (zip2 row_from flags tags) (at + length (record_bytes 3 (flat row_bytes (zip2 row_from flags tags))))
rows_back out at flags tags e h =
    let w : length flags ≡ length tags = eqb-true _ _ (is_ok _ _ _ _ _ _ _ e) in
    let rs = zip2 row_from flags tags in
    let i = few-first-of (length flags) _ (few-records _ _ _ _ _ _ _ e) in
    let m = rows-size flags tags w in
    let n = has_room _ _ _ _ _ _ _ e in
    let j : length rs ≡ length tags = length-zip2 row_from flags tags (sym w) ∙ w in
    let f : Each (λ r. r.tag < 256 ^ 8) rs = each-zip2 row_from (λ x. Unit {0}) (λ y. y < 256 ^ 8) _ row_fits flags tags (each-any flags) h in
    there 3 (Parse.rows (length tags)) (omega arith) (rw j at (rows-read rs f)) out at (omega arith)

-- ── 4 unresolved, 5 roots ────────────────────────────────────────────────────────────────────

pub unresolved-back : (out : List ℕ) (at : ℕ) (children kinds handles : List ℕ) → unresolved_rules children (length kinds) (length handles) (length out) at ≡ none
    → Wide 8 children → Wide 1 kinds → Wide 4 handles
    → record_of 4 Parse.unresolved (sets out at (record_bytes 4 (counted_bytes unresolved_bytes (zip3 unresolved_from children kinds handles)))) at
    ≡ got (zip3 unresolved_from children kinds handles) (at + length (record_bytes 4 (counted_bytes unresolved_bytes (zip3 unresolved_from children kinds handles))))
unresolved-back out at children kinds handles e a b c =
    let w = unresolved-whole children (length kinds) (length handles) (is_ok _ _ _ _ _ _ _ e) in
    let s = three-same (length children) (length kinds) (length handles) w.0 in
    let us = zip3 unresolved_from children kinds handles in
    let i = few-first-of (length children) _ (few-records _ _ _ _ _ _ _ e) in
    let m = unresolved-size children kinds handles s.0 s.1 in
    let n = has_room _ _ _ _ _ _ _ e in
    let j : length us ≡ length children = length-zip3 unresolved_from children kinds handles s.0 s.1 in
    let f = each-zip3 unresolved_from (λ x. x < 256 ^ 8) (λ y. y < 256 ^ 1) (λ z. z < 256 ^ 4) UnresolvedFits unresolved-fits children kinds handles a b c in
    there 4 Parse.unresolved (omega arith) (unresolved-read us f (omega arith) (rw (children-again children kinds handles s.0 s.1) w.1)) out at (omega arith)

pub roots-back : (out : List ℕ) (at : ℕ) (rows handles : List ℕ) → roots_rules rows (length handles) (length out) at ≡ none → Wide 8 rows → Wide 8 handles
    → record_of 5 Parse.roots (sets out at (record_bytes 5 (counted_bytes root_bytes (zip2 root_from rows handles)))) at
    ≡ got (zip2 root_from rows handles) (at + length (record_bytes 5 (counted_bytes root_bytes (zip2 root_from rows handles))))
roots-back out at rows handles e a b =
    let w = roots-whole rows (length handles) (is_ok _ _ _ _ _ _ _ e) in
    let rs = zip2 root_from rows handles in
    let i = few-first-of (length rows) _ (few-records _ _ _ _ _ _ _ e) in
    let m = roots-size rows handles w.0 in
    let n = has_room _ _ _ _ _ _ _ e in
    let j : length rs ≡ length rows = length-zip2 root_from rows handles w.0 in
    let f = each-zip2 root_from (λ x. x < 256 ^ 8) (λ y. y < 256 ^ 8) RootFits root-fits rows handles a b in
    there 5 Parse.roots (omega arith) (roots-read rs f (omega arith) (rw (rows-again rows handles w.0) w.1)) out at (omega arith)

-- ── 6 cover ──────────────────────────────────────────────────────────────────────────────────

module _ (out : List ℕ) (at : ℕ) (chains seqs ids minima maxima a b c d : List ℕ)
    (e : cover_rules (length chains) (length seqs) (length ids) (length minima) (length maxima) (length a) (length b) (length c) (length d) (length out) at ≡ none) where
  pub cover-back : Wide 4 chains → Wide 4 seqs → Wide 4 ids → Wide 4 minima → Wide 4 maxima → Wide 4 a → Wide 4 b → Wide 4 c → Wide 4 d
      → record_of 6 (Parse.cover (length chains)) (sets out at (record_bytes 6 (cover_bytes (cover_from chains seqs (zip3 range_from ids minima maxima) (links_from a b c d))))) at
      ≡ got (cover_from chains seqs (zip3 range_from ids minima maxima) (links_from a b c d))
      (at + length (record_bytes 6 (cover_bytes (cover_from chains seqs (zip3 range_from ids minima maxima) (links_from a b c d)))))
  cover-back f g h i j k l m n =
      let w = cover_even _ _ _ _ _ _ _ _ _ (is_ok _ _ _ _ _ _ _ e) in
      let o = cover-fits _ _ _ _ _ _ _ _ _ (few-records _ _ _ _ _ _ _ e) in
      let p = cover-size chains seqs ids minima maxima a b c d w.least w.greatest in
      let q = has_room _ _ _ _ _ _ _ e in
      let rs = zip3 range_from ids minima maxima in
      let r : length rs ≡ length ids = length-zip3 range_from ids minima maxima w.least w.greatest in
      let s : Short (cover_bytes (cover_from chains seqs rs (links_from a b c d))) = omega arith in
      there 6 (Parse.cover (length chains)) s (cover-reads (length chains) (cover_from chains seqs rs (links_from a b c d)) (record {
        chain_count = refl;
        seq_count = w.labels;
        chains = f;
        seqs = g;
        range_count = omega arith;
        ranges = each-zip3 range_from (λ x. x < 256 ^ 4) (λ y. y < 256 ^ 4) (λ z. z < 256 ^ 4) RangeFits range-fits ids minima maxima h i j;
        links = record { count = omega arith; second = w.second; third = w.third; fourth = w.fourth; from_chains = k; from_seqs = l; to_chains = m; to_seqs = n };
        short = s;
      })) out at (omega arith)

-- ── 7 references ─────────────────────────────────────────────────────────────────────────────

-- what holds of all references holds of each row's
each_row : {A : Type 0} (P : A → Type 0) (ls : List (List A)) → Each P (joined ls) → Each (λ l. Each P l) ls
unfolding joined
each_row P [] h = tt
each_row P (l ∷ ls) h = (each_left P l (joined ls) h, each_row P ls (each_right P l (joined ls) h))

each-few : {A : Type 0} (n : ℕ) (ls : List (List A)) → length (joined ls) ≤ n → Each (λ l. length l ≤ n) ls
unfolding joined
each-few n [] h = tt
each-few n (l ∷ ls) h = let k = length-append l (joined ls) in (omega arith, each-few n ls (omega arith))

reference-fits : (kind space target : ℕ) → Unit {0} → Unit {0} → target < 256 ^ 8 → (reference_from kind space target).target < 256 ^ 8
unfolding reference_from
reference-fits kind space target h k m = m

module _ (os ks ss ts : List ℕ) (f : Cited os ks ss ts) where
  targets-fit : Wide 8 ts → Each (λ rs. Each (λ r. r.target < 256 ^ 8) rs) (cited_from os ks ss ts)
  unfolding cited_from
  targets-fit h =
      let xs = zip3 reference_from ks ss ts in
      let n = length-zip3 reference_from ks ss ts f.space_count f.target_count in
      let e = each-zip3 reference_from (λ x. Unit {0}) (λ y. Unit {0}) (λ z. z < 256 ^ 8) (λ r. r.target < 256 ^ 8) reference-fits ks ss ts (each-any ks) (each-any ss) h in
      each_row (λ r. r.target < 256 ^ 8) (cited_from os ks ss ts) (rw (joined-cut xs os (rw n f.climbs)) e)

pub references-back : (out : List ℕ) (at : ℕ) (os ks ss ts : List ℕ) → references_rules os ks ss ts (length out) at ≡ none → Wide 8 ts
    → record_of 7 (Parse.references (citing_rows (length os))) (sets out at (record_bytes 7 (references_bytes (cited_from os ks ss ts)))) at
    ≡ got (cited_from os ks ss ts) (at + length (record_bytes 7 (references_bytes (cited_from os ks ss ts))))
references-back out at os ks ss ts e h =
    let rss = cited_from os ks ss ts in
    let w = references-whole os ks ss ts (is_ok _ _ _ _ _ _ _ e) in
    let g = references-ok os ks ss ts (is_ok _ _ _ _ _ _ _ e) in
    let i = references-few (length os) _ _ _ (few-records _ _ _ _ _ _ _ e) (few-numbers _ _ _ _ _ _ _ e) in
    let m = references-size os ks ss ts w in
    let c = cited-many os ks ss ts w in
    let n = has_room _ _ _ _ _ _ _ e in
    let s : Short (references_bytes rss) = omega arith in
    let a = each_both (λ rs. length rs ≤ length ks) (λ rs. Each (λ r. r.target < 256 ^ 8) rs) rss (each-few (length ks) rss (omega arith)) (targets-fit os ks ss ts w h) in
    let b = each_both _ (λ rs. references_ok rs ≡ true) rss a (all-each references_ok rss g.1) in
    let each : Each RowReferencesFit rss = each-imp _ RowReferencesFit rss (λ rs k. record { count = omega arith; targets = k.0.1; known = k.1 }) b in
    there 7 (Parse.references (citing_rows (length os))) s
    (references-read (citing_rows (length os)) rss (record { row_count = rows-many os ks ss ts; each = each; short = λ x. s }) g.0) out at (omega arith)
