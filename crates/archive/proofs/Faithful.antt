-- The files that were parsed have the bytes that came in, and they fit their fields.
use mathlib.Core.Path.{◌≡◌, refl}
use mathlib.Core.Bool.{true}
use mathlib.Core.List.{List, [], ◌∷◌, ◌++◌, append-nil}
use Prim.Native.Nat.{ℕ, zero, suc, ◌≤◌, ◌<◌, ◌+◌, ◌-◌}
use native.Mathlib.Omega.{arith}
use lib.Dec.{leb}
use lib.ListN.{length, take, drop, take-append-drop, drop_of_length-le}
use lib.Seq.{drop-drop}
use borrow.Author.Tests.{leb-true}
use Rattle.lists.specs.Lists.{Each}
use Rattle.archive.specs.Reader.{got, and_then, ◌>>=◌, bytes, record_of, optionally}
use Rattle.archive.specs.File.{File}
use Rattle.archive.specs.Parse
use Rattle.archive.specs.Parse.{files, parse}
use Rattle.archive.specs.Encode.{head_bytes, edges_bytes, file_bytes, encode}
use Rattle.archive.specs.Fits.{FileFits}
use Rattle.archive_bytes.proofs.Numbers.{AllBytes}
use Rattle.archive.proofs.Back.{Back, Said, and_then-got, cond-got, tested-got, then-back, end_back}
use Rattle.archive.proofs.Framed.{record-back, Inside, then-inside, record-inside, optionally-inside}
use Rattle.archive.proofs.References.{record-back-found, found_back}
use Rattle.archive.proofs.Bodies.{head-back, sets-back, rows_back, unresolved-back, roots-back, cover-found-back}

-- ── files ────────────────────────────────────────────────────────────────────────────────────

-- a file has the bytes that it was read from, and fits its fields
file-back : (K : ℕ) → Back (Parse.file K) (Said file_bytes (FileFits K))
unfolding Parse.file file_bytes head_bytes edges_bytes
file-back K =
    then-back (record_of 1 Parse.head) _ (record-back 1 Parse.head head-back)
    (λ h. then-back (record_of 2 (Parse.sets K h.rows)) _ (record-back 2 (Parse.sets K h.rows) (sets-back K h.rows)) (λ s.
    then-back (record_of 3 (Parse.rows h.rows)) _ (record-back 3 (Parse.rows h.rows) (rows_back h.rows)) (λ rs.
    then-back (record_of 4 Parse.unresolved) _ (record-back 4 Parse.unresolved unresolved-back) (λ us. then-back (record_of 5 Parse.roots) _ (record-back 5 Parse.roots roots-back) (λ ts.
    then-back (optionally 6 (Parse.cover h.rows)) _ (cover-found-back h.rows) (λ c.
    then-back (optionally 7 (Parse.references h.rows)) _ (record-back-found h.rows) (λ xs. end_back (λ l p. true) _ (λ l p t kx kc kt ku kr ks kh.
    let n = kr.0.0 in
    let x = found_back h.rows rs xs n kx in
    record {
      bytes = rw (n, x.0, append-nil);
      fits = record {
        first = kh.0.first;
        row_count = rw n kh.0.rows;
        group = kh.0.group;
        subject = kh.0.subject;
        subject_bytes = kh.0.subject_bytes;
        depth = kh.0.depth;
        forward = rw n ks.0.forward;
        reverse = rw n ks.0.reverse;
        inbound = rw n ks.0.inbound;
        tags = kr.0.1;
        unresolved_count = ku.0.count;
        unresolved = ku.0.each;
        unresolved_order = ku.0.test;
        root_count = kt.0.count;
        roots = kt.0.each;
        root_order = kt.0.test;
        cover = rw n kc;
        references = rw n x.1;
        edges_short = ks.1;
        rows_short = kr.1;
        unresolved_short = ku.1;
        roots_short = kt.1;
      };
    }))))))))

-- no file ends past the end of the bytes
file-inside : (K : ℕ) → Inside (Parse.file K)
unfolding Parse.file
file-inside K =
    then-inside (record_of 1 Parse.head) _ (record-inside 1 Parse.head) (λ h. then-inside (record_of 2 (Parse.sets K h.rows)) _ (record-inside 2 (Parse.sets K h.rows)) (λ s.
    then-inside (record_of 3 (Parse.rows h.rows)) _ (record-inside 3 (Parse.rows h.rows)) (λ rs. then-inside (record_of 4 Parse.unresolved) _ (record-inside 4 Parse.unresolved) (λ us.
    then-inside (record_of 5 Parse.roots) _ (record-inside 5 Parse.roots) (λ ts. then-inside (optionally 6 (Parse.cover h.rows)) _ (optionally-inside 6 (Parse.cover h.rows)) (λ c.
    then-inside (optionally 7 (Parse.references h.rows)) _ (optionally-inside 7 (Parse.references h.rows)) (λ xs.
    record { inside = λ l p f q e h. let z : p ≡ q = cc in omega arith })))))))

-- ── the laws ─────────────────────────────────────────────────────────────────────────────────

-- files from a place on are all the bytes from there on
files-back : (K n : ℕ) (l : List ℕ) → AllBytes l → (p : ℕ) (fs : List File) (q : ℕ) → p ≤ length l → files K n l p ≡ got fs q
    → Said encode (Each (FileFits K)) fs (drop p l) × (q ≡ length l)
unfolding files encode ◌>>=◌
files-back K n l h = go n
  where
    end : (p : ℕ) (fs : List File) (q : ℕ) → p ≤ length l → leb (length l) p ≡ true → got [] p ≡ got fs q → Said encode (Each (FileFits K)) fs (drop p l) × (q ≡ length l)
    end p fs q i t e =
        let a : [] ≡ fs = cc in
        let b : p ≡ q = cc in
        let k = leb-true (length l) p t in
        rw (← a, drop_of_length-le l {i = p} k) (record { bytes = refl; fits = tt }, omega arith)

    go : (n p : ℕ) (fs : List File) (q : ℕ) → p ≤ length l → files K n l p ≡ got fs q → Said encode (Each (FileFits K)) fs (drop p l) × (q ≡ length l)
    go zero p fs q i e = tested-got (leb (length l) p) (got [] p) e (λ t d. end p fs q i t d)
    go (suc n) p fs q i e = cond-got (leb (length l) p) (got [] p) (and_then (Parse.file K l p) (λ f m. and_then (files K n l m) (λ fs q. got (f ∷ fs) q))) e (λ t d. end p fs q i t d) (λ t d.
        and_then-got (Parse.file K l p) (λ f m. and_then (files K n l m) (λ fs q. got (f ∷ fs) q)) d (λ f m a b. and_then-got (files K n l m) (λ fs q. got (f ∷ fs) q) b (λ gs j c k.
        let u = (file-inside K).inside l p f m a i in
        let v = (file-back K).onward l p f m a in
        let s = (file-back K).back l h p f m a u in
        let r = go n m gs j u c in
        let x : f ∷ gs ≡ fs = cc in
        let y : j ≡ q = cc in
        let w : p + (m - p) ≡ m = omega arith in
        let o : take (m - p) (drop p l) ++ drop m l ≡ drop p l = rw (drop-drop (m - p) p l, w) at (take-append-drop (m - p) (drop p l)) in
        rw (← x, ← y) (record { bytes = rw (s.bytes, r.0.bytes) o; fits = (s.fits, r.0.fits) }, r.1))))

module _ (K : ℕ) (l : List ℕ) (fs : List File) (q : ℕ) (h : AllBytes l) (e : parse K l ≡ got fs q) where
  parsed : Said encode (Each (FileFits K)) fs l × (q ≡ length l)
  unfolding parse
  parsed = files-back K (length l) l h 0 fs q (omega arith) e

-- the bytes of what was parsed are the bytes that came in
pub encode-parse : (K : ℕ) (l : List ℕ) (fs : List File) (q : ℕ) → Each (λ b. b < 256) l → parse K l ≡ got fs q → (encode fs ≡ l) × (q ≡ length l)
encode-parse K l fs q h e = let r = parsed K l fs q h e in (r.0.bytes, r.1)

-- what was parsed fits its fields
pub parse-fits : (K : ℕ) (l : List ℕ) (fs : List File) (q : ℕ) → Each (λ b. b < 256) l → parse K l ≡ got fs q → Each (FileFits K) fs
parse-fits K l fs q h e = (parsed K l fs q h e).0.fits
