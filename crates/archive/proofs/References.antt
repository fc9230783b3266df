-- The record of references, both ways: its bytes are read as the references that they are of, and what was read has those bytes and fits its fields.
use mathlib.Core.Path.{◌≡◌, refl, sym, ◌∙◌, ap}
use mathlib.Core.Bool.{Bool, true, false, cond}
use mathlib.Core.List.{List, [], ◌∷◌, ◌++◌, map, append-nil}
use mathlib.Core.Option.{Option, none, some}
use Prim.Native.Nat.{ℕ, zero, suc, ◌≤◌, ◌<◌, ◌+◌, ◌*◌, ◌^◌}
use native.Mathlib.Nat.{add-zero, zero-add}
use native.Mathlib.Omega.{arith}
use lib.Dec.{leb, ltb, eqb}
use borrow.Author.Tests.{lt-ltb}
use lib.ListN.{length, get_or, take}
use Rattle.lists.specs.Lists.{Each, flat, all, sum}
use Rattle.lists.proofs.Each.{each-imp}
use Rattle.lists.proofs.Tests.{not-both}
use Rattle.archive.specs.Bytes.{bytes_of}
use Rattle.archive.specs.Reader.{Reader, optionally, record_of}
use Rattle.archive.specs.File.{Row, Reference, any_reference, no_references}
use Rattle.archive.specs.Parse.{reference_at, of_kind, references_ok, row_references, rows_references, references, references_of}
use Rattle.archive.specs.Encode.{record_bytes, counted_bytes, reference_bytes, references_bytes, references_record}
use Rattle.archive.specs.Fits.{RowReferencesFit, ReferencesFit, Short}
use Rattle.archive_bytes.proofs.Numbers.{AllBytes, be-at, be-small, bytes_of-be}
use Rattle.archive.proofs.Forward.{Reads, then-reads, end_reads, Item, counted-read, record-kind, found-reads, none_reads}
use Rattle.archive.proofs.Back.{Back, Said, then-back, end_back, weaker-back}
use Rattle.archive.proofs.Framed.{record-back, optionally-back}
use Rattle.archive.proofs.Bodies.{counted_back}

-- ── the record as it is found ────────────────────────────────────────────────────────────────

-- the record, if some row has a reference
abbrev pub found : List (List Reference) → Option (List (List Reference))
found rss = cond (any_reference rss) (some rss) none

pub none_of : {A : Type 0} (rs : List A) → any_reference (no_references rs) ≡ false
unfolding any_reference
none_of [] = refl
none_of (r ∷ rs) = none_of rs

-- rows without references have no record
pub no_record : {A : Type 0} (rs : List A) → references_record (no_references rs) ≡ []
no_record rs = rw (none_of rs)

-- rows without references have empty lists
pub no-reference : {A : Type 0} (rs : List A) (rss : List (List Reference)) → length rss ≡ length rs → any_reference rss ≡ false → no_references rs ≡ rss
unfolding any_reference
no-reference [] [] n e = refl
no-reference [] (r ∷ rss) n e = absurd (omega arith)
no-reference (x ∷ rs) [] n e = absurd (omega arith)
no-reference (x ∷ rs) ([] ∷ rss) n e = ap (λ t. [] ∷ t) (no-reference rs rss (omega arith) e)
no-reference (x ∷ rs) ((r ∷ r') ∷ rss) n e = absurd (not-both refl e)

-- some row has a reference just where there are more than none in all
pub any-counted : (rss : List (List Reference)) → any_reference rss ≡ ltb 0 (sum length rss)
unfolding any_reference sum
any-counted [] = refl
any-counted ([] ∷ rss) = rw (any-counted rss, zero-add (sum length rss))
any-counted ((r ∷ rs) ∷ rss) = rw (lt-ltb 0 (length (r ∷ rs) + sum length rss) (omega arith))

-- what is found is what the file has
pub found_of : (rs : List Row) (rss : List (List Reference)) → length rss ≡ length rs → references_of rs (found rss) ≡ rss
unfolding references_of
found_of rs rss n = go (any_reference rss) refl
  where
    go : (b : Bool) → any_reference rss ≡ b → references_of rs (found rss) ≡ rss
    go true e = rw e
    go false e = rw e (no-reference rs rss n e)

-- ── bytes are read ───────────────────────────────────────────────────────────────────────────

pub wide-reference : (r : Reference) → length (reference_bytes r) ≡ 10
unfolding reference_bytes bytes_of
wide-reference r = refl

reference-item : (r : Reference) → r.target < 256 ^ 8 → Item reference_bytes reference_at (λ r. r) r
unfolding reference_bytes reference_at
reference-item r h post = rw (be-at 8 r.target (r.kind ∷ r.space ∷ []) post h)

module _ {post : List ℕ} where
  row_reads : (rs : List Reference) → RowReferencesFit rs → Reads post row_references (counted_bytes reference_bytes rs) rs
  row_reads rs k = counted-read 10 reference_bytes wide-reference reference_at rs (each-imp _ _ rs reference-item k.targets) references_ok k.count k.known

rows-read : {post : List ℕ} (rss : List (List Reference)) → Each RowReferencesFit rss → Reads post (rows_references (length rss)) (references_bytes rss) rss
unfolding rows_references references_bytes
rows-read [] k = record { read = λ pre. rw (add-zero (length pre)) }
rows-read (rs ∷ rss) k = then-reads row_references _ (row_reads rs k.0) (end_reads (rows_references (length rss)) _ (rows-read rss k.1) (λ l p h. refl))

pub references-read : (n : ℕ) (rss : List (List Reference)) → ReferencesFit n rss → any_reference rss ≡ true → Reads [] (references n) (references_bytes rss) rss
unfolding references
references-read n rss k e = rw (← k.row_count) (end_reads (rows_references (length rss)) _ (rows-read rss k.each) (λ l p h. rw e))

pub record-found : {post : List ℕ} (n : ℕ) (rss : List (List Reference)) → ReferencesFit n rss → eqb (get_or post 5 0) 7 ≡ false
    → Reads post (optionally 7 (references n)) (references_record rss) (found rss)
record-found {post} n rss k g = go (any_reference rss) refl
  where
    go : (b : Bool) → any_reference rss ≡ b → Reads post (optionally 7 (references n)) (references_record rss) (found rss)
    go true e = rw e (found-reads 7 (references n) (k.short e) (references-read n rss k e))
    go false e = rw e (none_reads 7 (references n) g)

-- no cover stands behind the cover's place
pub no-cover-behind : (rss : List (List Reference)) (post : List ℕ) → eqb (get_or post 5 0) 6 ≡ false → eqb (get_or (references_record rss ++ post) 5 0) 6 ≡ false
no-cover-behind rss post g = go (any_reference rss) refl
  where
    go : (b : Bool) → any_reference rss ≡ b → eqb (get_or (references_record rss ++ post) 5 0) 6 ≡ false
    go true e = rw (e, record-kind 7 (references_bytes rss) post)
    go false e = rw e g

-- ── what was read has its bytes ──────────────────────────────────────────────────────────────

reference-said : (l : List ℕ) → AllBytes l → 10 ≤ length l → Said reference_bytes (λ r. r.target < 256 ^ 8) (reference_at l) (take 10 l)
unfolding reference_bytes reference_at
reference-said [] h k = absurd (omega arith)
reference-said (a ∷ []) h k = absurd (omega arith)
reference-said (a ∷ b ∷ l) h k = record { bytes = rw (bytes_of-be (a ∷ b ∷ l) h 2 8 k); fits = be-small (a ∷ b ∷ l) h 2 8 }

row_back : Back row_references (Said (counted_bytes reference_bytes) RowReferencesFit)
row_back = weaker-back row_references (counted_back 10 reference_at references_ok reference-said)
    (λ rs e s. record { bytes = s.bytes; fits = record { count = s.fits.count; targets = s.fits.each; known = s.fits.test } })

-- a list for each of n rows, each fitting its fields
abbrev RowsFit : ℕ → List (List Reference) → Type 0
RowsFit n rss = (length rss ≡ n) × Each RowReferencesFit rss

rows_back : (n : ℕ) → Back (rows_references n) (Said references_bytes (RowsFit n))
unfolding rows_references references_bytes
rows_back zero = end_back (λ l p. true) [] (λ l p t. record { bytes = refl; fits = (refl, tt) })
rows_back (suc n) = then-back row_references _ row_back (λ rs. then-back (rows_references n) _ (rows_back n) (λ rss. end_back (λ l p. true) _ (λ l p t k kr.
    record { bytes = rw append-nil; fits = (ap suc k.0, (kr, k.1)) })))

references-back : (n : ℕ) → Back (references n) (Said references_bytes (λ rss. RowsFit n rss × (any_reference rss ≡ true)))
unfolding references
references-back n = then-back (rows_references n) _ (rows_back n) (λ rss. end_back (λ l p. any_reference rss) rss (λ l p t k. record { bytes = rw append-nil; fits = (k, t) }))

-- the bytes of a record that was found or not
abbrev pub found_bytes : Option (List (List Reference)) → List ℕ
found_bytes none = []
found_bytes (some rss) = record_bytes 7 (references_bytes rss)

abbrev pub FoundFits : ℕ → Option (List (List Reference)) → Type 0
FoundFits n none = Unit {0}
FoundFits n (some rss) = ReferencesFit n rss × (any_reference rss ≡ true)

pub record-back-found : (n : ℕ) → Back (optionally 7 (references n)) (Said found_bytes (FoundFits n))
record-back-found n =
    optionally-back 7 (references n)
    (weaker-back (record_of 7 (references n)) (record-back 7 (references n) (references-back n)) (λ rss e s. record {
      bytes = s.bytes;
      fits = (record { row_count = s.fits.0.0.0; each = s.fits.0.0.1; short = λ e. s.fits.1 }, s.fits.0.1);
    }))
    (record { bytes = refl; fits = tt })

empty-fits : {A : Type 0} (rs : List A) → Each RowReferencesFit (no_references rs)
unfolding references_ok all of_kind
empty-fits [] = tt
empty-fits (r ∷ rs) = (record { count = omega arith; targets = tt; known = refl }, empty-fits rs)

length_none : {A : Type 0} (rs : List A) → length (no_references rs) ≡ length rs
length_none [] = refl
length_none (r ∷ rs) = ap suc (length_none rs)

pub none-fit : {n : ℕ} {A : Type 0} (rs : List A) → length rs ≡ n → ReferencesFit n (no_references rs)
none-fit rs z = record { row_count = length_none rs ∙ z; each = empty-fits rs; short = λ e. absurd (not-both e (none_of rs)) }

-- what a file has of what was found
pub found_back : (n : ℕ) (rs : List Row) (o : Option (List (List Reference))) → length rs ≡ n → FoundFits n o
    → (references_record (references_of rs o) ≡ found_bytes o) × ReferencesFit n (references_of rs o)
unfolding references_of
found_back n rs none z k = (no_record rs, none-fit rs z)
found_back n rs (some rss) z k = (rw k.1, k.0)
