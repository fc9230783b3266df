-- Record 7: one turn of each loop over a row's references and over the rows, and each answer of the functions that read them.
use Rattle.std.specs.Prelude.{None, Some, Option}
use mathlib.Core.Path.{◌≡◌, refl, sym, ◌∙◌, ap}
use mathlib.Core.Bool.{Bool, true, false, cond, not}
use mathlib.Core.List.{List, [], ◌∷◌}
use Prim.Native.Nat.{ℕ, zero, suc, ◌≤◌, ◌<◌, ◌+◌, ◌-◌, ◌*◌}
use native.Mathlib.Nat.{add-zero, sub-zero}
use native.Mathlib.Omega.{arith}
use lib.Dec.{leb, eqb}
use lib.ListN.{length, get_or, drop}
use lib.Seq.{get_or-drop, drop-drop}
use borrow.Author.Tests.{le-leb, lt-leb, le-ltb, lt-ltb, eq-eqb, ne_eqb, not-true, not-false}
use Rattle.archive.proofs.References.{any-counted}
use Rattle.lists.specs.Lists.{all, sum}
use Rattle.archive_bytes.proofs.Several.{be-front, several-none, several-cons}
use Rattle.archive.proofs.Back.{length-several}
use Rattle.archive.specs.Bytes.{be, several}
use Rattle.archive.specs.File.{Reference, any_reference}
use Rattle.archive.specs.Reader.{Parsed, broken, got, and_then, ◌>>=◌, table, whole}
use Rattle.archive.specs.Parse
use Rattle.archive.specs.Parse.{reference_at, reference_ok, of_kind, references_ok, row_references, rows_references}
use Rattle.archive_read.specs.bodies.View.{row_cited, RowInside, references_from}

-- ── a row's references ───────────────────────────────────────────────────────────────────────

abbrev cited : ℕ → List ℕ → List Reference
cited n b = several 10 reference_at n b

kind_at : (b : List ℕ) (p : ℕ) → (reference_at (drop p b)).kind ≡ get_or b p 0
unfolding reference_at
kind_at b p = get_or-drop p b 0 0 ∙ ap (λ i. get_or b i 0) (omega arith)

space-at : (b : List ℕ) (p : ℕ) → (reference_at (drop p b)).space ≡ get_or b (p + 1) 0
unfolding reference_at
space-at b p = get_or-drop p b 1 0

pub kinds-start : (n : ℕ) (b : List ℕ) (p : ℕ) → all reference_ok (cited n (drop p b)) ≡ all reference_ok (cited (n - 0) (drop (p + 0) b))
kinds-start n b p = rw (sub-zero, add-zero)

module _ {t : Bool} (n i : ℕ) (b : List ℕ) (q : ℕ) (e : t ≡ all reference_ok (cited (n - i) (drop q b))) where
  pub kinds-done : n ≤ i → true ≡ t
  unfolding all
  kinds-done h = rw (e, several-none 10 reference_at n i b q h)

  pub kind-bad : i < n → 5 < get_or b q 0 → false ≡ t
  unfolding all reference_ok
  kind-bad h f = rw (e, several-cons 10 reference_at n i b q h, kind_at b q, lt-leb (get_or b q 0) 5 f)

  module _ (h : i < n) (f : get_or b q 0 ≤ 5) where
    pub space-bad : 3 < get_or b (q + 1) 0 → false ≡ t
    unfolding all reference_ok
    space-bad g = rw (e, several-cons 10 reference_at n i b q h, kind_at b q, space-at b q, le-leb (get_or b q 0) 5 f, lt-leb (get_or b (q + 1) 0) 3 g)

    pub kind-good : {r : ℕ} → get_or b (q + 1) 0 ≤ 3 → r ≡ q + 10 → t ≡ all reference_ok (cited (n - (i + 1)) (drop r b))
    unfolding all reference_ok
    kind-good g y = rw (y, e, several-cons 10 reference_at n i b q h, kind_at b q, space-at b q, le-leb (get_or b q 0) 5 f, le-leb (get_or b (q + 1) 0) 3 g)

pub count-start : (kind n : ℕ) (b : List ℕ) (p : ℕ) → of_kind kind (cited n (drop p b)) ≡ 0 + of_kind kind (cited (n - 0) (drop (p + 0) b))
count-start kind n b p = rw (sub-zero, add-zero) (omega arith)

module _ {t : ℕ} (kind found n i : ℕ) (b : List ℕ) (q : ℕ) (e : t ≡ found + of_kind kind (cited (n - i) (drop q b))) where
  pub count_done : n ≤ i → found ≡ t
  unfolding of_kind
  count_done h = rw (e, several-none 10 reference_at n i b q h) (omega arith)

  pub count_next : {o r : ℕ} → i < n → o ≡ cond (eqb (get_or b q 0) kind) 1 0 → r ≡ q + 10 → t ≡ found + o + of_kind kind (cited (n - (i + 1)) (drop r b))
  unfolding of_kind
  count_next {o} h d y = rw (y, e, several-cons 10 reference_at n i b q h, kind_at b q, ← d) (omega arith)

pub one-is : (x kind : ℕ) → x ≡ kind → ◌≡◌ {A = ℕ} 1 (cond (eqb x kind) 1 0)
one-is x kind h = rw (eq-eqb x kind h)

pub none_is : (x kind : ℕ) → (x ≡ kind → ⊥) → ◌≡◌ {A = ℕ} 0 (cond (eqb x kind) 1 0)
none_is x kind h = rw (ne_eqb x kind h)

module _ (rs : List Reference) {r : Bool} (f : r ≡ all reference_ok rs) where
  pub not_known : not r ≡ true → false ≡ references_ok rs
  unfolding references_ok
  not_known g = rw (← f, not-true r g)

  module _ {x : ℕ} (g : not r ≡ false) (k : x ≡ of_kind 3 rs) where
    pub two-parents : 1 < x → false ≡ references_ok rs
    unfolding references_ok
    two-parents u = rw (← f, not-false r g, ← k, lt-leb x 1 u)

    module _ {y : ℕ} (u : x ≤ 1) (v : y ≡ of_kind 5 rs) where
      pub two-roots : 1 < y → false ≡ references_ok rs
      unfolding references_ok
      two-roots w = rw (← f, not-false r g, ← k, le-leb x 1 u, ← v, lt-leb y 1 w)

      pub are-known : y ≤ 1 → true ≡ references_ok rs
      unfolding references_ok
      are-known w = rw (← f, not-false r g, ← k, le-leb x 1 u, ← v, le-leb y 1 w)

-- ── a row ────────────────────────────────────────────────────────────────────────────────────

module _ (b : List ℕ) (p : ℕ) where
  row_cut : length b < p + 4 + be 4 b p * 10 → broken ≡ row_references b p
  unfolding ◌>>=◌ table
  row_cut h = rw (lt-leb (p + 4 + be 4 b p * 10) (length b) h)

  pub row-short : p ≤ length b → length b - p < 4 → broken ≡ row_references b p
  row-short h k = row_cut (omega arith)

  module _ {m n : ℕ} (d : m ≡ be 4 b p) (e : n ≡ m) where
    pub row-long : length b < p + 4 + n * 10 → broken ≡ row_references b p
    row-long h = row_cut (rw (← d, ← e) h)

    module _ (h : p + 4 + n * 10 ≤ length b) where
      row-refused : references_ok (cited n (drop (p + 4) b)) ≡ false → broken ≡ row_references b p
      unfolding ◌>>=◌ table
      row-refused k = rw (← d, ← e, le-leb (p + 4 + n * 10) (length b) h, k)

      row-taken : references_ok (cited n (drop (p + 4) b)) ≡ true → got (cited n (drop (p + 4) b)) (p + 4 + n * 10) ≡ row_references b p
      unfolding ◌>>=◌ table
      row-taken k = rw (← d, ← e, le-leb (p + 4 + n * 10) (length b) h, k)

      module _ {r : Bool} (f : r ≡ references_ok (cited n (drop (p + 4) b))) where
        pub row-unknown : not r ≡ true → broken ≡ row_references b p
        row-unknown g = row-refused (sym f ∙ not-true r g)

        pub is_row : not r ≡ false → got (cited n (drop (p + 4) b)) (p + 4 + n * 10) ≡ row_references b p
        is_row g = row-taken (sym f ∙ not-false r g)

module _ (b : List ℕ) (p : ℕ) (x : Option ℕ) {n : ℕ} (i : RowInside b p x) (d : x ≡ Some n) where
  pub row_fits : p + 4 + n * 10 ≤ length b
  row_fits = rw d at i

-- ── the rows ─────────────────────────────────────────────────────────────────────────────────

-- how many references k rows from place p on have, on top of t, and where they end
abbrev pub counts : ℕ → ℕ → List ℕ → ℕ → Parsed ℕ
counts t k b p = and_then (rows_references k b p) (λ rss q. got (t + sum length rss) q)

pub counts_start : (n : ℕ) (b : List ℕ) → counts 0 n b 0 ≡ counts 0 (n - 0) b 0
counts_start n b = rw sub-zero

count-row : (t : ℕ) (rs : List Reference) (o : Parsed (List (List Reference))) (n : ℕ) → length rs ≡ n
    → and_then (and_then o (λ rest q. got (rs ∷ rest) q)) (λ rss q. got (t + sum length rss) q) ≡ and_then o (λ rss q. got (t + n + sum length rss) q)
unfolding sum
count-row t rs broken n e = refl
count-row t rs (got rss q) n e = let z : t + (length rs + sum length rss) ≡ t + n + sum length rss = omega arith in rw z

module _ {c : Parsed ℕ} (t n i : ℕ) (b : List ℕ) (p : ℕ) (e : c ≡ counts t (n - i) b p) where
  pub counts-done : n ≤ i → c ≡ got t p
  unfolding rows_references sum
  counts-done h = let z : n - i ≡ 0 = omega arith in let y : t + 0 ≡ t = omega arith in rw (e, z, y)

  module _ (h : i < n) (x : Option ℕ) (d : row_cited b p x ≡ row_references b p) where
    z : n - i ≡ suc (n - (i + 1))
    z = omega arith

    pub counts-broken : x ≡ None → c ≡ broken
    unfolding rows_references ◌>>=◌
    counts-broken f = let u : row_references b p ≡ broken = sym d ∙ rw f in rw (e, z, u)

    pub counts-next : {k : ℕ} → x ≡ Some k → c ≡ counts (t + k) (n - (i + 1)) b (p + 4 + k * 10)
    unfolding rows_references ◌>>=◌
    counts-next {k} f =
        let u : row_references b p ≡ got (cited k (drop (p + 4) b)) (p + 4 + k * 10) = sym d ∙ rw f in
        rw (e, z, u) (count-row t (cited k (drop (p + 4) b)) (rows_references (n - (i + 1)) b (p + 4 + k * 10)) k (length-several 10 reference_at k (drop (p + 4) b)))

-- ── the record ───────────────────────────────────────────────────────────────────────────────

-- rows that were read are those that stand there
rows-from : (k : ℕ) (b : List ℕ) (p : ℕ) (rss : List (List Reference)) (q : ℕ) → rows_references k b p ≡ got rss q → rss ≡ references_from k (drop p b)
unfolding rows_references references_from ◌>>=◌ table
rows-from zero b p rss q e = let u : [] ≡ rss = cc in sym u
rows-from (suc k) b p rss q e = go (leb (p + 4 + be 4 b p * 10) (length b)) (references_ok rs) refl refl (λ rest m d. rows-from k b next rest m d)
  where
    rs : List Reference
    rs = cited (be 4 b p) (drop (p + 4) b)

    next : ℕ
    next = p + 4 + be 4 b p * 10

    back : (o : Parsed (List (List Reference))) → ((rest : List (List Reference)) (m : ℕ) → o ≡ got rest m → rest ≡ references_from k (drop next b))
        → and_then o (λ rest m. got (rs ∷ rest) m) ≡ got rss q → rss ≡ references_from (suc k) (drop p b)
    back broken f d = let u : ◌≡◌ {A = ℕ} 0 1 = cc in absurd (omega arith)
    back (got rest m) f d =
        let u : rs ∷ rest ≡ rss = cc in
        let v : p + (4 + be 4 b p * 10) ≡ next = omega arith in
        rw (← u, be-front 4 b p, drop-drop 4 p b, drop-drop (4 + be 4 b p * 10) p b, v, f rest m refl)

    go : (s t : Bool) → leb next (length b) ≡ s → references_ok rs ≡ t → ((rest : List (List Reference)) (m : ℕ) → rows_references k b next ≡ got rest m → rest ≡ references_from k (drop next b))
        → rss ≡ references_from (suc k) (drop p b)
    go false t x y f = let u = rw x at e in let v : ◌≡◌ {A = ℕ} 0 1 = cc in absurd (omega arith)
    go true false x y f = let u = rw (x, y) at e in let v : ◌≡◌ {A = ℕ} 0 1 = cc in absurd (omega arith)
    go true true x y f = let u = rw (x, y) at e in back (rows_references k b next) f u

above : (t : ℕ) → (t ≡ 0 → ⊥) → 0 < t
above zero k = absurd (k refl)
above (suc t) k = omega arith

module _ (n : ℕ) (b : List ℕ) where
  module _ (t i p : ℕ) (x : counts 0 n b 0 ≡ counts t (n - i) b p) (y : i < n) (o : Option ℕ) (d : row_cited b p o ≡ row_references b p) (z : o ≡ None) where
    stopped : counts 0 n b 0 ≡ broken
    stopped = counts-broken t n i b p x y o d z

    pub body-broken : broken ≡ whole (Parse.references n) b
    unfolding whole Parse.references ◌>>=◌
    body-broken = go (rows_references n b 0) refl
      where
        go : (o : Parsed (List (List Reference))) → rows_references n b 0 ≡ o → broken ≡ whole (Parse.references n) b
        go broken f = rw f
        go (got rss q) f = let u = rw f at stopped in let v : ◌≡◌ {A = ℕ} 0 1 = cc in absurd (omega arith)

  module _ (t i p : ℕ) (x : counts 0 n b 0 ≡ counts t (n - i) b p) (y : n ≤ i) where
    ended : counts 0 n b 0 ≡ got t p
    ended = counts-done t n i b p x y

    -- what the rows gave
    given : {C : Type 0} → ((rss : List (List Reference)) → rows_references n b 0 ≡ got rss p → sum length rss ≡ t → rss ≡ references_from n b → C) → C
    given {C} f = go (rows_references n b 0) refl
      where
        go : (o : Parsed (List (List Reference))) → rows_references n b 0 ≡ o → C
        go broken g = let u = rw g at ended in let v : ◌≡◌ {A = ℕ} 0 1 = cc in absurd (omega arith)
        go (got rss q) g =
            let u = rw g at ended in
            let v : q ≡ p = cc in
            let w : 0 + sum length rss ≡ t = cc in
            f rss (g ∙ rw v) (omega arith) (rows-from n b 0 rss q g)

    pub body-inexact : (length b ≡ p → ⊥) → broken ≡ whole (Parse.references n) b
    unfolding whole Parse.references ◌>>=◌
    body-inexact h = given (λ rss g s r. go rss g (any_reference rss) refl)
      where
        go : (rss : List (List Reference)) → rows_references n b 0 ≡ got rss p → (a : Bool) → any_reference rss ≡ a → broken ≡ whole (Parse.references n) b
        go rss g true a = rw (g, a, ne_eqb (length b) p h)
        go rss g false a = rw (g, a)

    pub body-empty : t ≡ 0 → broken ≡ whole (Parse.references n) b
    unfolding whole Parse.references ◌>>=◌
    body-empty h = given (λ rss g s r. rw (g, any-counted rss, s, le-ltb 0 t (omega arith)))

    pub is-body-cited : length b ≡ p → (t ≡ 0 → ⊥) → got (references_from n b) (length b) ≡ whole (Parse.references n) b
    unfolding whole Parse.references ◌>>=◌
    is-body-cited h k = given (λ rss g s r. rw (g, any-counted rss, s, lt-ltb 0 t (above t k), eq-eqb (length b) p h, ← r, h))

    pub body-counted : t ≡ sum length (references_from n b)
    body-counted = given (λ rss g s r. rw (← r) (sym s))
