-- Record 6: each answer of the function that reads it.
use mathlib.Core.Path.{◌≡◌, refl, ◌∙◌}
use mathlib.Core.Bool.{Bool, true, false}
use mathlib.Core.List.{List}
use Prim.Native.Nat.{ℕ, ◌<◌, ◌+◌, ◌*◌}
use native.Mathlib.Nat.{zero-add}
use native.Mathlib.Omega.{arith}
use lib.Dec.{leb}
use lib.ListN.{length}
use borrow.Author.Tests.{le-leb, eq-eqb, ne_eqb}
use Rattle.archive.specs.Bytes.{be}
use Rattle.archive.specs.Reader.{broken, got, ◌>>=◌, table, whole}
use Rattle.archive.specs.Parse
use Rattle.archive_read.specs.bodies.View.{links_place, cover_end, cover_in}

module _ (b : List ℕ) (rows : ℕ) where
  module _ {m k : ℕ} (d : m ≡ be 4 b (rows * 4 + rows * 4)) (e : k ≡ be 4 b (links_place rows m)) where
    other_length : (length b ≡ cover_end rows m k → ⊥) → broken ≡ whole (Parse.cover rows) b
    unfolding whole Parse.cover Parse.links ◌>>=◌ table
    other_length h =
        go (leb (rows * 4) (length b)) (leb (rows * 4 + rows * 4) (length b)) (leb (links_place rows m) (length b)) (leb (q + k * 4) (length b))
        (leb (q + k * 4 + k * 4) (length b)) (leb (q + k * 4 + k * 4 + k * 4) (length b)) (leb (cover_end rows m k) (length b)) refl refl refl refl refl refl refl
      where
        q : ℕ
        q = links_place rows m + 4

        go : (t1 t2 t3 t4 t5 t6 t7 : Bool) → leb (rows * 4) (length b) ≡ t1 → leb (rows * 4 + rows * 4) (length b) ≡ t2 → leb (links_place rows m) (length b) ≡ t3
            → leb (links_place rows m + 4 + k * 4) (length b) ≡ t4 → leb (links_place rows m + 4 + k * 4 + k * 4) (length b) ≡ t5
            → leb (links_place rows m + 4 + k * 4 + k * 4 + k * 4) (length b) ≡ t6 → leb (cover_end rows m k) (length b) ≡ t7
            → broken ≡ whole (Parse.cover rows) b
        go false t2 t3 t4 t5 t6 t7 e1 e2 e3 e4 e5 e6 e7 = rw (zero-add (rows * 4), e1)
        go true false t3 t4 t5 t6 t7 e1 e2 e3 e4 e5 e6 e7 = rw (zero-add (rows * 4), e1, e2)
        go true true false t4 t5 t6 t7 e1 e2 e3 e4 e5 e6 e7 = rw (zero-add (rows * 4), e1, e2, ← d, e3)
        go true true true false t5 t6 t7 e1 e2 e3 e4 e5 e6 e7 = rw (zero-add (rows * 4), e1, e2, ← d, e3, ← e, e4)
        go true true true true false t6 t7 e1 e2 e3 e4 e5 e6 e7 = rw (zero-add (rows * 4), e1, e2, ← d, e3, ← e, e4, e5)
        go true true true true true false t7 e1 e2 e3 e4 e5 e6 e7 = rw (zero-add (rows * 4), e1, e2, ← d, e3, ← e, e4, e5, e6)
        go true true true true true true false e1 e2 e3 e4 e5 e6 e7 = rw (zero-add (rows * 4), e1, e2, ← d, e3, ← e, e4, e5, e6, e7)
        go true true true true true true true e1 e2 e3 e4 e5 e6 e7 = rw (zero-add (rows * 4), e1, e2, ← d, e3, ← e, e4, e5, e6, e7, ne_eqb (length b) (cover_end rows m k) h)

    this-length : length b ≡ cover_end rows m k → got (cover_in b rows (record { ranges = m; links = k })) (length b) ≡ whole (Parse.cover rows) b
    unfolding whole Parse.cover Parse.links ◌>>=◌ table cover_in
    this-length h = rw (
      zero-add (rows * 4),
      le-leb (rows * 4) (length b) (omega arith),
      le-leb (rows * 4 + rows * 4) (length b) (omega arith),
      ← d,
      le-leb (links_place rows m) (length b) (omega arith),
      ← e,
      le-leb (links_place rows m + 4 + k * 4) (length b) (omega arith),
      le-leb (links_place rows m + 4 + k * 4 + k * 4) (length b) (omega arith),
      le-leb (links_place rows m + 4 + k * 4 + k * 4 + k * 4) (length b) (omega arith),
      le-leb (cover_end rows m k) (length b) (omega arith),
      eq-eqb (length b) (cover_end rows m k) h,
      h,
    )

  pub no-ranges : length b < rows * 4 + rows * 4 + 4 → broken ≡ whole (Parse.cover rows) b
  no-ranges h = other_length refl refl (λ e. omega arith)

  module _ {a m : ℕ} (d : a ≡ be 4 b (rows * 4 + rows * 4)) (e : m ≡ a) where
    pub no-links : length b < rows * 4 + rows * 4 + 4 + m * 12 + 4 → broken ≡ whole (Parse.cover rows) b
    no-links h = other_length (e ∙ d) refl (λ f. omega arith)

    module _ {c k : ℕ} (f : c ≡ be 4 b (rows * 4 + rows * 4 + 4 + m * 12)) (g : k ≡ c) where
      pub cover-other : (length b ≡ rows * 4 + rows * 4 + 4 + m * 12 + 4 + k * 4 + k * 4 + k * 4 + k * 4 → ⊥) → broken ≡ whole (Parse.cover rows) b
      cover-other h = other_length (e ∙ d) (g ∙ f) h

      pub is-cover : length b ≡ rows * 4 + rows * 4 + 4 + m * 12 + 4 + k * 4 + k * 4 + k * 4 + k * 4
          → got (cover_in b rows (record { ranges = m; links = k })) (length b) ≡ whole (Parse.cover rows) b
      is-cover h = this-length (e ∙ d) (g ∙ f) h
