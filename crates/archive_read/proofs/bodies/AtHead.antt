-- The head of a record, and record 1: each answer of the functions that read them.
use mathlib.Core.Path.{◌≡◌, refl, ap}
use mathlib.Core.Bool.{Bool, true, false, not, and-false}
use mathlib.Core.List.{List}
use Prim.Native.Nat.{ℕ, ◌≤◌, ◌<◌, ◌+◌, ◌-◌}
use native.Mathlib.Omega.{arith}
use lib.Dec.{eqb}
use lib.ListN.{length, get_or}
use borrow.Author.Tests.{le-leb, lt-leb, eq-eqb, ne_eqb, not-true, not-false}
use Rattle.archive.specs.Bytes.{be}
use Rattle.archive.specs.Reader.{broken, got, ◌>>=◌, whole, body}
use Rattle.archive.specs.Parse
use Rattle.archive.specs.Parse.{head_end, depth_flag_ok}
use Rattle.archive_read.specs.bodies.View.{body_in, head_in}

-- ── the head of a record ─────────────────────────────────────────────────────────────────────

module _ (l : List ℕ) (p kind : ℕ) where
  pub out-of-bytes : length l < p + 6 → broken ≡ body kind l p
  unfolding body ◌>>=◌
  out-of-bytes h = rw (lt-leb (p + 4 + 1 + 1 + (be 4 l p - 2)) (length l) (omega arith), and-false)

  pub starts-late : length l < p → broken ≡ body kind l p
  starts-late h = out-of-bytes (omega arith)

  pub no_start : p ≤ length l → length l - p < 6 → broken ≡ body kind l p
  no_start h k = out-of-bytes (omega arith)

  module _ {m n : ℕ} (d : m ≡ be 4 l p) (e : n ≡ m) where
    pub too_small : n < 2 → broken ≡ body kind l p
    unfolding body ◌>>=◌
    too_small f = rw (← d, ← e, lt-leb 2 n f)

    pub too_long : p ≤ length l → 6 ≤ length l - p → length l - p - 6 < n - 2 → broken ≡ body kind l p
    unfolding body ◌>>=◌
    too_long h k f = rw (← d, ← e, lt-leb (p + 4 + 1 + 1 + (n - 2)) (length l) (omega arith), and-false)

    module _ (f : 2 ≤ n) (g₁ : p ≤ length l) (g₂ : 6 ≤ length l - p) (g₃ : n - 2 ≤ length l - p - 6) where
      pub no-version : (get_or l (p + 4) 0 ≡ 1 → ⊥) → broken ≡ body kind l p
      unfolding body ◌>>=◌
      no-version h = rw (← d, ← e, le-leb 2 n f, ne_eqb (get_or l (p + 4) 0) 1 h)

      module _ (h : get_or l (p + 4) 0 ≡ 1) where
        z : get_or l (p + 4 + 1) 0 ≡ get_or l (p + 5) 0
        z = ap (λ i. get_or l i 0) (omega arith)

        pub no_kind : (get_or l (p + 5) 0 ≡ kind → ⊥) → broken ≡ body kind l p
        unfolding body ◌>>=◌
        no_kind k = rw (← d, ← e, le-leb 2 n f, h, z, ne_eqb (get_or l (p + 5) 0) kind k)

        pub is_body : get_or l (p + 5) 0 ≡ kind → got (body_in l (p + 6) (p + 6 + (n - 2))) (p + 6 + (n - 2)) ≡ body kind l p
        unfolding body ◌>>=◌
        is_body k =
            let y : p + 4 + 1 + 1 ≡ p + 6 = omega arith in
            let x : p + 6 + (n - 2) - (p + 6) ≡ n - 2 = omega arith in
            rw (← d, ← e, le-leb 2 n f, h, z, eq-eqb (get_or l (p + 5) 0) kind k, y, le-leb (p + 6 + (n - 2)) (length l) (omega arith), x)

-- ── 1 file ───────────────────────────────────────────────────────────────────────────────────

module _ (flag low high : ℕ) where
  pub flag_one : flag ≡ 1 → true ≡ depth_flag_ok flag low high
  unfolding depth_flag_ok
  flag_one e = rw e

  module _ (g : flag ≡ 1 → ⊥) where
    pub flag-wrong : (flag ≡ 0 → ⊥) → false ≡ depth_flag_ok flag low high
    unfolding depth_flag_ok
    flag-wrong h = rw (ne_eqb flag 1 g, ne_eqb flag 0 h)

    module _ (h : flag ≡ 0) where
      pub low-wrong : (low ≡ 0 → ⊥) → false ≡ depth_flag_ok flag low high
      unfolding depth_flag_ok
      low-wrong k = rw (ne_eqb flag 1 g, eq-eqb flag 0 h, ne_eqb low 0 k)

      pub high-test : low ≡ 0 → eqb high 0 ≡ depth_flag_ok flag low high
      unfolding depth_flag_ok
      high-test k = rw (ne_eqb flag 1 g, eq-eqb flag 0 h, k)

module _ (b : List ℕ) where
  pub not-exact : {s : ℕ} → s ≡ get_or b 13 0 → (length b ≡ 14 + s + 1 + 8 + 8 → ⊥) → broken ≡ whole Parse.head b
  unfolding whole Parse.head head_end ◌>>=◌
  not-exact {s} d h = go (depth_flag_ok (get_or b (14 + s) 0) (be 8 b (14 + s + 1)) (be 8 b (14 + s + 1 + 8))) refl
    where
      go : (t : Bool) → depth_flag_ok (get_or b (14 + s) 0) (be 8 b (14 + s + 1)) (be 8 b (14 + s + 1 + 8)) ≡ t → broken ≡ whole Parse.head b
      go true e = rw (← d, e, ne_eqb (length b) (14 + s + 1 + 8 + 8) h)
      go false e = rw (← d, e)

  pub too_short : length b < 31 → broken ≡ whole Parse.head b
  too_short h = not-exact refl (λ e. omega arith)

  module _ {s low high : ℕ} {ok : Bool} (d : s ≡ get_or b 13 0) (h : length b ≡ 14 + s + 1 + 8 + 8) (e : low ≡ be 8 b (14 + s + 1)) (f : high ≡ be 8 b (14 + s + 1 + 8))
      (g : ok ≡ depth_flag_ok (get_or b (14 + s) 0) low high) where
    pub bad-depth : not ok ≡ true → broken ≡ whole Parse.head b
    unfolding whole Parse.head head_end ◌>>=◌
    bad-depth k = rw (← d, ← e, ← f, ← g, not-true ok k)

    pub is-head : {first rows : ℕ} → not ok ≡ false → first ≡ be 8 b 0 → rows ≡ be 4 b 8
        → got (head_in b (record { first = first; rows = rows; group = get_or b 12 0; subject = s; flag = get_or b (14 + s) 0; least = low; greatest = high })) (length b) ≡ whole Parse.head b
    unfolding whole Parse.head head_end head_in ◌>>=◌
    is-head k m n = rw (← d, ← e, ← f, ← g, not-false ok k, ← m, ← n, eq-eqb (length b) (14 + s + 1 + 8 + 8) h, h)
