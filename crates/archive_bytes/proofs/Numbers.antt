-- A number of w bytes and its bytes say each other, and so do a signed number of 64 bits and its unsigned one.
use mathlib.Core.Path.{◌≡◌, refl, sym, ◌∙◌, ap}
use mathlib.Core.Bool.{Bool, true, false}
use mathlib.Core.List.{List, [], ◌∷◌, ◌++◌, map}
use Prim.Native.Nat.{ℕ, zero, suc, ◌≤◌, ◌<◌, ◌+◌, ◌-◌, ◌*◌, ◌/◌, ◌%◌, ◌^◌}
use native.Mathlib.Nat.{add_assoc, add-zero, zero-add, pow-suc, div-lt_iff_lt-mul, div-add-mod'}
use native.Mathlib.Numerals.{add-one}
use native.Mathlib.Omega.{arith}
use lib.Dec.{ltb}
use lib.ListN.{length, take, drop, get_or, length-append, length-drop, get_or-append}
use lib.Seq.{get_or-append-add, get_or_at, get_or-drop, take-suc}
use lib.IntN.{ℤ, pos, negsuc}
use mir.Syntax.{w64}
use mir.Val.{SFits}
use borrow.Author.Tests.{lt-ltb, le-ltb, ltb-true, ltb-false}
use Rattle.lists.specs.Lists.{Each}
use Rattle.columns.specs.Limits.{end64}
use Rattle.archive_bytes.specs.Bytes.{be, bytes_of, signed_of, unsigned_of, Wide}

-- ── from a number to its bytes and back ──────────────────────────────────────────────────────

pub length-bytes_of : (w n : ℕ) → length (bytes_of w n) ≡ w
unfolding bytes_of
length-bytes_of zero n = refl
length-bytes_of (suc w) n = rw (length-append, length-bytes_of w (n / 256), add-one)

pub be-skip : (w : ℕ) (xs ys : List ℕ) (p : ℕ) → be w (xs ++ ys) (length xs + p) ≡ be w ys p
unfolding be
be-skip zero xs ys p = refl
be-skip (suc w) xs ys p = rw (be-skip w xs ys p, add_assoc (length xs) p w, get_or-append-add xs ys (p + w) 0)

be-front : (w : ℕ) (xs ys : List ℕ) (p : ℕ) → p + w ≤ length xs → be w (xs ++ ys) p ≡ be w xs p
unfolding be
be-front zero xs ys p h = refl
be-front (suc w) xs ys p h = rw (be-front w xs ys p (omega arith), get_or-append xs ys 0 (p + w) (omega arith))

be-bytes_of : (w n : ℕ) → n < 256 ^ w → be w (bytes_of w n) 0 ≡ n
unfolding be bytes_of
be-bytes_of zero n h = omega arith
be-bytes_of (suc w) n h =
    let k : n < 256 ^ w * 256 = rw (pow-suc 256 w) at h in
    let q : n / 256 < 256 ^ w = (div-lt_iff_lt-mul {k = 256} (omega arith)).1 k in
    let z : 0 + w ≤ length (bytes_of w (n / 256)) = rw (length-bytes_of w (n / 256)) (omega arith) in
    rw (
      be-front w (bytes_of w (n / 256)) ((n % 256) ∷ []) 0 z,
      be-bytes_of w (n / 256) q,
      get_or_at (bytes_of w (n / 256)) (n % 256) [] 0 (0 + w) (length-bytes_of w (n / 256) ∙ sym (zero-add w)),
    )
    (div-add-mod' n 256)

-- wherever the bytes of a number stand, the number is read
pub be-at : (w n : ℕ) (pre post : List ℕ) → n < 256 ^ w → be w (pre ++ (bytes_of w n ++ post)) (length pre) ≡ n
be-at w n pre post h =
    ap (be w (pre ++ (bytes_of w n ++ post))) (sym (add-zero (length pre))) ∙ be-skip w pre (bytes_of w n ++ post) 0
    ∙ be-front w (bytes_of w n) post 0 (rw (length-bytes_of w n) (omega arith)) ∙ be-bytes_of w n h

-- ── from bytes to their number and back ──────────────────────────────────────────────────────

-- each is a byte
abbrev pub AllBytes : List ℕ → Type 0
AllBytes l = Each (λ b. b < 256) l

pub get_or-small : (l : List ℕ) (i : ℕ) → AllBytes l → get_or l i 0 < 256
get_or-small [] i h = omega arith
get_or-small (b ∷ l) zero h = h.0
get_or-small (b ∷ l) (suc i) h = get_or-small l i h.1

module _ (l : List ℕ) (h : AllBytes l) (p : ℕ) where
  pub be-small : (w : ℕ) → be w l p < 256 ^ w
  unfolding be
  be-small zero = omega arith
  be-small (suc w) = rw (pow-suc 256 w) (omega (arith, be-small w, get_or-small l (p + w) h))

  pub bytes_of-be : (w : ℕ) → p + w ≤ length l → bytes_of w (be w l p) ≡ take w (drop p l)
  unfolding be bytes_of
  bytes_of-be zero k = refl
  bytes_of-be (suc w) k =
      let b = get_or-small l (p + w) h in
      let d : (be w l p * 256 + get_or l (p + w) 0) / 256 ≡ be w l p = omega arith in
      let m : (be w l p * 256 + get_or l (p + w) 0) % 256 ≡ get_or l (p + w) 0 = omega arith in
      rw (d, m, bytes_of-be w (omega arith), take-suc (drop p l) w 0 (rw (length-drop p l) (omega arith)), get_or-drop)

-- ── signed numbers ───────────────────────────────────────────────────────────────────────────

pub signed_back : (d : ℤ) → SFits w64 d → signed_of (unsigned_of d) ≡ d
unfolding signed_of unsigned_of
signed_back (pos n) s = rw (lt-ltb n (2 ^ 63) s.sfits)
signed_back (negsuc n) s =
    let h = s.sfits in
    let z : end64 - 1 - (end64 - 1 - n) ≡ n = omega arith in
    rw (le-ltb (end64 - 1 - n) (2 ^ 63) (omega arith), z)

pub unsigned-fits : (d : ℤ) → SFits w64 d → unsigned_of d < 256 ^ 8
unfolding unsigned_of
unsigned-fits (pos n) s = let h = s.sfits in omega arith
unsigned-fits (negsuc n) s = let h = s.sfits in omega arith

pub signed_all : (ds : List ℤ) → Each (λ d. SFits w64 d) ds → map signed_of (map unsigned_of ds) ≡ ds
signed_all [] h = refl
signed_all (d ∷ ds) h = rw (signed_back d h.0, signed_all ds h.1)

pub unsigned-all : (ds : List ℤ) → Each (λ d. SFits w64 d) ds → Wide 8 (map unsigned_of ds)
unsigned-all [] h = tt
unsigned-all (d ∷ ds) h = (unsigned-fits d h.0, unsigned-all ds h.1)

pub unsigned_back : (n : ℕ) → n < 256 ^ 8 → (unsigned_of (signed_of n) ≡ n) × SFits w64 (signed_of n)
unfolding signed_of unsigned_of
unsigned_back n h = go (ltb n (2 ^ 63)) refl
  where
    go : (b : Bool) → ltb n (2 ^ 63) ≡ b → (unsigned_of (signed_of n) ≡ n) × SFits w64 (signed_of n)
    go true e = rw e (refl, record { sfits = ltb-true n (2 ^ 63) e })
    go false e = let k = ltb-false n (2 ^ 63) e in rw e (omega arith, record { sfits = omega arith })

pub unsigned-all-back : (xs : List ℕ) → Wide 8 xs → (map unsigned_of (map signed_of xs) ≡ xs) × Each (λ d. SFits w64 d) (map signed_of xs)
unsigned-all-back [] h = (refl, tt)
unsigned-all-back (x ∷ xs) h =
    let a = unsigned_back x h.0 in
    let b = unsigned-all-back xs h.1 in
    (rw (a.0, b.0), (a.1, b.1))
