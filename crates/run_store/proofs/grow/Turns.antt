-- One turn of each loop that grows a column, and each of their ends.
use mathlib.Core.Path.{◌≡◌, refl, sym, ◌∙◌, ap}
use mathlib.Core.Bool.{true}
use mathlib.Core.List.{List, [], ◌∷◌, ◌++◌, map, append-nil}
use Prim.Native.Nat.{ℕ, zero, suc, ◌≤◌, ◌<◌, ◌+◌, ◌-◌, ◌*◌, ◌^◌}
use native.Mathlib.Nat.{add-zero, add-suc, sub-zero, suc-mul}
use native.Mathlib.Numerals.{add-one}
use native.Mathlib.Omega.{arith}
use lib.Dec.{ltb, eqb}
use lib.ListN.{length, get_or, set, take, drop, replicate, drop_of_length-le, length-drop}
use lib.Seq.{sets, drop-cons, get_or-drop, take_all, drop-length}
use borrow.Rule.Slice.PartMut.{mid_of, post_of, put_mid, Post-is}
use mir.Syntax.{w32, w64}
use mir.Val.{Fits}
use borrow.Author.Tests.{ltb-true}
use Rattle.lists.specs.Lists.{all}
use Rattle.lists.proofs.Tests.{both}
use Rattle.columns.specs.Limits.{end32}
use Rattle.columns.specs.EdgeSet.{from_to}
use Rattle.columns.proofs.Offsets.{some-offset, inside}
use Rattle.cover.specs.Cover.{sums, sums_fit}
use Rattle.archive_bytes.specs.Bytes.{be, several, column}
use Rattle.archive_bytes.proofs.Several.{be-drop, be-front, several-none, several-cons}
use Rattle.run_store.specs.grow.Column.{Room, Small, bit}

-- ── room ─────────────────────────────────────────────────────────────────────────────────────

pub room-starts : (l p w n : ℕ) → Room l p w n → Room l p w (n - 0)
room-starts l p w n r = rw (sub-zero n) r

module _ (l p w n i : ℕ) (h : i < n) (r : Room l p w (n - i)) where
  both-room : p + ((n - (i + 1)) * w + w) ≤ l
  both-room =
      let z : n - i ≡ suc (n - (i + 1)) = omega arith in
      rw (← suc-mul (n - (i + 1)) w, ← z) r

  pub room-here : p + w ≤ l
  room-here = omega (arith, both-room)

  pub room_next : Room l (p + w) w (n - (i + 1))
  room_next = omega (arith, both-room)

  -- a number of k bytes in the thing at p
  pub number-inside : (skip k : ℕ) → skip + k ≤ w → p + skip + k ≤ l
  number-inside skip k g = omega (arith, both-room)

-- ── things one after the other ───────────────────────────────────────────────────────────────

pub put-starts : {A : Type 0} (w : ℕ) (f : List ℕ → A) (n at : ℕ) (l : List ℕ) (p : ℕ) (out : List A)
    → sets out at (several w f n (drop p l)) ≡ sets out (at + 0) (several w f (n - 0) (drop p l))
put-starts w f n at l p out = rw (sub-zero, add-zero)

module _ {A : Type 0} (w : ℕ) (f : List ℕ → A) (n i at : ℕ) (l : List ℕ) (p : ℕ) {t : List A} (out : List A)
    (e : t ≡ sets out (at + i) (several w f (n - i) (drop p l))) where
  pub all-put : n ≤ i → out ≡ t
  all-put h = rw (e, several-none w f n i l p h)

  pub one-put : (v : A) → i < n → v ≡ f (drop p l) → t ≡ sets (set out (at + i) v) (at + (i + 1)) (several w f (n - (i + 1)) (drop (p + w) l))
  one-put v h g = rw (e, several-cons w f n i l p h, g, add-one, add-suc)

module _ {A : Type 0} (w n i at : ℕ) (l : List ℕ) (p : ℕ) {t : List A} (out : List A) (h : i < n) where
  pub number_put : (held : List ℕ → ℕ → A) → ((l : List ℕ) (p k : ℕ) → held (drop p l) k ≡ held l (p + k)) → (skip : ℕ) {v : A}
      → t ≡ sets out (at + i) (several w (λ l. held l skip) (n - i) (drop p l)) → v ≡ held l (p + skip)
      → t ≡ sets (set out (at + i) v) (at + (i + 1)) (several w (λ l. held l skip) (n - (i + 1)) (drop (p + w) l))
  number_put held behind skip {v} e g = one-put w (λ l. held l skip) n i at l p out e v h (rw (behind l p skip) g)

module _ (w n i at : ℕ) (l : List ℕ) (p : ℕ) {t : List ℕ} (out : List ℕ) (h : i < n) where
  pub flag-put : {v : ℕ} → t ≡ sets out (at + i) (several w (λ l. bit (eqb (get_or l 0 0) 1)) (n - i) (drop p l)) → v ≡ bit (eqb (get_or l p 0) 1)
      → t ≡ sets (set out (at + i) v) (at + (i + 1)) (several w (λ l. bit (eqb (get_or l 0 0) 1)) (n - (i + 1)) (drop (p + w) l))
  flag-put {v} e g = one-put w (λ l. bit (eqb (get_or l 0 0) 1)) n i at l p out e v h (rw (get_or-drop p l 0 0, add-zero p) g)

  pub moved-put : (add skip : ℕ) {v : ℕ} → t ≡ sets out (at + i) (several w (λ l. add + be 8 l skip) (n - i) (drop p l)) → v ≡ be 8 l (p + skip)
      → t ≡ sets (set out (at + i) (add + v)) (at + (i + 1)) (several w (λ l. add + be 8 l skip) (n - (i + 1)) (drop (p + w) l))
  moved-put add skip {v} e g = one-put w (λ l. add + be 8 l skip) n i at l p out e (add + v) h (rw (be-drop 8 l p skip) (ap (λ x. add + x) g))

pub small-starts : (w skip n : ℕ) (l : List ℕ) (p : ℕ) → Small (several w (λ l. be 8 l skip) n (drop p l)) → Small (several w (λ l. be 8 l skip) (n - 0) (drop p l))
small-starts w skip n l p s = rw (sub-zero n) s

module _ (w skip n i : ℕ) (l : List ℕ) (p : ℕ) (h : i < n) (s : Small (several w (λ l. be 8 l skip) (n - i) (drop p l))) where
  small-parts : (be 8 (drop p l) skip ≤ 1024) × Small (several w (λ l. be 8 l skip) (n - (i + 1)) (drop (p + w) l))
  small-parts = rw (several-cons w (λ l. be 8 l skip) n i l p h) at s

  pub small-fits : (add v : ℕ) → add ≤ 1024 → v ≡ be 8 l (p + skip) → Fits w64 (add + v)
  small-fits add v k g = record { fits = omega (arith, small-parts.0, be-drop 8 l p skip) }

  pub small-next : Small (several w (λ l. be 8 l skip) (n - (i + 1)) (drop (p + w) l))
  small-next = small-parts.1

-- ── the same byte ────────────────────────────────────────────────────────────────────────────

pub fill-starts : (out : List ℕ) (at n x : ℕ) → sets out at (replicate n x) ≡ sets out (at + 0) (replicate (n - 0) x)
fill-starts out at n x = rw (sub-zero, add-zero)

module _ (at n i x : ℕ) {t : List ℕ} (out : List ℕ) (e : t ≡ sets out (at + i) (replicate (n - i) x)) where
  pub all-filled : n ≤ i → out ≡ t
  all-filled h = let z : n - i ≡ 0 = omega arith in rw (e, z)

  pub one-filled : i < n → t ≡ sets (set out (at + i) x) (at + (i + 1)) (replicate (n - (i + 1)) x)
  one-filled h = let z : n - i ≡ suc (n - (i + 1)) = omega arith in rw (e, z, add-one, add-suc)

-- ── sums ─────────────────────────────────────────────────────────────────────────────────────

pub sums-start : (out : List ℕ) (at n : ℕ) (l : List ℕ) (p : ℕ) → sets out at (sums 0 (column 4 n l p)) ≡ sets out (at + 0) (sums 0 (column 4 (n - 0) l p))
sums-start out at n l p = rw (sub-zero, add-zero)

-- the sums that are left fit
abbrev pub Fitting : ℕ → List ℕ → Type 0
Fitting sum ds = all (λ s. ltb s end32) (sums sum ds) ≡ true

pub fitting-starts : (n : ℕ) (l : List ℕ) (p : ℕ) → sums_fit (column 4 n l p) ≡ true → Fitting 0 (column 4 (n - 0) l p)
unfolding sums_fit
fitting-starts n l p e = rw (sub-zero n) e

module _ (n i sum : ℕ) (l : List ℕ) (p : ℕ) {v : ℕ} (h : i < n) (g : v ≡ be 4 l p) where
  next-is : column 4 (n - i) l p ≡ v ∷ column 4 (n - (i + 1)) l (p + 4)
  next-is = rw (several-cons 4 (λ l. be 4 l 0) n i l p h, be-front 4 l p, g)

  module _ (f : Fitting sum (column 4 (n - i) l p)) where
    sum-parts : (ltb (sum + v) end32 ≡ true) × Fitting (sum + v) (column 4 (n - (i + 1)) l (p + 4))
    unfolding sums all
    sum-parts = both (ltb (sum + v) end32) _ (rw next-is at f)

    pub sum_below : sum + v < 2 ^ 32
    sum_below = ltb-true (sum + v) end32 sum-parts.0

    pub sum-short : Fits w32 (sum + v)
    sum-short = record { fits = sum_below }

    pub sum_fits : Fits w64 (sum + v)
    sum_fits = record { fits = omega (arith, sum_below) }

    pub fitting-next : Fitting (sum + v) (column 4 (n - (i + 1)) l (p + 4))
    fitting-next = sum-parts.1

  pub one-summed : (at : ℕ) {t : List ℕ} (out : List ℕ) → t ≡ sets out (at + i) (sums sum (column 4 (n - i) l p))
      → t ≡ sets (set out (at + i) (sum + v)) (at + (i + 1)) (sums (sum + v) (column 4 (n - (i + 1)) l (p + 4)))
  unfolding sums
  one-summed at out e = rw (e, next-is, add-one i, add-suc at i)

pub all-summed : (n i sum : ℕ) (l : List ℕ) (p at : ℕ) {t : List ℕ} (out : List ℕ) → t ≡ sets out (at + i) (sums sum (column 4 (n - i) l p)) → n ≤ i → out ≡ t
unfolding sums
all-summed n i sum l p at out e h = rw (e, several-none 4 (λ l. be 4 l 0) n i l p h)

-- ── a subject ────────────────────────────────────────────────────────────────────────────────

pub subject-starts : (out : List ℕ) (n : ℕ) (l : List ℕ) (p : ℕ) → sets out 0 (take n (drop p l)) ≡ sets out 0 (take (n - 0) (drop (p + 0) l))
subject-starts out n l p = rw (sub-zero, add-zero)

module _ (n i : ℕ) (l : List ℕ) (p : ℕ) {t : List ℕ} (out : List ℕ) (e : t ≡ sets out i (take (n - i) (drop (p + i) l))) where
  pub subject-put : n ≤ i → out ≡ t
  subject-put h = let z : n - i ≡ 0 = omega arith in rw (e, z)

  pub subject-more : i < n → p + n ≤ length l → t ≡ sets (set out i (get_or l (p + i) 0)) (i + 1) (take (n - (i + 1)) (drop (p + (i + 1)) l))
  subject-more h k =
      let z : n - i ≡ suc (n - (i + 1)) = omega arith in
      let m : p + i < length l = omega arith in
      rw (e, z, drop-cons l (p + i) 0 m, add-one, add-suc)

-- ── offsets ──────────────────────────────────────────────────────────────────────────────────

pub offsets-start : (count : ℕ) (os : List ℕ) → from_to 0 count os ≡ true → 1 ≤ length os
offsets-start count os e = some-offset count os e

module _ (at add i : ℕ) (os : List ℕ) {t : List ℕ} (out : List ℕ) (e : t ≡ sets out (at + i) (map (λ o. add + o) (drop i os))) where
  pub offsets-put : length os ≤ i → out ≡ t
  offsets-put h = rw (e, drop_of_length-le os {i = i} h)

  pub offset-more : i < length os → t ≡ sets (set out (at + i) (add + get_or os i 0)) (at + (i + 1)) (map (λ o. add + o) (drop (i + 1) os))
  offset-more h = rw (e, drop-cons os i 0 h, add-one, add-suc)

pub offset-fits : (count add i : ℕ) (os : List ℕ) → from_to 0 count os ≡ true → add + count ≤ 4096 → 1 ≤ i → i < length os → Fits w64 (add + get_or os i 0)
offset-fits count add i os e k a h =
    let z : i - 1 + 1 ≡ i = omega arith in
    let q : get_or os i 0 ≤ count = inside count os e (i - 1) (rw z h) (get_or os (i - 1) 0) (get_or os i 0) refl (rw z refl) in
    record { fits = omega arith }

-- ── targets ──────────────────────────────────────────────────────────────────────────────────

sets-cons : {A : Type 0} (x : A) (xs : List A) (i : ℕ) (vs : List A) → sets (x ∷ xs) (suc i) vs ≡ x ∷ sets xs i vs
sets-cons x xs i [] = refl
sets-cons x xs i (v ∷ vs) = sets-cons x (set xs i v) (suc i) vs

sets-nil : {A : Type 0} (i : ℕ) (vs : List A) → sets [] i vs ≡ []
sets-nil i [] = refl
sets-nil i (v ∷ vs) = sets-nil (suc i) vs

-- what is written to a part that starts at a place is written from that place on
sets_behind : {A : Type 0} (l : List A) (at : ℕ) (vs : List A) → take at l ++ sets (drop at l) 0 vs ≡ sets l at vs
sets_behind l zero vs = refl
sets_behind [] (suc at) vs = sets-nil 0 vs ∙ sym (sets-nil (suc at) vs)
sets_behind (x ∷ xs) (suc at) vs = ap (λ l. x ∷ l) (sets_behind xs at vs) ∙ sym (sets-cons x xs at vs)

-- the whole when a part that starts at a place is back
pub part-back : {q : List ℕ} (l : List ℕ) (at : ℕ) (vs : List ℕ) → at ≤ length l → q ≡ sets (mid_of at (length l - at) l) 0 vs → put_mid at (length l - at) l q ≡ sets l at vs
part-back {q} l at vs h e =
    let post : post_of at (length l - at) l ≡ [] = Post-is at (length l) l h ∙ drop-length l in
    let mid : mid_of at (length l - at) l ≡ drop at l = take_all (length l - at) (drop at l) (simp length-drop (omega arith)) in
    ap (λ z. take at l ++ (q ++ z)) post ∙ ap (λ z. take at l ++ z) (append-nil q) ∙ ap (λ z. take at l ++ z) (e ∙ ap (λ z. sets z 0 vs) mid) ∙ sets_behind l at vs
