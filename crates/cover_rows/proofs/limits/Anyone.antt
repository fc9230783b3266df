-- Whether some number of a list passes a test, number by number.
use mathlib.Core.Path.{◌≡◌, refl, sym}
use mathlib.Core.Bool.{Bool, true, false, or-false}
use mathlib.Core.List.{List, [], ◌∷◌}
use Prim.Native.Nat.{ℕ, ◌≤◌, ◌<◌}
use lib.Dec.{ltb}
use borrow.Author.Tests.{lt-ltb, le-ltb, ltb-false}
use Rattle.std.specs.List.{list_any}
use Rattle.lists.specs.Lists.{any}
use Rattle.lists.proofs.Once.{or-is-false}
use Rattle.columns.specs.Refusal.{short}
use Rattle.cover.specs.Answers.{for_records}

-- the library's test and ours
pub any-listed : (p : ℕ → Bool) (xs : List ℕ) → list_any p xs ≡ any p xs
unfolding any
any-listed p [] = refl
any-listed p (x ∷ xs) = rw (any-listed p xs)

pub any_here : (m x : ℕ) (xs : List ℕ) → m < x → true ≡ any (ltb m) (x ∷ xs)
unfolding any
any_here m x xs h = rw (lt-ltb m x h)

pub any_last : (m x : ℕ) → ltb m x ≡ any (ltb m) (x ∷ [])
unfolding any
any_last m x = sym (or-false (ltb m x))

pub any-on : {t : Bool} (m x : ℕ) (xs : List ℕ) → x ≤ m → t ≡ any (ltb m) xs → t ≡ any (ltb m) (x ∷ xs)
unfolding any
any-on m x xs h e = rw (le-ltb m x h) e

pub any-nil : {A : Type 0} (p : A → Bool) → any p [] ≡ false
unfolding any
any-nil p = refl

-- ── slices lent for records ──────────────────────────────────────────────────────────────────

pub short-listed : (xs : List ℕ) → list_any (λ n. ltb n 1024) xs ≡ any short (for_records xs)
unfolding any short for_records
short-listed [] = refl
short-listed (x ∷ xs) = rw (short-listed xs)

pub short-here : (x : ℕ) (xs : List ℕ) → x < 1024 → true ≡ any short (for_records (x ∷ xs))
unfolding any short for_records
short-here x xs h = rw (lt-ltb x 1024 h)

pub short_on : {t : Bool} (x : ℕ) (xs : List ℕ) → 1024 ≤ x → t ≡ any short (for_records xs) → t ≡ any short (for_records (x ∷ xs))
unfolding any short for_records
short_on x xs h e = rw (le-ltb x 1024 h) e

pub short-last : (x : ℕ) → ltb x 1024 ≡ any short (for_records (x ∷ []))
unfolding any short for_records
short-last x = sym (or-false (ltb x 1024))

-- each slice is long enough
pub long-first : (x : ℕ) (xs : List ℕ) → any short (for_records (x ∷ xs)) ≡ false → (1024 ≤ x) × (any short (for_records xs) ≡ false)
unfolding any short for_records
long-first x xs e = let p = or-is-false (ltb x 1024) (any short (for_records xs)) e in (ltb-false x 1024 p.0, p.1)

-- each column is short enough
pub few-first : (m x : ℕ) (xs : List ℕ) → any (ltb m) (x ∷ xs) ≡ false → (x ≤ m) × (any (ltb m) xs ≡ false)
unfolding any
few-first m x xs e = let p = or-is-false (ltb m x) (any (ltb m) xs) e in (ltb-false m x p.0, p.1)
