-- Records in parallel columns: what a test of one part says of the part, what the tests say of a record, and one turn over the records.
use Rattle.std.specs.Prelude.{Err, Ok, Result}
use mathlib.Core.Path.{◌≡◌, refl}
use mathlib.Core.Bool.{Bool, true, false, not}
use mathlib.Core.Logic.{inl, inr}
use mathlib.Core.List.{List, [], ◌∷◌}
use mathlib.Core.Option.{Option, none, some}
use Prim.Native.Nat.{ℕ, zero, suc, ◌+◌, ◌-◌, ◌≤◌, ◌<◌}
use native.Mathlib.Numerals.{add-one}
use native.Mathlib.Nat.{not-suc-le-zero, le_of_suc-le-suc}
use native.Mathlib.Omega.{arith}
use lib.Dec.{ltb, leb, eqb}
use lib.ListN.{length, get_or, get_elem?}
use borrow.Author.Tests.{lt-ltb, le-ltb, le-leb, lt-leb, leb-true, leb-false, not-true, not-false}
use Rattle.lists.specs.Lists.{up_from}
use Rattle.lists.proofs.Tests.{tested}
use Rattle.lists.proofs.Once.{eqb-sym}
use Rattle.columns.specs.Limits.{kinds}
use Rattle.columns.specs.Refusal.{first_of, first_in}
use Rattle.columns.specs.Building.{has, in_file, greater, unresolved_rules, inbound_rules}
use Rattle.columns.specs.Answers.{ruling}
use Rattle.columns_rules.specs.records.Recorded.{unresolved_from, inbound_from}
use Rattle.columns.specs.declared.refusal.Refusal.{Refusal}
use Rattle.columns.specs.declared.refusal.Refusal.TheVariants.{UnresolvedChild, UnresolvedKind, InboundChild, InboundParent}
use Rattle.columns.proofs.Told.{told, told-kept}

-- ── a part of a record ───────────────────────────────────────────────────────────────────────

pub there : (l : List ℕ) (i : ℕ) → i < length l → get_elem? l i ≡ some (get_or l i 0)
there [] i h = absurd (not-suc-le-zero h)
there (x ∷ xs) zero h = refl
there (x ∷ xs) (suc i) h = there xs i (le_of_suc-le-suc h)

pub nothing-there : (l : List ℕ) (i : ℕ) → length l ≤ i → get_elem? l i ≡ none
nothing-there [] i h = refl
nothing-there (x ∷ xs) zero h = absurd (not-suc-le-zero h)
nothing-there (x ∷ xs) (suc i) h = nothing-there xs i (le_of_suc-le-suc h)

pub no_part : (p : ℕ → Bool) (l : List ℕ) (i : ℕ) → length l ≤ i → false ≡ has p (get_elem? l i)
unfolding has
no_part p l i h = rw (nothing-there l i h)

module _ (l : List ℕ) (i : ℕ) (h : i < length l) where
  pub kind-part : ltb (get_or l i 0) 2 ≡ has (λ k. ltb k kinds) (get_elem? l i)
  unfolding has
  kind-part = rw (there l i h)

  pub zero-part : eqb (get_or l i 0) 0 ≡ has (eqb 0) (get_elem? l i)
  unfolding has
  zero-part = rw (there l i h) (eqb-sym (get_or l i 0) 0)

  pub file-part : (first end : ℕ) {r : Bool} → r ≡ in_file first end (get_or l i 0) → r ≡ has (in_file first end) (get_elem? l i)
  unfolding has
  file-part first end e = rw (there l i h) e

  module _ (first rows : ℕ) where
    pub early-part : get_or l i 0 < first → false ≡ has (leb (first + rows)) (get_elem? l i)
    unfolding has
    early-part k = rw (there l i h, lt-leb (first + rows) (get_or l i 0) (omega arith))

    pub past-part : first ≤ get_or l i 0 → leb rows (get_or l i 0 - first) ≡ has (leb (first + rows)) (get_elem? l i)
    unfolding has
    past-part k =
        rw (there l i h) (elim (tested (leb rows (get_or l i 0 - first))) [
          | inl e ↦ rw (e, le-leb (first + rows) (get_or l i 0) (omega (arith, leb-true rows (get_or l i 0 - first) e)))
          | inr e ↦ rw (e, lt-leb (first + rows) (get_or l i 0) (omega (arith, leb-false rows (get_or l i 0 - first) e)))
        ])

pub larger-second : (a b : ℕ) → a < b → b ≡ greater a b
unfolding greater
larger-second a b h = rw (lt-ltb a b h)

pub larger-first : (a b : ℕ) → b ≤ a → a ≡ greater a b
unfolding greater
larger-first a b h = rw (le-ltb a b h)

pub longest-says : (a b c n : ℕ) {r : ℕ} → r ≡ greater a n → n ≡ greater b c → r ≡ greater a (greater b c)
longest-says a b c n e f = cc

-- ── a record ─────────────────────────────────────────────────────────────────────────────────

module _ (first end : ℕ) (child kind flag : Option ℕ) {a : Bool} (e : a ≡ has (in_file first end) child) where
  pub child-bad : not a ≡ true → Err UnresolvedChild ≡ ruling (unresolved_rules first end child kind flag)
  unfolding unresolved_rules first_of
  child-bad p = rw (← e, not-true a p)

  module _ (p : not a ≡ false) {b : Bool} (f : b ≡ has (λ k. ltb k kinds) kind) where
    pub kind-bad : not b ≡ true → Err UnresolvedKind ≡ ruling (unresolved_rules first end child kind flag)
    unfolding unresolved_rules first_of
    kind-bad q = rw (← e, not-false a p, ← f, not-true b q)

    module _ (q : not b ≡ false) {d : Bool} (g : d ≡ has (eqb 0) flag) where
      pub flag-bad : not d ≡ true → Err UnresolvedKind ≡ ruling (unresolved_rules first end child kind flag)
      unfolding unresolved_rules first_of
      flag-bad r = rw (← e, not-false a p, ← f, not-false b q, ← g, not-true d r)

      pub record-kept : not d ≡ false → (Ok tt) ≡ ruling (unresolved_rules first end child kind flag)
      unfolding unresolved_rules first_of
      record-kept r = rw (← e, not-false a p, ← f, not-false b q, ← g, not-false d r)

module _ (first end : ℕ) (child parent kind : Option ℕ) {a : Bool} (e : a ≡ has (leb end) child) where
  pub in-child-bad : not a ≡ true → Err InboundChild ≡ ruling (inbound_rules kinds first end child parent kind)
  unfolding inbound_rules first_of
  in-child-bad p = rw (← e, not-true a p)

  module _ (p : not a ≡ false) {b : Bool} (f : b ≡ has (in_file first end) parent) where
    pub in-parent-bad : not b ≡ true → Err InboundParent ≡ ruling (inbound_rules kinds first end child parent kind)
    unfolding inbound_rules first_of
    in-parent-bad q = rw (← e, not-false a p, ← f, not-true b q)

    module _ (q : not b ≡ false) {d : Bool} (g : d ≡ has (λ k. ltb k kinds) kind) where
      pub in-kind-bad : not d ≡ true → Err InboundParent ≡ ruling (inbound_rules kinds first end child parent kind)
      unfolding inbound_rules first_of
      in-kind-bad r = rw (← e, not-false a p, ← f, not-false b q, ← g, not-true d r)

      pub edge_kept : not d ≡ false → (Ok tt) ≡ ruling (inbound_rules kinds first end child parent kind)
      unfolding inbound_rules first_of
      edge_kept r = rw (← e, not-false a p, ← f, not-false b q, ← g, not-false d r)

-- ── record after record ──────────────────────────────────────────────────────────────────────

module _ (f : ℕ → Option Refusal) (i n : ℕ) (h : i < n) where
  pub first-here : first_in f (up_from i (n - i)) ≡ first_of (f i ∷ first_in f (up_from (i + 1) (n - (i + 1))) ∷ [])
  unfolding first_in up_from
  first-here = let z : n - i ≡ suc (n - (i + 1)) = omega arith in rw (z, add-one)

module _ (f : ℕ → Option Refusal) (i n : ℕ) {t : Result (Unit {0}) Refusal} (e : t ≡ ruling (first_in f (up_from i (n - i)))) where
  pub records-done : n ≤ i → (Ok tt) ≡ t
  unfolding first_in up_from
  records-done h = let z : n - i ≡ 0 = omega arith in rw (e, z)

  module _ (h : i < n) {r : Result (Unit {0}) Refusal} (k : r ≡ ruling (f i)) where
    pub record-stop : {x : Refusal} → r ≡ Err x → Err x ≡ t
    unfolding first_of
    record-stop g = rw (e, first-here f i n h, told (f i) k g)

    pub records-on : r ≡ Ok tt → t ≡ ruling (first_in f (up_from (i + 1) (n - (i + 1))))
    unfolding first_of
    records-on g =
        let z : first_of (first_in f (up_from (i + 1) (n - (i + 1))) ∷ []) ≡ first_in f (up_from (i + 1) (n - (i + 1))) = only (first_in f (up_from (i + 1) (n - (i + 1)))) in
        rw (e, first-here f i n h, told-kept (f i) k g, z)
      where
        only : (o : Option Refusal) → first_of (o ∷ []) ≡ o
        only none = refl
        only (some x) = refl

module _ (first end : ℕ) (cs ks fs : List ℕ) (i n : ℕ) {t : Result (Unit {0}) Refusal} (e : t ≡ ruling (unresolved_from first end cs ks fs i (n - i))) where
  pub unresolved-done : n ≤ i → (Ok tt) ≡ t
  unfolding unresolved_from
  unresolved-done h = records-done (λ j. unresolved_rules first end (get_elem? cs j) (get_elem? ks j) (get_elem? fs j)) i n e h

  module _ (h : i < n) {r : Result (Unit {0}) Refusal} (k : r ≡ ruling (unresolved_rules first end (get_elem? cs i) (get_elem? ks i) (get_elem? fs i))) where
    pub unresolved-stop : {x : Refusal} → r ≡ Err x → Err x ≡ t
    unfolding unresolved_from
    unresolved-stop g = record-stop (λ j. unresolved_rules first end (get_elem? cs j) (get_elem? ks j) (get_elem? fs j)) i n e h k g

    pub unresolved-on : r ≡ Ok tt → t ≡ ruling (unresolved_from first end cs ks fs (i + 1) (n - (i + 1)))
    unfolding unresolved_from
    unresolved-on g = records-on (λ j. unresolved_rules first end (get_elem? cs j) (get_elem? ks j) (get_elem? fs j)) i n e h k g

module _ (first end : ℕ) (cs ps ks : List ℕ) (i n : ℕ) {t : Result (Unit {0}) Refusal} (e : t ≡ ruling (inbound_from first end cs ps ks i (n - i))) where
  pub inbound-done : n ≤ i → (Ok tt) ≡ t
  unfolding inbound_from
  inbound-done h = records-done (λ j. inbound_rules kinds first end (get_elem? cs j) (get_elem? ps j) (get_elem? ks j)) i n e h

  module _ (h : i < n) {r : Result (Unit {0}) Refusal} (k : r ≡ ruling (inbound_rules kinds first end (get_elem? cs i) (get_elem? ps i) (get_elem? ks i))) where
    pub inbound-stop : {x : Refusal} → r ≡ Err x → Err x ≡ t
    unfolding inbound_from
    inbound-stop g = record-stop (λ j. inbound_rules kinds first end (get_elem? cs j) (get_elem? ps j) (get_elem? ks j)) i n e h k g

    pub inbound-on : r ≡ Ok tt → t ≡ ruling (inbound_from first end cs ps ks (i + 1) (n - (i + 1)))
    unfolding inbound_from
    inbound-on g = records-on (λ j. inbound_rules kinds first end (get_elem? cs j) (get_elem? ps j) (get_elem? ks j)) i n e h k g

-- all records, counted by the length that was found
pub unresolved-all : (first end : ℕ) (cs ks fs : List ℕ) (n m : ℕ) → n ≡ m
    → ruling (unresolved_from first end cs ks fs 0 m) ≡ ruling (unresolved_from first end cs ks fs 0 (n - 0))
unresolved-all first end cs ks fs n m e = let z : n - 0 ≡ m = omega arith in rw z

pub inbound-all : (first end : ℕ) (cs ps ks : List ℕ) (n m : ℕ) → n ≡ m
    → ruling (inbound_from first end cs ps ks 0 m) ≡ ruling (inbound_from first end cs ps ks 0 (n - 0))
inbound-all first end cs ps ks n m e = let z : n - 0 ≡ m = omega arith in rw z
