-- What `resolve_graph` refuses, test by test: the limits, then 2 and 3.
use Rattle.std.specs.Prelude.{Err, Ok, Result}
use mathlib.Core.Path.{◌≡◌, refl, ◌∙◌, ap}
use mathlib.Core.Bool.{Bool, true, false, ◌&&◌, not, or-false}
use mathlib.Core.List.{List, [], ◌∷◌}
use Prim.Native.Nat.{ℕ, ◌+◌, ◌-◌, ◌≤◌, ◌<◌}
use native.Mathlib.Omega.{arith}
use lib.Dec.{ltb, eqb}
use lib.ListN.{length, get_or, drop}
use borrow.Author.Tests.{lt-ltb, le-ltb, eq-eqb, ne_eqb, not-true, not-false}
use Rattle.lists.specs.Lists.{any, filter}
use Rattle.lists.specs.Order.{climbs_to}
use Rattle.lists.proofs.Tests.{any_append}
use Rattle.columns.specs.Limits.{max_numbers}
use Rattle.columns.specs.Refusal.{first_of, short, limits}
use Rattle.columns.specs.EdgeSet.{from_to}
use Rattle.columns.specs.Building.{numbers_ok}
use Rattle.columns.specs.Answers.{ruling}
use Rattle.columns.specs.declared.refusal.Refusal.{Refusal}
use Rattle.columns.specs.declared.refusal.Refusal.TheVariants.{EdgeEntries, NumberRange, SliceShort, OverRecords, OverNumbers}
use Rattle.columns.proofs.Told.{stops-here, goes_on}
use Rattle.columns_refs.specs.References.{references_of, is_unresolved, referred_lengths, referred_ok, input_rules, resolve_rules}
use Rattle.columns_refs.specs.Resolved.{referred, slices_of, limit_rules}

-- ── 42, 43, 41 ───────────────────────────────────────────────────────────────────────────────

module _ (a b c d e f : ℕ) {r : Bool} (q : r ≡ any (ltb max_numbers) (a ∷ b ∷ c ∷ d ∷ [])) where
  pub four-over : r ≡ true → true ≡ any (ltb max_numbers) (a ∷ b ∷ c ∷ d ∷ e ∷ f ∷ [])
  four-over h = rw (any_append (ltb max_numbers) (a ∷ b ∷ c ∷ d ∷ []) (e ∷ f ∷ []), ← q, h)

  pub last-over : r ≡ false → {s : Bool} → s ≡ any (ltb max_numbers) (e ∷ f ∷ []) → s ≡ any (ltb max_numbers) (a ∷ b ∷ c ∷ d ∷ e ∷ f ∷ [])
  last-over h g = rw (any_append (ltb max_numbers) (a ∷ b ∷ c ∷ d ∷ []) (e ∷ f ∷ []), ← q, h) g

module _ (o p c k h : ℕ) where
  pub offsets-short : o < 2049 → true ≡ any short (slices_of o p c k h)
  unfolding any short
  offsets-short a = rw (lt-ltb o 2049 a)

  module _ (a : 2049 ≤ o) where
    pub parents-short : p < 4096 → true ≡ any short (slices_of o p c k h)
    unfolding any short
    parents-short b = rw (le-ltb o 2049 a, lt-ltb p 4096 b)

    module _ (b : 4096 ≤ p) where
      pub children-short : c < 1024 → true ≡ any short (slices_of o p c k h)
      unfolding any short
      children-short d = rw (le-ltb o 2049 a, le-ltb p 4096 b, lt-ltb c 1024 d)

      module _ (d : 1024 ≤ c) where
        pub kinds-short : k < 1024 → true ≡ any short (slices_of o p c k h)
        unfolding any short
        kinds-short e = rw (le-ltb o 2049 a, le-ltb p 4096 b, le-ltb c 1024 d, lt-ltb k 1024 e)

        pub handles-short : 1024 ≤ k → ltb h 1024 ≡ any short (slices_of o p c k h)
        unfolding any short
        handles-short e = rw (le-ltb o 2049 a, le-ltb p 4096 b, le-ltb c 1024 d, le-ltb k 1024 e, or-false (ltb h 1024))

module _ (rows records : ℕ) (over tight : Bool) where
  pub many-rows : 1024 < rows → Err OverRecords ≡ ruling (limit_rules rows records over tight)
  unfolding limit_rules first_of any
  many-rows h = rw (lt-ltb 1024 rows h)

  module _ (h : rows ≤ 1024) where
    pub many-records : 1024 < records → Err OverRecords ≡ ruling (limit_rules rows records over tight)
    unfolding limit_rules first_of any
    many-records g = rw (le-ltb 1024 rows h, lt-ltb 1024 records g)

    module _ (g : records ≤ 1024) where
      pub long-column : over ≡ true → Err OverNumbers ≡ ruling (limit_rules rows records over tight)
      unfolding limit_rules first_of any
      long-column f = rw (le-ltb 1024 rows h, le-ltb 1024 records g, f)

      module _ (f : over ≡ false) where
        pub short-slice : tight ≡ true → Err SliceShort ≡ ruling (limit_rules rows records over tight)
        unfolding limit_rules first_of any
        short-slice t = rw (le-ltb 1024 rows h, le-ltb 1024 records g, f, t)

        pub in_limits : tight ≡ false → (Ok tt) ≡ ruling (limit_rules rows records over tight)
        unfolding limit_rules first_of any
        in_limits t = rw (le-ltb 1024 rows h, le-ltb 1024 records g, f, t)

-- ── 2, 3 ─────────────────────────────────────────────────────────────────────────────────────

module _ (rows count : ℕ) (l : List ℕ) where
  pub no-offsets : length l ≡ 0 → false ≡ (eqb (length l) (rows + 1) && from_to 0 count l)
  no-offsets h = rw (ne_eqb (length l) (rows + 1) (λ e. omega arith))

  module _ (h : length l ≡ 0 → ⊥) where
    pub other-rows : (length l - 1 ≡ rows → ⊥) → false ≡ (eqb (length l) (rows + 1) && from_to 0 count l)
    other-rows k = rw (ne_eqb (length l) (rows + 1) (λ e. k (omega arith)))

    module _ (k : length l - 1 ≡ rows) where
      formed : (eqb (length l) (rows + 1) && from_to 0 count l) ≡ (eqb (get_or l 0 0) 0 && climbs_to count (get_or l 0 0) (drop 1 l))
      unfolding from_to
      formed = rw (eq-eqb (length l) (rows + 1) (omega arith)) (go l h)
        where
          go : (m : List ℕ) → (length m ≡ 0 → ⊥) → from_to 0 count m ≡ (eqb (get_or m 0 0) 0 && climbs_to count (get_or m 0 0) (drop 1 m))
          go [] n = absurd (n refl)
          go (x ∷ xs) n = refl

      pub starts-late : (get_or l 0 0 ≡ 0 → ⊥) → false ≡ (eqb (length l) (rows + 1) && from_to 0 count l)
      starts-late g = rw (formed, ne_eqb (get_or l 0 0) 0 g)

      pub then-climbs : get_or l 0 0 ≡ 0 → {r : Bool} → r ≡ climbs_to count 0 (drop 1 l) → r ≡ (eqb (length l) (rows + 1) && from_to 0 count l)
      then-climbs g e = rw (formed, g) e

module _ (k s t v n : ℕ) where
  pub spaces-differ : (s ≡ k → ⊥) → false ≡ (eqb s k && (eqb t k && (eqb v k && eqb n k)))
  spaces-differ h = rw (ne_eqb s k h)

  module _ (a : s ≡ k) where
    pub targets-differ : (t ≡ k → ⊥) → false ≡ (eqb s k && (eqb t k && (eqb v k && eqb n k)))
    targets-differ h = rw (eq-eqb s k a, ne_eqb t k h)

    module _ (b : t ≡ k) where
      pub known-differ : (v ≡ k → ⊥) → false ≡ (eqb s k && (eqb t k && (eqb v k && eqb n k)))
      known-differ h = rw (eq-eqb s k a, eq-eqb t k b, ne_eqb v k h)

      pub numbers-differ : v ≡ k → eqb n k ≡ (eqb s k && (eqb t k && (eqb v k && eqb n k)))
      numbers-differ h = rw (eq-eqb s k a, eq-eqb t k b, eq-eqb v k h)

module _ (first rows : ℕ) (starts ks ss ts vs ns : List ℕ) {a : Bool}
    (e : a ≡ (eqb (length ss) (length ks) && (eqb (length ts) (length ks) && (eqb (length vs) (length ks) && eqb (length ns) (length ks))))) where
  pub uneven : not a ≡ true → Err EdgeEntries ≡ ruling (input_rules (referred first rows starts ks ss ts vs ns))
  unfolding input_rules first_of referred_ok
  uneven h = rw (← e, not-true a h)

  module _ (h : not a ≡ false) {b : Bool} (f : b ≡ (eqb (length starts) (rows + 1) && from_to 0 (length ks) starts)) where
    pub misplaced : not b ≡ true → Err EdgeEntries ≡ ruling (input_rules (referred first rows starts ks ss ts vs ns))
    unfolding input_rules first_of referred_ok
    misplaced k = rw (← e, not-false a h, ← f, not-true b k)

    module _ (k : not b ≡ false) {c : Bool} (g : c ≡ numbers_ok first rows) where
      pub numbers-past : not c ≡ true → Err NumberRange ≡ ruling (input_rules (referred first rows starts ks ss ts vs ns))
      unfolding input_rules first_of referred_ok
      numbers-past m = rw (← e, not-false a h, ← f, not-false b k, ← g, not-true c m)

      pub input-kept : not c ≡ false → (Ok tt) ≡ ruling (input_rules (referred first rows starts ks ss ts vs ns))
      unfolding input_rules first_of referred_ok
      input-kept m = rw (← e, not-false a h, ← f, not-false b k, ← g, not-false c m)

-- ── in order ─────────────────────────────────────────────────────────────────────────────────

module _ (first rows : ℕ) (starts ks ss ts vs ns : List ℕ) (o p c k h records : ℕ) (over tight : Bool)
    (m : records ≡ length (filter is_unresolved (references_of ks ss ts vs ns)))
    (a : over ≡ any (ltb max_numbers) (length starts ∷ length ks ∷ length ss ∷ length ts ∷ length vs ∷ length ns ∷ []))
    (b : tight ≡ any short (slices_of o p c k h)) {q : Result (Unit {0}) Refusal} (e : q ≡ ruling (limit_rules rows records over tight)) where
  same-limits : limit_rules rows records over tight
      ≡ limits (rows ∷ length (filter is_unresolved (references_of ks ss ts vs ns)) ∷ []) (referred_lengths (referred first rows starts ks ss ts vs ns)) (slices_of o p c k h)
  unfolding limit_rules limits referred_lengths
  same-limits = rw (m, a, b)

  pub limits-stop : (why : Refusal) → q ≡ Err why → Err why ≡ ruling (resolve_rules (referred first rows starts ks ss ts vs ns) (slices_of o p c k h))
  unfolding resolve_rules
  limits-stop why f = stops-here _ (input_rules (referred first rows starts ks ss ts vs ns)) (e ∙ ap ruling same-limits) why f

  pub limits-then : q ≡ Ok tt → {r : Result (Unit {0}) Refusal} → r ≡ ruling (input_rules (referred first rows starts ks ss ts vs ns))
      → r ≡ ruling (resolve_rules (referred first rows starts ks ss ts vs ns) (slices_of o p c k h))
  unfolding resolve_rules
  limits-then f g = goes_on _ (input_rules (referred first rows starts ks ss ts vs ns)) (e ∙ ap ruling same-limits) f g
