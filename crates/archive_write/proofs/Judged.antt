-- The rules of a call that writes a record: which refusal comes first, and what holds where there is none.
use Rattle.std.specs.Prelude.{Err, Ok, Result}
use mathlib.Core.Path.{◌≡◌, refl, sym, ◌∙◌}
use mathlib.Core.Bool.{Bool, true, false, not, ◌&&◌, and-eq-true_iff}
use mathlib.Core.List.{List, [], ◌∷◌}
use mathlib.Core.Option.{none}
use Prim.Native.Nat.{ℕ, ◌≤◌, ◌<◌, ◌+◌, ◌-◌, ◌*◌, ◌/◌, ◌^◌}
use native.Mathlib.Omega.{arith}
use lib.Dec.{ltb, leb, eqb}
use lib.ListN.{length, take}
use lib.Seq.{take-length}
use borrow.Author.Tests.{lt-ltb, le-ltb, ltb-false, ltb-true, leb-true, eqb-true, eq-eqb, ne_eqb, not-true, not-false}
use Rattle.lists.specs.Lists.{any}
use Rattle.lists.specs.Order.{rising, not_falling}
use Rattle.columns.specs.Limits.{max_records, max_numbers}
use Rattle.columns.specs.Refusal.{refuse, first_of, limits}
use Rattle.columns.specs.Answers.{ruling}
use Rattle.columns.specs.declared.refusal.Refusal.{Refusal}
use Rattle.columns.specs.declared.refusal.Refusal.TheVariants.{SliceShort, OverRecords, OverNumbers}
use Rattle.columns.proofs.FirstBroken.{each_none, not-refused, passed}
use Rattle.columns.proofs.Told.{told-kept}
use Rattle.cover_rows.proofs.limits.Anyone.{any-nil, few-first}
use Rattle.cover_rows.proofs.limits.Verdicts.{limits-records, limits-numbers, limits-none}
use Rattle.archive_store.specs.records.Sizes.{sets_size, cover_body}
use Rattle.archive_write.specs.Writes.{write_rules, even3, even_cover, subject_fits, whole_sets, whole_unresolved, whole_roots}

-- ── low ──────────────────────────────────────────────────────────────────────────────────────

pub starts-past : (len at n : ℕ) → len < at → true ≡ ltb len (at + n)
starts-past len at n h = sym (lt-ltb len (at + n) (omega arith))

pub by_difference : (len at n : ℕ) → at ≤ len → ltb (len - at) n ≡ ltb len (at + n)
by_difference len at n h = go (ltb (len - at) n) refl
  where
    go : (b : Bool) → ltb (len - at) n ≡ b → ltb (len - at) n ≡ ltb len (at + n)
    go true e = let k = ltb-true (len - at) n e in e ∙ sym (lt-ltb len (at + n) (omega arith))
    go false e = let k = ltb-false (len - at) n e in e ∙ sym (le-ltb len (at + n) (omega arith))

-- ── equal in number ──────────────────────────────────────────────────────────────────────────

module _ (a b c : ℕ) where
  pub differ : (b ≡ a → ⊥) → false ≡ even3 a b c
  unfolding even3
  differ h = rw (ne_eqb b a h)

  pub so_far : b ≡ a → eqb c a ≡ even3 a b c
  unfolding even3
  so_far h = rw (eq-eqb b a h)

  pub three-same : even3 a b c ≡ true → (b ≡ a) × (c ≡ a)
  unfolding even3
  three-same e = let p = (and-eq-true_iff (eqb b a) (eqb c a)).0 e in (eqb-true b a p.0, eqb-true c a p.1)

module _ (chains seqs ids minima maxima a b c d : ℕ) where
  pub labels-differ : (seqs ≡ chains → ⊥) → false ≡ even_cover chains seqs ids minima maxima a b c d
  unfolding even_cover
  labels-differ h = rw (ne_eqb seqs chains h)

  module _ (h : seqs ≡ chains) {r : Bool} (e : r ≡ even3 ids minima maxima) where
    pub ranges-differ : not r ≡ true → false ≡ even_cover chains seqs ids minima maxima a b c d
    unfolding even_cover
    ranges-differ f = rw (eq-eqb seqs chains h, ← e, not-true r f)

    module _ (f : not r ≡ false) where
      pub links-differ : (b ≡ a → ⊥) → false ≡ even_cover chains seqs ids minima maxima a b c d
      unfolding even_cover
      links-differ k = rw (eq-eqb seqs chains h, ← e, not-false r f, ne_eqb b a k)

      pub links-same : {t : Bool} → b ≡ a → t ≡ even3 a c d → t ≡ even_cover chains seqs ids minima maxima a b c d
      unfolding even_cover
      links-same k g = rw (eq-eqb seqs chains h, ← e, not-false r f, eq-eqb b a k) g

  pub record CoverEven : Type 0 where
    pub labels : seqs ≡ chains
    pub least : minima ≡ ids
    pub greatest : maxima ≡ ids
    pub second : b ≡ a
    pub third : c ≡ a
    pub fourth : d ≡ a

  pub cover_even : even_cover chains seqs ids minima maxima a b c d ≡ true → CoverEven
  unfolding even_cover
  cover_even e =
      let p = (and-eq-true_iff (eqb seqs chains) (even3 ids minima maxima && (eqb b a && even3 a c d))).0 e in
      let q = (and-eq-true_iff (even3 ids minima maxima) (eqb b a && even3 a c d)).0 p.1 in
      let s = (and-eq-true_iff (eqb b a) (even3 a c d)).0 q.1 in
      let t = three-same ids minima maxima q.0 in
      let u = three-same a c d s.1 in
      record { labels = eqb-true seqs chains p.0; least = t.0; greatest = t.1; second = eqb-true b a s.0; third = u.0; fourth = u.1 }

-- ── whole ────────────────────────────────────────────────────────────────────────────────────

module _ (fo ro io : ℕ) where
  pub rows-differ : (fo ≡ 2 * (fo / 2) + 1 → ⊥) → false ≡ whole_sets fo ro io
  unfolding whole_sets
  rows-differ h = rw (ne_eqb fo (2 * (fo / 2) + 1) h)

  pub rows_agree : {r : Bool} → fo ≡ 2 * (fo / 2) + 1 → r ≡ even3 fo ro io → r ≡ whole_sets fo ro io
  unfolding whole_sets
  rows_agree h e = rw (eq-eqb fo (2 * (fo / 2) + 1) h) e

  pub record SetsWhole : Type 0 where
    pub forward : fo ≡ 2 * (fo / 2) + 1
    pub reverse : ro ≡ fo
    pub inbound : io ≡ fo

  pub sets_whole : whole_sets fo ro io ≡ true → SetsWhole
  unfolding whole_sets
  sets_whole e =
      let p = (and-eq-true_iff (eqb fo (2 * (fo / 2) + 1)) (even3 fo ro io)).0 e in
      let q = three-same fo ro io p.1 in
      record { forward = eqb-true fo (2 * (fo / 2) + 1) p.0; reverse = q.0; inbound = q.1 }

module _ (children : List ℕ) (kinds handles : ℕ) where
  module _ {s : Bool} (d : s ≡ even3 (length children) kinds handles) where
    pub parts-differ : not s ≡ true → false ≡ whole_unresolved children kinds handles
    unfolding whole_unresolved
    parts-differ h = rw (← d, not-true s h)

    pub parts-agree : {r : Bool} → not s ≡ false → r ≡ not_falling (take (length children) children) → r ≡ whole_unresolved children kinds handles
    unfolding whole_unresolved
    parts-agree h e = rw (← d, not-false s h) (e ∙ rw (take-length children))

  pub unresolved-whole : whole_unresolved children kinds handles ≡ true → (even3 (length children) kinds handles ≡ true) × (not_falling children ≡ true)
  unfolding whole_unresolved
  unresolved-whole e = (and-eq-true_iff (even3 (length children) kinds handles) (not_falling children)).0 e

module _ (rows : List ℕ) (handles : ℕ) where
  pub handles-differ : (handles ≡ length rows → ⊥) → false ≡ whole_roots rows handles
  unfolding whole_roots
  handles-differ h = rw (ne_eqb handles (length rows) h)

  pub handles-agree : {r : Bool} → handles ≡ length rows → r ≡ rising (take (length rows) rows) → r ≡ whole_roots rows handles
  unfolding whole_roots
  handles-agree h e = rw (eq-eqb handles (length rows) h) (e ∙ rw (take-length rows))

  pub roots-whole : whole_roots rows handles ≡ true → (handles ≡ length rows) × (rising rows ≡ true)
  unfolding whole_roots
  roots-whole e = let p = (and-eq-true_iff (eqb handles (length rows)) (rising rows)).0 e in (eqb-true handles (length rows) p.0, p.1)

-- ── a subject ────────────────────────────────────────────────────────────────────────────────

pub no-subject : (n : ℕ) → n ≡ 0 → false ≡ subject_fits n
unfolding subject_fits
no-subject n h = rw (le-ltb 0 n (omega arith))

pub some-subject : (n : ℕ) → (n ≡ 0 → ⊥) → leb n 255 ≡ subject_fits n
unfolding subject_fits
some-subject n h = let k : 0 < n = above n h in rw (lt-ltb 0 n k)
  where
    above : (n : ℕ) → (n ≡ 0 → ⊥) → 0 < n
    above n h = omega arith

pub subject-small : (n : ℕ) → subject_fits n ≡ true → n ≤ 255
unfolding subject_fits
subject-small n e = leb-true n 255 ((and-eq-true_iff (ltb 0 n) (leb n 255)).0 e).1

pub subject-few : {r : Bool} (n : ℕ) → r ≡ subject_fits n → not r ≡ false → n ≤ 255
subject-few {r} n e h = subject-small n (sym e ∙ not-false r h)

-- ── tests in order ───────────────────────────────────────────────────────────────────────────

module _ (records columns : List ℕ) (x : Refusal) (ok : Bool) (len at n : ℕ) {b : Bool} (d : b ≡ any (ltb max_records) records) where
  pub many-rows : b ≡ true → Err OverRecords ≡ ruling (write_rules records columns x ok len at n)
  unfolding write_rules first_of
  many-rows e = rw (limits-records records columns [] (sym d ∙ e))

  module _ (e : b ≡ false) {m : Bool} (f : m ≡ any (ltb max_numbers) columns) where
    pub many : m ≡ true → Err OverNumbers ≡ ruling (write_rules records columns x ok len at n)
    unfolding write_rules first_of
    many g = rw (limits-numbers records columns [] (sym d ∙ e) (sym f ∙ g))

    module _ (g : m ≡ false) {u : Bool} (k : u ≡ ok) where
      within : limits records columns [] ≡ none
      unfolding any
      within = limits-none records columns [] (sym d ∙ e) (sym f ∙ g) refl

      pub broken : not u ≡ true → Err x ≡ ruling (write_rules records columns x ok len at n)
      unfolding write_rules first_of
      broken h = rw (within, ← k, not-true u h)

      module _ (h : not u ≡ false) {s : Bool} (i : s ≡ ltb len (at + n)) where
        pub no_room : s ≡ true → Err SliceShort ≡ ruling (write_rules records columns x ok len at n)
        unfolding write_rules first_of
        no_room j = rw (within, ← k, not-false u h, ← i, j)

        pub none-broken : s ≡ false → (Ok tt) ≡ ruling (write_rules records columns x ok len at n)
        unfolding write_rules first_of
        none-broken j = rw (within, ← k, not-false u h, ← i, j)

-- a record of no other columns
module _ (records : List ℕ) (x : Refusal) (ok : Bool) (len at n : ℕ) {b : Bool} (d : b ≡ any (ltb max_records) records) where
  pub over : b ≡ true → Err OverRecords ≡ ruling (write_rules records [] x ok len at n)
  over e = many-rows records [] x ok len at n d e

  module _ (e : b ≡ false) {u : Bool} (k : u ≡ ok) where
    pub unfit : not u ≡ true → Err x ≡ ruling (write_rules records [] x ok len at n)
    unfit h = broken records [] x ok len at n d e (sym (any-nil (ltb max_numbers))) refl k h

    module _ (h : not u ≡ false) {s : Bool} (i : s ≡ ltb len (at + n)) where
      pub too-low : s ≡ true → Err SliceShort ≡ ruling (write_rules records [] x ok len at n)
      too-low j = no_room records [] x ok len at n d e (sym (any-nil (ltb max_numbers))) refl k h i j

      pub fit : s ≡ false → (Ok tt) ≡ ruling (write_rules records [] x ok len at n)
      fit j = none-broken records [] x ok len at n d e (sym (any-nil (ltb max_numbers))) refl k h i j

-- ── few enough ───────────────────────────────────────────────────────────────────────────────

few-of-two : (m a b : ℕ) → any (ltb m) (a ∷ b ∷ []) ≡ false → (a ≤ m) × (b ≤ m)
few-of-two m a b e = let p = few-first m a (b ∷ []) e in (p.0, (few-first m b [] p.1).0)

pub few-first-of : (a : ℕ) (ns : List ℕ) → any (ltb max_records) (a ∷ ns) ≡ false → a ≤ 1024
few-first-of a ns e = (few-first 1024 a ns e).0

pub first-of-two : {r : Bool} (a b : ℕ) → r ≡ any (ltb max_records) (a ∷ b ∷ []) → r ≡ false → a ≤ 1024
first-of-two a b d e = (few-of-two 1024 a b (sym d ∙ e)).0

pub second-of-two : {r : Bool} (a b : ℕ) → r ≡ any (ltb max_records) (a ∷ b ∷ []) → r ≡ false → b ≤ 1024
second-of-two a b d e = (few-of-two 1024 a b (sym d ∙ e)).1

pub first-of-three : {r : Bool} (a b c : ℕ) → r ≡ any (ltb max_records) (a ∷ b ∷ c ∷ []) → r ≡ false → a ≤ 1024
first-of-three a b c d e = (few-first 1024 a (b ∷ c ∷ []) (sym d ∙ e)).0

pub numbers-few : {r : Bool} (ns : List ℕ) → r ≡ any (ltb max_numbers) ns → r ≡ false → any (ltb max_numbers) ns ≡ false
numbers-few ns d e = sym d ∙ e

pub records-few : {r : Bool} (ns : List ℕ) → r ≡ any (ltb max_records) ns → r ≡ false → any (ltb max_records) ns ≡ false
records-few ns d e = sym d ∙ e

pub sets-fit : (fo fd ro rd io id : ℕ) → any (ltb max_numbers) (fo ∷ fd ∷ ro ∷ rd ∷ io ∷ id ∷ []) ≡ false → 2 + sets_size fo fd ro rd io id < 2 ^ 32
sets-fit fo fd ro rd io id e =
    let p = few-first 4096 fo (fd ∷ ro ∷ rd ∷ io ∷ id ∷ []) e in
    let q = few-first 4096 fd (ro ∷ rd ∷ io ∷ id ∷ []) p.1 in
    let r = few-first 4096 ro (rd ∷ io ∷ id ∷ []) q.1 in
    let s = few-first 4096 rd (io ∷ id ∷ []) r.1 in
    let t = few-of-two 4096 io id s.1 in
    omega (arith, p.0, q.0, r.0, s.0, t.0, t.1)

pub cover-fits : (chains seqs ids minima maxima a b c d : ℕ) → any (ltb max_records) (chains ∷ seqs ∷ ids ∷ minima ∷ maxima ∷ a ∷ b ∷ c ∷ d ∷ []) ≡ false
    → 2 + cover_body chains seqs ids a b c d < 2 ^ 32
cover-fits chains seqs ids minima maxima a b c d e =
    let p = few-first 1024 chains (seqs ∷ ids ∷ minima ∷ maxima ∷ a ∷ b ∷ c ∷ d ∷ []) e in
    let q = few-first 1024 seqs (ids ∷ minima ∷ maxima ∷ a ∷ b ∷ c ∷ d ∷ []) p.1 in
    let r = few-first 1024 ids (minima ∷ maxima ∷ a ∷ b ∷ c ∷ d ∷ []) q.1 in
    let s = few-first 1024 minima (maxima ∷ a ∷ b ∷ c ∷ d ∷ []) r.1 in
    let t = few-first 1024 maxima (a ∷ b ∷ c ∷ d ∷ []) s.1 in
    let u = few-first 1024 a (b ∷ c ∷ d ∷ []) t.1 in
    let v = few-first 1024 b (c ∷ d ∷ []) u.1 in
    let w = few-of-two 1024 c d v.1 in
    omega (arith, p.0, q.0, r.0, u.0, v.0, w.0, w.1)

pub sized : {r : Bool} {n : ℕ} (len at k : ℕ) → n ≡ k → r ≡ ltb len (at + (6 + n)) → r ≡ ltb len (at + (6 + k))
sized len at k e f = rw (← e) f

-- ── where nothing refuses ────────────────────────────────────────────────────────────────────

module _ (records columns : List ℕ) (x : Refusal) (ok : Bool) (len at n : ℕ) (e : write_rules records columns x ok len at n ≡ none) where
  tests : (limits records columns [] ≡ none) × (refuse x (not ok) ≡ none) × (refuse SliceShort (ltb len (at + n)) ≡ none)
  unfolding write_rules
  tests = let h = each_none (limits records columns [] ∷ refuse x (not ok) ∷ refuse SliceShort (ltb len (at + n)) ∷ []) e in (h.0, h.1.0, h.1.1.0)

  few : (any (ltb max_records) records ≡ false) × (any (ltb max_numbers) columns ≡ false)
  unfolding limits
  few = let h = each_none (refuse OverRecords (any (ltb max_records) records) ∷ refuse OverNumbers (any (ltb max_numbers) columns) ∷ _) tests.0 in (not-refused _ _ h.0, not-refused _ _ h.1.0)

  pub has_room : at + n ≤ len
  has_room = ltb-false len (at + n) (not-refused SliceShort _ tests.2)

  pub is_ok : ok ≡ true
  is_ok = passed x ok tests.1

  pub few-records : any (ltb max_records) records ≡ false
  few-records = few.0

  pub few-numbers : any (ltb max_numbers) columns ≡ false
  few-numbers = few.1

-- the same, as the code tells it
module _ (records columns : List ℕ) (x : Refusal) (ok : Bool) (len at n : ℕ) (v : Result (Unit {0}) Refusal) (d : v ≡ ruling (write_rules records columns x ok len at n)) (e : v ≡ Ok tt) where
  kept : write_rules records columns x ok len at n ≡ none
  kept = told-kept (write_rules records columns x ok len at n) d e

  pub fine-room : at + n ≤ len
  fine-room = has_room records columns x ok len at n kept

  pub fine-ok : ok ≡ true
  fine-ok = is_ok records columns x ok len at n kept

  pub fine-records : any (ltb max_records) records ≡ false
  fine-records = few-records records columns x ok len at n kept

  pub fine-numbers : any (ltb max_numbers) columns ≡ false
  fine-numbers = few-numbers records columns x ok len at n kept
