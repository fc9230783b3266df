-- A column put into a table number by number: each record has its number, and its others are what they were. Columns put one after the other make a table.
use mathlib.Core.Path.{◌≡◌, refl, sym, ap, ◌∙◌}
use mathlib.Core.Bool.{true, ◌&&◌}
use mathlib.Core.List.{List, [], ◌∷◌}
use mathlib.Core.Logic.{inl, inr}
use Prim.Native.Nat.{ℕ, ◌+◌, ◌*◌, ◌^◌, ◌≤◌, ◌<◌}
use native.Mathlib.Omega.{arith}
use native.Mathlib.Nat.{mul-le-mul_right, eq-or-lt_of_le}
use native.Mathlib.Numerals.{add-one}
use mir.Val.{Fits}
use mir.Syntax.{w64}
use lib.Dec.{ltb}
use lib.ListN.{length, get_or, set, drop, take, length-set}
use lib.Seq.{length-take-le, take-suc, get_or-take, get_or-drop, get_or-set_same, get_or-set_other, ext_get_or}
use borrow.Author.Tests.{ltb-true, ltb-false}
use Rattle.lists.proofs.Tests.{tested, both}
use Rattle.lists.proofs.Each.{each_append}
use Rattle.columns.specs.Limits.{end64}
use Rattle.archive_bytes.specs.Bytes.{several}
use Rattle.archive.proofs.Back.{length-several}
use Rattle.run_section.specs.Tables.{field}
use Rattle.run_section.specs.Laid.{Column, ColumnPut, RowsLaid, UnresolvedLaid, RootsLaid, LinksLaid}
use Rattle.run_section.proofs.Records.{several-at}

-- ── one column ───────────────────────────────────────────────────────────────────────────────

pub field_at : (w k n i : ℕ) (t : List ℕ) → i < n → get_or (several w (field k) n t) i 0 ≡ get_or t (i * w + k) 0
field_at w k n i t h = several-at w (field k) n i t 0 h ∙ get_or-drop (i * w) t k 0

-- a list that has number k of each record
fields-are : (w k n : ℕ) (t l : List ℕ) → length l ≡ n → ((i : ℕ) → i < n → get_or t (i * w + k) 0 ≡ get_or l i 0) → several w (field k) n t ≡ l
fields-are w k n t l e f =
    let a = length-several w (field k) n t in
    ext_get_or 0 (several w (field k) n t) l (a ∙ sym e) (λ i b. let h : i < n = omega (arith, a, b) in field_at w k n i t h ∙ f i h)

-- a number of a record is that of its column
pub column-at : {w k n bound : ℕ} {column t : List ℕ} → Column w k n bound column t → (i : ℕ) → i < n → get_or (drop (i * w) t) k 0 ≡ get_or column i 0
column-at {w} {k} {n} {column = column} {t} c i h = sym (several-at w (field k) n i t 0 h) ∙ ap (λ l. get_or l i 0) c.is ∙ get_or-take n column i 0 h

pub column-none : (w k bound : ℕ) (column t : List ℕ) → ColumnPut w k 0 bound column t t
unfolding several
column-none w k bound column t = record { put = record { is = refl; narrow = tt }; others = λ i j h d. refl; as_long = refl }

-- ── one number ───────────────────────────────────────────────────────────────────────────────

-- two records have no place in common
apart : (w i j m k : ℕ) → j < w → k < w → (i ≡ m → j ≡ k → ⊥) → i * w + j ≡ m * w + k → ⊥
apart w i j m k h g d e = elim (tested (ltb i m)) [
  | inl a ↦ omega (arith, mul-le-mul_right w (ltb-true i m a))
  | inr a ↦ elim (tested (ltb m i)) [
    | inl b ↦ omega (arith, mul-le-mul_right w (ltb-true m i b))
    | inr b ↦ let z : i ≡ m = omega (arith, ltb-false i m a, ltb-false m i b) in d z (omega (arith, ap (λ x. x * w) z))
  ]
]

module _ (w k i n bound : ℕ) (column before out : List ℕ) (c : ColumnPut w k i bound column before out) (h : i < n) (g : k < w) (r : n * w ≤ length before) where
  room : i * w + w ≤ length out
  room = omega (arith, c.as_long, mul-le-mul_right w h)

  module _ (p : ℕ) (q : p ≡ i * w + k) where
    pub place-there : p < length out
    place-there = omega (arith, room)

    pub place-fits : length before * 8 < 2 ^ 63 → Fits w64 (p * 8)
    place-fits b = record { fits = omega (arith, room, c.as_long) }

    pub next_fits : length before * 8 < 2 ^ 63 → Fits w64 (p + w)
    next_fits b = record { fits = omega (arith, room, c.as_long) }

    pub next_place : p + w ≡ (i + 1) * w + k
    next_place = omega arith

    pub number_put : {v : ℕ} → n ≤ length column → v ≡ get_or column i 0 → v < bound → ColumnPut w k (i + 1) bound column before (set out p v)
    number_put {v} l e b = record {
      put = record {
        is = all;
        narrow = rw (all, add-one, take-suc column i 0 (omega arith)) (each_append (λ x. x < bound) (take i column) (get_or column i 0 ∷ []) (rw c.put.is at c.put.narrow) (rw e at b, tt));
      };
      others = λ m j a d. get_or-set_other out p (m * w + j) v 0 (λ z. apart w m j i k a g (λ x. d) (z ∙ q)) ∙ c.others m j a d;
      as_long = length-set out p v ∙ c.as_long;
    }
      where
        one : (m : ℕ) → m < i + 1 → get_or (set out p v) (m * w + k) 0 ≡ get_or column m 0
        one m a = elim (eq-or-lt_of_le (let z : m ≤ i = omega arith in z)) [
          | inl z ↦ rw (z, ← q) (get_or-set_same out p v 0 place-there ∙ e)
          | inr z ↦ get_or-set_other out p (m * w + k) v 0 (λ y. apart w m k i k g g (λ x. omega arith) (y ∙ q)) ∙ sym (get_or-drop (m * w) out k 0) ∙ column-at c.put m z
        ]

        all : several w (field k) (i + 1) (set out p v) ≡ take (i + 1) column
        all = fields-are w k (i + 1) (set out p v) (take (i + 1) column) (length-take-le (i + 1) column (omega arith)) (λ m a. one m a ∙ sym (get_or-take (i + 1) column m 0 a))

pub all-put : {w k i n bound : ℕ} {column before out : List ℕ} → ColumnPut w k i bound column before out → i ≤ n → n ≤ i → ColumnPut w k n bound column before out
all-put {i = i} {n} c f g = let e : n ≡ i = omega arith in rw e c

-- ── the tables ───────────────────────────────────────────────────────────────────────────────

-- a column stays while one of a higher number is put
kept : {w j k n m bound bound' : ℕ} {column column' t t' : List ℕ} → Column w j n bound column t → ColumnPut w k m bound' column' t t' → (ltb j k && ltb k w) ≡ true
    → Column w j n bound column t'
kept {w} {j} {k} {n} {t = t} {t'} c u e = record { is = same ∙ c.is; narrow = rw same c.narrow }
  where
    below : (j < k) × (k < w)
    below = let q = both (ltb j k) (ltb k w) e in (ltb-true j k q.0, ltb-true k w q.1)

    same : several w (field j) n t' ≡ several w (field j) n t
    same =
        fields-are w j n t' (several w (field j) n t) (length-several w (field j) n t)
        (λ i h. u.others i j (omega (arith, below)) (λ z. omega (arith, below)) ∙ sym (field_at w j n i t h))

module _ {n : ℕ} {groups tags chains seqs t₀ t₁ t₂ t₃ t₄ : List ℕ} where
  pub rows_laid : length t₀ ≡ 4096 → ColumnPut 4 0 n 256 groups t₀ t₁ → ColumnPut 4 1 n end64 tags t₁ t₂ → ColumnPut 4 2 n (2 ^ 32) chains t₂ t₃
      → ColumnPut 4 3 n (2 ^ 32) seqs t₃ t₄ → RowsLaid n groups tags chains seqs t₄
  rows_laid l a b c d = record {
    group = kept (kept (kept a.put b refl) c refl) d refl;
    tag = kept (kept b.put c refl) d refl;
    chain = kept c.put d refl;
    seq = d.put;
    long = d.as_long ∙ c.as_long ∙ b.as_long ∙ a.as_long ∙ l;
  }

module _ {n : ℕ} {children kinds handles t₀ t₁ t₂ t₃ : List ℕ} where
  pub unresolved_laid : length t₀ ≡ 3072 → ColumnPut 3 0 n end64 children t₀ t₁ → ColumnPut 3 1 n 256 kinds t₁ t₂ → ColumnPut 3 2 n (2 ^ 32) handles t₂ t₃
      → UnresolvedLaid n children kinds handles t₃
  unresolved_laid l a b c = record {
    child = kept (kept a.put b refl) c refl;
    kind = kept b.put c refl;
    handle = c.put;
    long = c.as_long ∙ b.as_long ∙ a.as_long ∙ l;
  }

module _ {n : ℕ} {rows handles t₀ t₁ t₂ : List ℕ} where
  pub roots_laid : length t₀ ≡ 2048 → ColumnPut 2 0 n end64 rows t₀ t₁ → ColumnPut 2 1 n end64 handles t₁ t₂ → RootsLaid n rows handles t₂
  roots_laid l a b = record { row = kept a.put b refl; handle = b.put; long = b.as_long ∙ a.as_long ∙ l }

module _ {n : ℕ} {groups from_chains from_seqs to_chains to_seqs t₀ t₁ t₂ t₃ t₄ t₅ : List ℕ} where
  pub links_laid : length t₀ ≡ 5120 → ColumnPut 5 0 n 256 groups t₀ t₁ → ColumnPut 5 1 n (2 ^ 32) from_chains t₁ t₂ → ColumnPut 5 2 n (2 ^ 32) from_seqs t₂ t₃
      → ColumnPut 5 3 n (2 ^ 32) to_chains t₃ t₄ → ColumnPut 5 4 n (2 ^ 32) to_seqs t₄ t₅ → LinksLaid n groups from_chains from_seqs to_chains to_seqs t₅
  links_laid l a b c d e = record {
    group = kept (kept (kept (kept a.put b refl) c refl) d refl) e refl;
    from_chain = kept (kept (kept b.put c refl) d refl) e refl;
    from_seq = kept (kept c.put d refl) e refl;
    to_chain = kept d.put e refl;
    to_seq = e.put;
    long = e.as_long ∙ d.as_long ∙ c.as_long ∙ b.as_long ∙ a.as_long ∙ l;
  }
