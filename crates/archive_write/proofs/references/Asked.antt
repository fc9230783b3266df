-- A record of references, asked for its rules one after the other: each answer, and what holds where none is broken.
use mathlib.Core.Path.{◌≡◌, sym, ◌∙◌}
use mathlib.Core.Bool.{Bool, true, false, not, ◌&&◌}
use mathlib.Core.List.{List, [], ◌∷◌}
use Prim.Native.Nat.{ℕ, ◌+◌, ◌-◌, ◌≤◌, ◌<◌, ◌^◌}
use native.Mathlib.Omega.{arith}
use lib.Dec.{ltb}
use lib.ListN.{length}
use borrow.Author.Tests.{not-true, not-false}
use Rattle.lists.specs.Lists.{all, any}
use Rattle.lists.proofs.Tests.{both}
use Rattle.columns.specs.EdgeSet.{from_to, cut}
use Rattle.columns.specs.Limits.{max_records, max_numbers}
use Rattle.archive.specs.File.{any_reference}
use Rattle.archive.specs.Parse.{references_ok}
use Rattle.cover_rows.proofs.limits.Anyone.{few-first}
use Rattle.archive_store.specs.Lent.{cited_from, Cited}
use Rattle.archive_store.specs.records.Sizes.{references_body, references_size}
use Rattle.archive_write.specs.ByColumns.{up_to, once_at_most, columns_ok}
use Rattle.archive_write.specs.Writes.{even3, citing_rows, cited_ok, whole_references}
use Rattle.archive_write.proofs.Judged.{three-same}
use Rattle.archive_write.proofs.references.Columns.{by-columns, none-cited, some-cited}

-- ── by columns ───────────────────────────────────────────────────────────────────────────────

module _ (os ks ss : List ℕ) {a : Bool} (d : a ≡ up_to 5 ks) where
  pub kind-unknown : not a ≡ true → false ≡ columns_ok os ks ss
  unfolding columns_ok
  kind-unknown h = rw (← d, not-true a h)

  module _ (h : not a ≡ false) {b : Bool} (e : b ≡ up_to 3 ss) where
    pub space-unknown : not b ≡ true → false ≡ columns_ok os ks ss
    unfolding columns_ok
    space-unknown k = rw (← d, not-false a h, ← e, not-true b k)

    module _ (k : not b ≡ false) {c : Bool} (f : c ≡ all (once_at_most 3) (cut os ks)) where
      pub two-parents : not c ≡ true → false ≡ columns_ok os ks ss
      unfolding columns_ok
      two-parents m = rw (← d, not-false a h, ← e, not-false b k, ← f, not-true c m)

      pub roots-decide : not c ≡ false → {r : Bool} → r ≡ all (once_at_most 5) (cut os ks) → r ≡ columns_ok os ks ss
      unfolding columns_ok
      roots-decide m g = rw (← d, not-false a h, ← e, not-false b k, ← f, not-false c m) g

-- ── the record ───────────────────────────────────────────────────────────────────────────────

pub is_cut : (n : ℕ) (os : List ℕ) {b : Bool} → b ≡ from_to 0 n os → not b ≡ false → from_to 0 n os ≡ true
is_cut n os {b} e k = sym e ∙ not-false b k

module _ (os ks ss ts : List ℕ) {a : Bool} (d : a ≡ even3 (length ks) (length ss) (length ts)) where
  pub columns-uneven : not a ≡ true → false ≡ whole_references os ks ss ts
  unfolding whole_references
  columns-uneven h = rw (← d, not-true a h)

  module _ (h : not a ≡ false) {b : Bool} (e : b ≡ from_to 0 (length ks) os) where
    pub cut-otherwise : not b ≡ true → false ≡ whole_references os ks ss ts
    unfolding whole_references
    cut-otherwise k = rw (← d, not-false a h, ← e, not-true b k)

    module _ (k : not b ≡ false) where
      cited : Cited os ks ss ts
      cited =
          let s = three-same (length ks) (length ss) (length ts) (sym d ∙ not-false a h) in
          record { space_count = s.0; target_count = s.1; climbs = is_cut (length ks) os e k }

      pub cites_none : length ks ≡ 0 → false ≡ whole_references os ks ss ts
      unfolding whole_references cited_ok
      cites_none m = rw (← d, not-false a h, ← e, not-false b k, none-cited os ks ss ts cited m)

      pub columns_decide : (length ks ≡ 0 → ⊥) → {r : Bool} → r ≡ columns_ok os ks ss → r ≡ whole_references os ks ss ts
      unfolding whole_references cited_ok
      columns_decide m g = rw (← d, not-false a h, ← e, not-false b k, some-cited os ks ss ts cited m, by-columns os ks ss ts cited) g

module _ (os ks ss ts : List ℕ) (e : whole_references os ks ss ts ≡ true) where
  parts : (even3 (length ks) (length ss) (length ts) ≡ true) × (from_to 0 (length ks) os ≡ true) × (cited_ok (cited_from os ks ss ts) ≡ true)
  unfolding whole_references
  parts =
      let p = both (even3 (length ks) (length ss) (length ts)) (from_to 0 (length ks) os && cited_ok (cited_from os ks ss ts)) e in
      let q = both (from_to 0 (length ks) os) (cited_ok (cited_from os ks ss ts)) p.1 in
      (p.0, q.0, q.1)

  pub references-whole : Cited os ks ss ts
  references-whole = let s = three-same (length ks) (length ss) (length ts) parts.0 in record { space_count = s.0; target_count = s.1; climbs = parts.1 }

  pub references-ok : (any_reference (cited_from os ks ss ts) ≡ true) × (all references_ok (cited_from os ks ss ts) ≡ true)
  unfolding cited_ok
  references-ok = both (any_reference (cited_from os ks ss ts)) (all references_ok (cited_from os ks ss ts)) parts.2

-- ── few enough ───────────────────────────────────────────────────────────────────────────────

pub few-offsets : {r : Bool} (offsets : ℕ) → r ≡ any (ltb max_records) (citing_rows offsets ∷ []) → r ≡ false → offsets ≤ 1025
few-offsets offsets d e = let h = (few-first 1024 (offsets - 1) [] (sym d ∙ e)).0 in omega arith

pub few-kinds : {r : Bool} (a b c : ℕ) → r ≡ any (ltb max_numbers) (a ∷ b ∷ c ∷ []) → r ≡ false → a ≤ 4096
few-kinds a b c d e = (few-first 4096 a (b ∷ c ∷ []) (sym d ∙ e)).0

pub references-few : (offsets a b c : ℕ) → any (ltb max_records) (citing_rows offsets ∷ []) ≡ false → any (ltb max_numbers) (a ∷ b ∷ c ∷ []) ≡ false
    → 2 + references_body (citing_rows offsets) a < 2 ^ 32
references-few offsets a b c d e =
    let h = (few-first 1024 (offsets - 1) [] d).0 in
    let k = (few-first 4096 a (b ∷ c ∷ []) e).0 in
    omega arith

pub by_size : {r : Bool} {rows n : ℕ} (len at offsets references : ℕ) → rows ≡ citing_rows offsets → n ≡ references_size rows references → r ≡ ltb len (at + n)
    → r ≡ ltb len (at + references_size (citing_rows offsets) references)
by_size len at offsets references d e f = rw (e, d) at f
