-- The rules of rows of references are those of the columns that they stand in.
use mathlib.Core.Path.{◌≡◌, refl, sym, ◌∙◌, ap, ap₂}
use mathlib.Core.Bool.{Bool, true, false, not, ◌&&◌}
use mathlib.Core.Logic.{inl, inr}
use mathlib.Core.List.{List, [], ◌∷◌, map}
use Prim.Native.Nat.{ℕ, zero, suc}
use native.Mathlib.Omega.{arith}
use lib.Dec.{leb, eqb}
use lib.ListN.{length, take, drop}
use borrow.Author.Tests.{ne_eqb}
use Rattle.lists.specs.Lists.{all, filter, joined}
use Rattle.lists.proofs.Tests.{tested, all_append}
use Rattle.columns.specs.EdgeSet.{cut_from, cut}
use Rattle.columns.proofs.Offsets.{joined-cut}
use Rattle.archive.specs.File.{Reference, any_reference}
use Rattle.archive.specs.Parse.{reference_ok, of_kind, references_ok}
use Rattle.archive_store.specs.Lent.{zip3, reference_from, cited_from, Cited}
use Rattle.archive_store.proofs.Zipped.{length-zip3}
use Rattle.archive_store.proofs.references.Rows.{cited-many}
use Rattle.archive_write.specs.ByColumns.{up_to, times_in, once_at_most, columns_ok}

-- ── a test of all ────────────────────────────────────────────────────────────────────────────

module _ {A : Type 0} where
  all_same : (p q : A → Bool) → ((x : A) → p x ≡ q x) → (xs : List A) → all p xs ≡ all q xs
  unfolding all
  all_same p q h [] = refl
  all_same p q h (x ∷ xs) = rw (h x, all_same p q h xs)

  all_both : (p q : A → Bool) (xs : List A) → all (λ x. p x && q x) xs ≡ (all p xs && all q xs)
  unfolding all
  all_both p q [] = refl
  all_both p q (x ∷ xs) = rw (all_both p q xs) (go (p x) (q x) (all p xs) (all q xs))
    where
      go : (a b c d : Bool) → ((a && b) && (c && d)) ≡ ((a && c) && (b && d))
      go true true c d = refl
      go true false true d = refl
      go true false false d = refl
      go false b c d = refl

  all-joined : (p : A → Bool) (ls : List (List A)) → all (all p) ls ≡ all p (joined ls)
  unfolding all joined
  all-joined p [] = refl
  all-joined p (l ∷ ls) = rw (all-joined p ls) (sym (all_append p l (joined ls)))

  all_map : {B : Type 0} (p : B → Bool) (f : A → B) (xs : List A) → all p (map f xs) ≡ all (λ x. p (f x)) xs
  unfolding all
  all_map p f [] = refl
  all_map p f (x ∷ xs) = rw (all_map p f xs)

-- ── parts of columns ─────────────────────────────────────────────────────────────────────────

module _ {A B : Type 0} (f : A → B) where
  take-map : (n : ℕ) (xs : List A) → take n (map f xs) ≡ map f (take n xs)
  take-map zero xs = refl
  take-map (suc n) [] = refl
  take-map (suc n) (x ∷ xs) = ap (λ l. f x ∷ l) (take-map n xs)

  drop-map : (n : ℕ) (xs : List A) → drop n (map f xs) ≡ map f (drop n xs)
  drop-map zero xs = refl
  drop-map (suc n) [] = refl
  drop-map (suc n) (x ∷ xs) = drop-map n xs

  cut_from-map : (a : ℕ) (bs : List ℕ) (xs : List A) → cut_from a bs (map f xs) ≡ map (map f) (cut_from a bs xs)
  unfolding cut_from
  cut_from-map a [] xs = refl
  cut_from-map a (b ∷ bs) xs = ap₂ (λ l ls. l ∷ ls) (ap (drop a) (take-map b xs) ∙ drop-map a (take b xs)) (cut_from-map b bs xs)

  cut-map : (os : List ℕ) (xs : List A) → cut os (map f xs) ≡ map (map f) (cut os xs)
  unfolding cut
  cut-map [] xs = refl
  cut-map (a ∷ bs) xs = cut_from-map a bs xs

-- a column, taken out of the references again
kinds-again : (xs ys zs : List ℕ) → length ys ≡ length xs → length zs ≡ length xs → map (λ r. r.kind) (zip3 reference_from xs ys zs) ≡ xs
unfolding zip3 reference_from
kinds-again [] ys zs h k = refl
kinds-again (x ∷ xs) [] zs h k = absurd (omega arith)
kinds-again (x ∷ xs) (y ∷ ys) [] h k = absurd (omega arith)
kinds-again (x ∷ xs) (y ∷ ys) (z ∷ zs) h k = rw (kinds-again xs ys zs (omega arith) (omega arith))

spaces-again : (xs ys zs : List ℕ) → length ys ≡ length xs → length zs ≡ length xs → map (λ r. r.space) (zip3 reference_from xs ys zs) ≡ ys
unfolding zip3 reference_from
spaces-again [] [] zs h k = refl
spaces-again [] (y ∷ ys) zs h k = absurd (omega arith)
spaces-again (x ∷ xs) [] zs h k = absurd (omega arith)
spaces-again (x ∷ xs) (y ∷ ys) [] h k = absurd (omega arith)
spaces-again (x ∷ xs) (y ∷ ys) (z ∷ zs) h k = rw (spaces-again xs ys zs (omega arith) (omega arith))

-- ── rows ─────────────────────────────────────────────────────────────────────────────────────

of-kind : (kind : ℕ) (rs : List Reference) → of_kind kind rs ≡ times_in kind (map (λ r. r.kind) rs)
unfolding of_kind times_in filter
of-kind kind [] = refl
of-kind kind (r ∷ rs) = elim (tested (eqb r.kind kind)) [
  | inl e ↦ rw (e, of-kind kind rs) (omega arith)
  | inr e ↦ rw (e, of-kind kind rs) (omega arith)
]

once : (kind : ℕ) (rs : List Reference) → leb (of_kind kind rs) 1 ≡ once_at_most kind (map (λ r. r.kind) rs)
unfolding once_at_most
once kind rs = ap (λ n. leb n 1) (of-kind kind rs)

rules-apart : (rss : List (List Reference)) → all references_ok rss ≡ (all (all reference_ok) rss && (all (λ rs. leb (of_kind 3 rs) 1) rss && all (λ rs. leb (of_kind 5 rs) 1) rss))
unfolding references_ok
rules-apart rss =
    all_both (all reference_ok) (λ rs. leb (of_kind 3 rs) 1 && leb (of_kind 5 rs) 1) rss
    ∙ ap (λ b. all (all reference_ok) rss && b) (all_both (λ rs. leb (of_kind 3 rs) 1) (λ rs. leb (of_kind 5 rs) 1) rss)

any-joined : (rss : List (List Reference)) → any_reference rss ≡ not (eqb (length (joined rss)) 0)
unfolding any_reference joined
any-joined [] = refl
any-joined ([] ∷ rss) = any-joined rss
any-joined ((r ∷ rs) ∷ rss) = sym (ap not (ne_eqb (length (joined ((r ∷ rs) ∷ rss))) 0 (λ e. omega arith)))

module _ (os ks ss ts : List ℕ) (f : Cited os ks ss ts) where
  many : length (zip3 reference_from ks ss ts) ≡ length ks
  many = length-zip3 reference_from ks ss ts f.space_count f.target_count

  once-cited : (kind : ℕ) → all (λ rs. leb (of_kind kind rs) 1) (cited_from os ks ss ts) ≡ all (once_at_most kind) (cut os ks)
  unfolding cited_from
  once-cited kind =
      let xs = zip3 reference_from ks ss ts in
      all_same (λ rs. leb (of_kind kind rs) 1) (λ rs. once_at_most kind (map (λ r. r.kind) rs)) (once kind) (cut os xs)
      ∙ sym (all_map (once_at_most kind) (map (λ r. r.kind)) (cut os xs))
      ∙ ap (all (once_at_most kind)) (sym (cut-map (λ r. r.kind) os xs))
      ∙ ap (λ l. all (once_at_most kind) (cut os l)) (kinds-again ks ss ts f.space_count f.target_count)

  known-cited : all (all reference_ok) (cited_from os ks ss ts) ≡ (up_to 5 ks && up_to 3 ss)
  unfolding cited_from reference_ok up_to
  known-cited =
      let xs = zip3 reference_from ks ss ts in
      all-joined reference_ok (cut os xs)
      ∙ ap (all reference_ok) (joined-cut xs os (rw many f.climbs))
      ∙ all_both (λ r. leb r.kind 5) (λ r. leb r.space 3) xs
      ∙ ap₂ (λ a b. a && b)
      (sym (all_map (λ x. leb x 5) (λ r. r.kind) xs) ∙ ap (all (λ x. leb x 5)) (kinds-again ks ss ts f.space_count f.target_count))
      (sym (all_map (λ x. leb x 3) (λ r. r.space) xs) ∙ ap (all (λ x. leb x 3)) (spaces-again ks ss ts f.space_count f.target_count))

  pub by-columns : all references_ok (cited_from os ks ss ts) ≡ columns_ok os ks ss
  unfolding columns_ok
  by-columns = rules-apart (cited_from os ks ss ts) ∙ rw (known-cited, once-cited 3, once-cited 5)

  pub none-cited : length ks ≡ 0 → any_reference (cited_from os ks ss ts) ≡ false
  none-cited h = any-joined (cited_from os ks ss ts) ∙ rw (cited-many os ks ss ts f, h)

  pub some-cited : (length ks ≡ 0 → ⊥) → any_reference (cited_from os ks ss ts) ≡ true
  some-cited h = any-joined (cited_from os ks ss ts) ∙ rw (cited-many os ks ss ts f, ne_eqb (length ks) 0 h)
