-- Archives that are alike have the same summary: nothing of what was erased is left in it.
use mathlib.Core.Path.{◌≡◌, refl, ap, ap₂}
use mathlib.Core.List.{List}
use mathlib.Core.Logic.{inl, inr}
use mathlib.Core.Option.{Option, none, some}
use Prim.Native.Nat.{ℕ, ◌+◌, ◌≤◌, ◌<◌}
use native.Mathlib.Omega.{arith}
use Rattle.lists.specs.Lists.{Pairs, once, up_from}
use Rattle.lists.proofs.Each.{each-imp}
use Rattle.lists.proofs.Flat.{map-ext}
use Rattle.lists.proofs.Pairs.{pairs-map, each-up_from}
use Rattle.columns.specs.Limits.{Served}
use Rattle.cover.specs.Chains.{Link}
use Rattle.cover.proofs.Links.{sort-same}
use Rattle.cleaning.specs.Archive.{Group, Archive, at}
use Rattle.cleaning.specs.Routes.{ends}
use Rattle.cleaning.specs.Cleaning.{renumber, new_parents, survivors}
use Rattle.cleaning.specs.Summary.{sorted, group_summary, kept, kept_by, summary}
use Rattle.cleaning.specs.Alike.{SameCover, SameGroup, SameEnd, SameSurvivor, Alike}
use Rattle.cleaning.proofs.Inj.{renumber-before, renumber-past}

-- ── groups ───────────────────────────────────────────────────────────────────────────────────

same-sorted : (a b : Option (List Link)) → SameCover a b → sorted a ≡ sorted b
same-sorted none none s = refl
same-sorted none (some ms) s = absurd s
same-sorted (some ls) none s = absurd s
same-sorted (some ls) (some ms) s = ap some (sort-same ls ms s)

same-group-summary : (g h : Group) → SameGroup g h → group_summary g ≡ group_summary h
same-group-summary g h s = λ i. record { depth = s.same_depth i; links = same-sorted g.links h.links s.same_cover i }

-- ── survivors ────────────────────────────────────────────────────────────────────────────────

module _ (K : ℕ) (served : Served K) (A B : Archive) (s : A.start ≡ B.start) where
  same_number : (p q : ℕ) → SameEnd A B p q → renumber A p ≡ renumber B q
  unfolding SameEnd
  same_number p q (inl h) = omega (arith, renumber-before A p h.0, renumber-before B q (omega arith))
  same_number p q (inr h) = omega (arith, renumber-past A p h.0, renumber-past B q h.1)

  same_new : (k p q : ℕ) → Pairs (SameEnd A B) (once (ends A k p)) (once (ends B k q)) → new_parents A k p ≡ new_parents B k q
  unfolding new_parents
  same_new k p q r = pairs-map (SameEnd A B) (renumber A) (renumber B) same_number (once (ends A k p)) (once (ends B k q)) r

  same_body : (p q : ℕ) → SameSurvivor K A B p q → (at A p).body ≡ (at B q).body
  same_body p q r = λ i. record {
    group = r.same_group i;
    tag = r.same_tag i;
    label = r.same_label i;
    root = r.same_root i;
    unresolved = r.same_unresolved i;
  }

  same_kept : (p q : ℕ) → SameSurvivor K A B p q → kept_by K A p ≡ kept_by K B q
  unfolding kept_by
  same_kept p q r = ap₂ kept (same_body p q r)
      (map-ext (λ k. new_parents A k p) (λ k. new_parents B k q) (up_from 0 K)
      (each-imp (λ k. (0 ≤ k) × (k < 0 + K)) (λ k. new_parents A k p ≡ new_parents B k q) (up_from 0 K)
      (λ k h. same_new k p q (r.same_ends k (omega arith))) (each-up_from 0 K)))

-- ── the whole ────────────────────────────────────────────────────────────────────────────────

pub summary-alike : (K : ℕ) (served : Served K) (A B : Archive) → Alike K A B → summary K A ≡ summary K B
unfolding summary
summary-alike K served A B l = λ i. record {
  start = l.same_start i;
  subject = l.same_subject i;
  groups = pairs-map SameGroup group_summary group_summary same-group-summary A.groups B.groups l.same_groups i;
  rows = pairs-map (SameSurvivor K A B) (kept_by K A) (kept_by K B) (same_kept K served A B l.same_start) (survivors A) (survivors B) l.same_survivors i;
}
