-- What is answered and written where a kind, a set or a flag was given by a number.
use Rattle.std.specs.Prelude.{Err, None, Ok, Result, Some}
use mathlib.Core.Bool.{Bool}
use mathlib.Core.List.{List, [], ◌∷◌}
use mathlib.Core.Option.{Option, none, some}
use mathlib.Core.Path.{◌≡◌, refl, ap, ◌∙◌}
use Prim.Native.Nat.{ℕ, ◌<◌, ◌≤◌, ◌+◌}
use native.Mathlib.Omega.{arith}
use borrow.Author.Tests.{lt-ltb, le-ltb}
use Rattle.columns.specs.Limits.{kinds, edge_sets}
use Rattle.columns.specs.Refusal.{Verdict, refused, first_of, Lent}
use Rattle.columns.specs.EdgeSet.{EdgeSet}
use Rattle.columns.specs.Reading.{Granule, idle_labels, read_beside, decode_set}
use Rattle.columns.specs.Questions.{list_of, parents, children}
use Rattle.columns.specs.Walk.{Walked, walk}
use Rattle.columns.specs.Answers.{in_one, counted_of, written_over}
use Rattle.columns.specs.declared.refusal.Refusal.{Refusal}
use Rattle.columns.specs.declared.refusal.Refusal.TheVariants.{InboundParent}
use Rattle.columns.proofs.Told.{last-rule}
use Rattle.std.specs.declared.option.Option as rust
use Rattle.columns_read.specs.Granules.{cover_of, decoded_of, set_in}
use Rattle.columns_read.specs.declared.Counts.{Counts}
use Rattle.columns_walk.specs.Handing.{handed_of, numbers_of, ends_of, Promised}
use Rattle.columns_walk.specs.level.Step.{next}
use Rattle.ffi.specs.declared.answer.Answer.{Answer}
use Rattle.ffi.specs.declared.granule.Granule as told
use Rattle.ffi_columns.specs.Numbers.{unnamed, after, count_of, granule_of, walked_of, ancestor_of, PromisedBy}
use Rattle.ffi_columns.specs.declared.walks.Walked as walks
use Rattle.ffi_columns.specs.declared.walks.Ancestor.{Ancestor}

-- ── a kind or a set by its number ────────────────────────────────────────────────────────────

-- by a number that names one, the last of them being `last`
module _ (last n : ℕ) (h : n < last + 1) where
  is-named : unnamed (last + 1) n ≡ none
  is-named = rw (lt-ltb n (last + 1) h)

  of-named : {A : Type 0} (v : Verdict A) → after (unnamed (last + 1) n) v ≡ v
  unfolding after
  of-named v = rw is-named

-- by a number that names none
module _ (last n : ℕ) (h : last + 1 ≤ n) where
  is-unnamed : unnamed (last + 1) n ≡ some InboundParent
  is-unnamed = rw (le-ltb n (last + 1) h)

  of-unnamed : {A : Type 0} (v : Verdict A) → after (unnamed (last + 1) n) v ≡ refused InboundParent
  unfolding after
  of-unnamed v = rw is-unnamed

  pub unnamed-counted : (v : Verdict (List ℕ)) {r : Answer} → r ≡ count_of (Err InboundParent) → r ≡ count_of (counted_of (after (unnamed (last + 1) n) v))
  unfolding counted_of
  unnamed-counted v e = rw (of-unnamed v) e

  pub unnamed-as-was : (v : Verdict (List ℕ)) (old : List ℕ) → old ≡ written_over old (after (unnamed (last + 1) n) v)
  unfolding written_over
  unnamed-as-was v old = rw (of-unnamed v)

  pub unnamed-walked : (v : Verdict Walked) {r : walks.Walked} → r ≡ walked_of (Err InboundParent) → r ≡ walked_of (handed_of (after (unnamed (last + 1) n) v))
  unfolding handed_of
  unnamed-walked v e = rw (of-unnamed v) e

  pub unnamed-numbers : (v : Verdict Walked) (old : List ℕ) → old ≡ written_over old (numbers_of (after (unnamed (last + 1) n) v))
  unfolding written_over numbers_of
  unnamed-numbers v old = rw (of-unnamed v)

  pub unnamed-ends : (v : Verdict Walked) (old : List ℕ) → old ≡ written_over old (ends_of (after (unnamed (last + 1) n) v))
  unfolding written_over ends_of
  unnamed-ends v old = rw (of-unnamed v)

-- a call is asked with the kind or the set itself, whose number is m
module _ (last n m : ℕ) (h : n < last + 1) (e : m ≡ n) where
  module _ (f : ℕ → Verdict (List ℕ)) where
    named-counted : (x : Result ℕ Refusal) {r : Answer} → x ≡ counted_of (f m) → r ≡ count_of x → r ≡ count_of (counted_of (after (unnamed (last + 1) n) (f n)))
    named-counted x p q = rw (of-named last n h (f n), ← e) (q ∙ ap count_of p)

    named-written : (old out : List ℕ) → out ≡ written_over old (f m) → out ≡ written_over old (after (unnamed (last + 1) n) (f n))
    named-written old out p = rw (of-named last n h (f n), ← e) p

-- one set
module _ (first rows end : ℕ) (s : EdgeSet) (lent : List Lent) (n m : ℕ) (h : n < edge_sets) (e : m ≡ n) where
  pub set_told : (x : Result ℕ Refusal) {r : Answer} → x ≡ counted_of (in_one (decode_set kinds m first rows end s lent)) → r ≡ count_of x
      → r ≡ count_of (counted_of (after (unnamed edge_sets n) (in_one (decode_set kinds n first rows end s lent))))
  set_told = named-counted 2 n m h e (λ k. in_one (decode_set kinds k first rows end s lent))

  pub set-written : (old out : List ℕ) → out ≡ written_over old (in_one (decode_set kinds m first rows end s lent))
      → out ≡ written_over old (after (unnamed edge_sets n) (in_one (decode_set kinds n first rows end s lent)))
  set-written = named-written 2 n m h e (λ k. in_one (decode_set kinds k first rows end s lent))

-- questions of a kind
module _ (first rows end : ℕ) (s : EdgeSet) (lent : List Lent) (n m : ℕ) (h : n < kinds) (e : m ≡ n) where
  module _ (number : ℕ) where
    pub parents-told : (x : Result ℕ Refusal) {r : Answer} → x ≡ counted_of (parents kinds first rows end s m number lent) → r ≡ count_of x
        → r ≡ count_of (counted_of (after (unnamed kinds n) (parents kinds first rows end s n number lent)))
    parents-told = named-counted 1 n m h e (λ k. parents kinds first rows end s k number lent)

    pub parents-written : (old out : List ℕ) → out ≡ written_over old (parents kinds first rows end s m number lent)
        → out ≡ written_over old (after (unnamed kinds n) (parents kinds first rows end s n number lent))
    parents-written = named-written 1 n m h e (λ k. parents kinds first rows end s k number lent)

    module _ (i : EdgeSet) where
      pub children-told : (x : Result ℕ Refusal) {r : Answer} → x ≡ counted_of (children kinds first rows end s i m number lent) → r ≡ count_of x
          → r ≡ count_of (counted_of (after (unnamed kinds n) (children kinds first rows end s i n number lent)))
      children-told = named-counted 1 n m h e (λ k. children kinds first rows end s i k number lent)

      pub children-written : (old out : List ℕ) → out ≡ written_over old (children kinds first rows end s i m number lent)
          → out ≡ written_over old (after (unnamed kinds n) (children kinds first rows end s i n number lent))
      children-written = named-written 1 n m h e (λ k. children kinds first rows end s i k number lent)

  module _ (limit : ℕ) where
    module _ (visited frontier : List ℕ) where
      pub next-told : (x : Result ℕ Refusal) {r : Answer} → x ≡ counted_of (next kinds first rows end s m limit visited frontier lent) → r ≡ count_of x
          → r ≡ count_of (counted_of (after (unnamed kinds n) (next kinds first rows end s n limit visited frontier lent)))
      next-told = named-counted 1 n m h e (λ k. next kinds first rows end s k limit visited frontier lent)

      pub next-written : (old out : List ℕ) → out ≡ written_over old (next kinds first rows end s m limit visited frontier lent)
          → out ≡ written_over old (after (unnamed kinds n) (next kinds first rows end s n limit visited frontier lent))
      next-written = named-written 1 n m h e (λ k. next kinds first rows end s k limit visited frontier lent)

    module _ (start : ℕ) where
      named-walk : after (unnamed kinds n) (walk kinds first rows end s n limit start lent) ≡ walk kinds first rows end s m limit start lent
      named-walk = of-named 1 n h (walk kinds first rows end s n limit start lent) ∙ rw e

      pub walk-told : (x : Result (ℕ × ℕ) Refusal) {r : walks.Walked} → x ≡ handed_of (walk kinds first rows end s m limit start lent) → r ≡ walked_of x
          → r ≡ walked_of (handed_of (after (unnamed kinds n) (walk kinds first rows end s n limit start lent)))
      walk-told x p q = rw named-walk (q ∙ ap walked_of p)

      pub numbers-written : (old out : List ℕ) → out ≡ written_over old (numbers_of (walk kinds first rows end s m limit start lent))
          → out ≡ written_over old (numbers_of (after (unnamed kinds n) (walk kinds first rows end s n limit start lent)))
      numbers-written old out p = rw named-walk p

      pub ends-written : (old out : List ℕ) → out ≡ written_over old (ends_of (walk kinds first rows end s m limit start lent))
          → out ≡ written_over old (ends_of (after (unnamed kinds n) (walk kinds first rows end s n limit start lent)))
      ends-written old out p = rw named-walk p

-- ── a granule, by whether it has a cover ─────────────────────────────────────────────────────

module _ (first rows end : ℕ) (f r i : EdgeSet) (chains seqs : List ℕ) (lent : List Lent) (a b : Bool) (e : a ≡ b) where
  abbrev verdict : Bool → Verdict Granule
  verdict cover = read_beside kinds (idle_labels cover chains seqs) first rows end (record { forward = f; reverse = r; inbound = i; labels = cover_of cover chains seqs }) lent

  pub granule-told : {q : told.Granule} (x : Result Counts Refusal) → x ≡ decoded_of (verdict a) → q ≡ granule_of x → q ≡ granule_of (decoded_of (verdict b))
  granule-told x d h = rw (← e) (h ∙ ap granule_of d)

  pub granule-written : (set : ℕ) (l m : List ℕ) → l ≡ written_over m (set_in set (verdict a)) → l ≡ written_over m (set_in set (verdict b))
  granule-written set l m h = rw (← e) h

-- ── the shared ancestor ──────────────────────────────────────────────────────────────────────

-- an answer by numbers promises what the answer does
promised : (s : Result (rust.Option ℕ) Refusal) (rules : Option Refusal) (p : ℕ → List ℕ) (a b : ℕ) → Promised s rules p a b → PromisedBy (ancestor_of s) rules p a b
unfolding ancestor_of
promised (Err r) rules p a b h = rw h refl
promised (Ok (Some x)) rules p a b h = rw h.0 (record { ancestor = some x; told = refl; right = h.1 })
promised (Ok None) rules p a b h = rw h.0 (record { ancestor = none; told = refl; right = h.1 })

module _ (n : ℕ) (rules : Option Refusal) (first : ℕ) (lists : List (List ℕ)) (a b : ℕ) where
  pub unnamed-promised : {r : Ancestor} → kinds ≤ n → r ≡ ancestor_of (Err InboundParent) → PromisedBy r (first_of (unnamed kinds n ∷ rules ∷ [])) (list_of kinds first lists n) a b
  unfolding first_of
  unnamed-promised h e = rw (is-unnamed 1 n h) e

  pub named-promised : {r : Ancestor} (s : Result (rust.Option ℕ) Refusal) (m : ℕ) → n < kinds → m ≡ n → r ≡ ancestor_of s → Promised s rules (list_of kinds first lists m) a b
      → PromisedBy r (first_of (unnamed kinds n ∷ rules ∷ [])) (list_of kinds first lists n) a b
  unfolding first_of
  named-promised s m h e q p = rw (is-named 1 n h, last-rule rules, q, ← e) (promised s rules (list_of kinds first lists m) a b p)
