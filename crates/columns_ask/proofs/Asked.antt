-- What a question for parents or children answers, and leaves in the slice that it is lent.
use Rattle.std.specs.Prelude.{Err, Ok, Result}
use mathlib.Core.Path.{◌≡◌, refl, ◌∙◌, ap, sym}
use mathlib.Core.Bool.{Bool, true, false}
use mathlib.Core.List.{List, [], ◌∷◌, ◌++◌}
use mathlib.Core.Option.{none}
use Prim.Native.Nat.{ℕ, ◌+◌, ◌≤◌}
use native.Mathlib.Omega.{arith}
use lib.Dec.{ltb}
use lib.ListN.{length, length-append}
use lib.Seq.{sets}
use borrow.Author.Tests.{ltb-false}
use Rattle.lists.proofs.Slices.{sets-append}
use Rattle.columns.specs.Limits.{max_numbers}
use Rattle.columns.specs.Refusal.{unless, refuse, first_of, Lent, limits}
use Rattle.columns.specs.EdgeSet.{EdgeSet, reverse, inbound}
use Rattle.columns.specs.Reading.{slots_of, set_rules, set_lengths}
use Rattle.columns.specs.Questions.{list_of, parents, children, children_of}
use Rattle.columns.specs.Answers.{kind_of, room, lent_rules, ruling, counted_of, written_over}
use Rattle.columns.specs.Readable.{Readable}
use Rattle.columns_ask.specs.Views.{children_rules, asked_rules}
use Rattle.columns.specs.declared.kind.Kind.{Kind}
use Rattle.columns.specs.declared.refusal.Refusal.{Refusal}
use Rattle.columns.proofs.Checks.{room-kept, readable, list-few, lent-room, list_counted, list_written, list-refused, list-as-was, then-rest, then-broken, first-append}
use Rattle.columns.specs.declared.refusal.Refusal.TheVariants.{OverNumbers}
use Rattle.columns.proofs.FirstBroken.{each_none, not-refused}
use Rattle.columns.proofs.Told.{told-kept}
use Rattle.columns_ask.proofs.Limited.{readable-reverse, readable-inbound}

-- ── parents ──────────────────────────────────────────────────────────────────────────────────

-- a host names the number of kinds, and W is that number
module _ (W K : ℕ) (w : K ≡ W) (first rows end : ℕ) (s : EdgeSet) (kind : Kind) (slot number : ℕ) (old : List ℕ) (k : Result (Unit {0}) Refusal)
    (e : k ≡ ruling (lent_rules K 0 first rows end s (room (length old)))) where
  asked : parents W first rows end s (kind_of kind) number (room (length old))
      ≡ unless (lent_rules K 0 first rows end s (room (length old))) (list_of K first (slots_of K first s) (kind_of kind) number)
  unfolding parents lent_rules
  asked = rw (← w)

  module _ (h : k ≡ Ok tt) (i : slot ≡ kind_of kind) where
    pub parents-counted : (n : ℕ) → n ≡ 0 + length (list_of K first (slots_of K first s) slot number) → Ok n ≡ counted_of (parents W first rows end s (kind_of kind) number (room (length old)))
    parents-counted n f = rw asked (list_counted k _ _ old e h n (rw (← i) (f ∙ omega arith)))

    pub parents-written : (out : List ℕ) → out ≡ sets old 0 (list_of K first (slots_of K first s) slot number)
        → out ≡ written_over old (parents W first rows end s (kind_of kind) number (room (length old)))
    parents-written out f =
        let n = list-few K first s (readable K 0 first rows end s (room (length old)) k e h) (kind_of kind) number in
        rw asked (list_written k _ _ old e h (omega (arith, n, lent-room K 0 first rows end s (length old) k e h)) out (rw (← i) f))

  pub parents-refused : (why : Refusal) → k ≡ Err why → Err why ≡ counted_of (parents W first rows end s (kind_of kind) number (room (length old)))
  parents-refused why h = rw asked (list-refused k _ (list_of K first (slots_of K first s) (kind_of kind) number) old e why h)

  pub parents-as-were : (why : Refusal) → k ≡ Err why → old ≡ written_over old (parents W first rows end s (kind_of kind) number (room (length old)))
  parents-as-were why h = rw asked (list-as-was k _ (list_of K first (slots_of K first s) (kind_of kind) number) old e why h)

-- ── children ─────────────────────────────────────────────────────────────────────────────────

-- two lists one after the other
module _ (K first : ℕ) (r i : EdgeSet) (kind number n m : ℕ) (e : n ≡ length (list_of K first (slots_of K first r) kind number))
    (f : m ≡ length (list_of K first (slots_of K first i) kind number)) where
  both_long : length (children_of K first r i kind number) ≡ n + m
  unfolding children_of
  both_long = omega (arith, length-append (list_of K first (slots_of K first r) kind number) (list_of K first (slots_of K first i) kind number))

  pub many-children : ltb 4096 (n + m) ≡ ltb max_numbers (length (children_of K first r i kind number))
  many-children = rw both_long

module _ (K first : ℕ) (r i : EdgeSet) (kind number n : ℕ) (e : n ≡ 0 + length (list_of K first (slots_of K first r) kind number)) where
  pub both-counted : (m : ℕ) → m ≡ n + length (list_of K first (slots_of K first i) kind number) → m ≡ length (children_of K first r i kind number)
  unfolding children_of
  both-counted m f = omega (arith, length-append (list_of K first (slots_of K first r) kind number) (list_of K first (slots_of K first i) kind number))

  pub both-written : (old mid out : List ℕ) → mid ≡ sets old 0 (list_of K first (slots_of K first r) kind number) → out ≡ sets mid n (list_of K first (slots_of K first i) kind number)
      → out ≡ sets old 0 (children_of K first r i kind number)
  unfolding children_of
  both-written old mid out g p = p ∙ rw (e, g, sets-append old 0 (list_of K first (slots_of K first r) kind number) (list_of K first (slots_of K first i) kind number))

-- the rules of the two sets, then that of the answer
module _ (K first rows end : ℕ) (r i : EdgeSet) (kind number : ℕ) (lent : List Lent) (k : Result (Unit {0}) Refusal) (e : k ≡ ruling (children_rules K first rows end r i lent)) where
  module _ (h : k ≡ Ok tt) (over : Bool) (f : over ≡ ltb max_numbers (length (children_of K first r i kind number))) where
    pub over-children : over ≡ true → Err OverNumbers ≡ ruling (asked_rules K first rows end r i kind number lent)
    unfolding asked_rules first_of
    over-children g = then-rest k (children_rules K first rows end r i lent) (refuse OverNumbers (ltb max_numbers (length (children_of K first r i kind number))) ∷ []) e h
        (Err OverNumbers) (rw (← f, g))

    pub few_children : over ≡ false → (Ok tt) ≡ ruling (asked_rules K first rows end r i kind number lent)
    unfolding asked_rules first_of
    few_children g = then-rest k (children_rules K first rows end r i lent) (refuse OverNumbers (ltb max_numbers (length (children_of K first r i kind number))) ∷ []) e h (Ok tt) (rw (← f, g))

  pub sets-refused : (why : Refusal) → k ≡ Err why → Err why ≡ ruling (asked_rules K first rows end r i kind number lent)
  unfolding asked_rules
  sets-refused why h = then-broken k _ _ e why h

module _ (K first rows end : ℕ) (r i : EdgeSet) (slot number : ℕ) (old : List ℕ) (k : Result (Unit {0}) Refusal)
    (e : k ≡ ruling (asked_rules K first rows end r i slot number (room (length old)))) (h : k ≡ Ok tt) where
  kept-both : children_rules K first rows end r i (room (length old)) ≡ none
  unfolding asked_rules
  kept-both = (each_none _ (told-kept _ e h)).0

  pub reverse-readable : Readable K first r
  reverse-readable = readable-reverse K first rows end r i (room (length old)) (Ok tt) (ap ruling (sym kept-both)) refl

  pub inbound-readable : Readable K first i
  inbound-readable = readable-inbound K first rows end r i (room (length old)) (Ok tt) (ap ruling (sym kept-both)) refl

-- a host names the number of kinds, and W is that number
module _ (W K : ℕ) (w : K ≡ W) (first rows end : ℕ) (r i : EdgeSet) (kind : Kind) (slot number : ℕ) (j : slot ≡ kind_of kind) (old : List ℕ) (k : Result (Unit {0}) Refusal)
    (e : k ≡ ruling (asked_rules K first rows end r i slot number (room (length old)))) where
  asked-both : children W first rows end r i (kind_of kind) number (room (length old)) ≡ unless (asked_rules K first rows end r i slot number (room (length old))) (children_of K first r i slot number)
  unfolding children asked_rules children_rules
  asked-both = rw (← w, j) (ap (λ o. unless o (children_of K first r i (kind_of kind) number))
      (first-append (limits (rows ∷ []) (set_lengths r ++ set_lengths i) (room (length old)) ∷ set_rules K reverse first rows end r ∷ set_rules K inbound first rows end i ∷ [])
      (refuse OverNumbers (ltb max_numbers (length (children_of K first r i (kind_of kind) number))) ∷ [])))

  module _ (h : k ≡ Ok tt) where
    pub children-counted : (n : ℕ) → n ≡ length (children_of K first r i slot number) → Ok n ≡ counted_of (children W first rows end r i (kind_of kind) number (room (length old)))
    children-counted n f = rw asked-both (list_counted k _ _ old e h n f)

    fits_both : length (children_of K first r i slot number) ≤ length old
    unfolding asked_rules children_rules
    fits_both =
        let few = ltb-false max_numbers (length (children_of K first r i slot number)) (not-refused OverNumbers _ (each_none _ (told-kept _ e h)).1.0) in
        omega (arith, few, room-kept _ _ (length old) (each_none _ (kept-both K first rows end r i slot number old k e h)).0)

    pub children-written : (out : List ℕ) → out ≡ sets old 0 (children_of K first r i slot number) → out ≡ written_over old (children W first rows end r i (kind_of kind) number (room (length old)))
    children-written out f = rw asked-both (list_written k _ _ old e h fits_both out f)

  pub children-refused : (why : Refusal) → k ≡ Err why → Err why ≡ counted_of (children W first rows end r i (kind_of kind) number (room (length old)))
  children-refused why h = rw asked-both (list-refused k _ (children_of K first r i slot number) old e why h)

  pub children-as-were : (why : Refusal) → k ≡ Err why → old ≡ written_over old (children W first rows end r i (kind_of kind) number (room (length old)))
  children-as-were why h = rw asked-both (list-as-was k _ (children_of K first r i slot number) old e why h)
