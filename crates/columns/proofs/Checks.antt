-- Rules in order and what is answered of them, and what columns whose rules are kept are.
use Rattle.std.specs.Prelude.{Err, Ok, Result}
use mathlib.Core.Path.{◌≡◌, refl, sym, ◌∙◌, ap}
use mathlib.Core.Bool.{Bool, true, false, ◌&&◌, not, or-false}
use mathlib.Core.Logic.{inl, inr}
use mathlib.Core.List.{List, [], ◌∷◌, ◌++◌}
use mathlib.Core.Option.{Option, none, some}
use Prim.Native.Nat.{ℕ, ◌≤◌, ◌<◌, ◌+◌, ◌-◌, ◌*◌}
use native.Mathlib.Omega.{arith}
use lib.Dec.{ltb, eqb}
use lib.IntN.{ℤ}
use lib.ListN.{length}
use lib.Seq.{sets}
use borrow.Author.Tests.{lt-ltb, le-ltb, ltb-true, ltb-false, eqb-true, not-false}
use Rattle.lists.specs.Lists.{any, joined}
use Rattle.lists.proofs.Tests.{tested, any_append}
use Rattle.lists.proofs.Once.{or-is-false}
use Rattle.lists.proofs.Slices.{sets-front}
use Rattle.lists.proofs.Flat.{joined-few}
use Rattle.columns.specs.Limits.{max_numbers}
use Rattle.columns.specs.Refusal.{unless, first_of, Lent, short, limits}
use Rattle.columns.specs.EdgeSet.{EdgeSet, cut, from_to, offsets_form}
use Rattle.columns.specs.Reading.{sound_from, slots_of, set_rules, set_lengths, decode_set}
use Rattle.columns.specs.Questions.{list_of}
use Rattle.columns.specs.Answers.{columns_of, room, limits_of, lent_rules, both_rules, ruling, in_one, counted_of, written_over}
use Rattle.columns.specs.Readable.{Readable, Edged}
use Rattle.columns.specs.declared.refusal.Refusal.{Refusal}
use Rattle.columns.specs.declared.refusal.Refusal.TheVariants.{OffsetsForm, DeltaCount, TargetSide, OverRecords, OverNumbers, SliceShort}
use Rattle.columns.proofs.FirstBroken.{each_none, not-refused, passed}
use Rattle.columns.proofs.Offsets.{form-climbs, form-length}
use Rattle.columns.proofs.Few.{few-targets}
use Rattle.columns.proofs.Told.{last-rule, told-kept, told}

-- ── rules in order ───────────────────────────────────────────────────────────────────────────

-- rules in two parts, one after the other
pub first-append : (xs ys : List (Option Refusal)) → first_of (xs ++ ys) ≡ first_of (first_of xs ∷ ys)
unfolding first_of
first-append [] ys = refl
first-append (none ∷ xs) ys = first-append xs ys
first-append (some r ∷ xs) ys = refl

any-kept : (p : ℕ → Bool) (x : ℕ) (xs : List ℕ) → any p (x ∷ xs) ≡ false → (p x ≡ false) × (any p xs ≡ false)
unfolding any
any-kept p x xs e = or-is-false (p x) (any p xs) e

-- rules in two parts: those of the second count where the first are kept
module _ (k : Result (Unit {0}) Refusal) (o : Option Refusal) (os : List (Option Refusal)) (e : k ≡ ruling o) where
  pub then-rest : k ≡ Ok tt → (q : Result (Unit {0}) Refusal) → q ≡ ruling (first_of os) → q ≡ ruling (first_of (o ∷ os))
  unfolding first_of
  then-rest h q g = rw (told-kept o e h) g

  pub then-broken : (why : Refusal) → k ≡ Err why → Err why ≡ ruling (first_of (o ∷ os))
  unfolding first_of
  then-broken why h = rw (told o e h)

-- ── limits ───────────────────────────────────────────────────────────────────────────────────

module _ (a b : ℕ) where
  pub over_first : 4096 < a → true ≡ any (ltb max_numbers) (a ∷ b ∷ [])
  unfolding any
  over_first h = rw (lt-ltb 4096 a h)

  pub over-second : a ≤ 4096 → ltb 4096 b ≡ any (ltb max_numbers) (a ∷ b ∷ [])
  unfolding any
  over-second h = rw (le-ltb 4096 a h, or-false)

module _ (a b c d : ℕ) (r : Bool) (e : r ≡ any (ltb max_numbers) (a ∷ b ∷ [])) where
  pub over-front : r ≡ true → true ≡ any (ltb max_numbers) (a ∷ b ∷ c ∷ d ∷ [])
  over-front h = rw (any_append (ltb max_numbers) (a ∷ b ∷ []) (c ∷ d ∷ []), sym e ∙ h)

  pub over-back : r ≡ false → (q : Bool) → q ≡ any (ltb max_numbers) (c ∷ d ∷ []) → q ≡ any (ltb max_numbers) (a ∷ b ∷ c ∷ d ∷ [])
  over-back h q f = rw (any_append (ltb max_numbers) (a ∷ b ∷ []) (c ∷ d ∷ []), sym e ∙ h) f

module _ (rows : ℕ) (over short : Bool) where
  pub many-rows : 1024 < rows → Err OverRecords ≡ ruling (limits_of rows over short)
  unfolding limits_of first_of any
  many-rows h = rw (lt-ltb 1024 rows h)

  module _ (h : rows ≤ 1024) where
    pub long-column : over ≡ true → Err OverNumbers ≡ ruling (limits_of rows over short)
    unfolding limits_of first_of any
    long-column f = rw (le-ltb 1024 rows h, f)

    module _ (f : over ≡ false) where
      pub short-slice : short ≡ true → Err SliceShort ≡ ruling (limits_of rows over short)
      unfolding limits_of first_of any
      short-slice g = rw (le-ltb 1024 rows h, f, g)

      pub in_limits : short ≡ false → (Ok tt) ≡ ruling (limits_of rows over short)
      unfolding limits_of first_of any
      in_limits g = rw (le-ltb 1024 rows h, f, g)

-- one set that is lent by itself
module _ (K set first rows end count : ℕ) (offsets : List ℕ) (deltas : List ℤ) (out : ℕ) where
  module _ (over : Bool) (k : Result (Unit {0}) Refusal) (f : over ≡ any (ltb max_numbers) (length offsets ∷ length deltas ∷ []))
      (e : k ≡ ruling (limits_of rows over (ltb out 4096))) where
    limits-are : limits (rows ∷ []) (set_lengths (columns_of count offsets deltas)) (room out) ≡ limits_of rows over (ltb out 4096)
    unfolding limits limits_of set_lengths short any
    limits-are = rw (f, or-false (ltb out 4096))

    pub lent-kept : k ≡ Ok tt → (q : Result (Unit {0}) Refusal) → q ≡ ruling (set_rules K set first rows end (columns_of count offsets deltas))
        → q ≡ ruling (lent_rules K set first rows end (columns_of count offsets deltas) (room out))
    unfolding lent_rules
    lent-kept h q g = then-rest k _ _ (e ∙ ap ruling (sym limits-are)) h q (g ∙ ap ruling (sym (last-rule (set_rules K set first rows end (columns_of count offsets deltas)))))

    pub lent-broken : (why : Refusal) → k ≡ Err why → Err why ≡ ruling (lent_rules K set first rows end (columns_of count offsets deltas) (room out))
    unfolding lent_rules
    lent-broken why h = then-broken k _ _ (e ∙ ap ruling (sym limits-are)) why h

-- a reverse set and an inbound set
module _ (K first rows end rc : ℕ) (ro : List ℕ) (rd : List ℤ) (ic : ℕ) (io : List ℕ) (id : List ℤ) where
  module _ (k : Result (Unit {0}) Refusal) (e : k ≡ ruling (set_rules K 1 first rows end (columns_of rc ro rd))) where
    pub both-kept : k ≡ Ok tt → (q : Result (Unit {0}) Refusal) → q ≡ ruling (set_rules K 2 first rows end (columns_of ic io id))
        → q ≡ ruling (both_rules K first rows end (columns_of rc ro rd) (columns_of ic io id))
    unfolding both_rules
    both-kept h q g = then-rest k _ _ e h q (g ∙ ap ruling (sym (last-rule (set_rules K 2 first rows end (columns_of ic io id)))))

    pub both-broken : (why : Refusal) → k ≡ Err why → Err why ≡ ruling (both_rules K first rows end (columns_of rc ro rd) (columns_of ic io id))
    unfolding both_rules
    both-broken why h = then-broken k _ _ e why h

-- ── columns whose rules are kept ─────────────────────────────────────────────────────────────

pub over_none : (rows : ℕ) (over tight : Bool) → limits_of rows over tight ≡ none → over ≡ false
unfolding limits_of
over_none rows over tight e = not-refused OverNumbers over (each_none _ e).1.0

-- no column is over its limit
pub few-numbers : (records : List ℕ) (columns : List ℕ) (lent : List Lent) → limits records columns lent ≡ none → any (ltb max_numbers) columns ≡ false
unfolding limits
few-numbers records columns lent e = not-refused OverNumbers _ (each_none _ e).1.0

-- the one slice that is lent for numbers is long enough
pub room-kept : (records columns : List ℕ) (n : ℕ) → limits records columns (room n) ≡ none → max_numbers ≤ n
unfolding limits any short
room-kept records columns n e = ltb-false n max_numbers (or-is-false (ltb n max_numbers) false (not-refused SliceShort _ (each_none _ e).1.1.0)).0

pub few-deltas : (s : EdgeSet) → any (ltb max_numbers) (set_lengths s) ≡ false → length s.deltas ≤ max_numbers
unfolding set_lengths
few-deltas s e = ltb-false max_numbers (length s.deltas) (any-kept (ltb max_numbers) _ _ (any-kept (ltb max_numbers) _ _ e).1).0

module _ (K set first rows end : ℕ) (s : EdgeSet) (e : set_rules K set first rows end s ≡ none) where
  pub kept-form : offsets_form K rows s.count s.offsets ≡ true
  unfolding set_rules
  kept-form = passed OffsetsForm _ (each_none _ e).0

  module _ (h : 0 < s.count) where
    kept-count : length s.deltas ≡ s.count
    unfolding set_rules
    kept-count =
        let p : ltb 0 s.count && not (eqb (length s.deltas) s.count) ≡ false = not-refused DeltaCount _ (each_none _ e).1.0 in
        eqb-true _ _ (not-false _ (rw (lt-ltb 0 s.count h) at p))

    pub kept-climbs : from_to 0 (length s.deltas) s.offsets ≡ true
    kept-climbs = rw kept-count (form-climbs K rows s.count s.offsets kept-form)

    pub kept-sides : sound_from K set first end 0 (cut s.offsets s.deltas) ≡ true
    unfolding set_rules
    kept-sides =
        let p : ltb 0 s.count && not (sound_from K set first end 0 (cut s.offsets s.deltas)) ≡ false = not-refused TargetSide _ (each_none _ e).1.1.0 in
        not-false _ (rw (lt-ltb 0 s.count h) at p)

  -- such a set has no more targets than a column holds numbers
  pub slots-few : length s.deltas ≤ max_numbers → length (joined (slots_of K first s)) ≤ max_numbers
  unfolding slots_of
  slots-few f =
      let n = few-targets K first s.count s.deltas s.offsets (form-climbs K rows s.count s.offsets kept-form) in
      elim (tested (ltb 0 s.count)) [
        | inl t ↦ omega (arith, n, kept-count (ltb-true 0 s.count t))
        | inr t ↦ omega (arith, n, ltb-false 0 s.count t)
      ]

module _ (K first : ℕ) (s : EdgeSet) (r : Readable K first s) where
  pub readable-few : length (joined (slots_of K first s)) ≤ max_numbers
  readable-few = slots-few K r.set first r.rows r.end s r.kept r.few

  pub list-few : (kind number : ℕ) → length (list_of K first (slots_of K first s) kind number) ≤ max_numbers
  unfolding list_of
  list-few kind number = elim (tested (ltb number first)) [ inl e ↦ rw e (omega arith) | inr e ↦ rw e (omega (arith, joined-few (slots_of K first s) (K * (number - first) + kind), readable-few)) ]

pub edged : (K first count : ℕ) (offsets : List ℕ) (deltas : List ℤ) → Readable K first (columns_of count offsets deltas) → (count ≡ 0 → ⊥) → Edged K first offsets deltas
edged K first count offsets deltas r h =
    let s = columns_of count offsets deltas in
    record {
      set = r.set;
      end = r.end;
      rows = r.rows;
      whole = form-length K r.rows count offsets (kept-form K r.set first r.rows r.end s r.kept);
      climbs = kept-climbs K r.set first r.rows r.end s r.kept (omega arith);
      sides = kept-sides K r.set first r.rows r.end s r.kept (omega arith);
      few = r.few;
    }

module _ (K set first rows end : ℕ) (s : EdgeSet) (lent : List Lent) (k : Result (Unit {0}) Refusal) (e : k ≡ ruling (lent_rules K set first rows end s lent)) where
  pub readable : k ≡ Ok tt → Readable K first s
  unfolding lent_rules
  readable h =
      let p = each_none _ (told-kept _ e h) in
      record {
        set = set;
        rows = rows;
        end = end;
        kept = p.1.0;
        few = few-deltas s (few-numbers _ _ lent p.0);
      }

module _ (K set first rows end : ℕ) (s : EdgeSet) (n : ℕ) (k : Result (Unit {0}) Refusal) (e : k ≡ ruling (lent_rules K set first rows end s (room n))) (h : k ≡ Ok tt) where
  pub lent-room : max_numbers ≤ n
  unfolding lent_rules
  lent-room = room-kept _ _ n (each_none _ (told-kept _ e h)).0

-- ── answers ──────────────────────────────────────────────────────────────────────────────────

-- a list as the answer, and in the slice that is lent for it
module _ (k : Result (Unit {0}) Refusal) (o : Option Refusal) (l old : List ℕ) (e : k ≡ ruling o) where
  pub list_counted : k ≡ Ok tt → (n : ℕ) → n ≡ length l → Ok n ≡ counted_of (unless o l)
  unfolding unless counted_of
  list_counted h n f = rw (told-kept o e h, f)

  pub list_written : k ≡ Ok tt → length l ≤ length old → (out : List ℕ) → out ≡ sets old 0 l → out ≡ written_over old (unless o l)
  unfolding unless written_over
  list_written h n out f = rw (told-kept o e h) (f ∙ sets-front old l n)

  pub list-refused : (why : Refusal) → k ≡ Err why → Err why ≡ counted_of (unless o l)
  unfolding unless counted_of
  list-refused why h = rw (told o e h)

  pub list-as-was : (why : Refusal) → k ≡ Err why → old ≡ written_over old (unless o l)
  unfolding unless written_over
  list-as-was why h = rw (told o e h)

in_one_lem : (o : Option Refusal) (lists : List (List ℕ)) → in_one (unless o lists) ≡ unless o (joined lists)
unfolding in_one unless
in_one_lem none lists = refl
in_one_lem (some r) lists = refl

-- a host names the number of kinds, and W is that number
module _ (W K : ℕ) (w : K ≡ W) (set first rows end : ℕ) (s : EdgeSet) (old : List ℕ) (k : Result (Unit {0}) Refusal) (e : k ≡ ruling (lent_rules K set first rows end s (room (length old)))) where
  decoded : in_one (decode_set W set first rows end s (room (length old))) ≡ unless (lent_rules K set first rows end s (room (length old))) (joined (slots_of K first s))
  unfolding decode_set lent_rules
  decoded = rw (← w) (in_one_lem _ _)

  pub set-counted : k ≡ Ok tt → (n : ℕ) → n ≡ length (joined (slots_of K first s)) → Ok n ≡ counted_of (in_one (decode_set W set first rows end s (room (length old))))
  set-counted h n f = rw decoded (list_counted k _ _ old e h n f)

  pub set-written : k ≡ Ok tt → (out : List ℕ) → out ≡ sets old 0 (joined (slots_of K first s)) → out ≡ written_over old (in_one (decode_set W set first rows end s (room (length old))))
  set-written h out f =
      let n = lent-room K set first rows end s (length old) k e h in
      rw decoded (list_written k _ _ old e h (omega (arith, n, readable-few K first s (readable K set first rows end s (room (length old)) k e h))) out f)

  pub set-refused : (why : Refusal) → k ≡ Err why → Err why ≡ counted_of (in_one (decode_set W set first rows end s (room (length old))))
  set-refused why h = rw decoded (list-refused k _ (joined (slots_of K first s)) old e why h)

  pub set-as-was : (why : Refusal) → k ≡ Err why → old ≡ written_over old (in_one (decode_set W set first rows end s (room (length old))))
  set-as-was why h = rw decoded (list-as-was k _ (joined (slots_of K first s)) old e why h)
