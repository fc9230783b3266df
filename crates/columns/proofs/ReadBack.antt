-- Reading what building wrote: a set made of lists, each target on the set's side, is accepted and gives the lists back.
use mathlib.Core.Path.{◌≡◌, refl, ap}
use mathlib.Core.Bool.{true, ◌&&◌, and-false}
use mathlib.Core.List.{List, [], ◌∷◌, ◌++◌, map, append_assoc}
use mathlib.Core.Option.{none}
use Prim.Native.Nat.{ℕ, suc, ◌+◌, ◌*◌, ◌<◌}
use native.Mathlib.Omega.{arith}
use lib.Dec.{ltb}
use lib.IntN.{ℤ, pos, neg_ℤ, ◌-ℤ◌, neg_ℤ-+ℤ, neg_ℤ-neg_ℤ, +ℤ_assoc, +ℤ_invr, +ℤ_idl}
use lib.ListN.{length, length-append, length-map}
use lib.Seq.{slice, take-append-add, take-append_seam, drop-append_seam}
use borrow.Author.Tests.{lt-ltb, eq-eqb}
use Rattle.lists.specs.Lists.{all, joined, starts, Each}
use Rattle.lists.specs.Order.{climbs_to}
use Rattle.lists.proofs.Cut.{starts-climb}
use Rattle.lists.proofs.Flat.{length-starts}
use Rattle.columns.specs.Limits.{end64}
use Rattle.columns.specs.Refusal.{unless, accepted, first_of}
use Rattle.columns.specs.EdgeSet.{from_to, offsets_form, cut_from, cut, event_of, delta_of, is_number, to_number, target_of, allowed, sound, deltas_from, set_of}
use Rattle.columns.specs.Reading.{sound_from, targets_from, slots_of, set_rules, read_set}

-- ── deltas and targets ───────────────────────────────────────────────────────────────────────

minus_minus : (a b : ℤ) → a -ℤ (a -ℤ b) ≡ b
minus_minus a b = rw (neg_ℤ-+ℤ a (neg_ℤ b), neg_ℤ-neg_ℤ b, ← +ℤ_assoc a (neg_ℤ a) b, +ℤ_invr a) (+ℤ_idl b)

pub target-delta : (event t : ℕ) → target_of event (delta_of event t) ≡ t
unfolding target_of delta_of to_number
target-delta event t = ap to_number (minus_minus (pos event) (pos t))

number-delta : (event t : ℕ) → is_number (pos event -ℤ delta_of event t) ≡ ltb t end64
unfolding delta_of is_number
number-delta event t = ap is_number (minus_minus (pos event) (pos t))

pub sound-delta : (set end event t : ℕ) → sound set end event (delta_of event t) ≡ (ltb t end64 && allowed set end event t)
unfolding sound
sound-delta set end event t = rw (number-delta event t, target-delta event t)

-- ── cutting where lists were joined ──────────────────────────────────────────────────────────

cut-next : {A B : Type 0} (a b : ℕ) (ls : List (List B)) (column : List A) → cut_from a (starts b ls) column ≡ slice a b column ∷ cut (starts b ls) column
unfolding cut_from cut starts
cut-next a b [] column = refl
cut-next a b (l ∷ ls) column = refl

slice-middle : {A : Type 0} (p l r : List A) → slice (length p) (length p + length l) (p ++ (l ++ r)) ≡ l
slice-middle p l r = rw (take-append-add p (l ++ r) (length l), take-append_seam l r, drop-append_seam p l)

cut-after : {A : Type 0} (p : List A) (ls : List (List A)) → cut (starts (length p) ls) (p ++ joined ls) ≡ ls
unfolding cut cut_from starts joined
cut-after p [] = refl
cut-after p (l ∷ ls) =
    let rest : cut (starts (length p + length l) ls) (p ++ (l ++ joined ls)) ≡ ls = rw (length-append p l, append_assoc p l (joined ls)) at (cut-after (p ++ l) ls) in
    rw (cut-next (length p) (length p + length l) ls (p ++ (l ++ joined ls)), slice-middle p l (joined ls), rest)

pub cut-joined : {A : Type 0} (ls : List (List A)) → cut (starts 0 ls) (joined ls) ≡ ls
cut-joined ls = cut-after [] ls

starts_from : (ls : List (List ℕ)) → from_to 0 (length (joined ls)) (starts 0 ls) ≡ true
unfolding from_to climbs_to starts joined
starts_from [] = refl
starts_from (l ∷ ls) = starts-climb 0 (0 + length l) (length (l ++ joined ls)) ls (omega arith) (omega (arith, length-append l (joined ls)))

pub starts-form : (K rows : ℕ) (ls : List (List ℕ)) → length ls ≡ K * rows → offsets_form K rows (length (joined ls)) (starts 0 ls) ≡ true
unfolding offsets_form
starts-form K rows ls e = rw (length-starts 0 ls, eq-eqb (suc (length ls)) (K * rows + 1) (omega arith)) (starts_from ls)

-- ── the deltas of lists ──────────────────────────────────────────────────────────────────────

starts-deltas : (K a first slot : ℕ) (lists : List (List ℕ)) → starts a (deltas_from K first slot lists) ≡ starts a lists
unfolding starts deltas_from
starts-deltas K a first slot [] = refl
starts-deltas K a first slot (ts ∷ lists) = rw (length-map ts (delta_of (event_of K first slot)), starts-deltas K (a + length ts) first (suc slot) lists)

length-deltas : (K first slot : ℕ) (lists : List (List ℕ)) → length (joined (deltas_from K first slot lists)) ≡ length (joined lists)
unfolding joined deltas_from
length-deltas K first slot [] = refl
length-deltas K first slot (ts ∷ lists) = simp (length-append, length-map, length-deltas K first (suc slot) lists)

pub set-count : (K first : ℕ) (lists : List (List ℕ)) → length (set_of K first lists).deltas ≡ (set_of K first lists).count
unfolding set_of
set-count K first lists = length-deltas K first 0 lists

targets-deltas : (K first slot : ℕ) (lists : List (List ℕ)) → targets_from K first slot (deltas_from K first slot lists) ≡ lists
unfolding targets_from deltas_from
targets-deltas K first slot [] = refl
targets-deltas K first slot (ts ∷ lists) = rw (one ts, targets-deltas K first (suc slot) lists)
  where
    one : (ts : List ℕ) → map (target_of (event_of K first slot)) (map (delta_of (event_of K first slot)) ts) ≡ ts
    one [] = refl
    one (t ∷ ts) = rw (target-delta (event_of K first slot) t, one ts)

cut-set : (K first : ℕ) (lists : List (List ℕ)) → cut (starts 0 lists) (joined (deltas_from K first 0 lists)) ≡ deltas_from K first 0 lists
cut-set K first lists = rw (← starts-deltas K 0 first 0 lists) (cut-joined (deltas_from K first 0 lists))

-- ── reading ──────────────────────────────────────────────────────────────────────────────────

-- every list of the slots from `slot` on names only targets on the set's side, and every number has 64 bits
abbrev pub AllowedFrom : (K : ℕ) → ℕ → ℕ → ℕ → ℕ → List (List ℕ) → Type 0
AllowedFrom K set first end slot [] = Unit {0}
AllowedFrom K set first end slot (ts ∷ lists) =
    (event_of K first slot < end64) × Each (λ t. (allowed set end (event_of K first slot) t ≡ true) × (t < end64)) ts × AllowedFrom K set first end (suc slot) lists

all_sound : (set end event : ℕ) (ts : List ℕ) → Each (λ t. (allowed set end event t ≡ true) × (t < end64)) ts → all (sound set end event) (map (delta_of event) ts) ≡ true
unfolding all
all_sound set end event [] h = refl
all_sound set end event (t ∷ ts) h = rw (sound-delta set end event t, lt-ltb t end64 h.0.1, h.0.0) (all_sound set end event ts h.1)

pub sound-deltas : (K set first end slot : ℕ) (lists : List (List ℕ)) → AllowedFrom K set first end slot lists → sound_from K set first end slot (deltas_from K first slot lists) ≡ true
unfolding sound_from deltas_from
sound-deltas K set first end slot [] h = refl
sound-deltas K set first end slot (ts ∷ lists) h =
    rw (lt-ltb (event_of K first slot) end64 h.0, all_sound set end (event_of K first slot) ts h.1) (sound-deltas K set first end (suc slot) lists h.2)

-- a set gives its lists back
pub slots_set : (K first : ℕ) (lists : List (List ℕ)) → slots_of K first (set_of K first lists) ≡ lists
unfolding slots_of set_of
slots_set K first lists = rw (cut-set K first lists) (targets-deltas K first 0 lists)

module _ (K set first rows end : ℕ) (lists : List (List ℕ)) (full : length lists ≡ K * rows) (side : AllowedFrom K set first end 0 lists) where
  pub set-rules : set_rules K set first rows end (set_of K first lists) ≡ none
  unfolding set_rules set_of first_of
  set-rules =
      rw (
        starts-form K rows lists full,
        length-deltas K first 0 lists,
        eq-eqb (length (joined lists)) (length (joined lists)) refl,
        cut-set K first lists,
        sound-deltas K set first end 0 lists side,
        and-false (ltb 0 (length (joined lists))),
      )

  pub read_set_lem : read_set K set first rows end (set_of K first lists) ≡ accepted lists
  unfolding read_set unless
  read_set_lem = rw (set-rules, slots_set K first lists)
