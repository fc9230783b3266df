-- The words of each number stand where the starts say, and those of a refusal are those of its number.
use mathlib.Core.Path.{◌≡◌, refl}
use mathlib.Core.Bool.{true}
use mathlib.Core.List.{List, [], ◌∷◌}
use Prim.Native.Nat.{ℕ, zero, suc, ◌+◌, ◌-◌, ◌≤◌, ◌<◌}
use native.Mathlib.Nat.{not-suc-le-zero, le_of_suc-le-suc}
use native.Mathlib.Numerals.{add-one}
use native.Mathlib.Omega.{arith}
use lib.Dec.{leb}
use lib.ListN.{length, get_or, take, drop, get_or-eq_default}
use borrow.Author.Tests.{leb-true}
use Rattle.lists.specs.Lists.{joined, starts, part, sum, all}
use Rattle.lists.specs.Text.{text}
use Rattle.lists.proofs.Tests.{all-each}
use Rattle.lists.proofs.Each.{each-get_or}
use Rattle.lists.proofs.Flat.{length-joined, get_or-starts, part-joined}
use Rattle.columns.specs.Refusal.{number_of}
use Rattle.columns.specs.declared.refusal.Refusal.{Refusal}
use Rattle.columns.specs.declared.refusal.Refusal.TheVariants.{SubjectLength, EdgeEntries, NumberRange, ParentNotEarlier, ParentTwice, UnresolvedChild, UnresolvedKind}
use Rattle.columns.specs.declared.refusal.Refusal.TheVariants.{DepthOrder, LabelCount, SeqNotRising, InboundChild, InboundParent, InboundTwice, GranuleRows, DeltaRange}
use Rattle.columns.specs.declared.refusal.Refusal.TheVariants.{RootOutside, OffsetsForm, DeltaCount, TargetSide, LabelColumns, LabelRange, CoverForm, RecordBroken}
use Rattle.columns.specs.declared.refusal.Refusal.TheVariants.{GroupOrder, SourceOrder, CoverInSome, NoSurvivor, OutOfTurn, SliceShort, OverRecords, OverNumbers}
use Rattle.run_text.specs.numbers.Wrote.{Wrote}
use Rattle.run_text.proofs.numbers.Joined.{renamed}
use Rattle.messages.specs.words.Words.{words_of, table}

-- ── lists one after the other ────────────────────────────────────────────────────────────────

until : (ls : List (List ℕ)) (i : ℕ) → i < length ls → (sum length (take (suc i) ls) ≡ sum length (take i ls) + length (get_or ls i []))
    × (sum length (take (suc i) ls) ≤ sum length ls)
unfolding sum
until [] i h = absurd (not-suc-le-zero h)
until (l ∷ ls) zero h = (omega arith, omega arith)
until (l ∷ ls) (suc i) h = let u = until ls i (le_of_suc-le-suc h) in (omega arith, omega arith)

-- ── the table ────────────────────────────────────────────────────────────────────────────────

short : all (λ w. leb (length w) 120) table ≡ true
unfolding all table words_of text
short = refl

module _ {l : List ℕ} (e : l ≡ joined table) (i : ℕ) (h : i < 44) {a b : ℕ} (f : a ≡ get_or (starts 0 table) i 0) (g : b ≡ get_or (starts 0 table) (i + 1) 0) where
  here : i < length table
  unfolding table
  here = h

  from : a ≡ sum length (take i table)
  from = omega (arith, f, get_or-starts 0 table i 0 (omega (arith, here)))

  to : b ≡ sum length (take i table) + length (get_or table i [])
  to = omega (arith, rw add-one at g, get_or-starts 0 table (suc i) 0 (omega (arith, here)), (until table i here).0)

  pub rise : a ≤ b
  rise = omega (arith, from, to)

  pub within : b ≤ length l
  within = rw e (omega (arith, to, (until table i here).0, (until table i here).1, length-joined table))

  cut : take (b - a) (drop a l) ≡ get_or table i []
  unfolding part
  cut = let n : b - a ≡ length (get_or table i []) = omega (arith, from, to) in rw (n, from, e) (part-joined table i)

  few : length (get_or table i []) ≤ 120
  few = leb-true (length (get_or table i [])) 120 (each-get_or (λ w. leb (length w) 120 ≡ true) table i [] (all-each (λ w. leb (length w) 120) table short) here)

  pub some-room : (at : ℕ) {m : ℕ} → at + 120 ≤ m → at + length (take (b - a) (drop a l)) ≤ m
  some-room at k = rw cut (omega (arith, few))

  pub some_written : {was is : List ℕ} {at r : ℕ} → Wrote (take (b - a) (drop a l)) (length (take (b - a) (drop a l))) was at is r → Wrote (get_or table i []) 120 was at is r
  some_written w = renamed w cut (rw cut few)

-- ── the words of a refusal ───────────────────────────────────────────────────────────────────

pub placed : (x : Refusal) → (number_of x < 44) × (get_or table (number_of x) [] ≡ words_of x)
unfolding table
placed SubjectLength = (omega arith, refl)
placed EdgeEntries = (omega arith, refl)
placed NumberRange = (omega arith, refl)
placed ParentNotEarlier = (omega arith, refl)
placed ParentTwice = (omega arith, refl)
placed UnresolvedChild = (omega arith, refl)
placed UnresolvedKind = (omega arith, refl)
placed DepthOrder = (omega arith, refl)
placed LabelCount = (omega arith, refl)
placed SeqNotRising = (omega arith, refl)
placed InboundChild = (omega arith, refl)
placed InboundParent = (omega arith, refl)
placed InboundTwice = (omega arith, refl)
placed GranuleRows = (omega arith, refl)
placed DeltaRange = (omega arith, refl)
placed RootOutside = (omega arith, refl)
placed OffsetsForm = (omega arith, refl)
placed DeltaCount = (omega arith, refl)
placed TargetSide = (omega arith, refl)
placed LabelColumns = (omega arith, refl)
placed LabelRange = (omega arith, refl)
placed CoverForm = (omega arith, refl)
placed RecordBroken = (omega arith, refl)
placed GroupOrder = (omega arith, refl)
placed SourceOrder = (omega arith, refl)
placed CoverInSome = (omega arith, refl)
placed NoSurvivor = (omega arith, refl)
placed OutOfTurn = (omega arith, refl)
placed SliceShort = (omega arith, refl)
placed OverRecords = (omega arith, refl)
placed OverNumbers = (omega arith, refl)

pub told : (x : Refusal) {n : ℕ} {was is : List ℕ} {at r : ℕ} → n ≡ number_of x → Wrote (get_or table n []) 120 was at is r → Wrote (words_of x) 120 was at is r
told x e w = renamed w (rw e (placed x).1) (omega arith)

-- ── the words of a number ────────────────────────────────────────────────────────────────────

module _ {n i : ℕ} (e : i ≡ n) where
  pub is_number : n ≤ 43 → i < 44
  is_number h = omega arith

  pub by_number : {was is : List ℕ} {at r : ℕ} → Wrote (get_or table i []) 120 was at is r → Wrote (get_or table n []) 120 was at is r
  by_number w = rw e at w

-- ── other numbers ────────────────────────────────────────────────────────────────────────────

no_words : (n : ℕ) → 43 < n → get_or table n [] ≡ []
unfolding table
no_words n h = get_or-eq_default table [] {n = n} h

pub untold : (n : ℕ) → 43 < n → (was : List ℕ) (at : ℕ) → Wrote (get_or table n []) 120 was at was at
untold n h was at = rw (no_words n h) (record { stored = refl; next = omega arith; short = omega arith })
