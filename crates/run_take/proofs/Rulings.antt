-- The rules of a taking in their order: 23, 42, 43, then file by file.
use Rattle.std.specs.Prelude.{Err, Ok, Result}
use mathlib.Core.Path.{◌≡◌, refl, sym, ap, ◌∙◌}
use mathlib.Core.Bool.{Bool, true, false}
use mathlib.Core.List.{List, [], ◌∷◌, ◌++◌, map}
use mathlib.Core.Option.{Option, none}
use Prim.Native.Nat.{ℕ, ◌+◌, ◌≤◌}
use native.Mathlib.Omega.{arith}
use lib.Dec.{ltb}
use lib.ListN.{length}
use borrow.Author.Tests.{ltb-false}
use Rattle.lists.specs.Lists.{sum, once, up_from}
use Rattle.lists.proofs.Tests.{both}
use Rattle.lists.proofs.Once.{or-is-false}
use Rattle.columns.specs.Limits.{kinds, max_records, max_numbers, max_groups}
use Rattle.columns.specs.Refusal.{refuse, first_of}
use Rattle.columns.specs.declared.refusal.Refusal.{Refusal}
use Rattle.columns.specs.declared.refusal.Refusal.TheVariants.{RecordBroken, OverRecords, OverNumbers}
use Rattle.columns.proofs.FirstBroken.{each_none, not-refused}
use Rattle.columns.specs.Answers.{ruling}
use Rattle.columns.proofs.Told.{told-kept, stops-here, goes_on}
use Rattle.archive.specs.File.{File}
use Rattle.archive.specs.Reader.{Parsed, broken, got}
use Rattle.archive_read.specs.declared.files.Totals.{Totals}
use Rattle.archive_read.specs.Sums.{totals, totals_of}
use Rattle.archive_groups.specs.Groups.{files_of, is_read, groups_over}
use Rattle.cleaning.specs.Held.{records_over, numbers_over, look_back, hold_rules}
use Rattle.cleaning.specs.Held as run
use Rattle.cleaning.specs.History.{files_in}
use Rattle.cleaning.specs.Taking.{files_rules, carries}
use Rattle.run_state.specs.declared.Held.{Held}
use Rattle.run_state.specs.View.{sheet_in, held_in}
use Rattle.run_state.specs.Valid.{sheet_ok, held_ok}
use Rattle.run_state.specs.order.Long.{LongHeld}
use Rattle.run_rules.specs.limits.Figures.{limit_rules}
use Rattle.run_rules.proofs.limits.Limits.{references-same, records-same, numbers-same}
use Rattle.run_rules.specs.files.Archive.{Within}
use Rattle.run_take.specs.declared.Known.{Known}
use Rattle.run_take.specs.Known.{KnownOf}
use Rattle.run_take.specs.Took.{limits_over, archive_rules}

-- what holds of every archive holds of bytes that have sums
summed-up : (P : Parsed (List File) → Type 0) (o : Parsed (List File)) {t : Totals} → totals_of o ≡ Ok t → ((fs : List File) (end : ℕ) → t ≡ totals fs → P (got fs end)) → P o
unfolding totals_of
summed-up P broken e f = absurd (let z : ◌≡◌ {A = ℕ} 0 1 = cc in omega arith)
summed-up P (got fs end) e f = f fs end (cc)

-- ── 23, 42, 43 ───────────────────────────────────────────────────────────────────────────────────

pub is_read_lem : (o : Parsed (List File)) (t : Totals) → totals_of o ≡ Ok t → is_read o ≡ true
unfolding is_read
is_read_lem o t e = summed-up (λ o. is_read o ≡ true) o e (λ fs end z. refl)

pub limits-are : (h : Held) (o : Parsed (List File)) (t : Totals) (g : Bool) → LongHeld h → held_ok h ≡ true → totals_of o ≡ Ok t
    → g ≡ groups_over h.sheet.groups.count (files_of o) → {r : Result (Unit {0}) Refusal} → r ≡ ruling (limit_rules h t g) → r ≡ ruling (limits_over (held_in h) (files_in o))
unfolding files_of limit_rules limits_over
limits-are h o t g l k e f {r} v = summed-up (λ o. g ≡ groups_over h.sheet.groups.count (files_of o) → r ≡ ruling (limits_over (held_in h) (files_in o))) o e
    (λ fs end z f. rw (← references-same fs, ← records-same h l k fs, ← numbers-same h l k fs, ← z, ← f) v) f

-- the number of groups by what is known
pub limits-known : (h : Held) (k : Known) (o : Parsed (List File)) (t : Totals) (g : Bool) → LongHeld h → held_ok h ≡ true → KnownOf h k → totals_of o ≡ Ok t
    → g ≡ groups_over k.groups (files_of o) → {r : Result (Unit {0}) Refusal} → r ≡ ruling (limit_rules h t g) → r ≡ ruling (limits_over (held_in h) (files_in o))
limits-known h k o t g l ok w e f v = limits-are h o t g l ok e (f ∙ ap (λ n. groups_over n (files_of o)) w.groups_are) v

within : (m a b : ℕ) → ltb m (a + b) ≡ false → b ≤ m
within m a b e = omega (arith, ltb-false m (a + b) e)

-- what is within the limits with the run is within them by itself
limits-within : (h : run.Held) (fs : List File) → limits_over h fs ≡ none → Within (Ok (totals fs))
unfolding limits_over records_over numbers_over totals
limits-within h fs e =
    let parts = (each_none _ e).1 in
    let r = not-refused OverRecords (records_over h fs) parts.0 in
    let s = not-refused OverNumbers (numbers_over h fs) parts.1.0 in
    let a = or-is-false _ (ltb max_groups (length (once (up_from 0 (length h.sheet.groups) ++ map (λ f. f.group) fs)))) r in
    let b = or-is-false _ (ltb max_records (length h.sheet.links + _)) a.0 in
    let c = or-is-false _ (ltb max_records (h.ranges + _)) b.0 in
    let d = or-is-false _ (ltb max_records (length h.sheet.unresolved + _)) c.0 in
    let g = or-is-false (ltb max_records (length h.sheet.tags + _)) (ltb max_records (length h.sheet.roots + _)) d.0 in
    let i = or-is-false _ (ltb max_numbers (sum length h.inbound + _)) s in
    let j = or-is-false (ltb max_numbers (sum length h.sheet.lists + _)) (ltb max_numbers (sum length h.reverse + _)) i.0 in
    (within max_records _ _ g.0, within max_records _ _ c.1, within max_records _ _ b.1, within max_numbers _ _ j.0, within max_numbers _ _ j.1, within max_numbers _ _ i.1)

-- ── 42, 43, then the files ───────────────────────────────────────────────────────────────────

in_order : (h : run.Held) (fs : List File) → first_of (limits_over h fs ∷ files_rules kinds (look_back h.sheet) fs ∷ []) ≡ hold_rules kinds h fs
unfolding limits_over hold_rules first_of
in_order h fs = go (carries fs) (records_over h fs) (numbers_over h fs) (files_rules kinds (look_back h.sheet) fs)
  where
    go : (r a b : Bool) (c : Option Refusal) → first_of (first_of (refuse RecordBroken r ∷ refuse OverRecords a ∷ refuse OverNumbers b ∷ []) ∷ c ∷ [])
        ≡ first_of (refuse RecordBroken r ∷ refuse OverRecords a ∷ refuse OverNumbers b ∷ c ∷ [])
    go true a b c = refl
    go false true b c = refl
    go false false true c = refl
    go false false false c = refl

pub sheet-ok : (h : Held) → held_ok h ≡ true → sheet_ok h.sheet ≡ true
unfolding held_ok
sheet-ok h k = (both (sheet_ok h.sheet) _ k).0

module _ (h : Held) (o : Parsed (List File)) {r : Result (Unit {0}) Refusal} (v : r ≡ ruling (limits_over (held_in h) (files_in o))) where
  pub within_both : (t : Totals) → totals_of o ≡ Ok t → r ≡ Ok tt → Within (totals_of o)
  unfolding totals_of
  within_both t e q = summed-up (λ o. limits_over (held_in h) (files_in o) ≡ none → Within (totals_of o)) o e (λ fs end z n. limits-within (held_in h) fs n)
      (told-kept (limits_over (held_in h) (files_in o)) v q)

  pub over-limits : (x : Refusal) → r ≡ Err x → Err x ≡ ruling (hold_rules kinds (held_in h) (files_in o))
  over-limits x q = rw (← in_order (held_in h) (files_in o)) (stops-here (limits_over (held_in h) (files_in o)) _ v x q)

  pub then-files : r ≡ Ok tt → {s : Result (Unit {0}) Refusal} → s ≡ ruling (files_rules kinds (look_back (sheet_in h.sheet)) (files_in o)) → s ≡ ruling (hold_rules kinds (held_in h) (files_in o))
  unfolding held_in
  then-files q e = rw (← in_order (held_in h) (files_in o)) (goes_on (limits_over (held_in h) (files_in o)) _ v q e)

-- ── 23 ───────────────────────────────────────────────────────────────────────────────────────

pub not-archive : (h : run.Held) (o : Parsed (List File)) {x : Result Totals Refusal} {y : Refusal} → x ≡ totals_of o → x ≡ Err y → Err y ≡ ruling (archive_rules h o)
unfolding totals_of archive_rules
not-archive h broken e f = cc
not-archive h (got fs end) e f = absurd (let z : ◌≡◌ {A = ℕ} 0 1 = cc in omega arith)

module _ (o : Parsed (List File)) {x : Result Totals Refusal} {t : Totals} (e : x ≡ totals_of o) (f : x ≡ Ok t) where
  pub sums-known : totals_of o ≡ Ok t
  sums-known = sym e ∙ f

  pub then-held : (h : run.Held) {r : Result (Unit {0}) Refusal} → r ≡ ruling (hold_rules kinds h (files_in o)) → r ≡ ruling (archive_rules h o)
  unfolding archive_rules
  then-held h {r} v = summed-up (λ o. r ≡ ruling (hold_rules kinds h (files_in o)) → r ≡ ruling (archive_rules h o)) o sums-known (λ fs end z v. v) v
