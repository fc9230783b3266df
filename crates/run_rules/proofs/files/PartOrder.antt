-- The rules of a file's parts, one part after another.
use Rattle.std.specs.Prelude.{Err, Ok, Result}
use mathlib.Core.Path.{◌≡◌}
use mathlib.Core.Bool.{Bool, true, false, not}
use mathlib.Core.List.{List, [], ◌∷◌}
use mathlib.Core.Option.{Option, some}
use Prim.Native.Nat.{ℕ, ◌+◌, ◌-◌, ◌<◌}
use native.Mathlib.Omega.{arith}
use lib.ListN.{take, drop}
use borrow.Author.Tests.{not-true, not-false, ltb-true}
use lib.Dec.{ltb}
use Rattle.columns.specs.Limits.{kinds, end64}
use Rattle.columns.specs.Building.{numbers_ok}
use Rattle.columns.specs.declared.refusal.Refusal.{Refusal}
use Rattle.columns.specs.declared.refusal.Refusal.TheVariants.{NumberRange}
use Rattle.columns.proofs.FirstBroken.{each_none, passed}
use Rattle.columns.specs.Answers.{ruling}
use Rattle.columns.proofs.Told.{told-kept, stops-here, goes_on}
use Rattle.archive.specs.Bytes.{several}
use Rattle.archive.specs.Parse.{depth_read, unresolved_at, root_at}
use Rattle.archive_read.specs.bodies.View.{set_in, cover_in}
use Rattle.archive_read.specs.declared.bodies.HeadAt.{HeadAt}
use Rattle.archive_read.specs.Layout.{part_in, HoldsCover, HoldsTail, file_in}
use Rattle.archive_read.specs.declared.records.FrontAt.{FrontAt}
use Rattle.archive_read.specs.declared.records.MiddleAt.{MiddleAt}
use Rattle.archive_read.specs.declared.records.TailAt.{TailAt}
use Rattle.archive_read.specs.declared.records.FileAt.{FileAt}
use Rattle.cleaning.specs.Source.{Source}
use Rattle.cleaning.specs.Taking.{cover_rules, file_rules}
use Rattle.run_rules.specs.parts.Back.{own_rules, back_rules, sets_rules, records_rules}
use Rattle.run_rules.specs.files.Parts.{head_rules, subject_in, edges_rules, lists_rules, cover_rule, tail_rules, rest_rules}
use Rattle.run_rules.proofs.files.Regrouped.{parts_are}

-- ── a head ───────────────────────────────────────────────────────────────────────────────────

module _ (before : Option Source) (s : List ℕ) (h : HeadAt) (covered : Bool) {x : Result (Unit {0}) Refusal}
    (e : x ≡ ruling (own_rules s h.first h.rows (depth_read h.flag h.least h.greatest))) where
  pub own-bad : {y : Refusal} → x ≡ Err y → Err y ≡ ruling (head_rules before s h covered)
  unfolding head_rules
  own-bad {y} g = stops-here _ (back_rules before h.group s h.first covered) e y g

  pub then-back : {r : Result (Unit {0}) Refusal} → x ≡ Ok tt → r ≡ ruling (back_rules before h.group s h.first covered) → r ≡ ruling (head_rules before s h covered)
  unfolding head_rules
  then-back g k = goes_on _ (back_rules before h.group s h.first covered) e g k

pub subject-cut : (before : Option Source) (b : List ℕ) (h : HeadAt) (covered : Bool) {r : Result (Unit {0}) Refusal}
    → r ≡ ruling (head_rules before (take (14 + h.subject - 14) (drop 14 b)) h covered) → r ≡ ruling (head_rules before (take h.subject (drop 14 b)) h covered)
subject-cut before b h covered k = let z : 14 + h.subject - 14 ≡ h.subject = omega arith in rw z at k

-- ── sets and lists ───────────────────────────────────────────────────────────────────────────

pub edges_are : (l : List ℕ) (f : FrontAt) {r : Result (Unit {0}) Refusal} → r ≡ ruling (sets_rules f.head.first f.head.rows (f.head.first + f.head.rows)
    (set_in (part_in l f.sets) f.head.rows 0 f.edges.forwards) (set_in (part_in l f.sets) f.head.rows f.edges.reverse f.edges.reverses)
    (set_in (part_in l f.sets) f.head.rows f.edges.inbound f.edges.inbounds)) → r ≡ ruling (edges_rules l f)
unfolding edges_rules
edges_are l f e = e

pub lists-are : (l : List ℕ) (h : HeadAt) (m : MiddleAt) (t : TailAt) {r : Result (Unit {0}) Refusal} → r ≡ ruling (records_rules h.first h.rows (h.first + h.rows)
    (several 16 root_at t.count (drop 4 (part_in l t.roots))) (several 13 unresolved_at m.count (drop 4 (part_in l m.unresolved)))) → r ≡ ruling (lists_rules l h m t)
unfolding lists_rules
lists-are l h m t e = e

-- ── one group after another ──────────────────────────────────────────────────────────────────

pub no_cover : (l : List ℕ) (n : ℕ) (t : TailAt) → not t.covered ≡ true → (Ok tt) ≡ ruling (cover_rule l n t)
unfolding cover_rule
no_cover l n t h = rw (not-true t.covered h)

pub some-cover : (l : List ℕ) (n : ℕ) (t : TailAt) {r : Result (Unit {0}) Refusal} → not t.covered ≡ false
    → r ≡ ruling (cover_rules (some (cover_in (part_in l t.body) n t.cover))) → r ≡ ruling (cover_rule l n t)
unfolding cover_rule
some-cover l n t h k = rw (not-false t.covered h) k

module _ (l : List ℕ) (n : ℕ) (t : TailAt) (h : HoldsTail l n t) (k : not t.covered ≡ false) where
  pub cover-holds : HoldsCover l n t.cover t.body
  cover-holds = rw (not-false t.covered k) at h.cover

module _ (l : List ℕ) (h : HeadAt) (m : MiddleAt) (t : TailAt) {x : Result (Unit {0}) Refusal} (e : x ≡ ruling (lists_rules l h m t)) where
  pub lists-bad : {y : Refusal} → x ≡ Err y → Err y ≡ ruling (tail_rules l h m t)
  unfolding tail_rules
  lists-bad {y} g = stops-here _ (cover_rule l h.rows t) e y g

  pub then-cover : {r : Result (Unit {0}) Refusal} → x ≡ Ok tt → r ≡ ruling (cover_rule l h.rows t) → r ≡ ruling (tail_rules l h m t)
  unfolding tail_rules
  then-cover g k = goes_on _ (cover_rule l h.rows t) e g k

module _ (l : List ℕ) (f : FileAt) {x : Result (Unit {0}) Refusal} (e : x ≡ ruling (edges_rules l f.front)) where
  pub edges-bad : {y : Refusal} → x ≡ Err y → Err y ≡ ruling (rest_rules l f)
  unfolding rest_rules
  edges-bad {y} g = stops-here _ (tail_rules l f.front.head f.middle f.tail) e y g

  pub then_tail : {r : Result (Unit {0}) Refusal} → x ≡ Ok tt → r ≡ ruling (tail_rules l f.front.head f.middle f.tail) → r ≡ ruling (rest_rules l f)
  unfolding rest_rules
  then_tail g k = goes_on _ (tail_rules l f.front.head f.middle f.tail) e g k

module _ (before : Option Source) (l : List ℕ) (f : FileAt) {x : Result (Unit {0}) Refusal} (e : x ≡ ruling (head_rules before (subject_in l f.front) f.front.head f.tail.covered)) where
  pub head-bad : {y : Refusal} → x ≡ Err y → Err y ≡ ruling (file_rules kinds before (file_in l f))
  head-bad {y} g = rw (parts_are l f before) (stops-here _ (rest_rules l f) e y g)

  module _ (g : x ≡ Ok tt) where
    pub then-rest : {r : Result (Unit {0}) Refusal} → r ≡ ruling (rest_rules l f) → r ≡ ruling (file_rules kinds before (file_in l f))
    then-rest k = rw (parts_are l f before) (goes_on _ (rest_rules l f) e g k)

    -- 3 was kept
    pub numbers_fit : f.front.head.first + f.front.head.rows < end64
    unfolding head_rules own_rules numbers_ok
    numbers_fit =
        let first = f.front.head.first in
        let rows = f.front.head.rows in
        let own = (each_none (_ ∷ _ ∷ []) (told-kept (head_rules before (subject_in l f.front) f.front.head f.tail.covered) e g)).0 in
        ltb-true (first + rows) end64 (passed NumberRange (ltb (first + rows) end64) (each_none (_ ∷ _ ∷ _ ∷ []) own).1.0)
