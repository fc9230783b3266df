-- Roots and unresolved records in bytes: one turn of each loop over them, and each answer of the functions that test them.
use Rattle.std.specs.Prelude.{Err, Ok, Result}
use mathlib.Core.Path.{◌≡◌, ap}
use mathlib.Core.Bool.{Bool, true, false, not}
use mathlib.Core.List.{List}
use mathlib.Core.Option.{Option}
use Prim.Native.Nat.{ℕ, ◌+◌, ◌-◌, ◌≤◌, ◌<◌}
use native.Mathlib.Nat.{sub-zero}
use lib.ListN.{get_or, drop}
use lib.Seq.{get_or-drop}
use borrow.Author.Tests.{lt-ltb, le-ltb, not-true, not-false}
use Rattle.lists.specs.Lists.{all}
use Rattle.columns.specs.Refusal.{first_of, first_in}
use Rattle.columns.specs.Building.{in_file}
use Rattle.columns.specs.declared.refusal.Refusal.{Refusal}
use Rattle.columns.specs.declared.refusal.Refusal.TheVariants.{UnresolvedChild, UnresolvedKind, RootOutside}
use Rattle.archive_bytes.proofs.Several.{be-front, several-none, several-cons}
use Rattle.archive.specs.Bytes.{be, several}
use Rattle.archive.specs.Parse.{unresolved_at, root_at}
use Rattle.archive.specs.File.{Unresolved, Root}
use Rattle.columns.specs.Answers.{ruling}
use Rattle.columns.proofs.Told.{told, told-kept, last-rule}
use Rattle.run_rules.specs.parts.Back.{in_rows, child_rule, record_rule, records_rules}

-- ── roots ────────────────────────────────────────────────────────────────────────────────────

pub roots-start : (n rows : ℕ) (b : List ℕ) → all (in_rows rows) (several 16 root_at n (drop 4 b)) ≡ all (in_rows rows) (several 16 root_at (n - 0) (drop 4 b))
roots-start n rows b = rw sub-zero

module _ {t : Bool} (rows n i : ℕ) (b : List ℕ) (p : ℕ) (e : t ≡ all (in_rows rows) (several 16 root_at (n - i) (drop p b))) where
  pub roots-done : n ≤ i → true ≡ t
  unfolding all
  roots-done h = rw (e, several-none 16 root_at n i b p h)

  pub root-outside : {x : ℕ} → i < n → x ≡ be 8 b p → rows ≤ x → false ≡ t
  unfolding all in_rows root_at
  root-outside {x} h d f = rw (e, several-cons 16 root_at n i b p h, be-front 8 b p, ← d, le-ltb x rows f)

  pub root-inside : {x : ℕ} → i < n → x ≡ be 8 b p → x < rows → t ≡ all (in_rows rows) (several 16 root_at (n - (i + 1)) (drop (p + 16) b))
  unfolding all in_rows root_at
  root-inside {x} h d f = rw (e, several-cons 16 root_at n i b p h, be-front 8 b p, ← d, lt-ltb x rows f)

-- ── unresolved records ───────────────────────────────────────────────────────────────────────

module _ (first end child kind : ℕ) {a : Bool} (e : a ≡ in_file first end child) where
  pub child-outside : not a ≡ true → Err UnresolvedChild ≡ ruling (child_rule first end child kind)
  unfolding child_rule first_of
  child-outside h = rw (← e, not-true a h)

  pub kind-late : not a ≡ false → 2 ≤ kind → Err UnresolvedKind ≡ ruling (child_rule first end child kind)
  unfolding child_rule first_of
  kind-late h k = rw (← e, not-false a h, le-ltb kind 2 k)

  pub child-kept : not a ≡ false → kind < 2 → (Ok tt) ≡ ruling (child_rule first end child kind)
  unfolding child_rule first_of
  child-kept h k = rw (← e, not-false a h, lt-ltb kind 2 k)

abbrev pub records_from : ℕ → ℕ → ℕ → List ℕ → Option Refusal
records_from first end n b = first_in (record_rule first end) (several 13 unresolved_at n b)

pub records-start : (first end n : ℕ) (b : List ℕ) → ruling (records_from first end n (drop 4 b)) ≡ ruling (records_from first end (n - 0) (drop 4 b))
records-start first end n b = rw sub-zero

module _ {t : Result (Unit {0}) Refusal} (first end n i : ℕ) (b : List ℕ) (p : ℕ) (e : t ≡ ruling (records_from first end (n - i) (drop p b))) where
  pub records-done : n ≤ i → (Ok tt) ≡ t
  unfolding first_in
  records-done h = rw (e, several-none 13 unresolved_at n i b p h)

  module _ (h : i < n) {r : Result (Unit {0}) Refusal} {x : ℕ} (d : x ≡ be 8 b p) (k : r ≡ ruling (child_rule first end x (get_or b (p + 8) 0))) where
    here : record_rule first end (unresolved_at (drop p b)) ≡ child_rule first end x (get_or b (p + 8) 0)
    unfolding record_rule unresolved_at
    here = rw (be-front 8 b p, ← d, get_or-drop p b 8 0)

    pub records-stop : {y : Refusal} → r ≡ Err y → Err y ≡ t
    unfolding first_in first_of
    records-stop g = rw (e, several-cons 13 unresolved_at n i b p h, here, told (child_rule first end x (get_or b (p + 8) 0)) k g)

    pub records-on : r ≡ Ok tt → t ≡ ruling (records_from first end (n - (i + 1)) (drop (p + 13) b))
    unfolding first_in first_of
    records-on g =
        rw (e, several-cons 13 unresolved_at n i b p h, here, told-kept (child_rule first end x (get_or b (p + 8) 0)) k g)
        (ap ruling (last-rule (records_from first end (n - (i + 1)) (drop (p + 13) b))))

module _ (first rows end : ℕ) (roots : List Root) (us : List Unresolved) {a : Bool} (e : a ≡ all (in_rows rows) roots) where
  pub roots-bad : not a ≡ true → Err RootOutside ≡ ruling (records_rules first rows end roots us)
  unfolding records_rules first_of
  roots-bad h = rw (← e, not-true a h)

  pub then-records : {r : Result (Unit {0}) Refusal} → not a ≡ false → r ≡ ruling (first_in (record_rule first end) us) → r ≡ ruling (records_rules first rows end roots us)
  unfolding records_rules first_of
  then-records h k = rw (← e, not-false a h, last-rule (first_in (record_rule first end) us)) k
