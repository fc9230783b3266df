-- Numbers and columns in lent bytes: each answer of the functions that read and write them.
use Rattle.std.specs.Prelude.{Err, Ok, Result}
use native.Mathlib.Omega.{arith}
use mathlib.Core.Path.{◌≡◌, refl, sym, ◌∙◌}
use mathlib.Core.Bool.{Bool, true, false, not}
use mathlib.Core.List.{List}
use mathlib.Core.Option.{Option, none, some}
use Prim.Native.Nat.{ℕ, ◌≤◌, ◌<◌, ◌+◌, ◌*◌}
use lib.Dec.{leb}
use lib.IntN.{ℤ}
use lib.ListN.{length}
use borrow.Author.Tests.{lt-ltb, le-ltb, leb-true, leb-false, not-true, not-false}
use Rattle.columns.specs.Refusal.{Verdict, refused, accepted, unless, first_of}
use Rattle.columns.specs.Answers.{ruling}
use Rattle.columns.specs.declared.refusal.Refusal.{Refusal}
use Rattle.columns.specs.declared.refusal.Refusal.TheVariants.{RecordBroken, SliceShort}
use Rattle.archive_bytes.specs.After.{left}
use Rattle.archive_bytes.specs.Bytes.{be, signed_of}
use Rattle.archive_cursor.specs.Short.{cut_off, no_room}
use Rattle.archive_cursor.specs.cursor.Cursor.{answer_by, number_by, delta_by, read_as, number_at, delta_at}
use Rattle.archive_cursor.specs.number_columns.Room.{load_rules, store_rules}

-- ── whether a place is there ─────────────────────────────────────────────────────────────────

pub in-range : {b : Bool} (w n at : ℕ) (l : List ℕ) → b ≡ leb (at + n * w) (length l) → not b ≡ false → at + n * w ≤ length l
in-range {b} w n at l e h = leb-true (at + n * w) (length l) (sym e ∙ not-false b h)

pub past-range : {b : Bool} (w n at : ℕ) (l : List ℕ) → b ≡ leb (at + n * w) (length l) → not b ≡ true → length l < at + n * w
past-range {b} w n at l e h = leb-false (at + n * w) (length l) (sym e ∙ not-true b h)

-- ── one number read ──────────────────────────────────────────────────────────────────────────

-- one number
module _ (w p : ℕ) (l : List ℕ) {b : Bool} (e : b ≡ leb (p + 1 * w) (length l)) where
  pub one-there : not b ≡ false → p + w ≤ length l
  one-there h = omega (arith, in-range w 1 p l e h)

  pub one-past : not b ≡ true → length l < p + w
  one-past h = omega (arith, past-range w 1 p l e h)

  module _ {A : Type 0} (f : ℕ → A) where
    pub cut : not b ≡ true → Err RecordBroken ≡ read_as f w l p
    unfolding read_as unless cut_off
    cut h = rw (lt-ltb (length l) (p + w) (one-past h))

    pub read : {x : A} → not b ≡ false → x ≡ f (be w l p) → Ok x ≡ read_as f w l p
    unfolding read_as unless cut_off
    read h d = rw (le-ltb (length l) (p + w) (one-there h), d)

pub as-number : (w p : ℕ) (l : List ℕ) {r s : Result ℕ Refusal} → r ≡ read_as (λ n. n) w l p → r ≡ s → s ≡ number_at w l p
unfolding read_as number_at
as-number w p l e f = sym f ∙ e ∙ go (unless (cut_off w l p) (be w l p))
  where
    go : (v : Verdict ℕ) → answer_by v ≡ number_by v
    go (refused r) = refl
    go (accepted n) = refl

pub as-delta : (p : ℕ) (l : List ℕ) {r : Result ℤ Refusal} → r ≡ read_as signed_of 8 l p → r ≡ delta_at l p
unfolding read_as delta_at
as-delta p l e = e ∙ go (unless (cut_off 8 l p) (signed_of (be 8 l p)))
  where
    go : (v : Verdict ℤ) → answer_by v ≡ delta_by v
    go (refused r) = refl
    go (accepted n) = refl

module _ (l : List ℕ) (p : ℕ) where
  pub short : (w : ℕ) → length l < p + w → Err RecordBroken ≡ number_at w l p
  unfolding number_at unless cut_off
  short w h = rw (lt-ltb (length l) (p + w) h)

  pub long : {r : ℕ} (w : ℕ) → p + w ≤ length l → r ≡ be w l p → Ok r ≡ number_at w l p
  unfolding number_at unless cut_off
  long w h e = rw (le-ltb (length l) (p + w) h, e)

-- ── an answer, and what is left in a lent slice ──────────────────────────────────────────────

module _ (o : Option Refusal) where
  told : {x : Refusal} → o ≡ some x → Err x ≡ ruling o
  told e = rw e

  unchanged : {A : Type 0} {x : Refusal} (old new : List A) → o ≡ some x → old ≡ left o old new
  unfolding left
  unchanged old new e = rw e

  kept : o ≡ none → (Ok tt) ≡ ruling o
  kept e = rw e

  changed : {A : Type 0} {k : List A} (old new : List A) → o ≡ none → k ≡ new → k ≡ left o old new
  unfolding left
  changed old new e f = rw e f

-- ── one number written ───────────────────────────────────────────────────────────────────────

module _ (w : ℕ) (l : List ℕ) (at : ℕ) where
  module _ (h : length l < at + w) where
    full : no_room w l at ≡ some SliceShort
    unfolding no_room
    full = rw (lt-ltb (length l) (at + w) h)

    pub no_room_lem : Err SliceShort ≡ ruling (no_room w l at)
    no_room_lem = told (no_room w l at) full

    pub unwritten : (new : List ℕ) → l ≡ left (no_room w l at) l new
    unwritten new = unchanged (no_room w l at) l new full

  module _ (h : at + w ≤ length l) where
    free : no_room w l at ≡ none
    unfolding no_room
    free = rw (le-ltb (length l) (at + w) h)

    pub has_room : (Ok tt) ≡ ruling (no_room w l at)
    has_room = kept (no_room w l at) free

    pub written : {k : List ℕ} (new : List ℕ) → k ≡ new → k ≡ left (no_room w l at) l new
    written new e = changed (no_room w l at) l new free e

-- ── columns ──────────────────────────────────────────────────────────────────────────────────

module _ {A : Type 0} (w n : ℕ) (l : List ℕ) (at : ℕ) (out : List A) {b : Bool} (e : b ≡ leb (at + n * w) (length l)) where
  module _ (h : not b ≡ true) where
    cut_off_lem : load_rules w n l at out ≡ some RecordBroken
    unfolding load_rules cut_off first_of
    cut_off_lem = rw (lt-ltb (length l) (at + n * w) (past-range w n at l e h))

    pub not_there : Err RecordBroken ≡ ruling (load_rules w n l at out)
    not_there = told (load_rules w n l at out) cut_off_lem

    pub not-loaded : (new : List A) → out ≡ left (load_rules w n l at out) out new
    not-loaded new = unchanged (load_rules w n l at out) out new cut_off_lem

  module _ (h : not b ≡ false) where
    module _ (k : length out < n) where
      narrow : load_rules w n l at out ≡ some SliceShort
      unfolding load_rules cut_off first_of
      narrow = rw (le-ltb (length l) (at + n * w) (in-range w n at l e h), lt-ltb (length out) n k)

      pub no-places : Err SliceShort ≡ ruling (load_rules w n l at out)
      no-places = told (load_rules w n l at out) narrow

      pub not-placed : (new : List A) → out ≡ left (load_rules w n l at out) out new
      not-placed new = unchanged (load_rules w n l at out) out new narrow

    module _ (k : n ≤ length out) where
      loads : load_rules w n l at out ≡ none
      unfolding load_rules cut_off first_of
      loads = rw (le-ltb (length l) (at + n * w) (in-range w n at l e h), le-ltb (length out) n k)

      pub is-loaded : (Ok tt) ≡ ruling (load_rules w n l at out)
      is-loaded = kept (load_rules w n l at out) loads

      pub loaded : {k : List A} (new : List A) → k ≡ new → k ≡ left (load_rules w n l at out) out new
      loaded new f = changed (load_rules w n l at out) out new loads f

module _ {A : Type 0} (w n : ℕ) (xs : List A) (l : List ℕ) (at : ℕ) where
  module _ (h : length xs < n) where
    lacks : store_rules w n xs l at ≡ some RecordBroken
    unfolding store_rules no_room first_of
    lacks = rw (lt-ltb (length xs) n h)

    pub too_few : Err RecordBroken ≡ ruling (store_rules w n xs l at)
    too_few = told (store_rules w n xs l at) lacks

    pub none-stored : (new : List ℕ) → l ≡ left (store_rules w n xs l at) l new
    none-stored new = unchanged (store_rules w n xs l at) l new lacks

  module _ (h : n ≤ length xs) {b : Bool} (e : b ≡ leb (at + n * w) (length l)) where
    module _ (k : not b ≡ true) where
      tight : store_rules w n xs l at ≡ some SliceShort
      unfolding store_rules no_room first_of
      tight = rw (le-ltb (length xs) n h, lt-ltb (length l) (at + n * w) (past-range w n at l e k))

      pub no_bytes : Err SliceShort ≡ ruling (store_rules w n xs l at)
      no_bytes = told (store_rules w n xs l at) tight

      pub not-stored : (new : List ℕ) → l ≡ left (store_rules w n xs l at) l new
      not-stored new = unchanged (store_rules w n xs l at) l new tight

    module _ (k : not b ≡ false) where
      stores : store_rules w n xs l at ≡ none
      unfolding store_rules no_room first_of
      stores = rw (le-ltb (length xs) n h, le-ltb (length l) (at + n * w) (in-range w n at l e k))

      pub is-stored : (Ok tt) ≡ ruling (store_rules w n xs l at)
      is-stored = kept (store_rules w n xs l at) stores

      pub stored : {k : List ℕ} (new : List ℕ) → k ≡ new → k ≡ left (store_rules w n xs l at) l new
      stored new f = changed (store_rules w n xs l at) l new stores f
