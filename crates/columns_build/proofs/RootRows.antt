-- State roots: one turn of each loop over the events, and what each test of `state_root_entries` says of its verdict.
use Rattle.std.specs.Prelude.{Err, Ok}
use mathlib.Core.Path.{◌≡◌, sym, ◌∙◌}
use mathlib.Core.Bool.{Bool, true, false, not, ◌&&◌}
use mathlib.Core.List.{List, [], ◌∷◌, ◌++◌}
use Prim.Native.Nat.{ℕ, suc, ◌+◌, ◌-◌, ◌≤◌, ◌<◌}
use native.Mathlib.Numerals.{add-one}
use native.Mathlib.Omega.{arith}
use lib.ListN.{length, get_or, set, drop, drop_of_length-le, length-map}
use lib.Seq.{sets, sets-eq, drop-cons}
use borrow.Author.Tests.{lt-ltb, le-ltb, not-true, not-false}
use Rattle.lists.specs.Lists.{all, any}
use Rattle.lists.proofs.Tests.{both}
use Rattle.columns.specs.Refusal.{Verdict, refused, accepted, unless, first_of, short, limits}
use Rattle.columns.specs.Building.{in_file}
use Rattle.columns.specs.Roots.{root_entries}
use Rattle.columns_build.specs.Written.{records, roots_answer, over, rows_of}
use Rattle.columns.specs.declared.refusal.Refusal.{Refusal}
use Rattle.columns.specs.declared.refusal.Refusal.TheVariants.{RootOutside, SliceShort, OverRecords}
use Rattle.columns_rules.proofs.records.FileNumbers.{in-file-low}

-- ── every event ──────────────────────────────────────────────────────────────────────────────

module _ {t : Bool} (first rows i : ℕ) (l : List ℕ) (e : t ≡ all (in_file first (first + rows)) (drop i l)) where
  pub every-done : length l ≤ i → true ≡ t
  unfolding all
  every-done h = rw (e, drop_of_length-le l {i = i} h)

  module _ (h : i < length l) {r : Bool} (k : r ≡ in_file first (first + rows) (get_or l i 0)) where
    pub one_outside : not r ≡ true → false ≡ t
    unfolding all
    one_outside q = rw (e, drop-cons l i 0, ← k, not-true r q)

    pub every-on : not r ≡ false → t ≡ all (in_file first (first + rows)) (drop (i + 1) l)
    unfolding all
    every-on q = rw (e, drop-cons l i 0, ← k, not-false r q, add-one)

module _ (first rows i : ℕ) (l : List ℕ) (e : all (in_file first (first + rows)) (drop i l) ≡ true) (h : i < length l) where
  this-and-rest : (in_file first (first + rows) (get_or l i 0) && all (in_file first (first + rows)) (drop (suc i) l)) ≡ true
  unfolding all
  this-and-rest = rw (drop-cons l i 0) at e

  pub this-from-first : first ≤ get_or l i 0
  this-from-first = in-file-low first rows (get_or l i 0) (both (in_file first (first + rows) (get_or l i 0)) (all (in_file first (first + rows)) (drop (suc i) l)) this-and-rest).0

  pub rest-inside : all (in_file first (first + rows)) (drop (i + 1) l) ≡ true
  rest-inside = rw add-one (both (in_file first (first + rows) (get_or l i 0)) (all (in_file first (first + rows)) (drop (suc i) l)) this-and-rest).1

-- ── rows written ─────────────────────────────────────────────────────────────────────────────

length-rows : (first : ℕ) (events : List ℕ) → length (rows_of first events) ≡ length events
unfolding rows_of
length-rows first events = length-map events (λ event. event - first)

module _ {t : List ℕ} (first i : ℕ) (events out : List ℕ) (e : t ≡ sets out i (rows_of first (drop i events))) where
  pub row_more : i < length events → t ≡ sets (set out i (get_or events i 0 - first)) (i + 1) (rows_of first (drop (i + 1) events))
  unfolding rows_of
  row_more h = rw (e, drop-cons events i 0, add-one)

  row_last : length events ≤ i → t ≡ out
  unfolding rows_of
  row_last h = rw (e, drop_of_length-le events {i = i} h)

pub rows-done : (first i : ℕ) (events out₀ out : List ℕ) → sets out₀ 0 (rows_of first events) ≡ sets out i (rows_of first (drop i events))
    → length events ≤ i → length events ≤ length out₀ → out ≡ rows_of first events ++ drop (length events) out₀
rows-done first i events out₀ out e h k =
    let n = length-rows first events in
    let m : 0 + length (rows_of first events) ≡ length events = omega (arith, n) in
    sym (row_last first i events out e h) ∙ (rw m at (sets-eq (rows_of first events) out₀ 0 (omega (arith, n))))

-- ── the verdict ──────────────────────────────────────────────────────────────────────────────

pub answer-refused : (x : Refusal) {v : Verdict (List ℕ)} → v ≡ refused x → Err x ≡ roots_answer v
unfolding roots_answer
answer-refused x e = rw e

pub out-refused : (x : Refusal) (l : List ℕ) {v : Verdict (List ℕ)} → v ≡ refused x → over v l ≡ l
unfolding over
out-refused x l e = rw e

module _ (first rows : ℕ) (events out : List ℕ) where
  pub many-rows : 1024 < rows → root_entries first rows events (records out ∷ []) ≡ refused OverRecords
  unfolding root_entries unless limits any first_of
  many-rows h = rw (lt-ltb 1024 rows h)

  module _ (h : rows ≤ 1024) where
    pub many-events : 1024 < length events → root_entries first rows events (records out ∷ []) ≡ refused OverRecords
    unfolding root_entries unless limits any first_of
    many-events k = rw (le-ltb 1024 rows h, lt-ltb 1024 (length events) k)

    module _ (k : length events ≤ 1024) where
      pub short-out : length out < 1024 → root_entries first rows events (records out ∷ []) ≡ refused SliceShort
      unfolding root_entries unless limits any first_of short
      short-out l = rw (le-ltb 1024 rows h, le-ltb 1024 (length events) k, lt-ltb (length out) 1024 l)

      module _ (l : 1024 ≤ length out) {r : Bool} (e : r ≡ all (in_file first (first + rows)) events) where
        pub root-outside : not r ≡ true → root_entries first rows events (records out ∷ []) ≡ refused RootOutside
        unfolding root_entries unless limits any first_of short
        root-outside q = rw (le-ltb 1024 rows h, le-ltb 1024 (length events) k, le-ltb (length out) 1024 l, ← e, not-true r q)

        roots-taken : not r ≡ false → root_entries first rows events (records out ∷ []) ≡ accepted (rows_of first events)
        unfolding rows_of root_entries unless limits any first_of short
        roots-taken q = rw (le-ltb 1024 rows h, le-ltb 1024 (length events) k, le-ltb (length out) 1024 l, ← e, not-false r q)

        pub roots-answer : not r ≡ false → Ok (length events) ≡ roots_answer (root_entries first rows events (records out ∷ []))
        unfolding roots_answer
        roots-answer q = rw (roots-taken q, length-rows first events)

        pub roots-out : not r ≡ false → {out' : List ℕ} → out' ≡ rows_of first events ++ drop (length events) out
            → out' ≡ over (root_entries first rows events (records out ∷ [])) out
        unfolding over
        roots-out q f = rw (roots-taken q, length-rows first events) f

pub roots-inside : (first rows : ℕ) (events : List ℕ) {r : Bool} → r ≡ all (in_file first (first + rows)) events → not r ≡ false → all (in_file first (first + rows)) events ≡ true
roots-inside first rows events e q = sym e ∙ not-false _ q
