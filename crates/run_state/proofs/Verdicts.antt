-- What the tests of a sheet and of what is held answer, test after test.
use mathlib.Core.Path.{◌≡◌, sym, ◌∙◌}
use mathlib.Core.List.{List}
use mathlib.Core.Bool.{Bool, true, false, not, ◌&&◌}
use Prim.Native.Nat.{ℕ, ◌+◌, ◌-◌, ◌*◌, ◌≤◌, ◌<◌}
use lib.Dec.{ltb, leb}
use lib.ListN.{take}
use mir.Syntax.{w64}
use mir.Val.{Fits}
use borrow.Author.Tests.{le-leb, lt-leb, leb-true, ltb-true, not-true, not-false}
use Rattle.lists.specs.Lists.{all}
use Rattle.lists.proofs.Tests.{both}
use Rattle.columns.specs.Limits.{kinds, max_records, max_numbers, max_groups, max_subject, end64}
use Rattle.columns.specs.EdgeSet.{offsets_form, cut}
use Rattle.columns.specs.Building.{in_file, numbers_ok, slot_rules}
use Rattle.columns_rules.proofs.FileOrder.{numbers-are}
use Rattle.cleaning.specs.Source.{is_there}
use Rattle.run_state.specs.declared.Sheet.{Sheet}
use Rattle.run_state.specs.declared.Edges.{Edges}
use Rattle.run_state.specs.declared.Held.{Held}
use Rattle.run_state.specs.declared.valid.Sizes.{Sizes}
use Rattle.run_state.specs.View.{slots_in}
use Rattle.run_state.specs.Valid.{table_ok, edges_ok, counts_ok, below, earlier, records_ok, sizes_of, columns_ok, sheet_ok, held_ok, once_ok}

-- ── counts ───────────────────────────────────────────────────────────────────────────────────

module _ (s : Sheet) where
  pub long-subject : 255 < s.subject.length → false ≡ counts_ok s
  unfolding counts_ok
  long-subject h = rw (lt-leb s.subject.length max_subject h)

  module _ (a : s.subject.length ≤ 255) where
    pub many-groups : 16 < s.groups.count → false ≡ counts_ok s
    unfolding counts_ok
    many-groups h = rw (le-leb s.subject.length max_subject a, lt-leb s.groups.count max_groups h)

    module _ (b : s.groups.count ≤ 16) where
      pub many-rows : 1024 < s.rows.count → false ≡ counts_ok s
      unfolding counts_ok
      many-rows h = rw (le-leb s.subject.length max_subject a, le-leb s.groups.count max_groups b, lt-leb s.rows.count max_records h)

      module _ (d : s.rows.count ≤ 1024) where
        so_far : counts_ok s ≡ (leb s.unresolved.count max_records && (leb s.roots.count max_records && (leb s.links.count max_records && ltb (s.start + s.rows.count) end64)))
        unfolding counts_ok
        so_far = rw (le-leb s.subject.length max_subject a, le-leb s.groups.count max_groups b, le-leb s.rows.count max_records d)

        pub many-unresolved : 1024 < s.unresolved.count → false ≡ counts_ok s
        many-unresolved h = rw (so_far, lt-leb s.unresolved.count max_records h)

        module _ (e : s.unresolved.count ≤ 1024) where
          pub many-roots : 1024 < s.roots.count → false ≡ counts_ok s
          many-roots h = rw (so_far, le-leb s.unresolved.count max_records e, lt-leb s.roots.count max_records h)

          module _ (f : s.roots.count ≤ 1024) where
            pub many-links : 1024 < s.links.count → false ≡ counts_ok s
            many-links h = rw (so_far, le-leb s.unresolved.count max_records e, le-leb s.roots.count max_records f, lt-leb s.links.count max_records h)

            pub counts-last : s.links.count ≤ 1024 → Fits w64 s.rows.count → leb s.start (18446744073709551615 - s.rows.count) ≡ counts_ok s
            unfolding numbers_ok
            counts-last h w =
                rw (so_far, le-leb s.unresolved.count max_records e, le-leb s.roots.count max_records f, le-leb s.links.count max_records h)
                (numbers-are s.start s.rows.count w)

-- what counts within the limits say
record Few (s : Sheet) : Type 0 where
  pub rows : s.rows.count ≤ 1024
  pub unresolved : s.unresolved.count ≤ 1024
  pub roots : s.roots.count ≤ 1024
  pub numbers : s.start + s.rows.count < end64

module _ (s : Sheet) (h : counts_ok s ≡ true) where
  few : Few s
  unfolding counts_ok
  few =
      let a = both (leb s.subject.length max_subject) _ h in
      let b = both (leb s.groups.count max_groups) _ a.1 in
      let d = both (leb s.rows.count max_records) _ b.1 in
      let e = both (leb s.unresolved.count max_records) _ d.1 in
      let f = both (leb s.roots.count max_records) _ e.1 in
      let g = both (leb s.links.count max_records) _ f.1 in
      record {
        rows = leb-true s.rows.count max_records d.0;
        unresolved = leb-true s.unresolved.count max_records e.0;
        roots = leb-true s.roots.count max_records f.0;
        numbers = ltb-true (s.start + s.rows.count) end64 g.1;
      }

-- ── lists ────────────────────────────────────────────────────────────────────────────────────

module _ (n count : ℕ) (offsets : List ℕ) where
  pub many-numbers : 4096 < count → false ≡ table_ok n count offsets
  many-numbers h = rw (lt-leb count max_numbers h)

  pub table-test : {r : Bool} → count ≤ 4096 → r ≡ offsets_form kinds n count (take (2 * n + 1) offsets) → r ≡ table_ok n count offsets
  table-test h k = rw (le-leb count max_numbers h) k

  module _ (h : table_ok n count offsets ≡ true) where
    numbers-few : count ≤ 4096
    numbers-few = leb-true count max_numbers (both (leb count max_numbers) _ h).0

    offsets-form : offsets_form kinds n count (take (2 * n + 1) offsets) ≡ true
    offsets-form = (both (leb count max_numbers) _ h).1

module _ (n : ℕ) (e : Edges) (h : edges_ok n e ≡ true) where
  pub few-numbers : e.count ≤ 4096
  unfolding edges_ok
  few-numbers = numbers-few n e.count e.offsets h

  pub in_form : offsets_form kinds n e.count (take (2 * n + 1) e.offsets) ≡ true
  unfolding edges_ok
  in_form = offsets-form n e.count e.offsets h

-- ── columns ──────────────────────────────────────────────────────────────────────────────────

module _ (z : Sizes) (offsets targets children roots : List ℕ) {a : Bool} (e : a ≡ table_ok z.rows z.numbers offsets) where
  pub bad-table : not a ≡ true → false ≡ columns_ok z offsets targets children roots
  unfolding columns_ok
  bad-table h = rw (← e, not-true a h)

  module _ (h : not a ≡ false) where
    table_kept : table_ok z.rows z.numbers offsets ≡ true
    table_kept = sym e ∙ not-false a h

    pub numbers-there : z.numbers ≤ 4096
    numbers-there = numbers-few z.rows z.numbers offsets table_kept

    pub table-form : offsets_form kinds z.rows z.numbers (take (2 * z.rows + 1) offsets) ≡ true
    table-form = offsets-form z.rows z.numbers offsets table_kept

    module _ {b : Bool} (f : b ≡ all (in_file z.start (z.start + z.rows)) (take z.unresolved children)) where
      pub child-outside : not b ≡ true → false ≡ columns_ok z offsets targets children roots
      unfolding columns_ok
      child-outside k = rw (← e, not-false a h, ← f, not-true b k)

      module _ (k : not b ≡ false) {d : Bool} (g : d ≡ all (below z.rows) (take z.roots roots)) where
        pub root-outside : not d ≡ true → false ≡ columns_ok z offsets targets children roots
        unfolding columns_ok
        root-outside m = rw (← e, not-false a h, ← f, not-false b k, ← g, not-true d m)

        pub parents-test : {q : Bool} → not d ≡ false → q ≡ earlier z.start 0 (cut (take (2 * z.rows + 1) offsets) (take z.numbers targets))
            → q ≡ columns_ok z offsets targets children roots
        unfolding columns_ok
        parents-test m w = rw (← e, not-false a h, ← f, not-false b k, ← g, not-false d m) w

-- ── a sheet, and what is held ────────────────────────────────────────────────────────────────

-- the tests of a sheet's columns
abbrev Columns : Sizes → Sheet → Bool
Columns z s = columns_ok z s.edges.offsets s.edges.targets s.unresolved.children s.roots.rows

module _ (s : Sheet) {a : Bool} (d : a ≡ counts_ok s) where
  pub bad-counts : not a ≡ true → false ≡ sheet_ok s
  unfolding sheet_ok
  bad-counts h = rw (← d, not-true a h)

  module _ (h : not a ≡ false) where
    counts-kept : Few s
    counts-kept = few s (sym d ∙ not-false a h)

    pub rows-kept : s.rows.count ≤ 1024
    rows-kept = counts-kept.rows

    pub numbers-kept : s.start + s.rows.count < end64
    numbers-kept = counts-kept.numbers

    module _ (z : Sizes) (y : z ≡ sizes_of s) where
      pub rows-sized : z.rows ≤ 1024
      rows-sized = rw y counts-kept.rows

      pub children-sized : z.unresolved ≤ 1024
      children-sized = rw y counts-kept.unresolved

      pub roots-sized : z.roots ≤ 1024
      roots-sized = rw y counts-kept.roots

      pub numbers-sized : z.start + z.rows < end64
      numbers-sized = rw y counts-kept.numbers

      pub columns-test : {b : Bool} → b ≡ Columns z s → b ≡ sheet_ok s
      unfolding sheet_ok edges_ok records_ok slots_in columns_ok
      columns-test e = rw (← d, not-false a h) (rw y at e)

-- a sheet whose lists are tested for parents that stand twice
module _ (s : Sheet) (k : sheet_ok s ≡ true) where
  valid-counts : Few s
  unfolding sheet_ok
  valid-counts = few s (both (counts_ok s) _ k).0

  valid-edges : edges_ok s.rows.count s.edges ≡ true
  unfolding sheet_ok
  valid-edges = (both (edges_ok s.rows.count s.edges) _ (both (counts_ok s) _ k).1).0

  pub valid-rows : s.rows.count ≤ 1024
  valid-rows = valid-counts.rows

  pub valid-end : s.start + s.rows.count < end64
  valid-end = valid-counts.numbers

  pub valid-numbers : s.edges.count ≤ 4096
  valid-numbers = few-numbers s.rows.count s.edges valid-edges

  pub valid-form : offsets_form kinds s.rows.count s.edges.count (take (2 * s.rows.count + 1) s.edges.offsets) ≡ true
  valid-form = in_form s.rows.count s.edges valid-edges

pub once-test : (s : Sheet) {r : Bool}
    → r ≡ not (is_there (slot_rules kinds s.start 0 (cut (take (2 * s.rows.count + 1) s.edges.offsets) (take s.edges.count s.edges.targets))))
    → r ≡ once_ok s
unfolding once_ok slots_in
once-test s e = e

module _ (h : Held) {a : Bool} (d : a ≡ counts_ok h.sheet) where
  pub bad-held : not a ≡ true → false ≡ held_ok h
  unfolding held_ok
  bad-held k = rw (← bad-counts h.sheet d k)

  module _ (k : not a ≡ false) (z : Sizes) (y : z ≡ sizes_of h.sheet) {b : Bool} (e : b ≡ Columns z h.sheet) where
    sheet_is : b ≡ sheet_ok h.sheet
    sheet_is = columns-test h.sheet d k z y e

    pub bad-columns : not b ≡ true → false ≡ held_ok h
    unfolding held_ok
    bad-columns f = rw (← sheet_is, not-true b f)

    module _ (f : not b ≡ false) {r : Bool} (g : r ≡ table_ok h.sheet.rows.count h.reverse.count h.reverse.offsets) where
      pub bad-reverse : not r ≡ true → false ≡ held_ok h
      unfolding held_ok edges_ok
      bad-reverse m = rw (← sheet_is, not-false b f, ← g, not-true r m)

      pub inbound-test : {q : Bool} → not r ≡ false → q ≡ table_ok h.sheet.rows.count h.inbound.count h.inbound.offsets → q ≡ held_ok h
      unfolding held_ok edges_ok
      inbound-test m w = rw (← sheet_is, not-false b f, ← g, not-false r m) w
