-- One set of a file: its columns out of a table of lists, and the lines that show them.
use mathlib.Core.Path.{◌≡◌, refl, sym, ap, ◌∙◌}
use mathlib.Core.Bool.{true}
use mathlib.Core.List.{List}
use Prim.Native.Nat.{ℕ, ◌+◌, ◌-◌, ◌*◌, ◌≤◌, ◌<◌}
use native.Mathlib.Omega.{arith}
use lib.IntN.{ℤ}
use lib.ListN.{length, take}
use lib.Seq.{sets}
use Rattle.lists.specs.Lists.{part}
use Rattle.lists.proofs.Slices.{take-sets}
use Rattle.columns.specs.Limits.{kinds, max_numbers, offsets_room}
use Rattle.columns.specs.EdgeSet.{EdgeSet, from_to, cut, set_of}
use Rattle.columns.specs.Building.{rows_within, deltas_fit}
use Rattle.columns.proofs.Offsets.{form-climbs, form-length}
use Rattle.columns.proofs.Within.{within-fits, section-few}
use Rattle.cleaning.specs.Lines.{set_lines}
use Rattle.archive_store.proofs.sizes.Sized.{SetHas}
use Rattle.run_section.specs.declared.Counts.{Counts}
use Rattle.run_section.specs.Rules.{spans_in}
use Rattle.run_section.proofs.Measured.{set-has}
use Rattle.run_text.specs.numbers.Wrote.{Wrote}
use Rattle.run_text.specs.files.Files.{columns_of, set_size}
use Rattle.run_text.proofs.numbers.Joined.{renamed}
use Rattle.run_list.specs.Groups.{set_over, Shown}

module _ (z : Counts) (a b : ℕ) (offsets targets : List ℕ) (s : Shown z a b offsets targets) where
  pub lists-climb : from_to 0 (length targets) offsets ≡ true
  lists-climb = form-climbs kinds z.rows (length targets) offsets s.form

  pub lists-there : 2 * (a + (b - a)) < length offsets
  lists-there = omega (arith, s.rises, s.within, form-length kinds z.rows (length targets) offsets s.form)

  module _ (low high : ℕ) where
    abbrev set : EdgeSet
    set = set_over z a b low high offsets targets

    pub in_reach : deltas_fit kinds (z.start + a) (rows_within kinds low high a (b - a) offsets targets) ≡ true
    unfolding spans_in
    in_reach = within-fits kinds low high (z.start + a) (part (kinds * a) (kinds * (b - a)) (cut offsets targets)) s.spans

    has : SetHas (b - a) set.count set
    has = set-has (z.start + a) low high a (b - a) z.rows offsets targets s.form (omega (arith, s.rises, s.within)) refl

    count-few : set.count ≤ max_numbers
    unfolding set_of
    count-few = omega (arith, section-few kinds low high a (b - a) offsets targets lists-climb, s.numbers)

    -- ── its columns ────────────────────────────────────────────────────────────────────────────

    module _ (was is : List ℕ) (e : is ≡ sets was 0 set.offsets) (long : length was ≡ offsets_room kinds) where
      offsets_are : take (2 * (b - a) + 1) is ≡ set.offsets
      offsets_are = rw e (take-sets was set.offsets (2 * (b - a) + 1) has.offsets (omega (arith, s.few, s.rises, s.within)))

      pub offsets-count : 2 * (b - a) + 1 ≡ length (take (2 * (b - a) + 1) is)
      offsets-count = sym (ap length offsets_are ∙ has.offsets)

    module _ {n : ℕ} (same : n ≡ set.count) where
      pub deltas-there : (xs : List ℤ) → length xs ≡ max_numbers → n ≤ length xs
      deltas-there xs long = omega (arith, count-few)

      module _ (was is : List ℤ) (e : is ≡ sets was 0 set.deltas) (long : length was ≡ max_numbers) where
        deltas-are : take n is ≡ set.deltas
        deltas-are = rw e (take-sets was set.deltas n (has.deltas ∙ sym same) (omega (arith, count-few)))

        pub deltas-count : n ≡ length (take n is)
        deltas-count = same ∙ sym (ap length deltas-are ∙ has.deltas)

        -- ── its lines ────────────────────────────────────────────────────────────────────────────

        module _ (was' is' : List ℕ) (e' : is' ≡ sets was' 0 set.offsets) (long' : length was' ≡ offsets_room kinds) where
          pub set_room : (at name : ℕ) {m : ℕ} → at + set_size name (2 * (b - a) + 1) set.count ≤ m
              → at + set_size name (length (take (2 * (b - a) + 1) is')) (length (take n is)) ≤ m
          set_room at name h = omega (arith, h, offsets-count was' is' e' long', deltas-count, same)

          pub set-shown : (name : List ℕ) {l i : List ℕ} {at r : ℕ}
              → Wrote (set_lines name (columns_of (take (2 * (b - a) + 1) is') (take n is)))
              (set_size (length name) (length (take (2 * (b - a) + 1) is')) (length (take n is))) l at i r
              → Wrote (set_lines name set) (set_size (length name) (2 * (b - a) + 1) set.count) l at i r
          unfolding set_lines
          set-shown name w = renamed w (rw (offsets_are was' is' e' long', deltas-are)) (omega (arith, offsets-count was' is' e' long', deltas-count, same))
