-- Resolving out of the flat columns alone: the rules and the survivors' sheet of a neat run, by renumbering's new lists.
use mathlib.Core.Path.{◌≡◌, ◌∙◌}
use mathlib.Core.Bool.{not}
use mathlib.Core.List.{List, [], ◌∷◌, map}
use mathlib.Core.Option.{Option, none}
use Prim.Native.Nat.{ℕ}
use lib.Dec.{ltb}
use lib.ListN.{length}
use Rattle.lists.specs.Lists.{joined, is_empty}
use Rattle.columns.specs.Limits.{Served, max_numbers}
use Rattle.columns.specs.Refusal.{refuse, first_of}
use Rattle.columns.specs.declared.refusal.Refusal.{Refusal}
use Rattle.columns.specs.declared.refusal.Refusal.TheVariants.{GroupOrder, OverNumbers, NoSurvivor}
use Rattle.run_renumber.specs.NewLists.{new_lists}
use Rattle.cleaning.specs.Memo.{tables}
use Rattle.cleaning.specs.Held.{Held, archive_held}
use Rattle.cleaning.specs.Survivors.{keep, survivor_sheet}
use Rattle.cleaning.specs.Runs.{held_rules, resolve_into, resolve_held}
use Rattle.cleaning.specs.Sections.{reaches, Tidy, Filled}
use Rattle.cleaning.proofs.Slots.{flagged}
use Rattle.cleaning.proofs.HeldColumns.{held-entries, held-lists}
use Rattle.cleaning.proofs.FilledGroups.{held-survive}
use Rattle.cleaning.proofs.Neat.{Neat, neat-valid, neat-resolved}

-- the new lists of all rows, slot by slot
abbrev pub flat_lists : (K : ℕ) → Held → List ℕ → List (List ℕ)
flat_lists K h flags = new_lists K h.sheet.start flags h.sheet.lists

-- 24, 43, 27
abbrev pub flat_rules : (K : ℕ) → Held → List ℕ → Option Refusal
flat_rules K h flags =
    first_of (refuse GroupOrder (is_empty h.sheet.groups)
    ∷ refuse OverNumbers (ltb max_numbers (length (joined (flat_lists K h flags))))
    ∷ refuse NoSurvivor (not (reaches (length h.sheet.groups) 0 (keep h.erased h.sheet.row_groups)))
    ∷ [])

module _ (K : ℕ) (served : Served K) (h : Held) (n : Neat K h) (flags : List ℕ) (e : map flagged flags ≡ h.erased) where
  rules-flat : held_rules h (archive_held K h) (tables K (archive_held K h)) ≡ flat_rules K h flags
  unfolding held_rules
  rules-flat = rw (← held-entries K served h n.rows flags e (neat-valid K served h n), held-survive K served h n.rows n.tidy)

  pub resolve-flat : resolve_held K h ≡ resolve_into h (survivor_sheet K h (flat_lists K h flags)) (flat_rules K h flags)
  unfolding resolve_held
  resolve-flat = rw (← held-lists K served h n.rows flags e (neat-valid K served h n), rules-flat)

  -- the sheet that an accepted resolving makes can be written group by group
  pub neat-flat : flat_rules K h flags ≡ none → Tidy K (survivor_sheet K h (flat_lists K h flags)) × Filled (survivor_sheet K h (flat_lists K h flags))
  neat-flat q = rw (held-lists K served h n.rows flags e (neat-valid K served h n)) (neat-resolved K served h n (rules-flat ∙ q))
