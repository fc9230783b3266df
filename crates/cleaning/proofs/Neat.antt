-- What a run holds is neat, taking after taking: its rows are in order and its sheet is tidy. So is the sheet of its survivors, once it is resolved.
use mathlib.Core.Path.{◌≡◌, refl, ap, sym, subst, ◌∙◌}
use mathlib.Core.Bool.{Bool, true, false, cond, not, false≢true}
use mathlib.Core.List.{List, [], ◌∷◌, map, foldl}
use mathlib.Core.Logic.{◌⊎◌, inl, inr}
use mathlib.Core.Option.{none, some}
use Prim.Native.Nat.{ℕ, ◌+◌, ◌-◌, ◌*◌, ◌<◌}
use native.Mathlib.Omega.{arith}
use native.Mathlib.Nat.{not-suc-le-zero, mul-zero}
use lib.Dec.{ltb}
use lib.ListN.{length, get_or}
use borrow.Author.Tests.{ltb-true}
use Rattle.lists.specs.Lists.{all, is_empty, Each}
use Rattle.lists.specs.Order.{rising, level_above, not_falling}
use Rattle.lists.proofs.Tests.{tested, all-each}
use Rattle.lists.proofs.Each.{each-imp}
use Rattle.columns.specs.Limits.{Served, max_numbers}
use Rattle.columns.specs.Refusal.{refuse}
use Rattle.columns.specs.Building.{slot_rules}
use Rattle.columns.specs.declared.refusal.Refusal.TheVariants.{GroupOrder, OverNumbers, NoSurvivor}
use Rattle.columns.proofs.FirstBroken.{each_none, passed}
use Rattle.archive.specs.File.{File}
use Rattle.archive.specs.Fits.{FileFits}
use Rattle.cleaning.specs.Source.{SourceCover, Source, source_of, is_there}
use Rattle.cleaning.specs.Taking.{files_rules}
use Rattle.cleaning.specs.Sheet.{Sheet, row_count}
use Rattle.cleaning.specs.Held.{Held, nothing, archive_held, sheet_with, held_with, no_facts, ending, look_back, hold_rules}
use Rattle.cleaning.specs.Routes.{Valid}
use Rattle.cleaning.specs.Memo.{tables}
use Rattle.cleaning.specs.Resolving.{entries, groups_survive}
use Rattle.cleaning.specs.Survivors.{survivor_sheet}
use Rattle.cleaning.specs.Runs.{slotted, held_rules}
use Rattle.cleaning.specs.Sections.{labels_fit, Tidy, Filled}
use Rattle.cleaning.proofs.Taken.{Sound, FollowsLast, Followed, taken-followed}
use Rattle.cleaning.proofs.Good.{RowsFrom}
use Rattle.cleaning.proofs.NewLists.{lists-good}
use Rattle.cleaning.proofs.Tabled.{tabled-summary}
use Rattle.cleaning.proofs.SheetFacts.{Rows}
use Rattle.cleaning.proofs.SheetLists.{rows-slots}
use Rattle.cleaning.proofs.SurvivorSheet.{summary-held}
use Rattle.cleaning.proofs.HeldRows.{HeldLast, Ready, ready, held_with_lem}
use Rattle.cleaning.proofs.Orderly.{Orderly, orderly-taken}
use Rattle.cleaning.proofs.HeldColumns.{events-length, tables-length, slotted-length}
use Rattle.cleaning.proofs.HeldValid.{SlotsBelow, valid-held, below-with}
use Rattle.cleaning.proofs.TidySurvivors.{tidy-survivors}
use Rattle.cleaning.proofs.FilledGroups.{filled-survivors}
use Rattle.cleaning.proofs.TidyHeld.{groups-below, tidy-with}

-- rows in order, a tidy sheet, parents below their events
pub record Neat (K : ℕ) (h : Held) : Type 0 where
  pub rows : Rows K h
  pub tidy : Tidy K h.sheet
  pub below : SlotsBelow K h

pub neat-nothing : (K : ℕ) (served : Served K) → Neat K nothing
unfolding nothing not_falling level_above rising all labels_fit
neat-nothing K served = record {
  rows = record { groups = refl; tags = refl; labels = refl; lists = sym (mul-zero K); roots = tt; unresolved = tt };
  tidy = record {
    each_group = refl;
    each_label = refl;
    each_list = rw (mul-zero K);
    group_order = refl;
    groups_known = refl;
    root_order = refl;
    roots_within = refl;
    child_order = refl;
    children_within = refl;
    link_order = refl;
    links_known = refl;
    labelled = refl;
  };
  below = tt;
}

neat-with : (K : ℕ) (served : Served K) (h : Held) (s : Source) → Ready K h s → Sound K s → Orderly s → Neat K h → Neat K (held_with h s)
neat-with K served h s q d o n = record { rows = (held_with_lem K served h s q d).rows; tidy = tidy-with K served h s q d o n.tidy; below = below-with K served h s q d n.below }

neat-after : (K : ℕ) (served : Served K) (before : Source) (h : Held) (ss : List Source) → HeldLast K before h → Neat K h → Followed K (some before) ss → Each Orderly ss
    → Neat K (foldl held_with h ss)
neat-after K served before h [] e n f o = n
neat-after K served before h (s ∷ ss) e n f o =
    let q = ready K served (some before) h s e f.1 in
    neat-after K served s (held_with h s) ss (held_with_lem K served h s q f.0) (neat-with K served h s q f.0 o.0 n) f.2 o.1

-- ── what the next file looks back at ─────────────────────────────────────────────────────────

-- the source that a sheet with a group looks like
abbrev pub looks_like : Sheet → Source
looks_like s = ending (length s.groups - 1) s.subject (s.start + row_count s) (get_or s.groups (length s.groups - 1) no_facts).covered

pub look-back : (s : Sheet) (b : Bool) → is_empty s.groups ≡ b → look_back s ≡ cond b none (some (looks_like s))
unfolding look_back
look-back s b e = ap (λ c. cond c none (some (looks_like s))) e

no-element : {A : Type 0} (xs : List A) → is_empty xs ≡ true → length xs ≡ 0
unfolding is_empty
no-element [] e = refl
no-element (x ∷ xs) e = absurd (false≢true e)

some-element : {A : Type 0} (xs : List A) → is_empty xs ≡ false → 0 < length xs
unfolding is_empty
some-element [] e = absurd (false≢true (sym e))
some-element (x ∷ xs) e = omega arith

none_below : (xs : List ℕ) → Each (λ x. x < 0) xs → length xs ≡ 0
none_below [] h = refl
none_below (x ∷ xs) h = absurd (not-suc-le-zero h.0)

cover-there : (b : Bool) (c : SourceCover) → b ≡ is_there (cond b (some c) none)
cover-there true c = refl
cover-there false c = refl

module _ (K : ℕ) (served : Served K) (h : Held) (n : Neat K h) where
  links-known : Each (λ l. l.group < length h.sheet.groups) h.sheet.links
  links-known =
      let m = length h.sheet.groups in
      each-imp (λ l. ltb l.group m ≡ true) (λ l. l.group < m) h.sheet.links (λ l b. ltb-true l.group m b)
      (all-each (λ l. ltb l.group m) h.sheet.links n.tidy.links_known)

  -- a sheet with a group is one whose last source ends where its rows end
  pub held-last : is_empty h.sheet.groups ≡ false → HeldLast K (looks_like h.sheet) h
  unfolding ending
  held-last e = record {
    rows = n.rows;
    end = omega (arith, n.rows.tags);
    subject = refl;
    groups = omega (arith, some-element h.sheet.groups e);
    covered = cover-there (get_or h.sheet.groups (length h.sheet.groups - 1) no_facts).covered (record { labels = []; ranges = 0; links = [] });
    links = links-known;
  }

  -- one without a group has no row
  pub ready-first : is_empty h.sheet.groups ≡ true → (s : Source) → s.group ≡ 0 → Ready K h s
  unfolding sheet_with
  ready-first e s g =
      let z = no-element h.sheet.groups e in
      let none-held = subst (λ k. Each (λ x. x < k) h.sheet.row_groups) z (groups-below K served h n.tidy) in
      let m : length h.erased ≡ 0 = sym n.rows.groups ∙ none_below h.sheet.row_groups none-held in
      record {
        rows = n.rows;
        start = ap (λ b. cond b s.first h.sheet.start + length h.erased) e ∙ omega arith;
        stays = λ l. absurd (omega arith);
        subject = ap (λ b. cond b s.subject h.sheet.subject) e;
        within = omega arith;
        last = omega arith;
        covered = λ l. absurd (omega arith);
        links = links-known;
      }

-- a neat run with an accepted archive more is neat
pub neat-more : (K : ℕ) (served : Served K) (h : Held) (fs : List File) → Neat K h → hold_rules K h fs ≡ none → Each (FileFits K) fs → Neat K (foldl held_with h (map (source_of K) fs))
unfolding hold_rules
neat-more K served h fs n e k =
    let before = look_back h.sheet in
    let rules : files_rules K before fs ≡ none = (each_none _ e).1.1.1.0 in
    go (map (source_of K) fs) (taken-followed K served before fs rules) (orderly-taken K served before fs rules k) (tested (is_empty h.sheet.groups))
  where
    go : (ss : List Source) → Followed K (look_back h.sheet) ss → Each Orderly ss
        → (is_empty h.sheet.groups ≡ true) ⊎ (is_empty h.sheet.groups ≡ false) → Neat K (foldl held_with h ss)
    go ss f o (inr b) = neat-after K served (looks_like h.sheet) h ss (held-last K served h n b) n (subst (λ x. Followed K x ss) (look-back h.sheet false b) f) o
    go [] f o (inl b) = n
    go (s ∷ ss) f o (inl b) =
        let q = ready-first K served h n b s (subst (λ x. FollowsLast x s) (look-back h.sheet true b) f.1) in
        neat-after K served s (held_with h s) ss (held_with_lem K served h s q f.0) (neat-with K served h s q f.0 o.0 n) f.2 o.1

-- ── resolved ─────────────────────────────────────────────────────────────────────────────────

pub neat-valid : (K : ℕ) (served : Served K) (h : Held) → Neat K h → Valid (archive_held K h)
neat-valid K served h n = valid-held K served h n.rows n.below

-- the sheet of the survivors of a neat run that is not refused is tidy, and every group has a row in it
module _ (K : ℕ) (served : Served K) (h : Held) (n : Neat K h) where
  pub survivors-tidy : Tidy K (survivor_sheet K h (slotted (length (archive_held K h).events) (tables K (archive_held K h))))
  survivors-tidy =
      let A = archive_held K h in
      tidy-survivors K served h n.rows n.tidy (slotted (length A.events) (tables K A))
      (slotted-length K served (length A.events) (tables K A) (tables-length K served A) ∙ ap (λ m. K * m) (events-length K served h n.rows))

  -- it names no parent at or above its event, and none twice in a slot
  pub survivors-once : let s = survivor_sheet K h (slotted (length (archive_held K h).events) (tables K (archive_held K h))) in slot_rules K s.start 0 s.lists ≡ none
  unfolding survivor_sheet archive_held
  survivors-once =
      let A = archive_held K h in
      let v = neat-valid K served h n in
      let same = summary-held K served h (tables K A) n.rows (tables-length K served A) ∙ tabled-summary K served A v in
      rows-slots K served (survivor_sheet K h (slotted (length A.events) (tables K A))) survivors-tidy (subst (λ S. RowsFrom K A.start S.rows) (sym same) (lists-good K served A v))

  pub neat-resolved : held_rules h (archive_held K h) (tables K (archive_held K h)) ≡ none
      → Tidy K (survivor_sheet K h (slotted (length (archive_held K h).events) (tables K (archive_held K h))))
      × Filled (survivor_sheet K h (slotted (length (archive_held K h).events) (tables K (archive_held K h))))
  unfolding held_rules
  neat-resolved e =
      let A = archive_held K h in
      let rules = each_none (refuse GroupOrder (is_empty h.sheet.groups)
      ∷ refuse OverNumbers (ltb max_numbers (entries (tables K A)))
      ∷ refuse NoSurvivor (not (groups_survive A))
      ∷ []) e in (
        survivors-tidy,
        filled-survivors K served h n.rows n.tidy (slotted (length A.events) (tables K A)) (passed NoSurvivor (groups_survive A) rules.1.1.0),
      )
