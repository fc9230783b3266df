-- What a run holds of sources that follow one another, source by source: rows in order (SheetFacts), where they end, and of the last group its
-- number and whether it has a cover.
use mathlib.Core.Path.{◌≡◌, refl, ap, sym, ◌∙◌}
use mathlib.Core.Bool.{false, cond}
use mathlib.Core.List.{List, [], ◌∷◌, ◌++◌, map, foldl}
use mathlib.Core.Logic.{inl, inr}
use mathlib.Core.Option.{Option, none, some}
use Prim.Native.Nat.{ℕ, zero, suc, ◌+◌, ◌≤◌, ◌<◌, ◌*◌}
use native.Mathlib.Omega.{arith}
use native.Mathlib.Nat.{not-suc-le-zero, le_of_suc-le-suc, mul-zero}
use lib.ListN.{length, get_or, length-append, length-map}
use Rattle.columns.specs.Limits.{Served}
use Rattle.lists.specs.Lists.{is_empty, up_from, last, Each}
use Rattle.lists.proofs.Each.{each_append, each-imp, each_map, each_all}
use Rattle.lists.proofs.Flat.{length-map-up_from}
use Rattle.archive.specs.File.{Row}
use Rattle.cleaning.specs.Source.{Source, end_of, is_there}
use Rattle.cleaning.specs.Archive.{label_in}
use Rattle.cleaning.specs.Sheet.{Facts}
use Rattle.cleaning.specs.Held.{Held, nothing, facts_at, links_in, shifted, sheet_with, held_with, held_of, no_facts}
use Rattle.cleaning.proofs.Taken.{RecordIn, Sound, FollowsLast, Followed}
use Rattle.cleaning.proofs.SheetFacts.{Rows}

-- ── what a source is taken after ─────────────────────────────────────────────────────────────

-- what is held where `s` was taken last
pub record HeldLast (K : ℕ) (s : Source) (h : Held) : Type 0 where
  pub rows : Rows K h
  pub end : h.sheet.start + length h.erased ≡ end_of s
  pub subject : h.sheet.subject ≡ s.subject
  pub groups : length h.sheet.groups ≡ suc s.group
  pub covered : (get_or h.sheet.groups s.group no_facts).covered ≡ is_there s.cover
  pub links : Each (λ l. l.group < length h.sheet.groups) h.sheet.links

abbrev pub HeldTo : (K : ℕ) → Option Source → Held → Type 0
HeldTo K none h = h ≡ nothing
HeldTo K (some s) h = HeldLast K s h

-- `s` can be taken next: its rows start where those that are held end, and its group is the last one or one more
pub record Ready (K : ℕ) (h : Held) (s : Source) : Type 0 where
  pub rows : Rows K h
  pub start : (sheet_with h.sheet s).start + length h.erased ≡ s.first
  pub stays : 0 < length h.erased → (sheet_with h.sheet s).start ≡ h.sheet.start
  pub subject : (sheet_with h.sheet s).subject ≡ s.subject
  pub within : s.group ≤ length h.sheet.groups
  pub last : length h.sheet.groups ≤ suc s.group
  pub covered : s.group < length h.sheet.groups → (get_or h.sheet.groups s.group no_facts).covered ≡ is_there s.cover
  pub links : Each (λ l. l.group < length h.sheet.groups) h.sheet.links

pub not-empty : {A : Type 0} (xs : List A) → 0 < length xs → is_empty xs ≡ false
unfolding is_empty
not-empty [] l = absurd (not-suc-le-zero l)
not-empty (x ∷ xs) l = refl

-- a group is there, so that the start and the subject stay
pub start-stays : (h : Held) (s : Source) → 0 < length h.sheet.groups → (sheet_with h.sheet s).start ≡ h.sheet.start
unfolding sheet_with
start-stays h s l = rw (not-empty h.sheet.groups l)

pub subject-stays : (h : Held) (s : Source) → 0 < length h.sheet.groups → (sheet_with h.sheet s).subject ≡ h.sheet.subject
unfolding sheet_with
subject-stays h s l = rw (not-empty h.sheet.groups l)

rows-nothing : (K : ℕ) (served : Served K) → Rows K nothing
unfolding nothing
rows-nothing K served = record { groups = refl; tags = refl; labels = refl; lists = sym (mul-zero K); roots = tt; unresolved = tt }

pub ready : (K : ℕ) (served : Served K) (before : Option Source) (h : Held) (s : Source) → HeldTo K before h → FollowsLast before s → Ready K h s
unfolding nothing sheet_with is_empty
ready K served none h s e f = rw e (record {
  rows = rows-nothing K served;
  start = omega arith;
  stays = λ l. absurd (not-suc-le-zero l);
  subject = refl;
  within = omega arith;
  last = omega arith;
  covered = λ l. absurd (not-suc-le-zero l);
  links = tt;
})
ready K served (some r) h s e f = let l : 0 < length h.sheet.groups = omega (arith, e.groups) in record {
  rows = e.rows;
  start = omega (arith, start-stays h s l, e.end, f.first);
  stays = λ n. start-stays h s l;
  subject = subject-stays h s l ∙ e.subject ∙ sym f.subject;
  within = elim f.group [ inl g ↦ omega (arith, e.groups) | inr g ↦ omega (arith, e.groups) ];
  last = elim f.group [ inl g ↦ omega (arith, e.groups) | inr g ↦ omega (arith, e.groups) ];
  covered = elim f.group [
    | inl g ↦ λ n. rw g (e.covered ∙ sym (f.cover g))
    | inr g ↦ λ n. absurd (omega (arith, e.groups))
  ];
  links = e.links;
}

-- ── a source more ────────────────────────────────────────────────────────────────────────────

-- a group that is the last one or one more is the last one then
facts-grown : (n : ℕ) (fs : List Facts) (f : Facts) → n ≤ length fs → length fs ≤ suc n → (n < length fs → (get_or fs n no_facts).covered ≡ f.covered)
    → (length (facts_at n fs f) ≡ suc n) × ((get_or (facts_at n fs f) n no_facts).covered ≡ f.covered)
unfolding facts_at
facts-grown zero [] f l m c = (refl, refl)
facts-grown (suc n) [] f l m c = absurd (not-suc-le-zero l)
facts-grown zero (x ∷ fs) f l m c = (omega arith, c (omega arith))
facts-grown (suc n) (x ∷ fs) f l m c =
    let q = facts-grown n fs f (le_of_suc-le-suc l) (le_of_suc-le-suc m) (λ k. c (omega arith)) in
    (ap suc q.0, q.1)

module _ (K : ℕ) (served : Served K) (h : Held) (s : Source) where
  -- how many rows there are then, by any list that has an element for each row
  pub length_more : {A : Type 0} (xs : List A) (f : Row → A) → length xs ≡ length h.erased
      → length (xs ++ map f s.rows) ≡ length h.erased + length s.rows
  length_more xs f e = omega (arith, length-append xs (map f s.rows), length-map s.rows f)

  module _ (q : Ready K h s) (d : Sound K s) where
    rows-with : Rows K (held_with h s)
    unfolding held_with sheet_with shifted
    rows-with =
        let n = length h.erased in
        let m = length (h.erased ++ map (λ r. r.erased) s.rows) in
        let start = cond (is_empty h.sheet.groups) s.first h.sheet.start in
        let e : m ≡ n + length s.rows = length_more h.erased (λ r. r.erased) refl in
        record {
          groups = length_more h.sheet.row_groups (λ r. s.group) q.rows.groups ∙ sym e;
          tags = length_more h.sheet.tags (λ r. r.tag) q.rows.tags ∙ sym e;
          labels = omega (
            arith,
            e,
            length-append h.sheet.labels (map (label_in s.cover) (up_from 0 (length s.rows))),
            length-map-up_from (label_in s.cover) 0 (length s.rows),
            q.rows.labels,
          );
          lists = omega (arith, ap (λ x. K * x) e, length-append h.sheet.lists s.forward, q.rows.lists, d.slots);
          roots = each_append (λ r. r.row < m) h.sheet.roots (map (λ r. record { row = length h.sheet.tags + r.row; handle = r.handle }) s.roots)
              (each-imp (λ r. r.row < n) (λ r. r.row < m) h.sheet.roots (λ r l. omega (arith, e)) q.rows.roots)
              (each_map (λ r. r.row < m) (λ r. record { row = length h.sheet.tags + r.row; handle = r.handle }) s.roots
              (each-imp (λ r. r.row < length s.rows) (λ r. length h.sheet.tags + r.row < m) s.roots (λ r l. omega (arith, e, q.rows.tags)) d.roots));
          unresolved = each_append (λ u. (start ≤ u.child) × (u.child < start + m)) h.sheet.unresolved s.unresolved
              (each-imp (λ u. (h.sheet.start ≤ u.child) × (u.child < h.sheet.start + n)) (λ u. (start ≤ u.child) × (u.child < start + m))
              h.sheet.unresolved (λ u l. (omega (arith, e, q.stays (omega arith)), omega (arith, e, q.stays (omega arith)))) q.rows.unresolved)
              (each-imp (RecordIn s) (λ u. (start ≤ u.child) × (u.child < start + m)) s.unresolved
              (λ u l. (omega (arith, q.start, l.0), omega (arith, e, q.start, l.1))) d.unresolved);
        }

    pub held_with_lem : HeldLast K s (held_with h s)
    unfolding held_with sheet_with
    held_with_lem =
        let g = facts-grown s.group h.sheet.groups (record { depth = s.depth; covered = is_there s.cover }) q.within q.last q.covered in
        let gs = facts_at s.group h.sheet.groups (record { depth = s.depth; covered = is_there s.cover }) in
        record {
          rows = rows-with;
          end = omega (arith, length_more h.erased (λ r. r.erased) refl, q.start);
          subject = q.subject;
          groups = g.0;
          covered = g.1;
          links = each_append (λ l. l.group < length gs) h.sheet.links (map (λ l. record { group = s.group; link = l }) (links_in s.cover))
              (each-imp (λ l. l.group < length h.sheet.groups) (λ l. l.group < length gs) h.sheet.links (λ l b. omega (arith, g.0, q.last)) q.links)
              (each_map (λ l. l.group < length gs) (λ l. record { group = s.group; link = l }) (links_in s.cover)
              (each_all (λ l. s.group < length gs) (λ l. omega (arith, g.0)) (links_in s.cover)));
        }

-- ── all sources ──────────────────────────────────────────────────────────────────────────────

-- the last of sources taken after `before`
abbrev last_after : Option Source → List Source → Option Source
last_after before [] = before
last_after before (s ∷ ss) = last_after (some s) ss

held_after : (K : ℕ) (served : Served K) (before : Option Source) (h : Held) (ss : List Source) → HeldTo K before h → Followed K before ss → HeldTo K (last_after before ss) (foldl held_with h ss)
held_after K served before h [] e f = e
held_after K served before h (s ∷ ss) e f = held_after K served (some s) (held_with h s) ss (held_with_lem K served h s (ready K served before h s e f.1) f.0) f.2

last-after : (s : Source) (ss : List Source) → last (s ∷ ss) ≡ last_after (some s) ss
unfolding last
last-after s [] = refl
last-after s (r ∷ rs) = last-after r rs

pub held_to : (K : ℕ) (served : Served K) (ss : List Source) → Followed K none ss → HeldTo K (last ss) (held_of ss)
unfolding held_of last
held_to K served [] f = refl
held_to K served (s ∷ ss) f = rw (last-after s ss) (held_after K served none nothing (s ∷ ss) refl f)

rows-to : (K : ℕ) (served : Served K) (before : Option Source) (h : Held) → HeldTo K before h → Rows K h
rows-to K served none h e = rw e (rows-nothing K served)
rows-to K served (some s) h e = e.rows

pub rows-held : (K : ℕ) (served : Served K) (ss : List Source) → Followed K none ss → Rows K (held_of ss)
rows-held K served ss f = rows-to K served (last ss) (held_of ss) (held_to K served ss f)
