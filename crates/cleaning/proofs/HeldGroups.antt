-- The groups that a run holds, with a source more: the source's group joined at its number.
use mathlib.Core.Path.{◌≡◌, refl, ap, ap₂, sym, ◌∙◌}
use mathlib.Core.Bool.{Bool, true, false, cond, false≢true}
use mathlib.Core.List.{List, [], ◌∷◌, ◌++◌, append-nil}
use mathlib.Core.Option.{Option, none, some}
use Prim.Native.Nat.{ℕ, zero, suc, ◌+◌, ◌≤◌, ◌<◌}
use native.Mathlib.Omega.{arith}
use native.Mathlib.Nat.{not-suc-le-zero, le_of_suc-le-suc}
use lib.ListN.{length, get_or}
use Rattle.columns.specs.Limits.{Served}
use Rattle.lists.specs.Lists.{Each}
use Rattle.lists.proofs.Each.{each-imp}
use Rattle.cover.specs.Chains.{Link}
use Rattle.cleaning.specs.Source.{SourceCover, Source, is_there}
use Rattle.cleaning.specs.Archive
use Rattle.cleaning.specs.Archive.{group_of, join_depth, join_links, join_at, add_source}
use Rattle.cleaning.specs.Sheet.{Facts, GroupLink, links_of, groups_from, groups_of_sheet}
use Rattle.cleaning.specs.Held.{Held, facts_at, links_in, sheet_with, held_with, no_facts}
use Rattle.cleaning.proofs.GroupLinks.{in_group, links-append, links-none, links-own, links-other}
use Rattle.cleaning.proofs.HeldRows.{Ready}

-- ── links more ───────────────────────────────────────────────────────────────────────────────

-- links of a group are nothing to the other groups
links-stay : (ls : List GroupLink) (m g : ℕ) (ms : List Link) → (m ≡ g → ⊥) → links_of (ls ++ in_group m ms) g ≡ links_of ls g
links-stay ls m g ms d = rw (links-append ls (in_group m ms) g, links-other m g ms d) (append-nil (links_of ls g))

links-more : (ls : List GroupLink) (g : ℕ) (ms : List Link) → links_of (ls ++ in_group g ms) g ≡ links_of ls g ++ ms
links-more ls g ms = rw (links-append ls (in_group g ms) g, links-own g ms)

groups-stay : (ls : List GroupLink) (m k : ℕ) (ms : List Link) (fs : List Facts) → m < k → groups_from (ls ++ in_group m ms) k fs ≡ groups_from ls k fs
unfolding groups_from
groups-stay ls m k ms [] l = refl
groups-stay ls m k ms (f ∷ fs) l =
    ap₂ (λ x gs. record { depth = f.depth; links = cond f.covered (some x) none } ∷ gs) (links-stay ls m k ms (λ e. omega arith))
    (groups-stay ls m (1 + k) ms fs (omega arith))

-- ── a source's group ─────────────────────────────────────────────────────────────────────────

-- the links of a new group, and of one that is there
first-links : (c : Option SourceCover) (ls : List Link) → ls ≡ links_in c → cond (is_there c) (some ls) none ≡ Archive.links_in c
first-links none ls e = refl
first-links (some c) ls e = ap some e

join-links : (c : Option SourceCover) (b : Bool) (ls ms : List Link) → b ≡ is_there c → ms ≡ ls ++ links_in c
    → cond b (some ms) none ≡ join_links (cond b (some ls) none) (Archive.links_in c)
join-links none true ls ms e h = absurd (false≢true (sym e))
join-links none false ls ms e h = refl
join-links (some c) true ls ms e h = ap some h
join-links (some c) false ls ms e h = absurd (false≢true e)

module _ (s : Source) (ls : List GroupLink) where
  abbrev facts : Facts
  facts = record { depth = s.depth; covered = is_there s.cover }

  abbrev more : ℕ → List GroupLink
  more m = ls ++ in_group m (links_in s.cover)

  groups-from : (m k n : ℕ) (fs : List Facts) → m ≡ k + n → n ≤ length fs → (n < length fs → (get_or fs n no_facts).covered ≡ is_there s.cover)
      → Each (λ l. l.group < k + length fs) ls → groups_from (more m) k (facts_at n fs facts) ≡ join_at n (groups_from ls k fs) (group_of s)
  unfolding groups_from facts_at join_at
  groups-from m k zero [] e l c b =
      let own : links_of (more m) k ≡ links_in s.cover = ap (λ j. links_of (more j) k) (omega arith) ∙ links-more ls k (links_in s.cover)
      ∙ ap (λ x. x ++ links_in s.cover) (links-none ls k (each-imp (λ l. l.group < k + 0) (λ l. l.group ≡ k → ⊥) ls (λ l a d. omega arith) b)) in
      ap (λ x. record { depth = s.depth; links = x } ∷ []) (first-links s.cover (links_of (more m) k) own)
  groups-from m k (suc n) [] e l c b = absurd (not-suc-le-zero l)
  groups-from m k zero (f ∷ fs) e l c b =
      let own : links_of (more m) k ≡ links_of ls k ++ links_in s.cover = ap (λ j. links_of (more j) k) (omega arith) ∙ links-more ls k (links_in s.cover) in
      ap₂ (λ x gs. record { depth = join_depth f.depth s.depth; links = x } ∷ gs)
      (join-links s.cover f.covered (links_of ls k) (links_of (more m) k) (c (omega arith)) own)
      (groups-stay ls m (1 + k) (links_in s.cover) fs (omega arith))
  groups-from m k (suc n) (f ∷ fs) e l c b =
      ap₂ (λ x gs. record { depth = f.depth; links = cond f.covered (some x) none } ∷ gs) (links-stay ls m k (links_in s.cover) (λ d. omega arith))
      (groups-from m (1 + k) n fs (omega arith) (le_of_suc-le-suc l) (λ i. c (omega arith))
      (each-imp (λ l. l.group < k + suc (length fs)) (λ l. l.group < 1 + k + length fs) ls (λ l a. omega arith) b))

pub groups-with : (K : ℕ) (served : Served K) (h : Held) (s : Source) → Ready K h s → groups_of_sheet (held_with h s).sheet ≡ add_source (groups_of_sheet h.sheet) s
unfolding groups_of_sheet held_with sheet_with add_source
groups-with K served h s q =
    groups-from s h.sheet.links s.group 0 s.group h.sheet.groups (omega arith) q.within q.covered
    (each-imp (λ l. l.group < length h.sheet.groups) (λ l. l.group < 0 + length h.sheet.groups) h.sheet.links (λ l b. omega arith) q.links)
