-- Document 01, "Cleaning": the sheet of the survivors, which is what a resolved run writes. Labels, roots and unresolved references follow
-- survivors; the links of each group are sorted, repeats dropped.
use Rattle.std.specs.Prelude.{Bool, true, false, cond, not, List, [], ◌∷◌, ◌++◌, map, ℕ, ◌+◌, ◌-◌, ◌*◌, length, get_or, take}
use Rattle.lists.specs.Lists.{flat, filter, part, up_from}
use Rattle.cover.specs.Chains.{sort_links}
use Rattle.archive.specs.File.{Unresolved, Root}
use Rattle.cleaning.specs.Sheet.{GroupLink, Sheet, links_of}
use Rattle.cleaning.specs.Held.{Held}

-- the elements of the rows that are not erased; flags and elements stand row by row
unfoldable pub keep : {A : Type 0} → List Bool → List A → List A
keep [] xs = []
keep (e ∷ es) [] = []
keep (e ∷ es) (x ∷ xs) = cond e (keep es xs) (x ∷ keep es xs)

-- survivors among the first i rows: the rank of the i-th
unfoldable pub rank_in : List Bool → ℕ → ℕ
rank_in es i = length (filter not (take i es))

-- the lists of the rows that are not erased, slot by slot
unfoldable pub keep_slots : (K : ℕ) → List Bool → List (List ℕ) → List (List ℕ)
keep_slots K es lists = flat (λ i. cond (get_or es i false) [] (part (K * i) K lists)) (up_from 0 (length es))

-- the records of survivors, their children under new numbers
unfoldable pub keep_unresolved : ℕ → List Bool → List Unresolved → List Unresolved
keep_unresolved start es us =
    map (λ u. record { child = start + rank_in es (u.child - start); kind = u.kind; handle = u.handle }) (filter (λ u. not (get_or es (u.child - start) false)) us)

-- the roots of survivors, at their new rows
unfoldable pub keep_roots : List Bool → List Root → List Root
keep_roots es rs = map (λ r. record { row = rank_in es r.row; handle = r.handle }) (filter (λ r. not (get_or es r.row false)) rs)

-- the links of every group, sorted, repeats dropped; groups rising
unfoldable pub sort_groups : ℕ → List GroupLink → List GroupLink
sort_groups n ls = flat (λ g. map (λ l. record { group = g; link = l }) (sort_links (links_of ls g))) (up_from 0 n)

-- the survivors of what is held, with every event's new lists slot by slot
unfoldable pub survivor_sheet : (K : ℕ) → Held → List (List ℕ) → Sheet
survivor_sheet K h lists = let s = h.sheet in record {
  start = s.start;
  subject = s.subject;
  groups = s.groups;
  row_groups = keep h.erased s.row_groups;
  tags = keep h.erased s.tags;
  labels = keep h.erased s.labels;
  lists = keep_slots K h.erased lists;
  unresolved = keep_unresolved s.start h.erased s.unresolved;
  roots = keep_roots h.erased s.roots;
  links = sort_groups (length s.groups) s.links;
}
