-- A tidy sheet that is held, with a source in order more, is tidy.
use mathlib.Core.Path.{◌≡◌, ap, sym, ◌∙◌}
use mathlib.Core.Bool.{true, ◌&&◌}
use mathlib.Core.List.{List, ◌++◌, map, map-map, map-append}
use Prim.Native.Nat.{ℕ, suc, ◌+◌, ◌*◌, ◌≤◌, ◌<◌}
use native.Mathlib.Omega.{arith}
use native.Mathlib.Nat.{zero-add}
use lib.Dec.{leb, ltb}
use lib.ListN.{length}
use borrow.Author.Tests.{ltb-true, lt-ltb, le-leb, eq-eqb}
use Rattle.lists.specs.Lists.{up_from, Each}
use Rattle.lists.specs.Order.{rising, not_falling}
use Rattle.lists.proofs.Tests.{all-each, all-of}
use Rattle.lists.proofs.Each.{each-imp, each_map, each_all, each_append}
use Rattle.columns.specs.Limits.{Served}
use Rattle.columns.specs.Building.{in_file}
use Rattle.cover.specs.Chains.{Link}
use Rattle.archive.specs.File.{Unresolved, Root}
use Rattle.cleaning.specs.Source.{Source, is_there}
use Rattle.cleaning.specs.Archive.{label_in}
use Rattle.cleaning.specs.Sheet.{GroupLink, row_count}
use Rattle.cleaning.specs.Held.{Held, links_in, shifted, sheet_with, held_with}
use Rattle.cleaning.specs.Sections.{Tidy}
use Rattle.cleaning.proofs.Taken.{RecordIn, Sound}
use Rattle.cleaning.proofs.GroupLinks.{in_group}
use Rattle.cleaning.proofs.HeldRows.{HeldLast, Ready, held_with_lem}
use Rattle.cleaning.proofs.Orderly.{Orderly, fit_append, fit-grown, label-there, fit-source}
use Rattle.cleaning.proofs.Orders.{level-append, level-raise, level-same, rising-append, rising-shift}

pub groups-below : (K : ℕ) (served : Served K) (h : Held) → Tidy K h.sheet → Each (λ g. g < length h.sheet.groups) h.sheet.row_groups
groups-below K served h t =
    let n = length h.sheet.groups in
    each-imp (λ g. ltb g n ≡ true) (λ g. g < n) h.sheet.row_groups (λ g l. ltb-true g n l) (all-each (λ g. ltb g n) h.sheet.row_groups t.groups_known)

-- ── a source more ────────────────────────────────────────────────────────────────────────────

module _ (K : ℕ) (served : Served K) (h : Held) (s : Source) (q : Ready K h s) (d : Sound K s) (o : Orderly s) (t : Tidy K h.sheet) where
  last : HeldLast K s (held_with h s)
  last = held_with_lem K served h s q d

  groups-order : not_falling (h.sheet.row_groups ++ map (λ r. s.group) s.rows) ≡ true
  unfolding not_falling
  groups-order =
      level-append 0 s.group h.sheet.row_groups (map (λ r. s.group) s.rows) t.group_order (omega arith)
      (each-imp (λ g. g < length h.sheet.groups) (λ g. g ≤ s.group) h.sheet.row_groups (λ g l. omega (arith, q.last)) (groups-below K served h t))
      (level-same s.group s.rows)

  groups-known : Each (λ g. g < suc s.group) (h.sheet.row_groups ++ map (λ r. s.group) s.rows)
  groups-known =
      each_append (λ g. g < suc s.group) h.sheet.row_groups (map (λ r. s.group) s.rows)
      (each-imp (λ g. g < length h.sheet.groups) (λ g. g < suc s.group) h.sheet.row_groups (λ g l. omega (arith, q.last)) (groups-below K served h t))
      (each_map (λ g. g < suc s.group) (λ r. s.group) s.rows (each_all (λ r. s.group < suc s.group) (λ r. omega arith) s.rows))

  roots-order : rising (map (λ r. r.row) (h.sheet.roots ++ shifted (row_count h.sheet) s.roots)) ≡ true
  unfolding shifted
  roots-order =
      let n = row_count h.sheet in
      let rows : List Root → List ℕ = map (λ r. r.row) in
      let e : rows (shifted n s.roots) ≡ map (λ i. n + i) (rows s.roots) =
      map-map (λ r. r.row) (λ r. record { row = n + r.row; handle = r.handle }) s.roots ∙ sym (map-map (λ i. n + i) (λ r. r.row) s.roots) in
      rw (map-append (λ r. r.row) h.sheet.roots (shifted n s.roots), e)
      (rising-append n (rows h.sheet.roots) (map (λ i. n + i) (rows s.roots)) t.root_order
      (each_map (λ i. i < n) (λ r. r.row) h.sheet.roots
      (each-imp (λ r. r.row < length h.erased) (λ r. r.row < n) h.sheet.roots (λ r l. omega (arith, q.rows.tags)) q.rows.roots))
      (rising-shift n (rows s.roots) o.roots)
      (each_map (λ i. n ≤ i) (λ i. n + i) (rows s.roots) (each_all (λ i. n ≤ n + i) (λ i. omega arith) (rows s.roots))))

  children-order : not_falling (map (λ u. u.child) (h.sheet.unresolved ++ s.unresolved)) ≡ true
  unfolding not_falling
  children-order =
      let children : List Unresolved → List ℕ = map (λ u. u.child) in
      rw (map-append (λ u. u.child) h.sheet.unresolved s.unresolved)
      (level-append 0 s.first (children h.sheet.unresolved) (children s.unresolved) t.child_order (omega arith)
      (each_map (λ c. c ≤ s.first) (λ u. u.child) h.sheet.unresolved
      (each-imp (λ u. (h.sheet.start ≤ u.child) × (u.child < h.sheet.start + length h.erased)) (λ u. u.child ≤ s.first) h.sheet.unresolved
      (λ u l. omega (arith, l.0, l.1, q.start, q.stays (omega (arith, l.0, l.1)))) q.rows.unresolved))
      (level-raise s.first (children s.unresolved) o.children
      (each_map (λ c. s.first ≤ c) (λ u. u.child) s.unresolved
      (each-imp (RecordIn s) (λ u. s.first ≤ u.child) s.unresolved (λ u l. l.0) d.unresolved))))

  links-order : not_falling (map (λ l. l.group) (h.sheet.links ++ in_group s.group (links_in s.cover))) ≡ true
  unfolding not_falling
  links-order =
      let links = links_in s.cover in
      let tagged : Link → GroupLink = λ l. record { group = s.group; link = l } in
      rw (map-append (λ l. l.group) h.sheet.links (in_group s.group links), map-map (λ l. l.group) tagged links)
      (level-append 0 s.group (map (λ l. l.group) h.sheet.links) (map (λ l. s.group) links) t.link_order (omega arith)
      (each_map (λ g. g ≤ s.group) (λ l. l.group) h.sheet.links
      (each-imp (λ l. l.group < length h.sheet.groups) (λ l. l.group ≤ s.group) h.sheet.links (λ l b. omega (arith, q.last)) q.links))
      (level-same s.group links))

  pub tidy-with : Tidy K (held_with h s).sheet
  unfolding held_with sheet_with in_file
  tidy-with =
      let s' = sheet_with h.sheet s in
      let n = row_count s' in
      let r = last.rows in
      let grown : length s'.groups ≡ suc s.group = last.groups in
      record {
        each_group = eq-eqb (length s'.row_groups) n (r.groups ∙ sym r.tags);
        each_label = eq-eqb (length s'.labels) n (r.labels ∙ sym r.tags);
        each_list = eq-eqb (length s'.lists) (K * n) (r.lists ∙ ap (λ m. K * m) (sym r.tags));
        group_order = groups-order;
        groups_known = all-of (λ g. ltb g (length s'.groups)) s'.row_groups
            (each-imp (λ g. g < suc s.group) (λ g. ltb g (length s'.groups) ≡ true) s'.row_groups
            (λ g l. lt-ltb g (length s'.groups) (omega arith)) groups-known);
        root_order = roots-order;
        roots_within = all-of (λ x. ltb x.row n) s'.roots
            (each-imp (λ x. x.row < length (held_with h s).erased) (λ x. ltb x.row n ≡ true) s'.roots
            (λ x l. lt-ltb x.row n (omega (arith, r.tags))) r.roots);
        child_order = children-order;
        children_within = all-of (λ u. leb s'.start u.child && ltb u.child (s'.start + n)) s'.unresolved
            (each-imp (λ u. (s'.start ≤ u.child) × (u.child < s'.start + length (held_with h s).erased))
            (λ u. leb s'.start u.child && ltb u.child (s'.start + n) ≡ true) s'.unresolved
            (λ u l. rw (le-leb s'.start u.child l.0) (lt-ltb u.child (s'.start + n) (omega (arith, r.tags, l.1)))) r.unresolved);
        link_order = links-order;
        links_known = all-of (λ l. ltb l.group (length s'.groups)) s'.links
            (each-imp (λ l. l.group < length s'.groups) (λ l. ltb l.group (length s'.groups) ≡ true) s'.links
            (λ l b. lt-ltb l.group (length s'.groups) b) last.links);
        labelled =
            fit_append s'.groups h.sheet.row_groups (map (λ r. s.group) s.rows) h.sheet.labels (map (label_in s.cover) (up_from 0 (length s.rows)))
            (fit-grown s.group h.sheet.groups (record { depth = s.depth; covered = is_there s.cover })
            h.sheet.row_groups h.sheet.labels (groups-below K served h t) t.labelled)
            (fit-source s'.groups s.group s.cover 0 s.rows last.covered
            (λ j l. ap (λ i. is_there (label_in s.cover i)) (zero-add j) ∙ label-there (length s.rows) s.cover j o.labels l));
      }
