-- What a file's form and 22 give of its source, and what 42 gives of all: numbers within their bits, as many labels as rows, figures within the limits.
use mathlib.Core.Path.{◌≡◌, refl, sym, ◌∙◌}
use mathlib.Core.Bool.{true, false, ◌&&◌, ◌||◌}
use mathlib.Core.List.{List, [], ◌∷◌, ◌++◌, map, map-map, map-append}
use mathlib.Core.Option.{Option, none, some}
use Prim.Native.Nat.{ℕ, ◌+◌, ◌≤◌, ◌<◌, ◌^◌}
use native.Mathlib.Omega.{arith}
use lib.Dec.{ltb}
use lib.ListN.{length}
use borrow.Author.Tests.{ltb-true, ltb-false}
use Rattle.lists.specs.Lists.{all, sum, once, last, Each}
use Rattle.lists.proofs.Tests.{both, all-each}
use Rattle.lists.proofs.Each.{each-imp}
use Rattle.lists.proofs.Once.{or-is-false}
use Rattle.columns.specs.Limits.{Served, max_records, max_groups, end32}
use Rattle.columns.specs.Reading.{Label, labels_of}
use Rattle.cover.specs.Chains.{links_rise}
use Rattle.cover.specs.Cover.{LinkColumns, links_of, even_columns, sums, sums_fit, stored_links, links_ok, range_rules, link_rules}
use Rattle.cover.proofs.Stored.{length-sums}
use Rattle.columns.specs.declared.refusal.Refusal.TheVariants.{CoverForm}
use Rattle.archive.specs.File.{CoverColumns, File}
use Rattle.archive.specs.Fits.{Wide, DepthFits, UnresolvedFits, RootFits, LinksFit, CoverFitsIn, FileFits}
use Rattle.cleaning.specs.Source.{SourceCover, Source, cover_read, source_of, range_count, link_count}
use Rattle.cleaning.specs.Taking.{total, group_count, stored_ranges, stored_link_count, over_records, cover_rules, file_rules, files_rules}
use Rattle.cleaning.proofs.Good.{LinkFits}
use Rattle.columns.proofs.FirstBroken.{each_none, passed}
use Rattle.cleaning.proofs.Taken.{cover-rules}
use Rattle.lists.proofs.Flat.{sum-append}
use Rattle.lists.proofs.Sums.{sum-map, sum-ext}

abbrev pub LabelFits : Label → Type 0
LabelFits l = (l.chain < 2 ^ 32) × (l.seq < 2 ^ 32)

abbrev pub CoverFitting : ℕ → Option SourceCover → Type 0
CoverFitting rows none = Unit {0}
CoverFitting rows (some c) = (length c.labels ≡ rows) × Each LabelFits c.labels × Each LinkFits c.links

pub record Fitting (s : Source) : Type 0 where
  pub subject : Each (λ b. b < 256) s.subject
  pub depth : DepthFits s.depth
  pub tags : Each (λ r. r.tag < 2 ^ 64) s.rows
  pub handles : Each (λ r. r.handle < 2 ^ 64) s.roots
  pub references : Each (λ u. u.handle < 2 ^ 32) s.unresolved
  pub cover : CoverFitting (length s.rows) s.cover

-- ── covers ───────────────────────────────────────────────────────────────────────────────────

labels_read : (chains seqs : List ℕ) → length seqs ≡ length chains → Wide 4 chains → Wide 4 seqs
    → (length (labels_of chains seqs) ≡ length chains) × Each LabelFits (labels_of chains seqs)
unfolding labels_of
labels_read [] seqs e h g = (refl, tt)
labels_read (c ∷ cs) [] e h g = absurd (omega arith)
labels_read (c ∷ cs) (s ∷ ss) e h g = let r = labels_read cs ss (omega arith) h.1 g.1 in (omega arith, ((h.0, g.0), r.1))

links-read : (as₁ bs cs ds : List ℕ) → length bs ≡ length as₁ → length cs ≡ length as₁ → length ds ≡ length as₁
    → Wide 4 as₁ → Wide 4 bs → Wide 4 cs → Wide 4 ds
    → (length (links_of as₁ bs cs ds) ≡ length as₁) × Each LinkFits (links_of as₁ bs cs ds)
unfolding links_of
links-read [] bs cs ds p q r h i j k = (refl, tt)
links-read (a ∷ as₁) [] cs ds p q r h i j k = absurd (omega arith)
links-read (a ∷ as₁) (b ∷ bs) [] ds p q r h i j k = absurd (omega arith)
links-read (a ∷ as₁) (b ∷ bs) (c ∷ cs) [] p q r h i j k = absurd (omega arith)
links-read (a ∷ as₁) (b ∷ bs) (c ∷ cs) (d ∷ ds) p q r h i j k =
    let n = links-read as₁ bs cs ds (omega arith) (omega arith) (omega arith) h.1 i.1 j.1 k.1 in
    (omega arith, ((h.0, i.0, j.0, k.0), n.1))

stored-read : (c : LinkColumns) → links_ok c ≡ true → LinksFit c → (length (stored_links c) ≡ length c.from_chains) × Each LinkFits (stored_links c)
unfolding links_ok sums_fit stored_links
stored-read c e f =
    let n = length-sums 0 c.from_chains in
    let p = both (even_columns c) (all (λ s. ltb s end32) (sums 0 c.from_chains) && links_rise (stored_links c)) e in
    let q = both (all (λ s. ltb s end32) (sums 0 c.from_chains)) (links_rise (stored_links c)) p.1 in
    let w = each-imp (λ s. ltb s end32 ≡ true) (λ s. s < 256 ^ 4) (sums 0 c.from_chains) (λ s t. ltb-true s end32 t)
    (all-each (λ s. ltb s end32) (sums 0 c.from_chains) q.0) in
    let r = links-read (sums 0 c.from_chains) c.from_seqs c.to_chains c.to_seqs
    (f.second ∙ sym n) (f.third ∙ sym n) (f.fourth ∙ sym n) w f.from_seqs f.to_chains f.to_seqs in
    (r.0 ∙ n, r.1)

links-ok : (c : CoverColumns) → cover_rules (some c) ≡ none → links_ok c.links ≡ true
unfolding link_rules
links-ok c e = passed CoverForm (links_ok c.links) (each_none (range_rules c.ranges ∷ link_rules c.links ∷ []) e).1.0

cover-fitting : (rows : ℕ) (c : Option CoverColumns) → cover_rules c ≡ none → CoverFitsIn rows c → CoverFitting rows (cover_read c)
cover-fitting rows none e f = tt
cover-fitting rows (some c) e f =
    let l = labels_read c.labels.chains c.labels.seqs (f.seq_count ∙ sym f.chain_count) f.chains f.seqs in
    (l.0 ∙ f.chain_count, l.1, (stored-read c.links (links-ok c e) f.links).1)

same-links : (rows : ℕ) (c : Option CoverColumns) → cover_rules c ≡ none → CoverFitsIn rows c → link_count (cover_read c) ≡ stored_link_count c
same-links rows none e f = refl
same-links rows (some c) e f = (stored-read c.links (links-ok c e) f.links).0

-- ── files ────────────────────────────────────────────────────────────────────────────────────

fitting-source : (K : ℕ) (served : Served K) (before : Option Source) (f : File) → file_rules K before f ≡ none → FileFits K f → Fitting (source_of K f)
unfolding source_of
fitting-source K served before f e h = record {
  subject = h.subject_bytes;
  depth = h.depth;
  tags = h.tags;
  handles = each-imp RootFits (λ r. r.handle < 2 ^ 64) f.roots (λ r x. x.1) h.roots;
  references = each-imp UnresolvedFits (λ u. u.handle < 2 ^ 32) f.unresolved (λ u x. x.2) h.unresolved;
  cover = cover-fitting (length f.rows) f.cover (cover-rules K served before f e) h.cover;
}

pub fitting-taken : (K : ℕ) (served : Served K) (before : Option Source) (fs : List File) → files_rules K before fs ≡ none → Each (FileFits K) fs → Each Fitting (map (source_of K) fs)
unfolding files_rules
fitting-taken K served before [] e h = tt
fitting-taken K served before (f ∷ fs) e h =
    let r = each_none (file_rules K before f ∷ files_rules K (some (source_of K f)) fs ∷ []) e in
    (fitting-source K served before f r.0 h.0, fitting-taken K served (some (source_of K f)) fs r.1.0 h.1)

-- ── 42 ───────────────────────────────────────────────────────────────────────────────────────

pub record Limited (ss : List Source) : Type 0 where
  pub events : sum (λ s. length s.rows) ss ≤ max_records
  pub references : sum (λ s. length s.unresolved) ss ≤ max_records
  pub links : sum (λ s. link_count s.cover) ss ≤ max_records
  pub groups : length (once (map (λ s. s.group) ss)) ≤ max_groups

-- as many links as were stored
links-taken : (K : ℕ) (served : Served K) (before : Option Source) (fs : List File) → files_rules K before fs ≡ none → Each (FileFits K) fs
    → Each (λ f. link_count (source_of K f).cover ≡ stored_link_count f.cover) fs
unfolding files_rules source_of
links-taken K served before [] e h = tt
links-taken K served before (f ∷ fs) e h =
    let r = each_none (file_rules K before f ∷ files_rules K (some (source_of K f)) fs ∷ []) e in
    (same-links (length f.rows) f.cover (cover-rules K served before f r.0) h.0.cover, links-taken K served (some (source_of K f)) fs r.1.0 h.1)

-- of the sources of a run and the files that it takes
pub limited-more : (K : ℕ) (served : Served K) (ss : List Source) (fs : List File) → files_rules K (last ss) fs ≡ none → Each (FileFits K) fs → over_records ss fs ≡ false
    → Limited (ss ++ map (source_of K) fs)
unfolding over_records total group_count source_of
limited-more K served ss fs r h e =
    let rows = ltb max_records (sum (λ s. length s.rows) ss + sum (λ f. length f.rows) fs) in
    let roots = ltb max_records (sum (λ s. length s.roots) ss + sum (λ f. length f.roots) fs) in
    let unresolved = ltb max_records (sum (λ s. length s.unresolved) ss + sum (λ f. length f.unresolved) fs) in
    let ranges = ltb max_records (sum (λ s. range_count s.cover) ss + sum (λ f. stored_ranges f.cover) fs) in
    let links = ltb max_records (sum (λ s. link_count s.cover) ss + sum (λ f. stored_link_count f.cover) fs) in
    let groups = ltb max_groups (group_count ss fs) in
    let t5 = or-is-false (rows || roots || unresolved || ranges || links) groups e in
    let t4 = or-is-false (rows || roots || unresolved || ranges) links t5.0 in
    let t3 = or-is-false (rows || roots || unresolved) ranges t4.0 in
    let t2 = or-is-false (rows || roots) unresolved t3.0 in
    let t1 = or-is-false rows roots t2.0 in
    record {
      events = omega (
        arith,
        ltb-false max_records (sum (λ s. length s.rows) ss + sum (λ f. length f.rows) fs) t1.0,
        sum-append (λ s. length s.rows) ss (map (source_of K) fs),
        sum-map (λ s. length s.rows) (source_of K) fs,
      );
      references = omega (
        arith,
        ltb-false max_records (sum (λ s. length s.unresolved) ss + sum (λ f. length f.unresolved) fs) t2.1,
        sum-append (λ s. length s.unresolved) ss (map (source_of K) fs),
        sum-map (λ s. length s.unresolved) (source_of K) fs,
      );
      links = omega (
        arith,
        ltb-false max_records (sum (λ s. link_count s.cover) ss + sum (λ f. stored_link_count f.cover) fs) t4.1,
        sum-append (λ s. link_count s.cover) ss (map (source_of K) fs),
        sum-map (λ s. link_count s.cover) (source_of K) fs,
        sum-ext (λ f. link_count (source_of K f).cover) (λ f. stored_link_count f.cover) fs (links-taken K served (last ss) fs r h),
      );
      groups = rw (map-append (λ s. s.group) ss (map (source_of K) fs), map-map (λ s. s.group) (source_of K) fs) (ltb-false max_groups (group_count ss fs) t5.1);
    }

pub limited-taken : (K : ℕ) (served : Served K) (fs : List File) → files_rules K none fs ≡ none → Each (FileFits K) fs → over_records [] fs ≡ false → Limited (map (source_of K) fs)
unfolding last
limited-taken K served fs r h e = limited-more K served [] fs r h e
