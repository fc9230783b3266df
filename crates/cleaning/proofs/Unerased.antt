-- An archive in which nobody is erased, each number of a list once: every list is its own new list, every number its own new number, so that the
-- cleaned form of a good summary's rows is that summary.
use mathlib.Core.Path.{◌≡◌, refl, ap, ap₂, sym, ◌∙◌}
use mathlib.Core.Bool.{Bool, true, false, cond}
use mathlib.Core.List.{List, [], ◌∷◌, map, map-id}
use mathlib.Core.Option.{Option, none, some}
use Prim.Native.Nat.{ℕ, zero, suc, ◌+◌, ◌-◌, ◌≤◌, ◌<◌}
use native.Mathlib.Omega.{arith}
use native.Mathlib.Nat.{not-suc-le-zero, le_of_suc-le-suc, add-zero, zero-add}
use borrow.Author.Tests.{ltb-true, ltb-false}
use lib.Dec.{ltb}
use lib.ListN.{length, get_or, take, get_or-map}
use Rattle.lists.specs.Lists.{flat, once, distinct, up_from, Each}
use Rattle.lists.proofs.Each.{each-imp, each_all, each-get_or}
use Rattle.lists.proofs.Flat.{flat-ext, map-ext}
use Rattle.lists.proofs.Once.{once-distinct}
use Rattle.columns.specs.Limits.{Served}
use Rattle.cover.specs.Chains.{Link}
use Rattle.cover.proofs.Links.{sort_sorted}
use Rattle.cleaning.specs.Archive.{Group, Archive, blank, at, parents_of}
use Rattle.cleaning.specs.Routes.{passes, through, ends}
use Rattle.cleaning.specs.Cleaning.{count, rank, renumber, new_parents, survivors_from, survivors}
use Rattle.cleaning.specs.Summary.{Kept, kept, Summary, sorted, group_summary, kept_by, summary}
use Rattle.cleaning.proofs.Good.{GoodLists, RowsFrom, GoodLinks, GoodGroup, Good}
use Rattle.cleaning.proofs.Inj.{renumber-before, renumber-past}
use Rattle.lists.proofs.Filters.{map-places}
use Rattle.cleaning.proofs.Outputs.{event_of}

-- a summary as an archive: its rows are the events
abbrev pub unerased : Summary → Archive
unerased S = record { start = S.start; subject = S.subject; groups = S.groups; events = map event_of S.rows }

-- no row
abbrev pub blank_row : Kept
blank_row = kept blank.body blank.parents

-- the row of a number
abbrev pub row_at : Summary → ℕ → Kept
row_at S p = get_or S.rows (p - S.start) blank_row

-- ── nobody is erased ─────────────────────────────────────────────────────────────────────────

module _ (S : Summary) where
  pub at_row : (p : ℕ) → at (unerased S) p ≡ event_of (row_at S p)
  unfolding at
  at_row p = get_or-map event_of S.rows (p - S.start) blank_row

  passes_none : (p : ℕ) → passes (unerased S) p ≡ false
  unfolding passes
  passes_none p = rw (at_row p) (go (ltb p S.start))
    where
      go : (b : Bool) → cond b false false ≡ false
      go true = refl
      go false = refl

  flat-single : (ps : List ℕ) → flat (λ p. p ∷ []) ps ≡ ps
  flat-single [] = refl
  flat-single (p ∷ ps) = ap (λ qs. p ∷ qs) (flat-single ps)

  one-step : (k n q : ℕ) → through (unerased S) k (suc n) q ≡ q ∷ []
  unfolding through
  one-step k n q = rw (passes_none q)

  -- every route ends at its first step
  ends-parents : (k p : ℕ) → ends (unerased S) k p ≡ parents_of k (at (unerased S) p)
  unfolding ends
  ends-parents k p =
      flat-ext (through (unerased S) k (suc (p - S.start))) (λ q. q ∷ []) (parents_of k (at (unerased S) p))
      (each_all (λ q. through (unerased S) k (suc (p - S.start)) q ≡ q ∷ []) (one-step k (p - S.start)) (parents_of k (at (unerased S) p)))
      ∙ flat-single (parents_of k (at (unerased S) p))

-- ── numbers stay ─────────────────────────────────────────────────────────────────────────────

count-take : (i : ℕ) (rs : List Kept) → i ≤ length rs → count (take i (map event_of rs)) ≡ i
unfolding count
count-take zero rs l = refl
count-take (suc i) [] l = absurd (not-suc-le-zero l)
count-take (suc i) (r ∷ rs) l = ap suc (count-take i rs (le_of_suc-le-suc l))

renumber-same : (S : Summary) (p : ℕ) → p ≤ S.start + length S.rows → renumber (unerased S) p ≡ p
unfolding rank
renumber-same S p l = go (ltb p S.start) refl
  where
    go : (b : Bool) → ltb p S.start ≡ b → renumber (unerased S) p ≡ p
    go true e = renumber-before (unerased S) p (ltb-true p S.start e)
    go false e = omega (arith, renumber-past (unerased S) p (ltb-false p S.start e), count-take (p - S.start) S.rows (omega arith), ltb-false p S.start e)

survivors-from : (n : ℕ) (rs : List Kept) → survivors_from n (map event_of rs) ≡ up_from n (length rs)
unfolding survivors_from up_from
survivors-from n [] = refl
survivors-from n (r ∷ rs) = ap (λ ps. n ∷ ps) (survivors-from (suc n) rs)

survivors-all : (S : Summary) → survivors (unerased S) ≡ up_from S.start (length S.rows)
unfolding survivors
survivors-all S = survivors-from S.start S.rows

-- ── rows stay ────────────────────────────────────────────────────────────────────────────────

lists-row : (K : ℕ) (served : Served K) (n i : ℕ) (rs : List Kept) → RowsFrom K n rs → i < length rs → GoodLists K (n + i) (get_or rs i blank_row).parents
lists-row K served n i [] h l = absurd (not-suc-le-zero l)
lists-row K served n zero (r ∷ rs) h l = rw (add-zero n) h.0
lists-row K served n (suc i) (r ∷ rs) h l = let e : suc n + i ≡ n + suc i = omega arith in rw e at (lists-row K served (suc n) i rs h.1 (le_of_suc-le-suc l))

module _ (K : ℕ) (served : Served K) (S : Summary) (good : Good K S) (i : ℕ) (l : i < length S.rows) where
  abbrev p : ℕ
  p = S.start + i

  abbrev row : Kept
  row = get_or S.rows i blank_row

  this-row : row_at S p ≡ row
  this-row = ap (λ j. get_or S.rows j blank_row) {x = S.start + i - S.start} {y = i} (omega arith)

  pub parents-stay : (k : ℕ) → k < K → new_parents (unerased S) k p ≡ get_or row.parents k []
  unfolding new_parents parents_of
  parents-stay k h =
      let lists = lists-row K served S.start i S.rows good.lists l in
      let inside : k < length row.parents = omega (arith, lists.each_kind) in
      let ps = get_or row.parents k [] in
      let e : ends (unerased S) k p ≡ ps = ends-parents S k p ∙ ap (parents_of k) (at_row S p ∙ ap event_of this-row) in
      rw (e, once-distinct ps (each-get_or (λ qs. distinct qs ≡ true) row.parents k [] lists.once inside))
      (map-ext (renumber (unerased S)) (λ q. q) ps
      (each-imp (λ q. q < p) (λ q. renumber (unerased S) q ≡ q) ps (λ q b. renumber-same S q (omega arith))
      (each-get_or (λ qs. Each (λ q. q < p) qs) row.parents k [] lists.below inside))
      ∙ map-id ps)

  row_stays : kept_by K (unerased S) p ≡ row
  unfolding kept_by
  row_stays =
      let lists = lists-row K served S.start i S.rows good.lists l in
      let new : ℕ → List ℕ = λ k. new_parents (unerased S) k p in
      let same : map new (up_from 0 K) ≡ row.parents =
      ap (λ n. map new (up_from 0 n)) (sym lists.each_kind)
      ∙ map-places new 0 row.parents [] (λ k h. ap new (zero-add k) ∙ parents-stay k (omega (arith, lists.each_kind))) in
      λ j. record { body = ap (λ e. e.body) (at_row S p ∙ ap event_of this-row) j; parents = same j }

-- ── the summary ──────────────────────────────────────────────────────────────────────────────

links-stay : (links : Option (List Link)) → GoodLinks links → sorted links ≡ links
links-stay none h = refl
links-stay (some ls) h = ap some (sort_sorted ls h.0)

groups-stay : (gs : List Group) → Each GoodGroup gs → map group_summary gs ≡ gs
groups-stay [] h = refl
groups-stay (g ∷ gs) h = ap₂ (λ x xs. x ∷ xs) (λ i. record { depth = g.depth; links = links-stay g.links h.0.2 i }) (groups-stay gs h.1)

pub summary-unerased : (K : ℕ) (served : Served K) (S : Summary) → Good K S → summary K (unerased S) ≡ S
unfolding summary
summary-unerased K served S good =
    let rows : map (kept_by K (unerased S)) (survivors (unerased S)) ≡ S.rows =
    rw (survivors-all S) (map-places (kept_by K (unerased S)) S.start S.rows blank_row (row_stays K served S good)) in
    λ i. record { start = S.start; subject = S.subject; groups = groups-stay S.groups good.groups i; rows = rows i }
