-- Sources in order: their records in order, as many labels as rows. Labels then stand where covers are, source by source.
use mathlib.Core.Path.{◌≡◌, refl, ap, sym, ◌∙◌}
use mathlib.Core.Bool.{Bool, true, false, beq, false≢true}
use mathlib.Core.List.{List, [], ◌∷◌, ◌++◌, map}
use mathlib.Core.Option.{Option, none, some}
use Prim.Native.Nat.{ℕ, zero, suc, ◌+◌, ◌<◌}
use native.Mathlib.Omega.{arith}
use native.Mathlib.Nat.{not-suc-le-zero, le_of_suc-le-suc, add-zero}
use lib.ListN.{length, get_or, get_elem?}
use Rattle.columns.specs.Limits.{Served}
use Rattle.lists.specs.Lists.{up_from, Each}
use Rattle.lists.specs.Order.{rising, not_falling}
use Rattle.lists.proofs.Tests.{both}
use Rattle.columns.specs.Reading.{Label}
use Rattle.archive.specs.File.{Row, File}
use Rattle.archive.specs.Fits.{FileFits}
use Rattle.cleaning.specs.Source.{SourceCover, Source, source_of, is_there}
use Rattle.cleaning.specs.Archive.{label_in}
use Rattle.cleaning.specs.Taking.{files_rules}
use Rattle.cleaning.specs.Sheet.{Facts}
use Rattle.cleaning.specs.Held.{facts_at, no_facts}
use Rattle.cleaning.specs.Sections.{labels_fit}
use Rattle.cleaning.proofs.Fitting.{CoverFitting, Fitting, fitting-taken}

-- ── sources in order ─────────────────────────────────────────────────────────────────────────

-- as many labels as rows, where there is a cover
abbrev pub LabelEach : ℕ → Option SourceCover → Type 0
LabelEach rows none = Unit {0}
LabelEach rows (some c) = length c.labels ≡ rows

pub record Orderly (s : Source) : Type 0 where
  pub roots : rising (map (λ r. r.row) s.roots) ≡ true
  pub children : not_falling (map (λ u. u.child) s.unresolved) ≡ true
  pub labels : LabelEach (length s.rows) s.cover

label-each : (rows : ℕ) (c : Option SourceCover) → CoverFitting rows c → LabelEach rows c
label-each rows none f = tt
label-each rows (some c) f = f.0

orderly-files : (K : ℕ) (served : Served K) (fs : List File) → Each (FileFits K) fs → Each Fitting (map (source_of K) fs) → Each Orderly (map (source_of K) fs)
unfolding source_of
orderly-files K served [] h g = tt
orderly-files K served (f ∷ fs) h g = (
  record { roots = h.0.root_order; children = h.0.unresolved_order; labels = label-each (length f.rows) (source_of K f).cover g.0.cover },
  orderly-files K served fs h.1 g.1,
)

pub orderly-taken : (K : ℕ) (served : Served K) (before : Option Source) (fs : List File) → files_rules K before fs ≡ none → Each (FileFits K) fs → Each Orderly (map (source_of K) fs)
orderly-taken K served before fs e h = orderly-files K served fs h (fitting-taken K served before fs e h)

-- ── labels ───────────────────────────────────────────────────────────────────────────────────

pub fit_append : (fs : List Facts) (gs hs : List ℕ) (ls ms : List (Option Label)) → labels_fit fs gs ls ≡ true → labels_fit fs hs ms ≡ true
    → labels_fit fs (gs ++ hs) (ls ++ ms) ≡ true
unfolding labels_fit
fit_append fs [] hs [] ms h k = k
fit_append fs [] hs (l ∷ ls) ms h k = absurd (false≢true h)
fit_append fs (g ∷ gs) hs [] ms h k = absurd (false≢true h)
fit_append fs (g ∷ gs) hs (l ∷ ls) ms h k =
    let q = both (beq (is_there l) (get_or fs g no_facts).covered) (labels_fit fs gs ls) h in
    rw q.0 (fit_append fs gs hs ls ms q.1 k)

-- groups that are there already keep their covers
facts-stay : (n : ℕ) (fs : List Facts) (f : Facts) (x : ℕ) → x < length fs → (get_or (facts_at n fs f) x no_facts).covered ≡ (get_or fs x no_facts).covered
unfolding facts_at
facts-stay n [] f x l = absurd (not-suc-le-zero l)
facts-stay zero (y ∷ fs) f zero l = refl
facts-stay zero (y ∷ fs) f (suc x) l = refl
facts-stay (suc n) (y ∷ fs) f zero l = refl
facts-stay (suc n) (y ∷ fs) f (suc x) l = facts-stay n fs f x (le_of_suc-le-suc l)

pub fit-grown : (n : ℕ) (fs : List Facts) (f : Facts) (gs : List ℕ) (ls : List (Option Label)) → Each (λ g. g < length fs) gs → labels_fit fs gs ls ≡ true
    → labels_fit (facts_at n fs f) gs ls ≡ true
unfolding labels_fit
fit-grown n fs f [] [] b h = refl
fit-grown n fs f [] (l ∷ ls) b h = absurd (false≢true h)
fit-grown n fs f (g ∷ gs) [] b h = absurd (false≢true h)
fit-grown n fs f (g ∷ gs) (l ∷ ls) b h =
    let q = both (beq (is_there l) (get_or fs g no_facts).covered) (labels_fit fs gs ls) h in
    rw (facts-stay n fs f g b.0, q.0) (fit-grown n fs f gs ls b.1 q.1)

there-at : {A : Type 0} (xs : List A) (i : ℕ) → i < length xs → is_there (get_elem? xs i) ≡ true
there-at [] i l = absurd (not-suc-le-zero l)
there-at (x ∷ xs) zero l = refl
there-at (x ∷ xs) (suc i) l = there-at xs i (le_of_suc-le-suc l)

pub label-there : (rows : ℕ) (c : Option SourceCover) (i : ℕ) → LabelEach rows c → i < rows → is_there (label_in c i) ≡ is_there c
label-there rows none i e l = refl
label-there rows (some c) i e l = there-at c.labels i (omega (arith, e))

beq_same : (b : Bool) → beq b b ≡ true
beq_same true = refl
beq_same false = refl

pub fit-source : (fs : List Facts) (g : ℕ) (c : Option SourceCover) (i : ℕ) (rows : List Row) → (get_or fs g no_facts).covered ≡ is_there c
    → ((j : ℕ) → j < length rows → is_there (label_in c (i + j)) ≡ is_there c) → labels_fit fs (map (λ r. g) rows) (map (label_in c) (up_from i (length rows))) ≡ true
unfolding labels_fit up_from
fit-source fs g c i [] e h = refl
fit-source fs g c i (r ∷ rows) e h =
    let first : is_there (label_in c i) ≡ is_there c = ap (λ j. is_there (label_in c j)) (sym (add-zero i)) ∙ h 0 (omega arith) in
    rw (first, e, beq_same (is_there c))
    (fit-source fs g c (suc i) rows e (λ j l. ap (λ k. is_there (label_in c k)) {x = suc i + j} {y = i + suc j} (omega arith) ∙ h (suc j) (omega arith)))
