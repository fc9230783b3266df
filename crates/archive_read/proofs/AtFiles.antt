-- The sums over an archive's files: one turn of the loop that adds them up, and each of its answers.
use Rattle.std.specs.Prelude.{Err, None, Ok, Result, Some, Option}
use mathlib.Core.Path.{◌≡◌, refl, sym}
use mathlib.Core.Bool.{Bool, true, false, cond}
use mathlib.Core.List.{List, [], ◌∷◌}
use mathlib.Core.Option.{none, some}
use Prim.Native.Nat.{ℕ, zero, suc, ◌≤◌, ◌<◌, ◌+◌, ◌-◌}
use native.Mathlib.Omega.{arith}
use lib.ListN.{length, length-map}
use borrow.Author.Tests.{le-leb, lt-leb}
use Rattle.columns.specs.Limits.{kinds}
use Rattle.lists.specs.Lists.{sum}
use Rattle.columns.specs.declared.refusal.Refusal.{Refusal}
use Rattle.columns.specs.declared.refusal.Refusal.TheVariants.{RecordBroken}
use Rattle.archive.specs.Reader.{Parsed, broken, got, and_then, ◌>>=◌}
use Rattle.archive.specs.File.{Row, CoverColumns, no_references, File}
use Rattle.archive.specs.Parse.{references_of, file, files, parse}
use Rattle.archive_read.specs.bodies.View.{set_in, sets_in, cover_in, references_from}
use Rattle.archive_read.specs.Layout.{part_in, front_in, middle_in, tail_in, Uncovers, MayCite, file_from, file_in, file_of, Counts, HoldsFile, AfterFile}
use Rattle.archive_read.specs.Sums.{ranges_in, links_in, totals, totals_of, with_file, Below, plus}
use Rattle.archive_read.specs.declared.bodies.CoverAt.{CoverAt}
use Rattle.archive_read.specs.declared.records.FileAt.{FileAt}
use Rattle.archive_read.specs.declared.files.Totals.{Totals}
use Rattle.archive.proofs.Back.{length-several}

-- ── a file's counts are the lengths of its columns ───────────────────────────────────────────

none-counted : {A : Type 0} (rs : List A) → sum length (no_references rs) ≡ 0
unfolding sum
none-counted [] = refl
none-counted (r ∷ rs) = omega (arith, none-counted rs)

set-counted : (b : List ℕ) (rows p n : ℕ) → length (set_in b rows p n).deltas ≡ n
unfolding set_in
set-counted b rows p n = simp (length-map, length-several)

ranges-of : (t : Bool) (x : CoverColumns) (c : CoverAt) → length x.ranges ≡ c.ranges → Uncovers t c → ranges_in (cond t (some x) none) ≡ c.ranges
ranges-of true x c e v = e
ranges-of false x c e v = omega (arith, v.0)

links-of : (t : Bool) (x : CoverColumns) (c : CoverAt) → length x.links.from_chains ≡ c.links → Uncovers t c → links_in (cond t (some x) none) ≡ c.links
links-of true x c e v = e
links-of false x c e v = omega (arith, v.1)

module _ (l : List ℕ) (f : FileAt) where
  pub rows_counted : length (file_in l f).rows ≡ f.front.head.rows
  unfolding file_in file_from middle_in
  rows_counted = length-several _ _ _ _

  unresolved-counted : length (file_in l f).unresolved ≡ f.middle.count
  unfolding file_in file_from middle_in
  unresolved-counted = length-several _ _ _ _

  roots-counted : length (file_in l f).roots ≡ f.tail.count
  unfolding file_in file_from tail_in
  roots-counted = length-several _ _ _ _

  pub forward-counted : length (file_in l f).forward.deltas ≡ f.front.edges.forwards
  unfolding file_in file_from front_in sets_in
  forward-counted = set-counted (part_in l f.front.sets) f.front.head.rows 0 f.front.edges.forwards

  pub reverse-counted : length (file_in l f).reverse.deltas ≡ f.front.edges.reverses
  unfolding file_in file_from front_in sets_in
  reverse-counted = set-counted (part_in l f.front.sets) f.front.head.rows f.front.edges.reverse f.front.edges.reverses

  pub inbound-counted : length (file_in l f).inbound.deltas ≡ f.front.edges.inbounds
  unfolding file_in file_from front_in sets_in
  inbound-counted = set-counted (part_in l f.front.sets) f.front.head.rows f.front.edges.inbound f.front.edges.inbounds

  module _ (u : Uncovers f.tail.covered f.tail.cover) where
    pub ranges-counted : ranges_in (file_in l f).cover ≡ f.tail.cover.ranges
    unfolding file_in file_from tail_in cover_in
    ranges-counted = ranges-of f.tail.covered (cover_in (part_in l f.tail.body) f.front.head.rows f.tail.cover) f.tail.cover (length-several _ _ _ _) u

    pub links-counted : links_in (file_in l f).cover ≡ f.tail.cover.links
    unfolding file_in file_from tail_in cover_in
    links-counted = links-of f.tail.covered (cover_in (part_in l f.tail.body) f.front.head.rows f.tail.cover) f.tail.cover (length-several _ _ _ _) u

  pub references-counted : MayCite f.tail.cited l f.front.head.rows f.tail.references f.tail.cites
      → sum length (file_in l f).references ≡ f.tail.references
  unfolding file_in file_from tail_in references_of
  references-counted = go f.tail.cited
    where
      rs : List Row
      rs = (middle_in l f.front.head.rows f.middle).rows

      go : (t : Bool) → MayCite t l f.front.head.rows f.tail.references f.tail.cites
          → sum length (references_of rs (cond t (some (references_from f.front.head.rows (part_in l f.tail.cites))) none)) ≡ f.tail.references
      go true h = sym h.counted
      go false h = omega (arith, none-counted rs)

-- ── one turn ─────────────────────────────────────────────────────────────────────────────────

abbrev none_yet : Totals
none_yet = record { files = 0; events = 0; roots = 0; unresolved = 0; ranges = 0; links = 0; forward = 0; reverse = 0; inbound = 0; references = 0 }

same-sums : {a b c d e f g h i j a' b' c' d' e' f' g' h' i' j' : ℕ} → a ≡ a' → b ≡ b' → c ≡ c' → d ≡ d' → e ≡ e' → f ≡ f' → g ≡ g' → h ≡ h' → i ≡ i' → j ≡ j'
    → ◌≡◌ {A = Result Totals Refusal}
    (Ok (record { files = a; events = b; roots = c; unresolved = d; ranges = e; links = f; forward = g; reverse = h; inbound = i; references = j }))
    (Ok (record { files = a'; events = b'; roots = c'; unresolved = d'; ranges = e'; links = f'; forward = g'; reverse = h'; inbound = i'; references = j' }))
same-sums p q r s t u v w x y = rw (p, q, r, s, t, u, v, w, x, y)

plus_none : (c : Result Totals Refusal) → c ≡ plus none_yet c
unfolding plus
plus_none (Err r) = refl
plus_none (Ok u) = same-sums (omega arith) (omega arith) (omega arith) (omega arith) (omega arith) (omega arith) (omega arith) (omega arith) (omega arith) (omega arith)

pub sums-start : (l : List ℕ) → totals_of (parse kinds l) ≡ plus none_yet (totals_of (files kinds (length l - 0) l 0))
unfolding parse
sums-start l = let z : length l - 0 ≡ length l = omega arith in rw z (plus_none (totals_of (files kinds (length l) l 0)))

plus-sums : (t : Totals) → plus t (Ok (totals [])) ≡ Ok t
unfolding plus totals sum
plus-sums t = same-sums (omega arith) (omega arith) (omega arith) (omega arith) (omega arith) (omega arith) (omega arith) (omega arith) (omega arith) (omega arith)

one-file : (l : List ℕ) (t : Totals) (f : FileAt) (u : Uncovers f.tail.covered f.tail.cover)
    (w : MayCite f.tail.cited l f.front.head.rows f.tail.references f.tail.cites) (r : Parsed (List File))
    → plus t (totals_of (and_then r (λ fs q. got (file_in l f ∷ fs) q))) ≡ plus (with_file t f) (totals_of r)
unfolding plus totals_of totals with_file sum
one-file l t f u w broken = refl
one-file l t f u w (got fs q) =
    let a = rows_counted l f in
    let b = unresolved-counted l f in
    let c = roots-counted l f in
    let d = forward-counted l f in
    let e = reverse-counted l f in
    let g = inbound-counted l f in
    let h = ranges-counted l f u in
    let i = links-counted l f u in
    let j = references-counted l f w in
    same-sums (omega arith) (omega arith) (omega arith) (omega arith) (omega arith) (omega arith) (omega arith) (omega arith) (omega arith) (omega arith)

pub files-end : (n : ℕ) (l : List ℕ) (p : ℕ) → length l ≤ p → files kinds n l p ≡ got [] p
unfolding files ◌>>=◌
files-end zero l p h = rw (le-leb (length l) p h)
files-end (suc n) l p h = rw (le-leb (length l) p h)

module _ {s : Result Totals Refusal} (l : List ℕ) (t : Totals) (p : ℕ) (e : s ≡ plus t (totals_of (files kinds (length l - t.files) l p))) where
  pub sums-done : length l ≤ p → Ok t ≡ s
  unfolding totals_of
  sums-done h = rw (e, files-end (length l - t.files) l p h) (sym (plus-sums t))

  module _ (h : p < length l) (g : t.files ≤ p) (x : Option FileAt) (d : file_of l x ≡ file kinds l p) where
    z : length l - t.files ≡ suc (length l - (t.files + 1))
    z = omega arith

    pub sums-broken : x ≡ None → Err RecordBroken ≡ s
    unfolding files plus totals_of ◌>>=◌
    sums-broken f = rw (e, z, lt-leb (length l) p h, ← d, f)

    pub sums_next : {f : FileAt} {u : Totals} → x ≡ Some f → AfterFile l p x → u ≡ with_file t f → s ≡ plus u (totals_of (files kinds (length l - u.files) l f.tail.end))
    unfolding files ◌>>=◌ with_file
    sums_next {f} k a w =
        let c = rw k at a in
        rw (w) (go c)
      where
        go : AfterFile l p (Some f) → s ≡ plus (with_file t f) (totals_of (files kinds (length l - (with_file t f).files) l f.tail.end))
        go c = rw (e, z, lt-leb (length l) p h, ← d, k) (one-file l t f c.2.5 c.3.tail.references (files kinds (length l - (t.files + 1)) l f.tail.end))

module _ (l : List ℕ) (p : ℕ) (x : Option FileAt) {f : FileAt} (a : AfterFile l p x) (e : x ≡ Some f) where
  pub file-past : p < f.tail.end
  file-past = (rw e at a).0

  pub file-fits : f.tail.end ≤ length l
  file-fits = (rw e at a).1

  pub file-counts : Counts p f
  file-counts = (rw e at a).2

  pub file-holds : HoldsFile l f
  file-holds = (rw e at a).3

  pub still-below : {t u : Totals} → Below t p → u ≡ with_file t f → Below u f.tail.end
  unfolding with_file
  still-below {t} b w = rw w (go b)
    where
      go : Below t p → Below (with_file t f) f.tail.end
      go b =
          let q = file-past in
          let c = file-counts in (
            omega arith,
            omega (arith, c.0),
            omega (arith, c.2),
            omega (arith, c.1),
            omega (arith, c.3.0),
            omega (arith, c.3.1),
            omega (arith, c.4.0),
            omega (arith, c.4.1),
            omega (arith, c.4.2),
            omega (arith, c.6),
          )
