-- What follows a row of an output file, looked up in the file's records at the row's place: its lists, state root, references and label.
use mathlib.Core.Path.{◌≡◌, refl, ap, sym, ◌∙◌}
use mathlib.Core.Bool.{false}
use mathlib.Core.List.{List, [], ◌∷◌, ◌++◌, map, append-nil, map-append}
use mathlib.Core.Option.{Option, none, some}
use Prim.Native.Nat.{ℕ, suc, ◌+◌, ◌*◌, ◌≤◌, ◌<◌}
use native.Mathlib.Omega.{arith}
use native.Mathlib.Nat.{add-zero, mul-zero}
use borrow.Author.Tests.{eq-eqb, ne_eqb}
use lib.Dec.{eqb}
use lib.ListN.{length, get_elem?, length-append}
use lib.Seq.{drop_at, take_at}
use Rattle.lists.specs.Lists.{flat, filter, part, Each}
use Rattle.lists.proofs.Each.{each-imp, each_map, each_all, each-flat}
use Rattle.lists.proofs.Flat.{flat_append}
use Rattle.columns.specs.Limits.{Served}
use Rattle.columns.specs.Reading.{Label, labels_of}
use Rattle.cover.specs.Chains.{Link}
use Rattle.archive.specs.File.{Unresolved, Root}
use Rattle.cleaning.specs.Archive.{Reference, root_in, references_in}
use Rattle.cleaning.specs.Writing.{Numbered, unresolved_of, root_of, roots_from, label_list, labels_in, label_columns, slots_of_rows}
use Rattle.cleaning.proofs.Good.{GoodLabel}
use Rattle.lists.proofs.Filters.{filter_none, filter-append}
use Rattle.cleaning.proofs.Numbers.{Counted, counted-append, counted-within}

-- ── lists ────────────────────────────────────────────────────────────────────────────────────

-- a row with a list for each kind
abbrev pub EachKind : (K : ℕ) → Numbered → Type 0
EachKind K r = length r.row.parents ≡ K

pub length-slots : (K : ℕ) (served : Served K) (rs : List Numbered) → Each (EachKind K) rs → length (slots_of_rows rs) ≡ K * length rs
unfolding slots_of_rows
length-slots K served [] h = sym (mul-zero K)
length-slots K served (r ∷ rs) h = omega (arith, length-append r.row.parents (slots_of_rows rs), h.0, length-slots K served rs h.1)

module _ (K : ℕ) (served : Served K) (before : List Numbered) (r : Numbered) (rs : List Numbered) where
  pub lists_at : Each (EachKind K) before → EachKind K r → part (K * length before) K (slots_of_rows (before ++ (r ∷ rs))) ≡ r.row.parents
  unfolding part slots_of_rows
  lists_at h k =
      rw (flat_append (λ r. r.row.parents) before (r ∷ rs), drop_at (slots_of_rows before) (slots_of_rows (r ∷ rs)) (K * length before) (length-slots K served before h))
      (take_at r.row.parents (slots_of_rows rs) K k)

-- ── state roots ──────────────────────────────────────────────────────────────────────────────

root-other : (i j : ℕ) (o : Option ℕ) (rest : List Root) → (i ≡ j → ⊥) → root_in (root_of i o ++ rest) j ≡ root_in rest j
unfolding root_in
root-other i j none rest h = refl
root-other i j (some handle) rest h = rw (ne_eqb i j h)

root-own : (i : ℕ) (o : Option ℕ) (rest : List Root) → root_in rest i ≡ none → root_in (root_of i o ++ rest) i ≡ o
unfolding root_in
root-own i none rest h = h
root-own i (some handle) rest h = rw (eq-eqb i i refl)

root-past : (i j : ℕ) (rs : List Numbered) → j < i → root_in (roots_from i rs) j ≡ none
unfolding root_in roots_from
root-past i j [] l = refl
root-past i j (r ∷ rs) l = root-other i j r.row.body.root (roots_from (suc i) rs) (λ e. omega arith) ∙ root-past (suc i) j rs (omega arith)

pub root-at : (i : ℕ) (before : List Numbered) (r : Numbered) (rs : List Numbered)
    → root_in (roots_from i (before ++ (r ∷ rs))) (i + length before) ≡ r.row.body.root
unfolding roots_from
root-at i [] r rs = rw (add-zero i) (root-own i r.row.body.root (roots_from (suc i) rs) (root-past (suc i) i rs (omega arith)))
root-at i (b ∷ before) r rs =
    let e : i + suc (length before) ≡ suc i + length before = omega arith in
    rw e (root-other i (suc i + length before) b.row.body.root (roots_from (suc i) (before ++ (r ∷ rs))) (λ d. omega arith) ∙ root-at (suc i) before r rs)

-- ── unresolved references ────────────────────────────────────────────────────────────────────

references-append : (us vs : List Unresolved) (n : ℕ) → references_in (us ++ vs) n ≡ references_in us n ++ references_in vs n
unfolding references_in
references-append us vs n = rw (filter-append (λ u. eqb u.child n) us vs) (map-append _ (filter (λ u. eqb u.child n) us) (filter (λ u. eqb u.child n) vs))

references-own : (r : Numbered) → references_in (unresolved_of r) r.number ≡ r.row.body.unresolved
unfolding references_in unresolved_of filter
references-own r = go r.row.body.unresolved
  where
    go : (us : List Reference) → references_in (map (λ u. record { child = r.number; kind = u.kind; handle = u.handle }) us) r.number ≡ us
    go [] = refl
    go (u ∷ us) = rw (eq-eqb r.number r.number refl) (ap (λ vs. u ∷ vs) (go us))

references-other : (n : ℕ) (rs : List Numbered) → Each (λ r. r.number ≡ n → ⊥) rs → references_in (flat unresolved_of rs) n ≡ []
unfolding references_in unresolved_of
references-other n rs h =
    ap (λ us. map (λ u. record { kind = u.kind; handle = u.handle }) us)
    (filter_none (λ u. eqb u.child n) (flat unresolved_of rs)
    (each-flat (λ u. eqb u.child n ≡ false) unresolved_of rs
    (each-imp (λ r. r.number ≡ n → ⊥) (λ r. Each (λ u. eqb u.child n ≡ false) (unresolved_of r)) rs
    (λ r d. each_map (λ u. eqb u.child n ≡ false) _ r.row.body.unresolved
    (each_all (λ u. eqb r.number n ≡ false) (λ u. ne_eqb r.number n d) r.row.body.unresolved)) h)))

pub references-at : (n : ℕ) (before : List Numbered) (r : Numbered) (rs : List Numbered) → Counted n (before ++ (r ∷ rs))
    → references_in (flat unresolved_of (before ++ (r ∷ rs))) (n + length before) ≡ r.row.body.unresolved
references-at n before r rs h =
    let q = counted-append n before (r ∷ rs) h in
    let m = n + length before in
    let first : references_in (flat unresolved_of before) m ≡ [] = references-other m before
    (each-imp (λ b. (n ≤ b.number) × (b.number < n + length before)) (λ b. b.number ≡ m → ⊥) before (λ b w e. omega arith)
    (counted-within n before q.0)) in
    let own : references_in (unresolved_of r) m ≡ r.row.body.unresolved = rw (sym q.1.0) (references-own r) in
    let rest : references_in (flat unresolved_of rs) m ≡ [] = references-other m rs
    (each-imp (λ b. (suc m ≤ b.number) × (b.number < suc m + length rs)) (λ b. b.number ≡ m → ⊥) rs (λ b w e. omega arith)
    (counted-within (suc m) rs q.1.1)) in
    rw (
      flat_append unresolved_of before (r ∷ rs),
      references-append (flat unresolved_of before) (unresolved_of r ++ flat unresolved_of rs) m,
      references-append (unresolved_of r) (flat unresolved_of rs) m,
      first,
      own,
      rest,
    ) (append-nil r.row.body.unresolved)

-- ── labels ───────────────────────────────────────────────────────────────────────────────────

-- a row of a group with a cover has a label
abbrev pub Labelled : List Link → Numbered → Type 0
Labelled links r = GoodLabel (some links) r.row.body.label

pub label_at : (links : List Link) (before : List Numbered) (r : Numbered) (rs : List Numbered) → Each (Labelled links) before → Labelled links r
    → get_elem? (labels_in (before ++ (r ∷ rs))) (length before) ≡ r.row.body.label
unfolding labels_in
label_at links [] r rs h g = go r.row.body.label g
  where
    go : (o : Option Label) → GoodLabel (some links) o → get_elem? (label_list o ++ labels_in rs) 0 ≡ o
    go none g = absurd g
    go (some l) g = refl
label_at links (b ∷ before) r rs h g = go b.row.body.label h.0 (label_at links before r rs h.1 g)
  where
    rest : List Label
    rest = labels_in (before ++ (r ∷ rs))

    go : (o : Option Label) → GoodLabel (some links) o → get_elem? rest (length before) ≡ r.row.body.label
        → get_elem? (label_list o ++ rest) (suc (length before)) ≡ r.row.body.label
    go none g e = absurd g
    go (some l) g e = e

pub labels-columns : (ls : List Label) → labels_of (label_columns ls).chains (label_columns ls).seqs ≡ ls
unfolding labels_of label_columns
labels-columns [] = refl
labels-columns (l ∷ ls) = ap (λ ks. l ∷ ks) (labels-columns ls)

-- as many labels as rows
pub length-labels : (links : List Link) (rs : List Numbered) → Each (Labelled links) rs → length (labels_in rs) ≡ length rs
unfolding labels_in
length-labels links [] h = refl
length-labels links (r ∷ rs) h = go r.row.body.label h.0 (length-labels links rs h.1)
  where
    go : (o : Option Label) → GoodLabel (some links) o → length (labels_in rs) ≡ length rs → length (label_list o ++ labels_in rs) ≡ suc (length rs)
    go none g e = absurd g
    go (some l) g e = rw e
