-- Keys in order: their runs are the ranges of their labels, and the loop that writes them run by run.
use Rattle.std.proofs.Common.{◌≡◌, ℕ, suc, ◌+◌, ◌*◌, ◌/◌, ◌%◌, ◌<◌, ◌≤◌, true, eqb, ltb, leb, List, [], ◌∷◌, ◌++◌, map, length, get_or, drop, set, sym, refl, ap, ◌∙◌, ap₂, inl, inr, append_assoc, add-one, arith, drop_of_length-le, drop-cons, ltb-false, le-ltb, eq-eqb, ne_eqb, eqb-true, leb-true}
use mathlib.Core.List.{foldl}
use lib.ListN.{length-map}
use borrow.Author.Tests.{eqb-false}
use Rattle.lists.specs.Lists.{Each}
use Rattle.lists.specs.Order.{level_above, not_falling, sort}
use Rattle.lists.proofs.Tests.{tested, both}
use Rattle.lists.proofs.Each.{each_append, each-imp}
use Rattle.lists.proofs.Rising.{sort-level, length-sort}
use Rattle.columns.specs.Limits.{end32}
use Rattle.columns.specs.Reading.{Label, labels_of}
use Rattle.cover.specs.Chains.{Range, range_of, widen, add_label, ranges_of}
use Rattle.cover.specs.Answers.{RangeColumns, range_columns}
use Rattle.cover_rows.proofs.Columned.{over-sets}
use Rattle.arrays.specs.pairs.Pairs.{pair, pairs_of}
use Rattle.cover_sort.specs.packing.Keys.{keys_of}
use Rattle.cover_sort.proofs.packing.Packed.{Narrow, length-keys}
use Rattle.cover_sort.specs.labels.Runs.{label_of, run_range, runs, runs_of, put_range, put_ranges, ranges_over}
use Rattle.cover_sort.proofs.labels.Swapping.{add-on, add_same, fold-sort}

-- ── runs are ranges ──────────────────────────────────────────────────────────────────────────

-- ranges of chains below a label's come before it
add-past : (rs ts : List Range) (l : Label) → Each (λ r. r.chain < l.chain) rs → add_label (rs ++ ts) l ≡ rs ++ add_label ts l
add-past [] ts l h = refl
add-past (r ∷ rs) ts l h = add-on r (rs ++ ts) l h.0 ∙ ap (λ q. r ∷ q) (add-past rs ts l h.1)

add-last : (rs : List Range) (l : Label) → Each (λ r. r.chain < l.chain) rs → add_label rs l ≡ rs ++ (range_of l ∷ [])
unfolding add_label
add-last [] l h = refl
add-last (r ∷ rs) l h = add-on r rs l h.0 ∙ ap (λ q. r ∷ q) (add-last rs l h.1)

widen-run : (first last k : ℕ) → first ≤ last → last ≤ k → first / end32 ≡ last / end32 → k / end32 ≡ last / end32 → widen (run_range first last) (k % end32) ≡ run_range first k
unfolding widen
widen-run first last k h g e f =
    let low : first % end32 ≤ k % end32 = omega arith in
    let high : last % end32 ≤ k % end32 = omega arith in
    rw (le-ltb (k % end32) (first % end32) low) (elim (tested (ltb (last % end32) (k % end32))) [
      | inl q ↦ rw q
      | inr q ↦ let z : last % end32 ≡ k % end32 = omega (arith, ltb-false (last % end32) (k % end32) q) in rw (q, z)
    ])

fold_runs : (rs : List Range) (first last : ℕ) (ks : List ℕ) → level_above last ks ≡ true → first ≤ last → first / end32 ≡ last / end32 → Each (λ r. r.chain < last / end32) rs
    → foldl add_label (rs ++ (run_range first last ∷ [])) (map label_of ks) ≡ rs ++ runs first last ks
unfolding level_above runs
fold_runs rs first last [] a h e b = refl
fold_runs rs first last (k ∷ ks) a h e b =
    let p = both (leb last k) (level_above k ks) a in
    let g : last ≤ k = leb-true last k p.0 in
    elim (tested (eqb (k / end32) (last / end32))) [
      | inl q ↦ let s : k / end32 ≡ last / end32 = eqb-true (k / end32) (last / end32) q in
          let b' : Each (λ r. r.chain < k / end32) rs = rw s b in
          let step : add_label (rs ++ (run_range first last ∷ [])) (label_of k) ≡ rs ++ (run_range first k ∷ []) =
          add-past rs (run_range first last ∷ []) (label_of k) b'
          ∙ ap (λ ts. rs ++ ts) (add_same (run_range first last) [] (label_of k) (e ∙ sym s) ∙ ap (λ r. r ∷ []) (widen-run first last k h g e s)) in
          rw q (ap (λ qs. foldl add_label qs (map label_of ks)) step ∙ fold_runs rs first k ks p.1 (omega arith) (e ∙ sym s) b')
      | inr q ↦ let n = eqb-false (k / end32) (last / end32) q in
          let up : last / end32 < k / end32 = omega arith in
          let b' : Each (λ r. r.chain < k / end32) (rs ++ (run_range first last ∷ [])) =
          each_append (λ r. r.chain < k / end32) rs (run_range first last ∷ [])
          (each-imp (λ r. r.chain < last / end32) (λ r. r.chain < k / end32) rs (λ r w. omega arith) b) (omega arith, tt) in
          rw q (ap (λ qs. foldl add_label qs (map label_of ks)) (add-last (rs ++ (run_range first last ∷ [])) (label_of k) b')
          ∙ fold_runs (rs ++ (run_range first last ∷ [])) k k ks p.1 (omega arith) refl b' ∙ append_assoc rs (run_range first last ∷ []) (runs k k ks))
    ]

runs-fold : (keys : List ℕ) → not_falling keys ≡ true → foldl add_label [] (map label_of keys) ≡ runs_of keys
unfolding not_falling level_above runs_of add_label
runs-fold [] a = refl
runs-fold (k ∷ ks) a = fold_runs [] k k ks (both (leb 0 k) (level_above k ks) a).1 (omega arith) refl tt

labels-back : (cs ss : List ℕ) → Each (λ s. s < end32) ss → map label_of (keys_of cs ss) ≡ labels_of cs ss
unfolding pairs_of pair labels_of
labels-back [] ss h = refl
labels-back (c ∷ cs) [] h = refl
labels-back (c ∷ cs) (s ∷ ss) h =
    let l : s < end32 = h.0 in
    let p : (c * end32 + s) / end32 ≡ c = omega arith in
    let q : (c * end32 + s) % end32 ≡ s = omega arith in
    ap₂ (λ x xs. x ∷ xs) (λ i. record { chain = p i; seq = q i }) (labels-back cs ss h.1)

-- the runs of the keys in order are the ranges of the labels
ranges-runs : (cs ss : List ℕ) → Each (λ s. s < end32) ss → runs_of (sort (keys_of cs ss)) ≡ ranges_of (labels_of cs ss)
unfolding ranges_of
ranges-runs cs ss h = sym (runs-fold (sort (keys_of cs ss)) (sort-level (keys_of cs ss))) ∙ fold-sort [] (keys_of cs ss) ∙ ap (λ ls. foldl add_label [] ls) (labels-back cs ss h)

-- ── one range ────────────────────────────────────────────────────────────────────────────────

pub range-put : (a b c : List ℕ) (at first last x y z : ℕ) → x ≡ first / end32 → y ≡ first % end32 → z ≡ last % end32
    → range_columns (set a at x) (set b at y) (set c at z) ≡ put_range at (run_range first last) (range_columns a b c)
unfolding put_range
range-put a b c at first last x y z e f g = rw (e, f, g)

-- ── run by run ───────────────────────────────────────────────────────────────────────────────

module _ (keys : List ℕ) (first last i : ℕ) where
  last-run : length keys ≤ i → runs first last (drop i keys) ≡ run_range first last ∷ []
  unfolding runs
  last-run h = rw (drop_of_length-le keys {i = i} h)

  module _ (h : i < length keys) where
    run_on : get_or keys i 0 / end32 ≡ last / end32 → runs first last (drop i keys) ≡ runs first (get_or keys i 0) (drop (i + 1) keys)
    unfolding runs
    run_on k = rw (drop-cons keys i 0 h, eq-eqb (get_or keys i 0 / end32) (last / end32) k, add-one)

    run-new : (get_or keys i 0 / end32 ≡ last / end32 → ⊥) → runs first last (drop i keys) ≡ run_range first last ∷ runs (get_or keys i 0) (get_or keys i 0) (drop (i + 1) keys)
    unfolding runs
    run-new k = rw (drop-cons keys i 0 h, ne_eqb (get_or keys i 0 / end32) (last / end32) k, add-one)

  module _ {t : ℕ} (at : ℕ) (e : t ≡ at + length (runs first last (drop i keys))) where
    pub count_done : length keys ≤ i → at + 1 ≡ t
    count_done h = rw (e, last-run h)

    pub count_same : i < length keys → get_or keys i 0 / end32 ≡ last / end32 → t ≡ at + length (runs first (get_or keys i 0) (drop (i + 1) keys))
    count_same h k = rw (e, run_on h k)

    pub count_next : i < length keys → (get_or keys i 0 / end32 ≡ last / end32 → ⊥) → t ≡ at + 1 + length (runs (get_or keys i 0) (get_or keys i 0) (drop (i + 1) keys))
    count_next h k = rw (e, run-new h k) (omega arith)

  module _ {t : RangeColumns} (at : ℕ) (o : RangeColumns) (e : t ≡ put_ranges at (runs first last (drop i keys)) o) where
    pub put-done : (o' : RangeColumns) → o' ≡ put_range at (run_range first last) o → length keys ≤ i → o' ≡ t
    unfolding put_range put_ranges
    put-done o' f h = rw (e, last-run h, f)

    pub put_same : i < length keys → get_or keys i 0 / end32 ≡ last / end32 → t ≡ put_ranges at (runs first (get_or keys i 0) (drop (i + 1) keys)) o
    put_same h k = rw (e, run_on h k)

    pub put_next : (o' : RangeColumns) → o' ≡ put_range at (run_range first last) o → i < length keys → (get_or keys i 0 / end32 ≡ last / end32 → ⊥)
        → t ≡ put_ranges (at + 1) (runs (get_or keys i 0) (get_or keys i 0) (drop (i + 1) keys)) o'
    unfolding put_range put_ranges
    put_next o' f h k = rw (e, run-new h k, f, add-one at)

-- ── all runs ─────────────────────────────────────────────────────────────────────────────────

pub none-count : (keys : List ℕ) → length keys ≡ 0 → 0 ≡ length (runs_of keys)
unfolding runs_of
none-count [] h = refl
none-count (k ∷ ks) h = absurd (omega arith)

pub none-put : (keys : List ℕ) (o : RangeColumns) → length keys ≡ 0 → o ≡ put_ranges 0 (runs_of keys) o
unfolding runs_of put_ranges
none-put [] o h = refl
none-put (k ∷ ks) o h = absurd (omega arith)

some_runs : (keys : List ℕ) → (length keys ≡ 0 → ⊥) → runs (get_or keys 0 0) (get_or keys 0 0) (drop 1 keys) ≡ runs_of keys
unfolding runs_of
some_runs [] h = absurd (h refl)
some_runs (k ∷ ks) h = refl

pub some-count : {r : ℕ} (keys : List ℕ) → r ≡ length (runs (get_or keys 0 0) (get_or keys 0 0) (drop 1 keys)) → (length keys ≡ 0 → ⊥) → r ≡ length (runs_of keys)
some-count keys e h = e ∙ ap length (some_runs keys h)

pub some-put : (keys : List ℕ) (o o' : RangeColumns) → o' ≡ put_ranges 0 (runs (get_or keys 0 0) (get_or keys 0 0) (drop 1 keys)) o → (length keys ≡ 0 → ⊥) → o' ≡ put_ranges 0 (runs_of keys) o
some-put keys o o' e h = e ∙ ap (λ rs. put_ranges 0 rs o) (some_runs keys h)

-- ── the ranges of labels ─────────────────────────────────────────────────────────────────────

few-runs : (first last : ℕ) (ks : List ℕ) → length (runs first last ks) ≤ suc (length ks)
unfolding runs
few-runs first last [] = omega arith
few-runs first last (k ∷ ks) =
    elim (tested (eqb (k / end32) (last / end32))) [ inl e ↦ rw e (omega (arith, few-runs first k ks)) | inr e ↦ rw e (omega (arith, few-runs k k ks)) ]

few-of : (keys : List ℕ) → length (runs_of keys) ≤ length keys
unfolding runs_of
few-of [] = omega arith
few-of (k ∷ ks) = few-runs k k ks

puts-over : (rs : List Range) (a b c : List ℕ) → length rs ≤ length a → length rs ≤ length b → length rs ≤ length c → put_ranges 0 rs (range_columns a b c) ≡ ranges_over rs (range_columns a b c)
unfolding put_ranges ranges_over
puts-over rs a b c h g k =
    let p = sym (over-sets (map (λ r. r.chain) rs) a (rw length-map h)) in
    let q = sym (over-sets (map (λ r. r.least) rs) b (rw length-map g)) in
    let o = sym (over-sets (map (λ r. r.greatest) rs) c (rw length-map k)) in
    λ i. record { ids = p i; minima = q i; maxima = o i }

module _ (cs ss keys : List ℕ) (e : keys ≡ sort (keys_of cs ss)) (h : length ss ≡ length cs) where
  long : length keys ≡ length cs
  long = ap length e ∙ length-sort (keys_of cs ss) ∙ length-keys cs ss h

  pub keys-room : (n : ℕ) → length cs ≤ n → length keys ≤ n
  keys-room n k = omega (arith, long)

  module _ (small : Narrow ss) where
    same : runs_of keys ≡ ranges_of (labels_of cs ss)
    same = ap runs_of e ∙ ranges-runs cs ss small.each

    pub labels-count : {r : ℕ} → r ≡ length (runs_of keys) → r ≡ length (ranges_of (labels_of cs ss))
    labels-count f = f ∙ ap length same

    pub labels-put : (a b c : List ℕ) (o : RangeColumns) → o ≡ put_ranges 0 (runs_of keys) (range_columns a b c) → length cs ≤ length a → length cs ≤ length b → length cs ≤ length c
        → o ≡ ranges_over (ranges_of (labels_of cs ss)) (range_columns a b c)
    labels-put a b c o f k m n =
        let z = few-of keys in
        let y = long in
        f ∙ puts-over (runs_of keys) a b c (omega arith) (omega arith) (omega arith) ∙ ap (λ rs. ranges_over rs (range_columns a b c)) same
