-- Labels may be added in any order: the ranges of labels are those of the labels in order.
use Rattle.std.proofs.Common.{◌≡◌, ℕ, ◌<◌, ◌≤◌, cond, ltb, List, [], ◌∷◌, map, sym, refl, ap, ◌∙◌, inl, inr, arith, ltb-false, ltb-true, le-ltb, lt-ltb, eq-eqb, ne_eqb}
use mathlib.Core.List.{foldl}
use Rattle.lists.specs.Order.{insert, sort}
use Rattle.lists.proofs.Tests.{tested}
use Rattle.lists.proofs.Compared.{less, level, above, compared}
use Rattle.columns.specs.Reading.{Label}
use Rattle.cover.specs.Chains.{Range, range_of, widen, add_label}
use Rattle.cover_sort.specs.labels.Runs.{label_of}

-- ── the lesser and the greater of two numbers ────────────────────────────────────────────────

abbrev lesser : ℕ → ℕ → ℕ
lesser a x = cond (ltb a x) a x

abbrev greater : ℕ → ℕ → ℕ
greater a x = cond (ltb x a) a x

module _ (a x : ℕ) where
  lesser-first : lesser a x ≤ a
  lesser-first = elim (tested (ltb a x)) [ inl e ↦ rw e (omega arith) | inr e ↦ rw e (ltb-false a x e) ]

  lesser-second : lesser a x ≤ x
  lesser-second = elim (tested (ltb a x)) [ inl e ↦ rw e (omega (arith, ltb-true a x e)) | inr e ↦ rw e (omega arith) ]

  lesser-most : (k : ℕ) → k ≤ a → k ≤ x → k ≤ lesser a x
  lesser-most k h g = elim (tested (ltb a x)) [ inl e ↦ rw e h | inr e ↦ rw e g ]

  greater-first : a ≤ greater a x
  greater-first = elim (tested (ltb x a)) [ inl e ↦ rw e (omega arith) | inr e ↦ rw e (ltb-false x a e) ]

  greater-second : x ≤ greater a x
  greater-second = elim (tested (ltb x a)) [ inl e ↦ rw e (omega (arith, ltb-true x a e)) | inr e ↦ rw e (omega arith) ]

  greater-least : (k : ℕ) → a ≤ k → x ≤ k → greater a x ≤ k
  greater-least k h g = elim (tested (ltb x a)) [ inl e ↦ rw e h | inr e ↦ rw e g ]

both_ways : (m n : ℕ) → m ≤ n → n ≤ m → m ≡ n
both_ways m n h g = omega arith

lesser-within : (a b x : ℕ) → lesser a (lesser b x) ≤ lesser b (lesser a x)
lesser-within a b x =
    let p = lesser-second a (lesser b x) in
    let q = lesser-first b x in
    let r = lesser-second b x in
    let s = lesser-first a (lesser b x) in
    lesser-most b (lesser a x) (lesser a (lesser b x)) (omega arith) (lesser-most a x (lesser a (lesser b x)) (omega arith) (omega arith))

greater-within : (a b x : ℕ) → greater a (greater b x) ≤ greater b (greater a x)
greater-within a b x =
    let p = greater-second b (greater a x) in
    let q = greater-first a x in
    let r = greater-second a x in
    let s = greater-first b (greater a x) in
    greater-least a (greater b x) (greater b (greater a x)) (omega arith) (greater-least b x (greater b (greater a x)) (omega arith) (omega arith))

lesser-swap : (a b x : ℕ) → lesser a (lesser b x) ≡ lesser b (lesser a x)
lesser-swap a b x = both_ways _ _ (lesser-within a b x) (lesser-within b a x)

greater-swap : (a b x : ℕ) → greater a (greater b x) ≡ greater b (greater a x)
greater-swap a b x = both_ways _ _ (greater-within a b x) (greater-within b a x)

lesser-sym : (a b : ℕ) → lesser a b ≡ lesser b a
lesser-sym a b =
    both_ways _ _ (lesser-most b a (lesser a b) (lesser-second a b) (lesser-first a b)) (lesser-most a b (lesser b a) (lesser-second b a) (lesser-first b a))

greater-sym : (a b : ℕ) → greater a b ≡ greater b a
greater-sym a b =
    both_ways _ _ (greater-least a b (greater b a) (greater-second b a) (greater-first b a)) (greater-least b a (greater a b) (greater-second a b) (greater-first a b))

-- ── widening ─────────────────────────────────────────────────────────────────────────────────

widen-swap : (r : Range) (a b : ℕ) → widen (widen r a) b ≡ widen (widen r b) a
unfolding widen
widen-swap r a b = λ i. record { chain = r.chain; least = lesser-swap b a r.least i; greatest = greater-swap b a r.greatest i }

widen-both : (l m : Label) → l.chain ≡ m.chain → widen (range_of l) m.seq ≡ widen (range_of m) l.seq
unfolding widen
widen-both l m e = λ i. record { chain = e i; least = lesser-sym m.seq l.seq i; greatest = greater-sym m.seq l.seq i }

-- ── a label more ─────────────────────────────────────────────────────────────────────────────

module _ (r : Range) (rs : List Range) (l : Label) where
  pub add-on : r.chain < l.chain → add_label (r ∷ rs) l ≡ r ∷ add_label rs l
  unfolding add_label
  add-on h = rw (lt-ltb r.chain l.chain h)

  pub add_same : r.chain ≡ l.chain → add_label (r ∷ rs) l ≡ widen r l.seq ∷ rs
  unfolding add_label
  add_same h = rw (le-ltb r.chain l.chain (omega arith), eq-eqb r.chain l.chain h)

  add-here : l.chain < r.chain → add_label (r ∷ rs) l ≡ range_of l ∷ (r ∷ rs)
  unfolding add_label
  add-here h = rw (le-ltb r.chain l.chain (omega arith), ne_eqb r.chain l.chain (omega arith))

pub add_none : (l : Label) → add_label [] l ≡ range_of l ∷ []
unfolding add_label
add_none l = refl

widen-chain : (r : Range) (s : ℕ) → (widen r s).chain ≡ r.chain
unfolding widen
widen-chain r s = refl

swap-less : (rs : List Range) (l m : Label) → l.chain < m.chain → add_label (add_label rs l) m ≡ add_label (add_label rs m) l
swap-less [] l m h = rw (add_none l, add_none m, add-on (range_of l) [] m h, add_none m, add-here (range_of m) [] l h)
swap-less (r ∷ rs) l m h = elim (compared r.chain l.chain) [
  | less k ↦ rw (add-on r rs l k, add-on r rs m (omega arith), add-on r (add_label rs l) m (omega arith), add-on r (add_label rs m) l k, swap-less rs l m h)
  | level k ↦ rw (add_same r rs l k, add-on r rs m (omega arith), add-on (widen r l.seq) rs m (rw (widen-chain r l.seq, k) h), add_same r (add_label rs m) l k)
  | above k ↦ rw (add-here r rs l k, add-on (range_of l) (r ∷ rs) m h) (elim (compared r.chain m.chain) [
    | less g ↦ rw (add-on r rs m g, add-here r (add_label rs m) l k)
    | level g ↦ rw (add_same r rs m g, add-here (widen r m.seq) rs l (rw (widen-chain r m.seq) k))
    | above g ↦ rw (add-here r rs m g, add-here (range_of m) (r ∷ rs) l h)
  ])
]

swap-same : (rs : List Range) (l m : Label) → l.chain ≡ m.chain → add_label (add_label rs l) m ≡ add_label (add_label rs m) l
swap-same [] l m h = rw (add_none l, add_none m, add_same (range_of l) [] m h, add_same (range_of m) [] l (sym h), widen-both l m h)
swap-same (r ∷ rs) l m h = elim (compared r.chain l.chain) [
  | less k ↦ rw (add-on r rs l k, add-on r rs m (omega arith), add-on r (add_label rs l) m (omega arith), add-on r (add_label rs m) l k, swap-same rs l m h)
  | level k ↦
      rw (
        add_same r rs l k,
        add_same r rs m (omega arith),
        add_same (widen r l.seq) rs m (widen-chain r l.seq ∙ k ∙ h),
        add_same (widen r m.seq) rs l (widen-chain r m.seq ∙ k),
        widen-swap r l.seq m.seq,
      )
  | above k ↦ rw (add-here r rs l k, add-here r rs m (omega arith), add_same (range_of l) (r ∷ rs) m h, add_same (range_of m) (r ∷ rs) l (sym h), widen-both l m h)
]

swap : (rs : List Range) (l m : Label) → add_label (add_label rs l) m ≡ add_label (add_label rs m) l
swap rs l m = elim (compared l.chain m.chain) [ less h ↦ swap-less rs l m h | level h ↦ swap-same rs l m h | above h ↦ sym (swap-less rs m l h) ]

-- ── labels in order ──────────────────────────────────────────────────────────────────────────

fold-insert : (rs : List Range) (x : ℕ) (ys : List ℕ) → foldl add_label rs (map label_of (insert x ys)) ≡ foldl add_label (add_label rs (label_of x)) (map label_of ys)
unfolding insert
fold-insert rs x [] = refl
fold-insert rs x (y ∷ ys) = elim (tested (ltb y x)) [
  | inl e ↦ rw e (fold-insert (add_label rs (label_of y)) x ys ∙ ap (λ q. foldl add_label q (map label_of ys)) (swap rs (label_of y) (label_of x)))
  | inr e ↦ rw e
]

pub fold-sort : (rs : List Range) (xs : List ℕ) → foldl add_label rs (map label_of (sort xs)) ≡ foldl add_label rs (map label_of xs)
unfolding sort
fold-sort rs [] = refl
fold-sort rs (x ∷ xs) = fold-insert rs x (sort xs) ∙ fold-sort (add_label rs (label_of x)) xs
