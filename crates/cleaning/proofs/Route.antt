-- `ends` lists the ends of all routes from an event, in the order of the routes.
use mathlib.Core.Path.{◌≡◌, refl, ap, sym, ◌∙◌, subst}
use mathlib.Core.Bool.{Bool, true, false, cond}
use mathlib.Core.List.Memᴰ
use mathlib.Core.List.{List, [], ◌∷◌, ◌++◌, map, map-append, map-map, Memᴰ}
use mathlib.Core.Logic.{◌⊎◌, inl, inr}
use mathlib.Core.Option.{some, none-ne-some}
use Prim.Native.Nat.{ℕ, zero, suc, ◌+◌, ◌-◌, ◌≤◌, ◌<◌}
use native.Mathlib.Omega.{arith}
use native.Mathlib.Nat.{not-suc-le-zero, add-zero, zero-add}
use lib.ListN.{get_elem?}
use Rattle.lists.specs.Lists.{flat, Each}
use Rattle.lists.proofs.Each.{each_append, each_map, each-imp, each_all, each-mem, each-get}
use Rattle.cleaning.specs.Archive.{Archive, at, parents_of}
use Rattle.cleaning.specs.Routes.{passes, Route, stop, on, Less, Way, Rising, EndsOf, through, ends, Valid}
use Rattle.cleaning.proofs.Ends.{passes-start, Bounds, bounds-parents}

-- ── ways ─────────────────────────────────────────────────────────────────────────────────────

abbrev way : List ℕ → ℕ → Way
way is e = record { steps = is; last = e }

-- a step more in front
abbrev longer : ℕ → Way → Way
longer i w = way (i ∷ w.steps) w.last

-- the ways over entries from place i on, f the ways on from an entry
ways_of : (ℕ → List Way) → ℕ → List ℕ → List Way
ways_of f i [] = []
ways_of f i (p ∷ ps) = map (longer i) (f p) ++ ways_of f (suc i) ps

-- the ways on from an entry: `through`, with the steps
ways_on : Archive → ℕ → ℕ → ℕ → List Way
ways_on A k zero p = []
ways_on A k (suc n) p = cond (passes A p) (ways_of (ways_on A k n) 0 (parents_of k (at A p))) (way [] p ∷ [])

-- ── their ends ───────────────────────────────────────────────────────────────────────────────

abbrev lasts : List Way → List ℕ
lasts ws = map (λ w. w.last) ws

lasts-of : (f : ℕ → List Way) (g : ℕ → List ℕ) → ((p : ℕ) → lasts (f p) ≡ g p) → (i : ℕ) (ps : List ℕ) → lasts (ways_of f i ps) ≡ flat g ps
unfolding ways_of
lasts-of f g h i [] = refl
lasts-of f g h i (p ∷ ps) =
    rw (map-append (λ w. w.last) (map (longer i) (f p)) (ways_of f (suc i) ps), map-map (λ w. w.last) (longer i) (f p), h p, lasts-of f g h (suc i) ps)

lasts_on : (A : Archive) (k n p : ℕ) → lasts (ways_on A k n p) ≡ through A k n p
unfolding ways_on through
lasts_on A k zero p = refl
lasts_on A k (suc n) p = go (passes A p) (lasts-of (ways_on A k n) (through A k n) (λ q. lasts_on A k n q) 0 (parents_of k (at A p)))
  where
    ps : List ℕ
    ps = parents_of k (at A p)

    go : (b : Bool) → lasts (ways_of (ways_on A k n) 0 ps) ≡ flat (through A k n) ps
        → lasts (cond b (ways_of (ways_on A k n) 0 ps) (way [] p ∷ [])) ≡ cond b (flat (through A k n) ps) (p ∷ [])
    go true h = h
    go false h = refl

-- ── their order ──────────────────────────────────────────────────────────────────────────────

-- the first step is at place i or later
abbrev First : ℕ → List ℕ → Type 0
First i [] = ⊥
First i (j ∷ js) = i ≤ j

first-later : (i : ℕ) (is : List ℕ) → First (suc i) is → First i is
first-later i [] h = h
first-later i (j ∷ js) h = omega arith

first-less : (i : ℕ) (is js : List ℕ) → First (suc i) js → Less (i ∷ is) js
first-less i is [] h = h
first-less i is (j ∷ js) h = inl h

first_of : (f : ℕ → List Way) (i : ℕ) (ps : List ℕ) → Each (λ w. First i w.steps) (ways_of f i ps)
unfolding ways_of
first_of f i [] = tt
first_of f i (p ∷ ps) =
    each_append (λ w. First i w.steps) (map (longer i) (f p)) (ways_of f (suc i) ps)
    (each_map (λ w. First i w.steps) (longer i) (f p) (each_all (λ w. i ≤ i) (λ w. omega arith) (f p)))
    (each-imp (λ w. First (suc i) w.steps) (λ w. First i w.steps) (ways_of f (suc i) ps) (λ w h. first-later i w.steps h) (first_of f (suc i) ps))

rising-join : (i : ℕ) (ws vs : List Way) → Rising ws → Each (λ v. First (suc i) v.steps) vs → Rising vs → Rising (map (longer i) ws ++ vs)
rising-join i [] vs r h s = s
rising-join i (w ∷ ws) vs r h s = (
  each_append (λ v. Less (i ∷ w.steps) v.steps) (map (longer i) ws) vs
      (each_map (λ v. Less (i ∷ w.steps) v.steps) (longer i) ws
      (each-imp (λ v. Less w.steps v.steps) (λ v. Less (i ∷ w.steps) (i ∷ v.steps)) ws (λ v l. inr (refl, l)) r.0))
      (each-imp (λ v. First (suc i) v.steps) (λ v. Less (i ∷ w.steps) v.steps) vs (λ v l. first-less i w.steps v.steps l) h),
  rising-join i ws vs r.1 h s,
)

rising-of : (f : ℕ → List Way) → ((p : ℕ) → Rising (f p)) → (i : ℕ) (ps : List ℕ) → Rising (ways_of f i ps)
unfolding ways_of
rising-of f h i [] = tt
rising-of f h i (p ∷ ps) = rising-join i (f p) (ways_of f (suc i) ps) (h p) (first_of f (suc i) ps) (rising-of f h (suc i) ps)

rising-on : (A : Archive) (k n p : ℕ) → Rising (ways_on A k n p)
unfolding ways_on
rising-on A k zero p = tt
rising-on A k (suc n) p = go (passes A p) (rising-of (ways_on A k n) (λ q. rising-on A k n q) 0 (parents_of k (at A p)))
  where
    ws : List Way
    ws = ways_of (ways_on A k n) 0 (parents_of k (at A p))

    go : (b : Bool) → Rising ws → Rising (cond b ws (way [] p ∷ []))
    go true h = h
    go false h = (tt, tt)

-- ── every way is a route ─────────────────────────────────────────────────────────────────────

-- the way of a route from a list of entries
abbrev IsRoute : Archive → ℕ → List ℕ → Way → Type 0
IsRoute A k ps w = Route A k ps w.steps w.last

-- the way of a route that has come to p: it ends there, or goes on from there
abbrev GoesOn : Archive → ℕ → ℕ → Way → Type 0
GoesOn A k p w = ((passes A p ≡ false) × (w ≡ way [] p)) ⊎ ((passes A p ≡ true) × IsRoute A k (parents_of k (at A p)) w)

route-longer : (A : Archive) (k : ℕ) (ps : List ℕ) (i p : ℕ) → get_elem? ps i ≡ some p → (w : Way) → GoesOn A k p w → IsRoute A k ps (longer i w)
route-longer A k ps i p g w (inl h) = subst (λ v. IsRoute A k ps (longer i v)) (sym h.1) (stop g h.0)
route-longer A k ps i p g w (inr h) = on g h.0 h.1

-- the entries `ps` stand in `all` from place i on
sound-of : (A : Archive) (k : ℕ) (f : ℕ → List Way) → ((p : ℕ) → Each (GoesOn A k p) (f p)) → (all : List ℕ) (i : ℕ) (ps : List ℕ)
    → ((j : ℕ) → get_elem? all (i + j) ≡ get_elem? ps j) → Each (IsRoute A k all) (ways_of f i ps)
unfolding ways_of
sound-of A k f h all i [] g = tt
sound-of A k f h all i (p ∷ ps) g =
    let here : get_elem? all i ≡ some p = ap (get_elem? all) (omega arith) ∙ g 0 in
    each_append (IsRoute A k all) (map (longer i) (f p)) (ways_of f (suc i) ps)
    (each_map (IsRoute A k all) (longer i) (f p)
    (each-imp (GoesOn A k p) (λ w. IsRoute A k all (longer i w)) (f p) (λ w t. route-longer A k all i p here w t) (h p)))
    (sound-of A k f h all (suc i) ps (λ j. ap (get_elem? all) (omega arith) ∙ g (suc j)))

sound-all : (A : Archive) (k : ℕ) (f : ℕ → List Way) → ((p : ℕ) → Each (GoesOn A k p) (f p)) → (ps : List ℕ) → Each (IsRoute A k ps) (ways_of f 0 ps)
sound-all A k f h ps = sound-of A k f h ps 0 ps (λ j. ap (get_elem? ps) (zero-add j))

sound-on : (A : Archive) (k n p : ℕ) → Each (GoesOn A k p) (ways_on A k n p)
unfolding ways_on
sound-on A k zero p = tt
sound-on A k (suc n) p = go (passes A p) refl (sound-all A k (ways_on A k n) (λ q. sound-on A k n q) (parents_of k (at A p)))
  where
    ps : List ℕ
    ps = parents_of k (at A p)

    go : (b : Bool) → passes A p ≡ b → Each (IsRoute A k ps) (ways_of (ways_on A k n) 0 ps)
        → Each (GoesOn A k p) (cond b (ways_of (ways_on A k n) 0 ps) (way [] p ∷ []))
    go true e h = each-imp (IsRoute A k ps) (GoesOn A k p) (ways_of (ways_on A k n) 0 ps) (λ w r. inr (e, r)) h
    go false e h = (inl (e, refl), tt)

-- ── every route is a way ─────────────────────────────────────────────────────────────────────

mem-of : (f : ℕ → List Way) (i : ℕ) (ps : List ℕ) (j p : ℕ) (w : Way) → get_elem? ps j ≡ some p → Memᴰ w (f p) → Memᴰ (longer (i + j) w) (ways_of f i ps)
unfolding ways_of
mem-of f i [] j p w g m = absurd (none-ne-some p g)
mem-of f i (q ∷ qs) zero p w g m =
    let e : q ≡ p = cc in
    Memᴰ.append_left {s = map (longer i) (f q)} (ways_of f (suc i) qs) (rw (add-zero, e) (Memᴰ.map (longer i) m))
mem-of f i (q ∷ qs) (suc j) p w g m =
    Memᴰ.append_right (map (longer i) (f q)) (Memᴰ.cast (ap (λ n. longer n w) (omega arith)) (mem-of f (suc i) qs j p w g m))

mem-all : (f : ℕ → List Way) (ps : List ℕ) (i p : ℕ) (w : Way) → get_elem? ps i ≡ some p → Memᴰ w (f p) → Memᴰ (longer i w) (ways_of f 0 ps)
mem-all f ps i p w g m = Memᴰ.cast (ap (λ j. longer j w) (sym (zero-add i))) (mem-of f 0 ps i p w g m)

complete : (A : Archive) (k : ℕ) → Valid A → (n : ℕ) {ps is : List ℕ} {e : ℕ} → Route A k ps is e → Each (Bounds A n) ps
    → Memᴰ (way is e) (ways_of (ways_on A k n) 0 ps)
unfolding ways_on
complete A k v zero (stop {ps} {i} {p} g s) b = absurd (not-suc-le-zero (each-get (Bounds A 0) ps i p b g))
complete A k v zero (on {ps} {is} {i} {p} {e} g s r) b = absurd (not-suc-le-zero (each-get (Bounds A 0) ps i p b g))
complete A k v (suc n) (stop {ps} {i} {p} g s) b = mem-all (ways_on A k (suc n)) ps i p (way [] p) g (rw s (Memᴰ.head refl))
complete A k v (suc n) (on {ps} {is} {i} {p} {e} g s r) b =
    let l : A.start ≤ p = passes-start A p s in
    let u : suc p - A.start < suc n = each-get (Bounds A (suc n)) ps i p b g in
    mem-all (ways_on A k (suc n)) ps i p (way is e) g (rw s (complete A k v n r (bounds-parents A k v n p l (omega arith))))

-- ── the ends of an event's routes ────────────────────────────────────────────────────────────

pub ends_of : (A : Archive) (k : ℕ) → Valid A → (p : ℕ) → A.start ≤ p → EndsOf A k (parents_of k (at A p)) (ends A k p)
unfolding ends
ends_of A k v p l =
    let n : ℕ = suc (p - A.start) in
    let ps : List ℕ = parents_of k (at A p) in
    let ws : List Way = ways_of (ways_on A k n) 0 ps in
    record {
      ways = ws;
      rising = rising-of (ways_on A k n) (λ q. rising-on A k n q) 0 ps;
      all_routes = λ w. (
        each-mem (IsRoute A k ps) ws w (sound-all A k (ways_on A k n) (λ q. sound-on A k n q) ps),
        λ r. complete A k v n r (bounds-parents A k v n p l (omega arith)),
      );
      their_ends = lasts-of (ways_on A k n) (through A k n) (λ q. lasts_on A k n q) 0 ps;
    }
