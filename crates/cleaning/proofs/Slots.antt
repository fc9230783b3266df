-- The flat columns of resolving say what the archive says: of events with these flags and these parents, slot by slot, the new numbers, the new lists
-- and the reparented count are the archive's.
use mathlib.Core.Path.{◌≡◌, refl, sym, ap, ap₂, ◌∙◌}
use mathlib.Core.Bool.{Bool, true, false, cond, not, ◌&&◌}
use mathlib.Core.List.{List, [], ◌∷◌, ◌++◌, map, foldl}
use Prim.Native.Nat.{ℕ, zero, suc, ◌+◌, ◌-◌, ◌*◌, ◌/◌, ◌%◌, ◌≤◌, ◌<◌}
use native.Mathlib.Omega.{arith}
use native.Mathlib.Nat.{not-suc-le-zero, le_of_suc-le-suc, zero-add, add-zero, add-suc, suc-add, mul-zero, mul-le-mul_left}
use lib.Dec.{ltb, eqb}
use lib.ListN.{length, get_or, take, drop, length-map, length-append, get_or-map}
use lib.Seq.{take-suc, take-length, take_at, drop-append-add, get_or-take, get_or-drop, get_or_at}
use borrow.Author.Tests.{ltb-false}
use Rattle.lists.specs.Lists.{flat, joined, part, up_from, any, filter, sum, add, Each}
use Rattle.lists.proofs.Each.{each-imp, each_all}
use Rattle.lists.proofs.Flat.{length-map-up_from, get_or-map-up_from, map-up_from-snoc, up_from-append, up_from-snoc, sum-append, length-joined}
use Rattle.columns.specs.Limits.{Served}
use Rattle.run_renumber.specs.Numbers.{takes, numbers_from, survivors}
use Rattle.run_renumber.specs.NewLists.{new_list, new_lists_from, new_lists}
use Rattle.run_renumber.specs.NewLists
use Rattle.run_renumber.specs.Reparented.{is_erased}
use Rattle.run_renumber.specs.Reparented
use Rattle.cleaning.specs.Archive.{Event, Archive, blank, at, parents_of}
use Rattle.cleaning.specs.Routes.{passes, Valid}
use Rattle.cleaning.specs.Cleaning.{count, rank, renumber, survivors_from, is_reparented, reparented}
use Rattle.cleaning.specs.Cleaning
use Rattle.cleaning.specs.Memo.{add_parent, memo, tables}
use Rattle.cleaning.specs.Resolving.{entries}
use Rattle.cleaning.proofs.Inj.{renumber-past}
use Rattle.lists.proofs.Sums.{sum-map, sum-ext, sum_both}
use Rattle.lists.proofs.Counting.{sum-zero}
use Rattle.lists.proofs.Slots.{slot_row, slot-kind, slot-parts, slot-under, row_under, kind-under}
use Rattle.cleaning.proofs.Table.{list_of, lists, memo-right}

-- whether a flag says that its event is erased
abbrev pub flagged : ℕ → Bool
flagged f = not (eqb f 0)

abbrev pub erased_of : Event → Bool
erased_of e = e.erased

abbrev pub lists_of : Event → List (List ℕ)
lists_of e = e.parents

-- ── flags and numbers ────────────────────────────────────────────────────────────────────────

module _ (es : List Event) (flags : List ℕ) (e : map erased_of es ≡ map flagged flags) where
  pub flags-length : length es ≡ length flags
  flags-length = sym (length-map es erased_of) ∙ ap length e ∙ length-map flags flagged

  pub flag-says : (i : ℕ) → (get_or es i blank).erased ≡ not (eqb (get_or flags i 0) 0)
  flag-says i = sym (get_or-map erased_of es i blank) ∙ ap (λ (bs : List Bool). get_or bs i false) e ∙ get_or-map flagged flags i 0

one_more : (b : Bool) (n c : ℕ) → n + cond b 1 0 + c ≡ n + cond (not b) c (suc c)
one_more true n c = omega arith
one_more false n c = omega arith

heads : (x : Event) (es : List Event) (f : ℕ) (fs : List ℕ) → map erased_of (x ∷ es) ≡ map flagged (f ∷ fs) → x.erased ≡ not (eqb f 0)
heads x es f fs e = ap (λ (bs : List Bool). get_or bs 0 false) e

tails : (x : Event) (es : List Event) (f : ℕ) (fs : List ℕ) → map erased_of (x ∷ es) ≡ map flagged (f ∷ fs) → map erased_of es ≡ map flagged fs
tails x es f fs e = ap (λ (bs : List Bool). drop 1 bs) e

counted : (x : Event) (f n c : ℕ) → x.erased ≡ not (eqb f 0) → n + takes f + c ≡ n + cond x.erased c (suc c)
unfolding takes
counted x f n c e = one_more (eqb f 0) n c ∙ ap (λ (b : Bool). n + cond b c (suc c)) (sym e)

pub number-says : (n : ℕ) (es : List Event) (fs : List ℕ) (i : ℕ) → map erased_of es ≡ map flagged fs → i < length es → get_or (numbers_from n fs) i 0 ≡ n + count (take i es)
unfolding numbers_from count
number-says n [] fs i e h = absurd (not-suc-le-zero h)
number-says n (x ∷ es) [] i e h = absurd (not-suc-le-zero (rw (flags-length (x ∷ es) [] e) at h))
number-says n (x ∷ es) (f ∷ fs) zero e h = omega arith
number-says n (x ∷ es) (f ∷ fs) (suc i) e h =
    number-says (n + takes f) es fs i (tails x es f fs e) (le_of_suc-le-suc h) ∙ counted x f n (count (take i es)) (heads x es f fs e)

pub survivors-say : (es : List Event) (fs : List ℕ) → map erased_of es ≡ map flagged fs → survivors fs ≡ count es
unfolding survivors sum count
survivors-say [] [] e = refl
survivors-say [] (f ∷ fs) e = absurd (not-suc-le-zero {n = length fs} (rw (← flags-length [] (f ∷ fs) e) (omega arith)))
survivors-say (x ∷ es) [] e = absurd (not-suc-le-zero {n = length es} (rw (flags-length (x ∷ es) [] e) (omega arith)))
survivors-say (x ∷ es) (f ∷ fs) e =
    let h : takes f + count es ≡ cond x.erased (count es) (suc (count es)) = omega (arith, counted x f 0 (count es) (heads x es f fs e)) in
    rw (survivors-say es fs (tails x es f fs e)) h

-- ── slots ────────────────────────────────────────────────────────────────────────────────────

pub slots_length : (K : ℕ) (served : Served K) (es : List Event) → Each (λ e. length e.parents ≡ K) es → length (flat lists_of es) ≡ K * length es
slots_length K served [] w = sym (mul-zero K)
slots_length K served (x ∷ es) w = omega (arith, length-append x.parents (flat lists_of es), w.0, slots_length K served es w.1)

-- the slots of an event are its lists
pub event-slots : (K : ℕ) (served : Served K) (es : List Event) (i : ℕ) → Each (λ e. length e.parents ≡ K) es → i < length es
    → part (K * i) K (flat lists_of es) ≡ (get_or es i blank).parents
unfolding part
event-slots K served [] i w h = absurd (not-suc-le-zero h)
event-slots K served (x ∷ es) zero w h = rw (mul-zero K) (take_at x.parents (flat lists_of es) K w.0)
event-slots K served (x ∷ es) (suc i) w h =
    let e : K * suc i ≡ length x.parents + K * i = omega (arith, w.0) in
    rw (e, drop-append-add x.parents (flat lists_of es) (K * i)) (event-slots K served es i w.1 (le_of_suc-le-suc h))

slot-says : (K : ℕ) (served : Served K) (es : List Event) (i k : ℕ) → Each (λ e. length e.parents ≡ K) es → i < length es → k < K
    → get_or (flat lists_of es) (K * i + k) [] ≡ get_or (get_or es i blank).parents k []
unfolding part
slot-says K served es i k w h l =
    sym (get_or-drop (K * i) (flat lists_of es) k []) ∙ sym (get_or-take K (drop (K * i) (flat lists_of es)) k [] l)
    ∙ ap (λ (ls : List (List ℕ)). get_or ls k []) (event-slots K served es i w h)

-- ── the archive's columns ────────────────────────────────────────────────────────────────────

pub record Columns (K : ℕ) (A : Archive) (flags : List ℕ) (slots : List (List ℕ)) : Type 0 where
  pub erased : map erased_of A.events ≡ map flagged flags
  pub wide : Each (λ e. length e.parents ≡ K) A.events
  pub lists : flat lists_of A.events ≡ slots

-- the new list of a slot
abbrev pub slot_list : (K : ℕ) → Archive → ℕ → List ℕ
slot_list K A s = list_of A (s % K) (s / K)

pub slot-list : (K : ℕ) (served : Served K) (A : Archive) (j k : ℕ) → k < K → slot_list K A (K * j + k) ≡ list_of A k j
slot-list K served A j k l =
    ap₂ (list_of A) (slot-kind K j k l) (slot_row K j k l)

fold_same : (f g : List ℕ → ℕ → List ℕ) (acc ps : List ℕ) → Each (λ p. (a : List ℕ) → f a p ≡ g a p) ps → foldl f acc ps ≡ foldl g acc ps
fold_same f g acc [] h = refl
fold_same f g acc (p ∷ ps) h = rw (h.0 acc) (fold_same f g (g acc p) ps h.1)

lists-snoc : (K : ℕ) (served : Served K) (start : ℕ) (flags numbers : List ℕ) (ls xs : List (List ℕ)) (y : List ℕ)
    → new_lists_from K start flags numbers ls (xs ++ (y ∷ []))
    ≡ new_lists_from K start flags numbers ls xs
    ++ (new_list K start flags numbers (length (new_lists_from K start flags numbers ls xs) % K) (new_lists_from K start flags numbers ls xs) y ∷ [])
unfolding new_lists_from
lists-snoc K served start flags numbers ls [] y = refl
lists-snoc K served start flags numbers ls (x ∷ xs) y = lists-snoc K served start flags numbers (ls ++ (new_list K start flags numbers (length ls % K) ls x ∷ [])) xs y

either : (b : Bool) (x y : List ℕ) → cond b x y ≡ cond (not b) y x
either true x y = refl
either false x y = refl

sum-block : (f g : ℕ → ℕ) (n a b : ℕ) → ((k : ℕ) → k < n → f (a + k) ≡ g (b + k)) → sum f (up_from a n) ≡ sum g (up_from b n)
unfolding sum up_from
sum-block f g zero a b h = refl
sum-block f g (suc n) a b h =
    let e : f a ≡ g b = rw (add-zero a, add-zero b) at (h 0 (omega arith)) in
    omega (arith, e, sum-block f g n (suc a) (suc b) (λ k l. rw (suc-add, suc-add, ← add-suc, ← add-suc) (h (suc k) (omega arith))))

-- a figure of each kind and place, summed slot by slot or kind by kind
sum-slots : (K : ℕ) (served : Served K) (f : ℕ → ℕ → ℕ) (n : ℕ) → sum (λ s. f (s % K) (s / K)) (up_from 0 (K * n)) ≡ sum (λ k. sum (f k) (up_from 0 n)) (up_from 0 K)
unfolding sum up_from
sum-slots K served f zero = rw (mul-zero K) (sym (sum-zero (up_from 0 K)))
sum-slots K served f (suc n) = whole (sum-slots K served f n)
  where
    one : (k : ℕ) → sum (f k) (up_from 0 (suc n)) ≡ sum (f k) (up_from 0 n) + f k n
    one k = ap (sum (f k)) (up_from-snoc 0 n) ∙ sum-append (f k) (up_from 0 n) ((0 + n) ∷ []) ∙ ap (λ (j : ℕ). sum (f k) (up_from 0 n) + (f k j + 0)) (zero-add n) ∙ omega arith

    both : sum (λ k. sum (f k) (up_from 0 (suc n))) (up_from 0 K) ≡ sum (λ k. sum (f k) (up_from 0 n)) (up_from 0 K) + sum (λ k. f k n) (up_from 0 K)
    both =
        sum-ext (λ k. sum (f k) (up_from 0 (suc n))) (λ k. sum (f k) (up_from 0 n) + f k n) (up_from 0 K) (each_all _ one (up_from 0 K))
        ∙ sum_both (λ k. sum (f k) (up_from 0 n)) (λ k. f k n) (up_from 0 K)

    row : sum (λ s. f (s % K) (s / K)) (up_from (0 + K * n) K) ≡ sum (λ k. f k n) (up_from 0 K)
    row = sum-block (λ s. f (s % K) (s / K)) (λ k. f k n) K (0 + K * n) 0 (λ k l. rw (zero-add (K * n), zero-add k, slot-kind K n k l, slot_row K n k l))

    whole : sum (λ s. f (s % K) (s / K)) (up_from 0 (K * n)) ≡ sum (λ k. sum (f k) (up_from 0 n)) (up_from 0 K)
        → sum (λ s. f (s % K) (s / K)) (up_from 0 (K * suc n)) ≡ sum (λ k. sum (f k) (up_from 0 (suc n))) (up_from 0 K)
    whole before =
        let e : K * suc n ≡ K * n + K = omega arith in
        rw (e, up_from-append 0 (K * n) K, sum-append (λ s. f (s % K) (s / K)) (up_from 0 (K * n)) (up_from (0 + K * n) K)) (omega (arith, before, both, row))

module _ (K : ℕ) (served : Served K) (A : Archive) (flags : List ℕ) (slots : List (List ℕ)) (c : Columns K A flags slots) where
  pub erased-says : (p : ℕ) → (at A p).erased ≡ not (eqb (get_or flags (p - A.start) 0) 0)
  unfolding at
  erased-says p = flag-says A.events flags c.erased (p - A.start)

  -- new numbers are the archive's
  pub numbers-new : (p : ℕ) → A.start ≤ p → p < A.start + length A.events → get_or (numbers_from A.start flags) (p - A.start) 0 ≡ renumber A p
  unfolding rank
  numbers-new p l h = number-says A.start A.events flags (p - A.start) c.erased (omega arith) ∙ sym (renumber-past A p l)

  pub survivors-new : survivors flags ≡ count A.events
  survivors-new = survivors-say A.events flags c.erased

  pub all_slots : length slots ≡ K * length A.events
  all_slots = sym (ap length c.lists) ∙ slots_length K served A.events c.wide

  module _ (v : Valid A) where
    memo-length : (k n : ℕ) → length (memo A k n) ≡ n
    memo-length k n = ap length (memo-right A k v n) ∙ length-map-up_from (list_of A k) 0 n

    memo-list : (k n j : ℕ) → j < n → get_or (memo A k n) j [] ≡ list_of A k j
    memo-list k n j h = ap (λ (ls : List (List ℕ)). get_or ls j []) (memo-right A k v n) ∙ get_or-map-up_from (list_of A k) 0 n j [] h ∙ ap (list_of A k) (zero-add j)

    -- an event's new list, from the lists before it
    memo-next : (k i : ℕ) → foldl (add_parent A (memo A k i)) [] (parents_of k (at A (A.start + i))) ≡ list_of A k i
    unfolding memo
    memo-next k i =
        sym (get_or_at (memo A k i) (foldl (add_parent A (memo A k i)) [] (parents_of k (at A (A.start + i)))) [] [] i (memo-length k i))
        ∙ memo-list k (suc i) i (omega arith)

    -- one parent: the same by slots and by events
    parent-says : (i k s : ℕ) → k < K → s ≡ K * i + k → i < length A.events → (p : ℕ) → p < A.start + i → (acc : List ℕ)
        → NewLists.add_parent K A.start flags (numbers_from A.start flags) k (map (slot_list K A) (up_from 0 s)) acc p ≡ add_parent A (memo A k i) acc p
    unfolding NewLists.add_parent add_parent
    parent-says i k s l e b p h acc = go (ltb p A.start) refl
      where
        past : A.start ≤ p
            → cond (eqb (get_or flags (p - A.start) 0) 0) (add acc (get_or (numbers_from A.start flags) (p - A.start) 0))
            (foldl add acc (get_or (map (slot_list K A) (up_from 0 s)) (K * (p - A.start) + k) []))
            ≡ cond (at A p).erased (foldl add acc (get_or (memo A k i) (p - A.start) [])) (add acc (renumber A p))
        past o =
            let place : get_or (map (slot_list K A) (up_from 0 s)) (K * (p - A.start) + k) [] ≡ list_of A k (p - A.start) =
            get_or-map-up_from (slot_list K A) 0 s (K * (p - A.start) + k) [] (let under : p - A.start < i = omega arith in omega (arith, mul-le-mul_left K under))
            ∙ ap (slot_list K A) (zero-add (K * (p - A.start) + k)) ∙ slot-list K served A (p - A.start) k l in
            rw (numbers-new p o (omega arith), place, memo-list k i (p - A.start) (omega arith), erased-says p)
            (either (eqb (get_or flags (p - A.start) 0) 0) (add acc (renumber A p)) (foldl add acc (list_of A k (p - A.start))))

        go : (b : Bool) → ltb p A.start ≡ b
            → NewLists.add_parent K A.start flags (numbers_from A.start flags) k (map (slot_list K A) (up_from 0 s)) acc p ≡ add_parent A (memo A k i) acc p
        go true t = rw t
        go false t = rw t (past (ltb-false p A.start t))

    new-slot : (s : ℕ) → s < length slots
        → new_list K A.start flags (numbers_from A.start flags) (s % K) (map (slot_list K A) (up_from 0 s)) (get_or slots s []) ≡ slot_list K A s
    unfolding new_list Valid parents_of at
    new-slot s h =
        let i : ℕ = s / K in
        let k : ℕ = s % K in
        let l : k < K = kind-under K s served.some in
        let e : s ≡ K * i + k = sym (slot-parts K s) in
        let b : i < length A.events = row_under K (length A.events) s served.some (omega (arith, all_slots)) in
        let q : A.start + i - A.start ≡ i = omega arith in
        let ps : get_or slots s [] ≡ parents_of k (at A (A.start + i)) =
        ap₂ (λ (ls : List (List ℕ)) (j : ℕ). get_or ls j []) (sym c.lists) e ∙ slot-says K served A.events i k c.wide b l
        ∙ ap (λ (j : ℕ). get_or (get_or A.events j blank).parents k []) (sym q) in
        rw ps
        (fold_same (NewLists.add_parent K A.start flags (numbers_from A.start flags) k (map (slot_list K A) (up_from 0 s))) (add_parent A (memo A k i)) []
        (parents_of k (at A (A.start + i)))
        (each-imp (λ p. p < A.start + i)
        (λ p. (a : List ℕ) → NewLists.add_parent K A.start flags (numbers_from A.start flags) k (map (slot_list K A) (up_from 0 s)) a p ≡ add_parent A (memo A k i) a p)
        (parents_of k (at A (A.start + i))) (parent-says i k s l e b) (v k (A.start + i) (omega arith)))
        ∙ memo-next k i)

    made : (s : ℕ) → s ≤ length slots → new_lists_from K A.start flags (numbers_from A.start flags) [] (take s slots) ≡ map (slot_list K A) (up_from 0 s)
    unfolding new_lists_from up_from
    made zero h = refl
    made (suc s) h =
        rw (
          take-suc slots s [] h,
          lists-snoc K served A.start flags (numbers_from A.start flags) [] (take s slots) (get_or slots s []),
          made s (omega arith),
          length-map-up_from (slot_list K A) 0 s,
          new-slot s h,
        )
        (sym (map-up_from-snoc (slot_list K A) 0 s ∙ ap (λ (j : ℕ). map (slot_list K A) (up_from 0 s) ++ (slot_list K A j ∷ [])) (zero-add s)))

    -- new lists, slot by slot
    pub new-lists : new_lists K A.start flags slots ≡ map (slot_list K A) (up_from 0 (K * length A.events))
    unfolding new_lists
    new-lists =
        ap (new_lists_from K A.start flags (numbers_from A.start flags) []) (sym (take-length slots)) ∙ made (length slots) (omega arith)
        ∙ ap (λ (n : ℕ). map (slot_list K A) (up_from 0 n)) all_slots

    -- slot kinds × i + k is the i-th list of kind k of the archive's tables
    pub slot-new : (i k : ℕ) → i < length A.events → k < K → get_or (new_lists K A.start flags slots) (K * i + k) [] ≡ get_or (get_or (tables K A) k []) i []
    unfolding tables
    slot-new i k h l =
        rw (new-lists, get_or-map-up_from (λ j. memo A j (length A.events)) 0 K k [] l, zero-add k, memo-list k (length A.events) i h)
        (get_or-map-up_from (slot_list K A) 0 (K * length A.events) (K * i + k) [] (slot-under K (length A.events) i k h l)
        ∙ ap (slot_list K A) (zero-add (K * i + k)) ∙ slot-list K served A i k l)

    -- the entries of all new lists (43)
    pub entries-new : entries (tables K A) ≡ length (joined (new_lists K A.start flags slots))
    unfolding entries tables
    entries-new =
        sum-map (sum length) (λ k. memo A k (length A.events)) (up_from 0 K)
        ∙ sym (ap (λ (ls : List (List ℕ)). length (joined ls)) new-lists
        ∙ length-joined (map (slot_list K A) (up_from 0 (K * length A.events)))
        ∙ sum-map length (slot_list K A) (up_from 0 (K * length A.events))
        ∙ sum-slots K served (λ k i. length (list_of A k i)) (length A.events)
        ∙ rows)
      where
        row : (k : ℕ) → sum (λ i. length (list_of A k i)) (up_from 0 (length A.events)) ≡ sum length (memo A k (length A.events))
        row k = sym (ap (sum length) (memo-right A k v (length A.events)) ∙ sum-map length (list_of A k) (up_from 0 (length A.events)))

        rows : sum (λ k. sum (λ i. length (list_of A k i)) (up_from 0 (length A.events))) (up_from 0 K)
            ≡ sum (λ k. sum length (memo A k (length A.events))) (up_from 0 K)
        rows =
            sum-ext (λ k. sum (λ i. length (list_of A k i)) (up_from 0 (length A.events))) (λ k. sum length (memo A k (length A.events))) (up_from 0 K)
            (each_all (λ k. sum (λ i. length (list_of A k i)) (up_from 0 (length A.events)) ≡ sum length (memo A k (length A.events))) row (up_from 0 K))

-- ── reparented survivors ─────────────────────────────────────────────────────────────────────

any_same : (f g : ℕ → Bool) → ((p : ℕ) → f p ≡ g p) → (ps : List ℕ) → any f ps ≡ any g ps
unfolding any
any_same f g h [] = refl
any_same f g h (p ∷ ps) = rw (h p, any_same f g h ps)

-- survivors that pass a test, found among all places
filter-survivors : (P R : ℕ → Bool) (j n : ℕ) (es : List Event) → ((i : ℕ) → i < length es → P (j + i) ≡ (not (get_or es i blank).erased && R (n + i)))
    → length (filter P (up_from j (length es))) ≡ length (filter R (survivors_from n es))
unfolding filter up_from survivors_from
filter-survivors P R j n [] h = refl
filter-survivors P R j n (x ∷ es) h =
    let first : P j ≡ (not x.erased && R n) = ap P (sym (add-zero j)) ∙ h 0 (omega arith) ∙ ap (λ (m : ℕ). not x.erased && R m) (add-zero n) in
    go x.erased (R n) refl first
    (filter-survivors P R (suc j) (suc n) es
    (λ i l. ap P {x = suc j + i} {y = j + suc i} (omega arith) ∙ h (suc i) (omega arith)
    ∙ ap (λ (m : ℕ). not (get_or es i blank).erased && R m) {x = n + suc i} {y = suc n + i} (omega arith)))
  where
    go : (b r : Bool) → R n ≡ r → P j ≡ (not b && r) → length (filter P (up_from (suc j) (length es))) ≡ length (filter R (survivors_from (suc n) es))
        → length (cond (P j) (j ∷ filter P (up_from (suc j) (length es))) (filter P (up_from (suc j) (length es))))
        ≡ length (filter R (cond b (survivors_from (suc n) es) (n ∷ survivors_from (suc n) es)))
    go true r e f h = rw f h
    go false true e f h = rw (f, e, h)
    go false false e f h = rw (f, e) h

module _ (K : ℕ) (served : Served K) (A : Archive) (flags : List ℕ) (slots : List (List ℕ)) (c : Columns K A flags slots) where
  passes-says : (p : ℕ) → is_erased A.start flags p ≡ passes A p
  unfolding is_erased passes
  passes-says p = ap (cond (ltb p A.start) false) (sym (erased-says K served A flags slots c p))

  reparented-says : (i : ℕ) → i < length A.events
      → Reparented.is_reparented K A.start flags slots (0 + i) ≡ (not (get_or A.events i blank).erased && is_reparented A (A.start + i))
  unfolding Reparented.is_reparented is_reparented at
  reparented-says i h =
      let q : A.start + i - A.start ≡ i = omega arith in
      rw (
        zero-add i,
        ← c.lists,
        event-slots K served A.events i c.wide h,
        q,
        flag-says A.events flags c.erased i,
        any_same (is_erased A.start flags) (passes A) passes-says (joined (get_or A.events i blank).parents),
      )
      (ap (λ (b : Bool). b && any (passes A) (joined (get_or A.events i blank).parents)) (sym (twice (eqb (get_or flags i 0) 0))))
    where
      twice : (b : Bool) → not (not b) ≡ b
      twice true = refl
      twice false = refl

  -- the reparented count is the archive's
  pub reparented-new : Reparented.reparented K A.start flags slots ≡ reparented A
  unfolding Reparented.reparented reparented Cleaning.survivors
  reparented-new =
      ap (λ (n : ℕ). length (filter (Reparented.is_reparented K A.start flags slots) (up_from 0 n))) (sym (flags-length A.events flags c.erased))
      ∙ filter-survivors (Reparented.is_reparented K A.start flags slots) (is_reparented A) 0 A.start A.events reparented-says
