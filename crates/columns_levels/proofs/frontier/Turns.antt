-- What the steps of a level do: numbers copied, a level laid behind what was visited, and the keys after it.
use mathlib.Core.Path.{◌≡◌, refl, sym, ◌∙◌, ap}
use mathlib.Core.Bool.{Bool, true, false, not, ◌||◌}
use mathlib.Core.List.{List, [], ◌++◌, append_assoc}
use Prim.Native.Nat.{ℕ, zero, suc, ◌≤◌, ◌<◌, ◌+◌, ◌-◌, min}
use native.Mathlib.Numerals.{add-one}
use native.Mathlib.Nat.{add-suc}
use native.Mathlib.Omega.{arith}
use lib.Dec.{ltb}
use lib.ListN.{length, take, drop, get_or, set, length-take, length-drop, length-append}
use lib.Seq.{slice, sets, slice-cons, length-slice, length-take-le, length-sets, sets-eq, drop_at, take_at, take_all, take-append-le}
use borrow.Author.Tests.{ltb-true, ltb-false}
use Rattle.lists.specs.Lists.{mem, flat, filter, once}
use Rattle.lists.specs.Order.{sort}
use Rattle.lists.proofs.Once.{mem-append}
use Rattle.lists.proofs.Rising.{mem-sort, length-sort}
use Rattle.lists.proofs.Slices.{slice-none, take_none, slice-behind, front-back}
use Rattle.columns.specs.Walk.{level}
use Rattle.arrays.specs.sorting.Ordered.{part_sorted}
use Rattle.arrays.specs.table.Table.{Table, adds_cap, Keys}
use Rattle.columns_levels.specs.frontier.Frontier.{parents_in, copied, hits_in, Laid, Seen}
use Rattle.columns_levels.proofs.frontier.Slots.{all-parents-in}
use Rattle.columns_levels.proofs.frontier.Fresh.{new_from, made_all, level-new}

-- ── copy ─────────────────────────────────────────────────────────────────────────────────────

module _ {t : List ℕ} (l src : List ℕ) (at from k i : ℕ) (e : t ≡ copied l (at + i) (slice (from + i) (from + k) src)) where
  pub copy_done : k ≤ i → l ≡ t
  unfolding copied
  copy_done h = rw (e, slice-none (from + i) (from + k) src (omega arith))

  pub copy-turn : i < k → from + k ≤ length src → t ≡ copied (set l (at + i) (get_or src (from + i) 0)) (at + (i + 1)) (slice (from + (i + 1)) (from + k) src)
  unfolding copied
  copy-turn h j = rw (e, slice-cons (from + i) (from + k) src 0 (omega arith) j, add-one, add-suc, add-suc)

pub copy-starts : (l src : List ℕ) (at from k : ℕ) → copied l at (slice from (from + k) src) ≡ copied l (at + 0) (slice (from + 0) (from + k) src)
copy-starts l src at from k = let a : at + 0 ≡ at = omega arith in let b : from + 0 ≡ from = omega arith in rw (a, b)

-- ── gather ───────────────────────────────────────────────────────────────────────────────────

shorter : (m j k : ℕ) (l : List ℕ) → m ≡ min k j → length l ≡ k → take m l ≡ take j l
shorter m j k l e f = go (ltb j k) refl
  where
    go : (b : Bool) → ltb j k ≡ b → take m l ≡ take j l
    go true g = let z : m ≡ j = omega (arith, e, ltb-true j k g) in ap (λ (i : ℕ). take i l) z
    go false g = let h = ltb-false j k g in take_all m l (omega (arith, e, f)) ∙ sym (take_all j l (omega (arith, f)))

slice_at : (a b : List ℕ) (base m : ℕ) → length a ≡ base → slice base (base + m) (a ++ b) ≡ take m b
slice_at a b base m e = rw (← e) (slice-behind a b m)

module _ (buf keys buf₁ buf₂ : List ℕ) (base left n r m : ℕ) (e1 : buf₁ ≡ copied buf base (slice n (n + (r - n)) keys)) (e2 : buf₂ ≡ part_sorted base (base + (r - n)) buf₁) (em : m ≡ min (r - n) left)
    (h1 : n ≤ r) (h2 : r ≤ length keys) (h3 : base + (r - n) ≤ length buf) where
  nr : n + (r - n) ≡ r
  nr = omega arith

  long : length (slice n r keys) ≡ r - n
  long = length-slice n r keys h2

  low : length (take base buf) ≡ base
  low = length-take-le base buf (omega arith)

  laid : buf₁ ≡ take base buf ++ (slice n r keys ++ drop (base + (r - n)) buf)
  unfolding copied
  laid =
      e1 ∙ ap (λ (j : ℕ). sets buf base (slice n j keys)) nr ∙ sets-eq (slice n r keys) buf base (omega (arith, long))
      ∙ append_assoc (take base buf) (slice n r keys) (drop (base + length (slice n r keys)) buf)
      ∙ ap (λ (j : ℕ). take base buf ++ (slice n r keys ++ drop (base + j) buf)) long

  mid : slice base (base + (r - n)) buf₁ ≡ slice n r keys
  mid = rw laid (slice_at (take base buf) (slice n r keys ++ drop (base + (r - n)) buf) base (r - n) low ∙ take_at (slice n r keys) (drop (base + (r - n)) buf) (r - n) long)

  front : take base buf₁ ≡ take base buf
  front = rw laid (take_at (take base buf) (slice n r keys ++ drop (base + (r - n)) buf) base low)

  rest : List ℕ
  rest = drop (base + (r - n)) buf₁

  parts : buf₂ ≡ take base buf ++ (sort (slice n r keys) ++ drop (base + (r - n)) buf₁)
  unfolding part_sorted
  parts = e2 ∙ rw (mid, front)

  same_size : length buf₁ ≡ length buf
  unfolding copied
  same_size = ap length e1 ∙ length-sets buf base (slice n (n + (r - n)) keys)

  sorted-size : length (sort (slice n r keys)) ≡ r - n
  sorted-size = length-sort (slice n r keys) ∙ long

  size : length buf₂ ≡ length buf
  size =
      ap length parts ∙ length-append (take base buf) (sort (slice n r keys) ++ drop (base + (r - n)) buf₁)
      ∙ omega (arith, low, length-append (sort (slice n r keys)) (drop (base + (r - n)) buf₁), sorted-size, length-drop (base + (r - n)) buf₁, same_size)

  pub gathered : Laid base buf buf₂ (base + m) (take left (sort (slice n r keys)))
  gathered = record {
    more = omega arith;
    upto = omega (arith, size, em);
    size = size;
    below = rw parts (take_at (take base buf) (sort (slice n r keys) ++ drop (base + (r - n)) buf₁) base low);
    list = rw parts (slice_at (take base buf) (sort (slice n r keys) ++ drop (base + (r - n)) buf₁) base m low
        ∙ take-append-le m (sort (slice n r keys)) (drop (base + (r - n)) buf₁) (omega (arith, sorted-size, em)) ∙ shorter m left (r - n) (sort (slice n r keys)) em sorted-size);
  }

-- ── a level ──────────────────────────────────────────────────────────────────────────────────

moved : (base e : ℕ) (was is x y : List ℕ) → x ≡ y → Laid base was is e x → Laid base was is e y
moved base e was is x y q g = record { more = g.more; upto = g.upto; size = g.size; below = g.below; list = g.list ∙ q }

level-zero : (p : ℕ → List ℕ) (visited frontier x : List ℕ) → take 0 x ≡ level p 0 visited frontier
unfolding level
level-zero p visited frontier x = take_none x ∙ sym (take_none (sort (once (filter (λ n. not (mem n visited)) (flat p frontier)))))

module _ (K first kind left n r : ℕ) (offsets targets visited frontier keys keys' : List ℕ) (q : Seen left n visited keys targets)
    (k : Keys keys keys' n r (flat (parents_in K first kind offsets targets) frontier)) (u : n ≤ length keys) where
  new : List ℕ
  new = new_from visited [] (flat (parents_in K first kind offsets targets) frontier)

  all_made : 0 < left → (adds_cap (length keys) (take n keys) (flat (parents_in K first kind offsets targets) frontier) ≡ take n keys
      ++ new_from visited [] (flat (parents_in K first kind offsets targets) frontier))
      × (length (take n keys ++ new_from visited [] (flat (parents_in K first kind offsets targets) frontier)) ≤ hits_in
      (take n keys ++ new_from visited [] (flat (parents_in K first kind offsets targets) frontier)) q.bound)
  all_made h =
      made_all (length keys) (take n keys) q.bound visited (q.same h) q.fits (flat (parents_in K first kind offsets targets) frontier)
      (λ x e. q.every x (all-parents-in K first kind offsets targets frontier x e)) (q.within h)

  keys-new : 0 < left → take r keys' ≡ take n keys ++ new_from visited [] (flat (parents_in K first kind offsets targets) frontier)
  keys-new h = k.are ∙ (all_made h).0

  pub slice-new : 0 < left → slice n r keys' ≡ new_from visited [] (flat (parents_in K first kind offsets targets) frontier)
  slice-new h =
      ap (λ (l : List ℕ). drop n l) (keys-new h) ∙ drop_at (take n keys) (new_from visited [] (flat (parents_in K first kind offsets targets) frontier)) n (length-take-le n keys u)

  pub by-keys : take left (sort (slice n r keys')) ≡ level (parents_in K first kind offsets targets) left visited frontier
  by-keys = go left refl
    where
      go : (j : ℕ) → left ≡ j → take left (sort (slice n r keys')) ≡ level (parents_in K first kind offsets targets) left visited frontier
      go zero e = rw e (level-zero (parents_in K first kind offsets targets) visited frontier (sort (slice n r keys')))
      go (suc j) e = rw (slice-new (omega (arith, e))) (level-new (parents_in K first kind offsets targets) left visited frontier)

  pub seen-after : (m e : ℕ) (buf buf' : List ℕ) → visited ≡ take m buf → Laid m buf buf' e (take left (sort (slice n r keys'))) → e ≤ m + left
      → Seen (left - (e - m)) r (take e buf') keys' targets
  seen-after m e buf buf' f x a = record {
    bound = q.bound;
    fits = rw k.size q.fits;
    every = q.every;
    same = λ h y. same_mem h y;
    within = λ h. rw (keys-new (omega (arith, h))) (all_made (omega (arith, h))).1;
  }
    where
      rest : 0 < left - (e - m) → slice m e buf' ≡ sort (slice n r keys')
      rest h =
          let l1 : length (slice m e buf') ≡ e - m = length-slice m e buf' x.upto in
          let l2 : length (take left (sort (slice n r keys'))) ≡ min left (length (sort (slice n r keys'))) = length-take left (sort (slice n r keys')) in
          let l3 : length (slice m e buf') ≡ length (take left (sort (slice n r keys'))) = ap length x.list in
          x.list ∙ take_all left (sort (slice n r keys')) (omega (arith, h, l1, l2, l3))

      same_mem : 0 < left - (e - m) → (y : ℕ) → mem y (take r keys') ≡ mem y (take e buf')
      same_mem h y =
          let j : 0 < left = omega (arith, h) in
          let w : take e buf' ≡ visited ++ sort (slice n r keys') =
          sym (front-back m e buf' x.more) ∙ ap (λ (l : List ℕ). l ++ slice m e buf') (x.below ∙ sym f) ∙ ap (λ (l : List ℕ). visited ++ l) (rest h) in
          ap (λ (l : List ℕ). mem y l) (keys-new j ∙ ap (λ (l : List ℕ). take n keys ++ l) (sym (slice-new j))) ∙ mem-append y (take n keys) (slice n r keys')
          ∙ ap (λ (b : Bool). b || mem y (slice n r keys')) (q.same j y) ∙ ap (λ (b : Bool). mem y visited || b) (sym (mem-sort y (slice n r keys')))
          ∙ sym (mem-append y visited (sort (slice n r keys'))) ∙ ap (λ (l : List ℕ). mem y l) (sym w)

module _ (K first kind left lo m n r : ℕ) (offsets targets buf keys keys' links heads : List ℕ) (q : Seen left n (take m buf) keys targets)
    (k : Keys keys keys' n r (flat (parents_in K first kind offsets targets) (slice lo m buf))) (tab : Table keys links heads n) (e : ℕ) (buf' : List ℕ)
    (x : Laid m buf buf' e (take left (sort (slice n r keys')))) where
  pub level-laid : Laid m buf buf' e (level (parents_in K first kind offsets targets) left (take m buf) (slice lo m buf))
  level-laid = moved m e buf buf' _ _ (by-keys K first kind left n r offsets targets (take m buf) (slice lo m buf) keys keys' q k tab.upto) x

  pub level-seen : e ≤ m + left → Seen (left - (e - m)) r (take e buf') keys' targets
  level-seen a = seen-after K first kind left n r offsets targets (take m buf) (slice lo m buf) keys keys' q k tab.upto m e buf buf' refl x a

pub keys-more : (keys keys' ps : List ℕ) (n r : ℕ) → Keys keys keys' n r ps → n ≤ r
keys-more keys keys' ps n r x = x.more

pub keys-upto : (keys keys' ps : List ℕ) (n r : ℕ) → Keys keys keys' n r ps → r ≤ length keys'
keys-upto keys keys' ps n r x = x.upto

pub keys-room : (keys keys' ps : List ℕ) (n r m c : ℕ) → Keys keys keys' n r ps → m ≤ n → length keys ≤ c → m + (r - n) ≤ c
keys-room keys keys' ps n r m c x h k = let a = x.more in let b = x.upto in let s = x.size in omega arith

pub keys-work : (keys keys' ps : List ℕ) (n r c : ℕ) → Keys keys keys' n r ps → length keys ≤ c → r - n ≤ c
keys-work keys keys' ps n r c x k = let b = x.upto in let s = x.size in omega arith

pub end_below : (keys keys' ps : List ℕ) (n r m e : ℕ) → Keys keys keys' n r ps → m ≤ n → e ≤ m + (r - n) → e ≤ r
end_below keys keys' ps n r m e x h k = let a = x.more in omega arith

pub in-buf : (keys links heads : List ℕ) (n m c : ℕ) → Table keys links heads n → m ≤ n → length keys ≤ c → m ≤ c
in-buf keys links heads n m c t h k = let u = t.upto in omega arith
