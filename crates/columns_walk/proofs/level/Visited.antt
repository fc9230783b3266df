-- What was visited as keys, and the keys that the parents of a frontier add.
use mathlib.Core.Path.{◌≡◌, refl, sym, ◌∙◌, ap}
use mathlib.Core.Bool.{true, not, ◌||◌, or-false, or-true, or_assoc}
use mathlib.Core.Logic.{inl, inr}
use mathlib.Core.List.{List, [], ◌∷◌, ◌++◌, foldl}
use Prim.Native.Nat.{ℕ, ◌≤◌, ◌-◌}
use native.Mathlib.Omega.{arith}
use lib.Dec.{eqb}
use lib.ListN.{length, take, length-append}
use lib.Seq.{slice, length-slice, take_all}
use borrow.Author.Tests.{eqb-true}
use Rattle.lists.specs.Lists.{mem, add, once, filter, flat}
use Rattle.lists.proofs.Tests.{tested, both}
use Rattle.lists.proofs.Each.{each_all}
use Rattle.lists.proofs.Filters.{filter-all}
use Rattle.lists.proofs.Rising.{mem-filter}
use Rattle.lists.proofs.Once.{mem-append, add-there, add-new, mem-last}
use Rattle.lists.proofs.Slices.{take_none}
use Rattle.arrays.specs.table.Table.{adds_cap, Keys}
use Rattle.columns_levels.specs.frontier.Frontier.{parents_in, hits_in, Seen}
use Rattle.columns_levels.proofs.frontier.Slots.{all-parents-in}
use Rattle.columns_levels.proofs.frontier.Fresh.{new_from, made_all, hits-le}
use Rattle.columns_levels.proofs.frontier.Turns.{slice-new}
use Rattle.columns_walk.specs.level.Step.{unvisited, News}

-- ── each once ────────────────────────────────────────────────────────────────────────────────

mem-add : (x y : ℕ) (s : List ℕ) → mem x (add s y) ≡ mem x s || eqb x y
mem-add x y s = elim (tested (mem y s)) [
  | inl e ↦ rw (add-there s y e) (elim (tested (eqb x y)) [
    | inl f ↦ let g : mem x s ≡ true = rw (eqb-true x y f) e in rw (f, g)
    | inr f ↦ rw (f, or-false (mem x s))
  ])
  | inr e ↦ rw (add-new s y e) (mem-last x y s)
]

mem-folded : (x : ℕ) (s xs : List ℕ) → mem x (foldl add s xs) ≡ mem x s || mem x xs
unfolding mem
mem-folded x s [] = sym (or-false (mem x s))
mem-folded x s (y ∷ ys) = mem-folded x (add s y) ys ∙ rw (mem-add x y s) (or_assoc (mem x s) (eqb x y) (mem x ys))

-- where nothing was visited all are new
all_new : (xs : List ℕ) → new_from [] [] xs ≡ once xs
unfolding new_from once mem
all_new xs = ap (λ (l : List ℕ). foldl add [] l) (filter-all (λ n. not (mem n [])) xs (each_all (λ x. not (mem x []) ≡ true) (λ x. refl) xs))

mem-new : (x : ℕ) (xs : List ℕ) → mem x (new_from [] [] xs) ≡ mem x xs
unfolding once mem
mem-new x xs = rw (all_new xs) (mem-folded x [] xs)

none-hit : (l : List ℕ) → length {A = ℕ} [] ≤ hits_in [] l
none-hit l = omega arith

-- distinct numbers of a list are no more than the list has
few-once : (ps l : List ℕ) → ((x : ℕ) → mem x ps ≡ true → mem x l ≡ true) → length (once ps) ≤ length l
few-once ps l i =
    let m = (made_all (length l) [] l [] (λ x. refl) (omega arith) ps i (none-hit l)).1 in
    let h = hits-le ([] ++ new_from [] [] ps) l in
    rw (← all_new ps) (omega (arith, m, h))

-- ── find ─────────────────────────────────────────────────────────────────────────────────────

module _ (K n : ℕ) (visited targets keys keys' : List ℕ) (k : Keys keys keys' 0 n (slice 0 (length visited) visited)) (h : length keys ≡ 8192)
    (i : length visited ≤ 4096) (j : length targets ≤ 4096) where
  room-for-all : length (visited ++ targets) ≤ length keys
  room-for-all = rw length-append (omega arith)

  visited-made : (adds_cap (length keys) [] visited ≡ [] ++ new_from [] [] visited) × (length ([] ++ new_from [] [] visited) ≤ hits_in ([] ++ new_from [] [] visited) (visited ++ targets))
  visited-made = made_all (length keys) [] (visited ++ targets) [] (λ x. refl) room-for-all visited (λ x e. mem-append x visited targets ∙ rw e) (none-hit (visited ++ targets))

  visited-keys : take n keys' ≡ new_from [] [] visited
  visited-keys =
      k.are ∙ ap (λ (l : List ℕ). adds_cap (length keys) l (slice 0 (length visited) visited)) (take_none keys)
      ∙ ap (λ (l : List ℕ). adds_cap (length keys) [] l) (take_all (length visited) visited (omega arith)) ∙ visited-made.0

  seen_all : Seen 1 n visited keys' targets
  seen_all = record {
    bound = visited ++ targets;
    fits = rw k.size room-for-all;
    every = λ x e. mem-append x visited targets ∙ rw e (or-true (mem x visited));
    same = λ q x. rw visited-keys (mem-new x visited);
    within = λ q. rw visited-keys visited-made.1;
  }

  module _ (first kind r : ℕ) (offsets frontier keys'' : List ℕ) (g : Keys keys' keys'' n r (flat (parents_in K first kind offsets targets) (slice 0 (length frontier) frontier))) where
    all-parents : (x : ℕ) → mem x (filter (λ n. not (mem n visited)) (flat (parents_in K first kind offsets targets) frontier)) ≡ true → mem x targets ≡ true
    all-parents x e =
        all-parents-in K first kind offsets targets frontier x
        (both _ _ (sym (mem-filter x (λ n. not (mem n visited)) (flat (parents_in K first kind offsets targets) frontier)) ∙ e)).0

    whole : slice 0 (length frontier) frontier ≡ frontier
    whole = take_all (length frontier) frontier (omega arith)

    keys-are : slice n r keys'' ≡ unvisited (parents_in K first kind offsets targets) visited frontier
    unfolding unvisited new_from once
    keys-are = slice-new K first kind 1 n r offsets targets visited frontier keys' keys'' seen_all (rw whole at g) (let u = k.upto in omega arith) (omega arith)

    pub found : News keys'' n r (unvisited (parents_in K first kind offsets targets) visited frontier)
    unfolding unvisited
    found = record {
      more = g.more;
      upto = g.upto;
      few =
          let a : length (slice n r keys'') ≡ r - n = length-slice n r keys'' g.upto in
          let b = few-once (filter (λ n. not (mem n visited)) (flat (parents_in K first kind offsets targets) frontier)) targets all-parents in
          let d : length (slice n r keys'') ≡ length (once (filter (λ n. not (mem n visited)) (flat (parents_in K first kind offsets targets) frontier))) = ap length keys-are in
          omega arith;
      are = keys-are;
    }
