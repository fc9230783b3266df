-- A walk at its start and at its end: the start is the only key, and what was laid out is handed out.
use mathlib.Core.Path.{◌≡◌, refl, sym, ◌∙◌, ap}
use mathlib.Core.List.{List, [], ◌∷◌, ◌++◌}
use Prim.Native.Nat.{ℕ, suc, ◌≤◌, ◌<◌, ◌+◌, ◌-◌}
use native.Mathlib.Omega.{arith}
use lib.ListN.{length, take, set, length-take, take-append-drop}
use lib.Seq.{slice, sets, length-take-le, length-slice, take-suc-set}
use borrow.Author.Tests.{lt-leb}
use Rattle.lists.specs.Lists.{mem, joined, sum}
use Rattle.lists.proofs.Flat.{length-joined}
use Rattle.lists.proofs.Slices.{take_none, sets-front}
use Rattle.lists.proofs.Once.{mem-later}
use Rattle.columns.specs.Walk.{levels, levels_from}
use Rattle.columns.specs.Answers.{written_in}
use Rattle.arrays.specs.table.Table.{Table, add_cap}
use Rattle.columns_levels.specs.frontier.Frontier.{copied, Seen}
use Rattle.columns_levels.specs.rounds.Rounds.{ends_from, Ran}
use Rattle.columns_levels.proofs.rounds.Closed.{first-within}

-- ── fill ─────────────────────────────────────────────────────────────────────────────────────

only-key : (start n : ℕ) (keys keys' : List ℕ) → take n keys' ≡ add_cap (length keys) (take 0 keys) start → 0 < length keys → take n keys' ≡ start ∷ []
unfolding add_cap mem
only-key start n keys keys' e h = e ∙ rw (take_none keys, lt-leb (length keys) 0 h)

pub one_key : (start n c : ℕ) (keys keys' links heads : List ℕ) → Table keys' links heads n → take n keys' ≡ add_cap (length keys) (take 0 keys) start → length keys ≡ c → 0 < c → 1 ≤ n
one_key start n c keys keys' links heads t e k h =
    let z : length (take n keys') ≡ 1 = ap length (only-key start n keys keys' e (omega arith)) in
    omega (arith, length-take n keys', z)

pub seen_first : (limit start n c d : ℕ) (targets buf keys keys' : List ℕ) → take n keys' ≡ add_cap (length keys) (take 0 keys) start → take 1 buf ≡ start ∷ []
    → length keys ≡ c → length keys' ≡ d → d ≡ c → length targets < c
    → Seen limit n (take 1 buf) keys' targets
seen_first limit start n c d targets buf keys keys' e f k j i h =
    let o : take n keys' ≡ start ∷ [] = only-key start n keys keys' e (omega arith) in
    record {
      bound = start ∷ targets;
      fits = omega arith;
      every = λ x q. mem-later x start targets q;
      same = λ q x. ap (λ (l : List ℕ). mem x l) (o ∙ sym f);
      within = λ q. rw o (first-within start targets);
    }

pub ran-levels : (p : ℕ → List ℕ) (limit start m k : ℕ) (buf ends₀ buf' ends : List ℕ) → Ran (levels_from p limit limit (take 1 buf) (take 1 buf)) ends₀ buf' ends m k → take 1 buf ≡ start ∷ []
    → Ran (levels p limit start) ends₀ buf' ends m k
unfolding levels
ran-levels p limit start m k buf ends₀ buf' ends r e = rw e at r

-- ── hand ─────────────────────────────────────────────────────────────────────────────────────

length-ends : (at : ℕ) (ls : List (List ℕ)) → length (ends_from at ls) ≡ length ls
unfolding ends_from
length-ends at [] = refl
length-ends at (l ∷ ls) = ap suc (length-ends (at + length l) ls)

pub start-set : (start : ℕ) (l : List ℕ) → 0 < length l → take 1 (set l 0 start) ≡ start ∷ []
start-set start l h = take-suc-set l 0 start h ∙ ap (λ (m : List ℕ). m ++ (start ∷ [])) (take_none l)

module _ (ls : List (List ℕ)) (ends₀ buf ends : List ℕ) (m k : ℕ) (r : Ran ls ends₀ buf ends m k) where
  pub counted : ◌≡◌ {A = ℕ × ℕ} (k, m - 1) (length ls, sum length ls)
  counted =
      let a : k ≡ length ls = sym (sym (length-ends 0 ls) ∙ ap length r.stops ∙ length-take-le k ends r.fits) in
      let b : m - 1 ≡ sum length ls = sym (sym (length-joined ls) ∙ ap length r.numbers ∙ length-slice 1 m buf r.upto) in
      rw (a, b)

  pub numbered : (out out' : List ℕ) → out' ≡ copied out 0 (slice 1 (1 + (m - 1)) buf) → length buf ≡ 4097 → 4096 ≤ length out → out' ≡ written_in out (joined ls)
  unfolding copied
  numbered out out' e q h =
      let a = r.start in
      let z : 1 + (m - 1) ≡ m = omega arith in
      let n : length (joined ls) ≡ m - 1 = ap length r.numbers ∙ length-slice 1 m buf r.upto in
      e ∙ ap (λ (j : ℕ). sets out 0 (slice 1 j buf)) z ∙ ap (λ (j : List ℕ). sets out 0 j) (sym r.numbers) ∙ sets-front out (joined ls) (omega (arith, n, r.upto))

  pub ended : ends ≡ written_in ends₀ (ends_from 0 ls)
  ended =
      let n : length (ends_from 0 ls) ≡ k = ap length r.stops ∙ length-take-le k ends r.fits in
      sym (rw (n, r.stops, ← r.past) (take-append-drop k ends))

  pub in-out : (c : ℕ) → length buf ≡ 4097 → 4096 ≤ c → 0 + (m - 1) ≤ c
  in-out c e h = let u = r.upto in omega arith

  pub in-buf : 1 + (m - 1) ≤ length buf
  in-buf = let u = r.upto in let a = r.start in omega arith

  pub from_start : 1 ≤ m
  from_start = r.start
