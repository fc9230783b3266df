-- One turn of a walk is one level of its definition, and the walk ends where the definition does.
use mathlib.Core.Path.{◌≡◌, refl, sym, ◌∙◌, ap}
use mathlib.Core.Bool.{true, false}
use mathlib.Core.List.{List, [], ◌∷◌, ◌++◌, append_assoc, append-nil}
use Prim.Native.Nat.{ℕ, zero, suc, ◌≤◌, ◌<◌, ◌+◌, ◌-◌}
use native.Mathlib.Numerals.{add-one}
use native.Mathlib.Omega.{arith}
use lib.ListN.{length, take, drop, set}
use lib.Seq.{slice, slice_empty, length-slice, length-take-le, take-suc-set, drop-set-lt, drop-drop, drop-append-le}
use Rattle.lists.specs.Lists.{is_empty, joined}
use Rattle.lists.proofs.Slices.{front-back, take_none}
use Rattle.columns.specs.Walk.{level, levels_from}
use Rattle.arrays.specs.table.Table.{Table}
use Rattle.columns_levels.specs.frontier.Frontier.{Laid}
use Rattle.columns_levels.specs.rounds.Rounds.{ends_from, Going, Ran}
use Rattle.columns_levels.proofs.targets.Stored.{joined-cons}

-- ── the definition's turns ───────────────────────────────────────────────────────────────────

some-empty : (l : List ℕ) → 0 < length l → is_empty l ≡ false
unfolding is_empty
some-empty [] h = absurd (omega arith)
some-empty (x ∷ xs) h = refl

no_more : is_empty {A = ℕ} [] ≡ true
unfolding is_empty
no_more = refl

levels-stop : (p : ℕ → List ℕ) (f left : ℕ) (visited frontier : List ℕ) → level p left visited frontier ≡ [] → levels_from p f left visited frontier ≡ []
unfolding levels_from
levels-stop p zero left visited frontier e = refl
levels-stop p (suc f) left visited frontier e = rw (e, no_more)

levels-go : (p : ℕ → List ℕ) (f left : ℕ) (visited frontier found : List ℕ) → found ≡ level p left visited frontier → 0 < length found
    → levels_from p (suc f) left visited frontier ≡ found ∷ levels_from p f (left - length found) (visited ++ found) found
unfolding levels_from
levels-go p f left visited frontier found e h = rw (← e, some-empty found h)

joined-none : joined {A = ℕ} [] ≡ []
unfolding joined
joined-none = refl

ends-none : (at : ℕ) → ends_from at [] ≡ []
unfolding ends_from
ends-none at = refl

ends-cons : (at : ℕ) (l : List ℕ) (ls : List (List ℕ)) → ends_from at (l ∷ ls) ≡ (at + length l) ∷ ends_from (at + length l) ls
unfolding ends_from
ends-cons at l ls = refl

-- ── parts of a slice ─────────────────────────────────────────────────────────────────────────

part-part : (m e : ℕ) (l : List ℕ) → 1 ≤ m → m ≤ e → m ≤ length l → slice 1 m l ++ slice m e l ≡ slice 1 e l
part-part m e l a h k =
    sym (ap (λ (j : List ℕ). drop 1 j) (sym (front-back m e l h)) ∙ drop-append-le 1 (take m l) (slice m e l) (let z = length-take-le m l k in omega (arith, z)))

-- ── the turns of the code ────────────────────────────────────────────────────────────────────

pub going-first : (p : ℕ → List ℕ) (limit : ℕ) (buf ends : List ℕ)
    → Going (levels_from p limit limit (take 1 buf) (take 1 buf)) (levels_from p (limit - 0) limit (take 1 buf) (slice 0 1 buf)) buf ends 1 0
going-first p limit buf ends =
    let z : limit - 0 ≡ limit = omega arith in
    rw z (record {
      numbers = ap (λ (l : List ℕ). l ++ joined (levels_from p limit limit (take 1 buf) (take 1 buf))) (sym (slice_empty 1 buf));
      stops = ap (λ (l : List ℕ). l ++ ends_from 0 (levels_from p limit limit (take 1 buf) (take 1 buf))) (sym (take_none ends));
    })

module _ (p : ℕ → List ℕ) (ls : List (List ℕ)) (f left lo m k e : ℕ) (buf buf' ends : List ℕ) (g : Going ls (levels_from p f left (take m buf) (slice lo m buf)) buf ends m k)
    (x : Laid m buf buf' e (level p left (take m buf) (slice lo m buf))) where
  pub run-stop : e ≡ m → k + 1 ≤ m → (n c d : ℕ) (keys links heads ends₀ : List ℕ) → Table keys links heads n → m ≤ n → length keys ≡ c → length ends ≡ d → c ≤ d + 1
      → drop k ends ≡ drop k ends₀ → Ran ls ends₀ buf' ends m k
  run-stop q a n c d keys links heads ends₀ t i j u o w =
      let n : level p left (take m buf) (slice lo m buf) ≡ [] = sym x.list ∙ ap (λ (j : ℕ). slice m j buf') q ∙ slice_empty m buf' in
      let z : levels_from p f left (take m buf) (slice lo m buf) ≡ [] = levels-stop p f left (take m buf) (slice lo m buf) n in
      record {
        start = omega arith;
        upto = let y = x.upto in omega (arith, q);
        numbers = g.numbers ∙ rw (z, joined-none) (append-nil (slice 1 m buf)) ∙ ap (λ (l : List ℕ). drop 1 l) (sym x.below);
        fits = let r = t.upto in omega (arith, r, i, j, u, o, a);
        stops = g.stops ∙ rw (z, ends-none (m - 1)) (append-nil (take k ends));
        past = w;
      }

  module _ (h : e ≡ m → ⊥) (b : 1 ≤ m) (f' : ℕ) (o : f ≡ suc f') (s : m ≤ length buf) where
    more : m < e
    more = let y = x.more in omega (arith, h)

    long : length (slice m e buf') ≡ e - m
    long = length-slice m e buf' x.upto

    step : levels_from p f left (take m buf) (slice lo m buf) ≡ slice m e buf' ∷ levels_from p f' (left - (e - m)) (take e buf') (slice m e buf')
    step =
        let w : take m buf ++ slice m e buf' ≡ take e buf' = ap (λ (l : List ℕ). l ++ slice m e buf') (sym x.below) ∙ front-back m e buf' x.more in
        ap (λ (j : ℕ). levels_from p j left (take m buf) (slice lo m buf)) o
        ∙ levels-go p f' left (take m buf) (slice lo m buf) (slice m e buf') x.list (omega (arith, long, more))
        ∙ rw (long, w)

    pub run_go : (y : ℕ) → y ≡ e - 1 → k < length ends → Going ls (levels_from p f' (left - (e - m)) (take e buf') (slice m e buf')) buf' (set ends k y) e (k + 1)
    run_go y q u =
        let r : List (List ℕ) = levels_from p f' (left - (e - m)) (take e buf') (slice m e buf') in
        let l : m ≤ length buf' = omega (arith, x.size) in
        let n : m - 1 + length (slice m e buf') ≡ e - 1 = omega (arith, long, more) in
        record {
          numbers = g.numbers ∙ ap (λ (d : List (List ℕ)). slice 1 m buf ++ joined d) step ∙ ap (λ (d : List ℕ). slice 1 m buf ++ d) (joined-cons (slice m e buf') r)
              ∙ sym (append_assoc (slice 1 m buf) (slice m e buf') (joined r)) ∙ ap (λ (d : List ℕ). (drop 1 d ++ slice m e buf') ++ joined r) (sym x.below)
              ∙ ap (λ (d : List ℕ). d ++ joined r) (part-part m e buf' b x.more l);
          stops = g.stops ∙ ap (λ (d : List (List ℕ)). take k ends ++ ends_from (m - 1) d) step ∙ ap (λ (d : List ℕ). take k ends ++ d) (ends-cons (m - 1) (slice m e buf') r)
              ∙ rw (n, q, add-one k, take-suc-set ends k (e - 1) u, append_assoc);
        }

pub ends-past : (k w : ℕ) (l l₀ : List ℕ) → drop k l ≡ drop k l₀ → drop (k + 1) (set l k w) ≡ drop (k + 1) l₀
ends-past k w l l₀ e = rw (drop-set-lt (k + 1) l k w (omega arith), ← drop-drop 1 k l, ← drop-drop 1 k l₀, e)

pub run-turn : (p : ℕ → List ℕ) (ls : List (List ℕ)) (limit left lo m k e : ℕ) (buf buf' ends : List ℕ) → Going ls (levels_from p (limit - k) left (take m buf) (slice lo m buf)) buf ends m k
    → Laid m buf buf' e (level p left (take m buf) (slice lo m buf)) → (e ≡ m → ⊥) → e ≤ m + left → left + m ≡ limit + 1 → k + 1 ≤ m → (y : ℕ) → y ≡ e - 1
    → (n c s : ℕ) (keys links heads : List ℕ) → Table keys links heads n → e ≤ n → length keys ≡ c → length ends ≡ s → c ≤ s + 1
    → Going ls (levels_from p (limit - (k + 1)) (left - (e - m)) (take e buf') (slice m e buf')) buf' (set ends k y) e (k + 1)
run-turn p ls limit left lo m k e buf buf' ends g x h a b d y q n c s keys links heads t i j l o =
    let u = x.more in
    let v = x.upto in
    let w = x.size in
    let r = t.upto in
    run_go p ls (limit - k) left lo m k e buf buf' ends g x h (omega arith) (limit - (k + 1)) (omega (arith, h)) (omega (arith, u, v, w)) y q (omega (arith, h, u, r))

pub end-left : (m e left limit : ℕ) (buf buf' new : List ℕ) → Laid m buf buf' e new → e ≤ m + left → left + m ≡ limit + 1 → left - (e - m) + e ≡ limit + 1
end-left m e left limit buf buf' new x a b = let u = x.more in omega arith

pub end_more : (k m e : ℕ) (buf buf' new : List ℕ) → Laid m buf buf' e new → (e ≡ m → ⊥) → k + 1 ≤ m → k + 1 + 1 ≤ e
end_more k m e buf buf' new x h b = let u = x.more in omega (arith, h)

pub end-above : (m e : ℕ) (buf buf' new : List ℕ) → Laid m buf buf' e new → (e ≡ m → ⊥) → m < e
end-above m e buf buf' new x h = let u = x.more in omega (arith, h)

pub end-from : (k m e : ℕ) (buf buf' new : List ℕ) → Laid m buf buf' e new → k + 1 ≤ m → 1 ≤ e
end-from k m e buf buf' new x b = let u = x.more in omega arith

pub laid_more : (m e : ℕ) (buf buf' new : List ℕ) → Laid m buf buf' e new → m ≤ e
laid_more m e buf buf' new x = x.more

pub laid-left : (m e left : ℕ) (buf buf' new : List ℕ) → Laid m buf buf' e new → e ≤ m + left → e - m ≤ left
laid-left m e left buf buf' new x a = let u = x.more in omega arith

pub ends-room : (k m e : ℕ) (buf buf' new ends : List ℕ) (n c s : ℕ) (keys links heads : List ℕ) → Laid m buf buf' e new → (e ≡ m → ⊥) → k + 1 ≤ m → Table keys links heads n → e ≤ n → length keys ≡ c
    → length ends ≡ s → c ≤ s + 1 → k < length ends
ends-room k m e buf buf' new ends n c s keys links heads x h d t i j l o = let u = x.more in let r = t.upto in omega (arith, h, u, r)
