-- Some of the lists of flat columns: where they start and what they hold are parts of where all start and of what all hold.
use mathlib.Core.Path.{◌≡◌, refl, ap, ap₂, sym, ◌∙◌}
use mathlib.Core.List.{List, [], ◌∷◌, map}
use Prim.Native.Nat.{ℕ, zero, suc, ◌+◌, ◌-◌, ◌≤◌}
use native.Mathlib.Omega.{arith}
use native.Mathlib.Nat.{not-suc-le-zero, le_of_suc-le-suc, add-zero}
use lib.ListN.{length, get_or, take, drop, take-append-drop}
use lib.Seq.{take_at, drop_at, take-add}
use Rattle.lists.specs.Lists.{joined, starts, part, sum}
use Rattle.lists.proofs.Flat.{joined-append, length-joined, sum-append, get_or-starts}

module _ {A : Type 0} where
  -- ── entries ────────────────────────────────────────────────────────────────────────────────

  joined-take : (n : ℕ) (ls : List (List A)) → joined (take n ls) ≡ take (sum length (take n ls)) (joined ls)
  joined-take n ls =
      sym (ap (λ ks. take (sum length (take n ls)) (joined ks)) (sym (take-append-drop n ls))
      ∙ ap (take (sum length (take n ls))) (joined-append (take n ls) (drop n ls))
      ∙ take_at (joined (take n ls)) (joined (drop n ls)) (sum length (take n ls)) (length-joined (take n ls)))

  joined-drop : (n : ℕ) (ls : List (List A)) → joined (drop n ls) ≡ drop (sum length (take n ls)) (joined ls)
  joined-drop n ls =
      sym (ap (λ ks. drop (sum length (take n ls)) (joined ks)) (sym (take-append-drop n ls))
      ∙ ap (drop (sum length (take n ls))) (joined-append (take n ls) (drop n ls))
      ∙ drop_at (joined (take n ls)) (joined (drop n ls)) (sum length (take n ls)) (length-joined (take n ls)))

  -- ── where lists start ──────────────────────────────────────────────────────────────────────

  starts-take : (a n : ℕ) (ls : List (List A)) → starts a (take n ls) ≡ take (suc n) (starts a ls)
  unfolding starts
  starts-take a zero [] = refl
  starts-take a zero (l ∷ ls) = refl
  starts-take a (suc n) [] = refl
  starts-take a (suc n) (l ∷ ls) = ap (λ os. a ∷ os) (starts-take (a + length l) n ls)

  starts-drop : (a n : ℕ) (ls : List (List A)) → n ≤ length ls → starts (a + sum length (take n ls)) (drop n ls) ≡ drop n (starts a ls)
  unfolding starts sum
  starts-drop a zero ls h = ap (λ b. starts b ls) (add-zero a)
  starts-drop a (suc n) [] h = absurd (not-suc-le-zero h)
  starts-drop a (suc n) (l ∷ ls) h =
      ap (λ b. starts b (drop n ls)) {x = a + (length l + sum length (take n ls))} {y = a + length l + sum length (take n ls)} (omega arith)
      ∙ starts-drop (a + length l) n ls (le_of_suc-le-suc h)

  -- counted from another start
  starts-less : (a b : ℕ) (ls : List (List A)) → map (λ o. o - b) (starts (b + a) ls) ≡ starts a ls
  unfolding starts
  starts-less a b [] = ap (λ o. o ∷ []) {x = b + a - b} {y = a} (omega arith)
  starts-less a b (l ∷ ls) =
      ap₂ (λ o os. o ∷ os) {x = b + a - b} {y = a} (omega arith)
      (ap (λ c. map (λ o. o - b) (starts c ls)) {x = b + a + length l} {y = b + (a + length l)} (omega arith) ∙ starts-less (a + length l) b ls)

  -- ── a part of the lists ────────────────────────────────────────────────────────────────────

  module _ (i n : ℕ) (ls : List (List A)) (h : i + n ≤ length ls) where
    base : get_or (starts 0 ls) i 0 ≡ sum length (take i ls)
    base = get_or-starts 0 ls i 0 (omega arith) ∙ omega arith

    top : get_or (starts 0 ls) (i + n) 0 ≡ sum length (take i ls) + sum length (part i n ls)
    unfolding part
    top =
        get_or-starts 0 ls (i + n) 0 h ∙ ap (λ ks. 0 + sum length ks) (take-add i n ls)
        ∙ ap (λ m. 0 + m) (sum-append length (take i ls) (take n (drop i ls))) ∙ omega arith

    pub starts-part : starts 0 (part i n ls) ≡ map (λ o. o - get_or (starts 0 ls) i 0) (part i (suc n) (starts 0 ls))
    unfolding part
    starts-part =
        let b = get_or (starts 0 ls) i 0 in
        sym (starts-less 0 b (take n (drop i ls)))
        ∙ ap (map (λ o. o - b))
        (starts-take (b + 0) n (drop i ls)
        ∙ ap (take (suc n)) (ap (λ a. starts a (drop i ls)) {x = b + 0} {y = 0 + sum length (take i ls)} (omega (arith, base)) ∙ starts-drop 0 i ls (omega arith)))

    pub joined-part : joined (part i n ls) ≡ part (get_or (starts 0 ls) i 0) (get_or (starts 0 ls) (i + n) 0 - get_or (starts 0 ls) i 0) (joined ls)
    unfolding part
    joined-part =
        let e : sum length (take n (drop i ls)) ≡ get_or (starts 0 ls) (i + n) 0 - get_or (starts 0 ls) i 0 = omega (arith, base, top) in
        joined-take n (drop i ls) ∙ ap (take (sum length (take n (drop i ls)))) (joined-drop i ls)
        ∙ ap₂ (λ k m. take k (drop m (joined ls))) e (sym base)
