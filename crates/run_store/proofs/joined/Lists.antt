-- The lists of a set of a file after those that are held: the two tables joined cut out both.
use mathlib.Core.Path.{◌≡◌, refl, sym, ◌∙◌, ap}
use mathlib.Core.Bool.{true}
use mathlib.Core.List.{List, [], ◌∷◌, ◌++◌, map}
use Prim.Native.Nat.{ℕ, suc, ◌≤◌, ◌+◌, ◌*◌}
use native.Mathlib.Nat.{add-zero, add_assoc, zero-add}
use native.Mathlib.Omega.{arith}
use lib.Dec.{leb}
use lib.IntN.{ℤ}
use lib.ListN.{length, take, drop, length-append, length-map, length-drop}
use lib.Seq.{length-take-le}
use borrow.Author.Tests.{le-leb}
use Rattle.lists.specs.Lists.{joined, starts}
use Rattle.lists.proofs.Tests.{both}
use Rattle.lists.proofs.Flat.{joined-append, length-starts}
use Rattle.columns.specs.Limits.{kinds, max_numbers}
use Rattle.columns.specs.EdgeSet.{EdgeSet, from_to, offsets_form, cut, event_of, target_of}
use Rattle.columns.specs.Reading.{targets_from, slots_of}
use Rattle.columns.proofs.Offsets.{form-climbs, form-length, joined-cut, starts-cut}
use Rattle.columns.proofs.ReadBack.{cut-joined, starts-form}
use Rattle.run_state.specs.declared.Edges.{Edges}
use Rattle.run_state.specs.View.{slots_in}
use Rattle.run_state.specs.Valid.{edges_ok}
use Rattle.run_store.specs.parts.Grown.{edges_with}
use Rattle.run_store.proofs.joined.Grows.{sets-take}

-- targets are as many as deltas, list by list
starts-targets : (first slot a : ℕ) (ls : List (List ℤ)) → starts a (targets_from kinds first slot ls) ≡ starts a ls
unfolding starts targets_from
starts-targets first slot a [] = refl
starts-targets first slot a (ds ∷ ls) =
    ap (λ r. a ∷ r) (ap (λ i. starts (a + i) (targets_from kinds first (suc slot) ls)) (length-map ds (target_of (event_of kinds first slot))) ∙ starts-targets first (suc slot) (a + length ds) ls)

joined-targets : (first slot : ℕ) (ls : List (List ℤ)) → length (joined (targets_from kinds first slot ls)) ≡ length (joined ls)
unfolding joined targets_from
joined-targets first slot [] = refl
joined-targets first slot (ds ∷ ls) =
    omega (
      arith,
      length-append (map (target_of (event_of kinds first slot)) ds) (joined (targets_from kinds first (suc slot) ls)),
      length-append ds (joined ls),
      length-map ds (target_of (event_of kinds first slot)),
      joined-targets first (suc slot) ls,
    )

-- ── starts of lists one after the other ──────────────────────────────────────────────────────

starts-moved : {A : Type 0} (m a : ℕ) (ls : List (List A)) → map (λ o. m + o) (starts a ls) ≡ starts (m + a) ls
unfolding starts
starts-moved m a [] = refl
starts-moved m a (l ∷ ls) = ap (λ r. (m + a) ∷ r) (starts-moved m (a + length l) ls ∙ ap (λ i. starts i ls) (sym (add_assoc m a (length l))))

drop-moved : (m : ℕ) (os : List ℕ) → map (λ o. m + o) (drop 1 os) ≡ drop 1 (map (λ o. m + o) os)
drop-moved m [] = refl
drop-moved m (o ∷ os) = refl

starts_first : {A : Type 0} (a : ℕ) (ls : List (List A)) → starts a ls ≡ a ∷ drop 1 (starts a ls)
unfolding starts
starts_first a [] = refl
starts_first a (l ∷ ls) = refl

starts-append : {A : Type 0} (a : ℕ) (ks ls : List (List A)) → starts a ks ++ drop 1 (starts (a + length (joined ks)) ls) ≡ starts a (ks ++ ls)
unfolding starts joined
starts-append a [] ls = rw (add-zero a) (sym (starts_first a ls))
starts-append a (k ∷ ks) ls =
    let z : a + length (k ++ joined ks) ≡ a + length k + length (joined ks) = omega (arith, length-append k (joined ks)) in
    ap (λ r. a ∷ r) (ap (λ i. starts (a + length k) ks ++ drop 1 (starts i ls)) z ∙ starts-append (a + length k) ks ls)

-- ── a set more ───────────────────────────────────────────────────────────────────────────────

module _ (n rows first : ℕ) (e : Edges) (s : EdgeSet) (form : edges_ok n e ≡ true) (more : offsets_form kinds rows s.count s.offsets ≡ true)
    (counted : length s.deltas ≡ s.count) (few : e.count + s.count ≤ 4096) (fit : n + rows ≤ 1024)
    (long : length e.offsets ≡ 2049) (wide : length e.targets ≡ 4096) where
  abbrev os : List ℕ
  os = take (kinds * n + 1) e.offsets

  abbrev xs : List ℕ
  xs = take e.count e.targets

  length-xs : length xs ≡ e.count
  length-xs = length-take-le e.count e.targets (omega arith)

  os-form : offsets_form kinds n e.count os ≡ true
  unfolding edges_ok
  os-form = (both (leb e.count max_numbers) _ form).1

  os-climb : from_to 0 (length xs) os ≡ true
  os-climb = rw length-xs (form-climbs kinds n e.count os os-form)

  ps-climb : from_to 0 (length s.deltas) s.offsets ≡ true
  ps-climb = rw counted (form-climbs kinds rows s.count s.offsets more)

  abbrev ks : List (List ℕ)
  ks = cut os xs

  abbrev ls : List (List ℕ)
  ls = slots_of kinds first s

  ps-starts : s.offsets ≡ starts 0 ls
  unfolding slots_of
  ps-starts = sym (starts-cut s.deltas s.offsets ps-climb) ∙ sym (starts-targets first 0 0 (cut s.offsets s.deltas))

  pub targets-counted : length (joined (slots_of kinds first s)) ≡ s.count
  unfolding slots_of
  targets-counted = joined-targets first 0 (cut s.offsets s.deltas) ∙ ap length (joined-cut s.deltas s.offsets ps-climb) ∙ counted

  length-ks : length (joined ks) ≡ e.count
  length-ks = ap length (joined-cut xs os os-climb) ∙ length-xs

  both-starts : os ++ map (λ o. e.count + o) (drop 1 s.offsets) ≡ starts 0 (ks ++ ls)
  both-starts =
      let a : map (λ o. e.count + o) (drop 1 s.offsets) ≡ drop 1 (starts (0 + length (joined ks)) ls) =
      drop-moved e.count s.offsets ∙ ap (λ r. drop 1 (map (λ o. e.count + o) r)) ps-starts ∙ ap (drop 1) (starts-moved e.count 0 ls)
      ∙ ap (λ i. drop 1 (starts i ls)) (add-zero e.count ∙ sym length-ks ∙ sym (zero-add (length (joined ks)))) in
      ap (λ r. os ++ r) a ∙ ap (λ r. r ++ drop 1 (starts (0 + length (joined ks)) ls)) (sym (starts-cut xs os os-climb)) ∙ starts-append 0 ks ls

  new-offsets : take (kinds * (n + rows) + 1) (edges_with e n first s).offsets ≡ starts 0 (ks ++ ls)
  unfolding edges_with
  new-offsets =
      let l : length (map (λ o. e.count + o) (drop 1 s.offsets)) ≡ kinds * rows =
      omega (arith, length-map (drop 1 s.offsets) (λ o. e.count + o), length-drop 1 s.offsets, form-length kinds rows s.count s.offsets more) in
      sets-take (map (λ o. e.count + o) (drop 1 s.offsets)) e.offsets (kinds * n + 1) (kinds * (n + rows) + 1) (omega arith) (omega arith) ∙ both-starts

  new-targets : take (e.count + s.count) (edges_with e n first s).targets ≡ joined (ks ++ ls)
  unfolding edges_with
  new-targets =
      sets-take (joined ls) e.targets e.count (e.count + s.count) (ap (λ i. e.count + i) targets-counted) (omega arith)
      ∙ ap (λ r. r ++ joined ls) (sym (joined-cut xs os os-climb)) ∙ sym (joined-append ks ls)

  pub slots-grown : slots_in (n + rows) (edges_with e n first s) ≡ slots_in n e ++ slots_of kinds first s
  unfolding slots_in edges_with
  slots-grown = ap (λ o. cut o (take (e.count + s.count) (edges_with e n first s).targets)) new-offsets ∙ ap (cut (starts 0 (ks ++ ls))) new-targets ∙ cut-joined (ks ++ ls)

  length-slots : length (ks ++ ls) ≡ kinds * (n + rows)
  length-slots =
      omega (
        arith,
        length-append ks ls,
        length-starts 0 ks,
        length-starts 0 ls,
        ap length ps-starts,
        ap length (sym (starts-cut xs os os-climb)),
        form-length kinds rows s.count s.offsets more,
        form-length kinds n e.count os os-form,
      )

  pub edges-grown : edges_ok (n + rows) (edges_with e n first s) ≡ true
  unfolding edges_ok edges_with
  edges-grown =
      let c : length (joined (ks ++ ls)) ≡ e.count + s.count = ap length (joined-append ks ls) ∙ omega (arith, length-append (joined ks) (joined ls), length-ks, targets-counted) in
      rw (le-leb (e.count + s.count) max_numbers few, new-offsets, ← c) (starts-form kinds (n + rows) (ks ++ ls) length-slots)
