-- What the verdict of a reading says of the set, and the parents that its stored targets have.
use Rattle.std.specs.Prelude.{Err, Ok, Result}
use mathlib.Core.Path.{◌≡◌, refl, sym, ◌∙◌, ap, fun_ext}
use mathlib.Core.List.{List, [], ◌∷◌, ◌++◌, append_assoc}
use mathlib.Core.Option.{Option, none, some}
use Prim.Native.Nat.{ℕ, ◌≤◌}
use native.Mathlib.Omega.{arith}
use lib.ListN.{length, take, drop}
use lib.Seq.{length-take-le}
use Rattle.lists.specs.Lists.{any, joined}
use Rattle.columns.specs.Refusal.{unless, first_of, short, limits}
use Rattle.columns.specs.EdgeSet.{EdgeSet, cut}
use Rattle.columns.specs.Reading.{set_rules, slots_of, set_lengths, decode_set}
use Rattle.columns.specs.Questions.{list_of}
use Rattle.columns.specs.Answers.{room, lent_rules, ruling, in_one, counted_of, written_over}
use Rattle.columns.specs.declared.refusal.Refusal.{Refusal}
use Rattle.columns.proofs.FirstBroken.{each_none}
use Rattle.columns.proofs.Checks.{lent-room}
use Rattle.columns_levels.specs.frontier.Frontier.{parents_in}
use Rattle.columns_levels.proofs.targets.Stored.{stored}

-- ── limits ───────────────────────────────────────────────────────────────────────────────────

no_room : any short (room 4096) ≡ any short []
unfolding any short
no_room = refl

pub same-alone : (K first rows end : ℕ) (s : EdgeSet) → lent_rules K 0 first rows end s (room 4096) ≡ lent_rules K 0 first rows end s []
unfolding lent_rules limits
same-alone K first rows end s = rw no_room

-- ── the reading ──────────────────────────────────────────────────────────────────────────────

module _ (K n first rows end : ℕ) (s : EdgeSet) (r : Result ℕ Refusal) (e : r ≡ counted_of (in_one (decode_set K 0 first rows end s (room n)))) where
  pub was_read : (k : ℕ) → r ≡ Ok k → lent_rules K 0 first rows end s (room n) ≡ none
  unfolding counted_of in_one decode_set lent_rules unless
  was_read k f = go (first_of (limits (rows ∷ []) (set_lengths s) (room n) ∷ set_rules K 0 first rows end s ∷ [])) (sym f ∙ e)
    where
      go : (o : Option Refusal) → Ok k ≡ counted_of (in_one (unless o (slots_of K first s))) → o ≡ none
      go none q = refl
      go (some w) q = let z : ◌≡◌ {A = ℕ} 0 1 = cc in absurd (omega arith)

  pub was-refused : (why : Refusal) → r ≡ Err why → lent_rules K 0 first rows end s (room n) ≡ some why
  unfolding counted_of in_one decode_set lent_rules unless
  was-refused why f = go (first_of (limits (rows ∷ []) (set_lengths s) (room n) ∷ set_rules K 0 first rows end s ∷ [])) (sym f ∙ e)
    where
      go : (o : Option Refusal) → Err why ≡ counted_of (in_one (unless o (slots_of K first s))) → o ≡ some why
      go none q = let z : ◌≡◌ {A = ℕ} 0 1 = cc in absurd (omega arith)
      go (some w) q = let z : w ≡ why = cc in rw z

module _ (K n first rows end : ℕ) (s : EdgeSet) (k : lent_rules K 0 first rows end s (room n) ≡ none) where
  pub whole : 4096 ≤ n
  whole = lent-room K 0 first rows end s n (Ok tt) (ap ruling (sym k)) refl

  kept : set_rules K 0 first rows end s ≡ none
  unfolding lent_rules
  kept = (each_none _ k).1.0

  pub parents-are : (l t : List ℕ) → t ≡ written_over (take n l) (in_one (decode_set K 0 first rows end s (room n))) ++ drop n l → cut s.offsets t ≡ slots_of K first s
  unfolding written_over in_one decode_set lent_rules unless
  parents-are l t e =
      let ts = joined (slots_of K first s) in
      let c : t ≡ (ts ++ drop (length ts) (take n l)) ++ drop n l = rw k at e in
      rw (c, append_assoc ts (drop (length ts) (take n l)) (drop n l)) (stored K 0 first rows end s kept (drop (length ts) (take n l) ++ drop n l))

-- stored targets have the parents of the set
pub parents-fun : (K first kind : ℕ) (offsets t : List ℕ) (lists : List (List ℕ)) → cut offsets t ≡ lists → parents_in K first kind offsets t ≡ list_of K first lists kind
unfolding parents_in
parents-fun K first kind offsets t lists e = fun_ext (λ v. ap (λ (g : List (List ℕ)). list_of K first g kind v) e)

-- ── read ─────────────────────────────────────────────────────────────────────────────────────

pub read_count : (K n first rows end : ℕ) (s : EdgeSet) (l : List ℕ) (r : Result ℕ Refusal) → r ≡ counted_of (in_one (decode_set K 0 first rows end s (room (length (take n l))))) → n ≤ length l
    → r ≡ counted_of (in_one (decode_set K 0 first rows end s (room n)))
read_count K n first rows end s l r e h = e ∙ ap (λ (k : ℕ). counted_of (in_one (decode_set K 0 first rows end s (room k)))) (length-take-le n l h)

pub read-written : (K : ℕ) {t : List ℕ} (n first rows end : ℕ) (s : EdgeSet) (l : List ℕ)
    → t ≡ written_over (take n l) (in_one (decode_set K 0 first rows end s (room (length (take n l))))) → n ≤ length l
    → t ++ drop n l ≡ written_over (take n l) (in_one (decode_set K 0 first rows end s (room n))) ++ drop n l
read-written K n first rows end s l e h = ap (λ (m : List ℕ). m ++ drop n l) (e ∙ ap (λ (k : ℕ). written_over (take n l) (in_one (decode_set K 0 first rows end s (room k)))) (length-take-le n l h))
