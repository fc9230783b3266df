-- What is held stays valid with a file more: counts within the limits, records of rows that are there, parents before their children.
use mathlib.Core.Path.{◌≡◌, refl, sym, ◌∙◌, ap}
use mathlib.Core.Bool.{Bool, true, false, cond}
use mathlib.Core.List.{List, [], ◌∷◌, ◌++◌}
use mathlib.Core.Logic.{◌⊎◌, inl, inr}
use mathlib.Core.Option.{Option, none, some}
use Prim.Native.Nat.{ℕ, suc, ◌≤◌, ◌<◌, ◌+◌, ◌*◌}
use native.Mathlib.Nat.{add-zero}
use native.Mathlib.Omega.{arith}
use lib.Dec.{ltb, leb}
use lib.ListN.{length}
use borrow.Author.Tests.{le-leb, lt-ltb, leb-true, ltb-true, eq-eqb, ne_eqb}
use Rattle.lists.specs.Lists.{all, Each}
use Rattle.lists.proofs.Tests.{both, all-each, all-of}
use Rattle.lists.proofs.Each.{each_append, each-imp}
use Rattle.lists.proofs.From.{EachFrom}
use Rattle.columns.specs.Limits.{kinds}
use Rattle.columns.specs.EdgeSet.{event_of}
use Rattle.columns.specs.Building.{in_file}
use Rattle.archive.specs.File.{CoverColumns}
use Rattle.cleaning.specs.Taking.{stored_link_count}
use Rattle.cleaning.proofs.Sides.{SlotBelow}
use Rattle.run_state.specs.declared.Subject.{Subject}
use Rattle.run_state.specs.declared.Groups.{Groups}
use Rattle.run_state.specs.declared.Links.{Links}
use Rattle.run_state.specs.Valid.{below, earlier}
use Rattle.run_store.specs.parts.Grown.{links_with, groups_new, groups_joined, groups_with, subject_new}
use Rattle.run_store.specs.joined.Joined.{links_more}

-- ── counts ───────────────────────────────────────────────────────────────────────────────────

pub subject-length : (b : Bool) (s : Subject) (bytes : List ℕ) → s.length ≤ 255 → length bytes ≤ 255 → (cond b (subject_new s bytes) s).length ≤ 255
unfolding subject_new
subject-length true s bytes h k = k
subject-length false s bytes h k = h

pub groups-few : (g : Groups) (n flag least greatest : ℕ) (covered : Bool) → (n ≡ g.count) ⊎ (n + 1 ≡ g.count) → n < 16
    → (groups_with g n flag least greatest covered).count ≤ 16
unfolding groups_with groups_new groups_joined
groups-few g n flag least greatest covered (inl e) h = rw (eq-eqb n g.count e) (omega arith)
groups-few g n flag least greatest covered (inr e) h = rw (ne_eqb n g.count (λ f. omega arith)) (omega arith)

pub links-count : (l : Links) (group : ℕ) (c : Option CoverColumns) → (links_more l group c).count ≡ l.count + stored_link_count c
unfolding links_more links_with
links-count l group none = sym (add-zero l.count)
links-count l group (some c) = refl

-- ── numbers of rows ──────────────────────────────────────────────────────────────────────────

in-file : (first end x : ℕ) → in_file first end x ≡ true → (first ≤ x) × (x < end)
unfolding in_file
in-file first end x e = let p = both (leb first x) (ltb x end) e in (leb-true first x p.0, ltb-true x end p.1)

file-in : (first end x : ℕ) → first ≤ x → x < end → in_file first end x ≡ true
unfolding in_file
file-in first end x h k = rw (le-leb first x h, lt-ltb x end k)

-- children that are held and those of a file that starts where the rows end
pub children-in : (start start' n m first : ℕ) (xs ys : List ℕ) → start' + n ≡ first → (0 < n → start' ≡ start) → all (in_file start (start + n)) xs ≡ true
    → Each (λ y. (first ≤ y) × (y < first + m)) ys → all (in_file start' (start' + (n + m))) (xs ++ ys) ≡ true
children-in start start' n m first xs ys e s h k =
    all-of (in_file start' (start' + (n + m))) (xs ++ ys) (each_append (λ x. in_file start' (start' + (n + m)) x ≡ true) xs ys
    (each-imp (λ x. in_file start (start + n) x ≡ true) (λ x. in_file start' (start' + (n + m)) x ≡ true) xs
    (λ x t. let p = in-file start (start + n) x t in
    let z = s (omega (arith, p.0, p.1)) in
    file-in start' (start' + (n + m)) x (omega (arith, p.0)) (omega (arith, p.1)))
    (all-each (in_file start (start + n)) xs h))
    (each-imp (λ y. (first ≤ y) × (y < first + m)) (λ y. in_file start' (start' + (n + m)) y ≡ true) ys
    (λ y t. file-in start' (start' + (n + m)) y (omega (arith, t.0)) (omega (arith, t.1))) k))

pub roots-below : (n m : ℕ) (xs ys : List ℕ) → all (below n) xs ≡ true → Each (λ y. y < n + m) ys → all (below (n + m)) (xs ++ ys) ≡ true
unfolding below
roots-below n m xs ys h k =
    all-of (below (n + m)) (xs ++ ys) (each_append (λ x. ltb x (n + m) ≡ true) xs ys
    (each-imp (λ x. ltb x n ≡ true) (λ x. ltb x (n + m) ≡ true) xs (λ x t. lt-ltb x (n + m) (omega (arith, ltb-true x n t))) (all-each (below n) xs h))
    (each-imp (λ y. y < n + m) (λ y. ltb y (n + m) ≡ true) ys (λ y t. lt-ltb y (n + m) t) k))

-- ── parents ──────────────────────────────────────────────────────────────────────────────────

earlier-append : (first slot : ℕ) (ks ls : List (List ℕ)) → earlier first slot ks ≡ true → earlier first (slot + length ks) ls ≡ true → earlier first slot (ks ++ ls) ≡ true
unfolding earlier
earlier-append first slot [] ls h k = rw (add-zero slot) at k
earlier-append first slot (x ∷ ks) ls h k =
    let p = both (all (below (event_of kinds first slot)) x) (earlier first (suc slot) ks) h in
    let z : slot + suc (length ks) ≡ suc slot + length ks = omega arith in
    rw p.0 (earlier-append first (suc slot) ks ls p.1 (ap (λ i. earlier first i ls) (sym z) ∙ k))

event-on : (first start n slot : ℕ) → start + n ≡ first → event_of kinds start (kinds * n + slot) ≡ event_of kinds first slot
event-on first start n slot e = omega arith

earlier-of : (first start n slot : ℕ) (ls : List (List ℕ)) → start + n ≡ first → EachFrom (SlotBelow kinds first) slot ls → earlier start (kinds * n + slot) ls ≡ true
unfolding earlier below
earlier-of first start n slot [] e h = refl
earlier-of first start n slot (x ∷ ls) e h =
    let z = event-on first start n slot e in
    let y : suc (kinds * n + slot) ≡ kinds * n + suc slot = omega arith in
    rw (
      z,
      all-of (λ p. ltb p (event_of kinds first slot)) x (each-imp (λ p. suc p ≤ event_of kinds first slot) (λ p. ltb p (event_of kinds first slot) ≡ true) x
          (λ p t. lt-ltb p (event_of kinds first slot) t) h.0),
      y,
    )
    (earlier-of first start n (suc slot) ls e h.1)

pub parents-earlier : (start start' n first : ℕ) (ks ls : List (List ℕ)) → start' + n ≡ first → (0 < n → start' ≡ start) → length ks ≡ kinds * n
    → earlier start 0 ks ≡ true → EachFrom (SlotBelow kinds first) 0 ls → earlier start' 0 (ks ++ ls) ≡ true
unfolding earlier
parents-earlier start start' n first [] ls e s l h k =
    let z : n ≡ 0 = omega arith in
    ap (λ i. earlier start' i ls) (omega (arith, z)) ∙ earlier-of first start' n 0 ls e k
parents-earlier start start' n first (x ∷ ks) ls e s l h k =
    let z : start' ≡ start = s (omega arith) in
    earlier-append start' 0 (x ∷ ks) ls (ap (λ i. earlier i 0 (x ∷ ks)) z ∙ h)
    (ap (λ i. earlier start' i ls) (omega (arith, l)) ∙ earlier-of first start' n 0 ls e k)
