-- What the rules of a taking give of its sources: each is sound by itself and follows the one before it. An archive of such sources is valid.
use mathlib.Core.Path.{◌≡◌, refl, ap₂, ◌∙◌}
use mathlib.Core.Bool.{Bool, true, false, ◌||◌, not, beq, false≢true}
use mathlib.Core.List.{List, [], ◌∷◌, ◌++◌, map}
use mathlib.Core.Logic.{◌⊎◌, inl, inr}
use mathlib.Core.Option.{Option, none, some}
use Prim.Native.Nat.{ℕ, ◌+◌, ◌*◌, ◌≤◌, ◌<◌}
use lib.Dec.{ltb, leb, eqb}
use lib.ListN.{length}
use borrow.Author.Tests.{ltb-true, leb-true, eqb-true, eq-eqb}
use Rattle.lists.specs.Lists.{all, same, last, Each}
use Rattle.lists.proofs.Tests.{both, all-each}
use Rattle.lists.proofs.Each.{each-imp}
use Rattle.columns.specs.Limits.{Served, end64, reference_kinds}
use Rattle.columns.specs.Refusal.{refuse, first_in}
use Rattle.columns.specs.EdgeSet.{forward, reverse, inbound}
use Rattle.columns.specs.Reading.{set_rules}
use Rattle.columns.specs.Building.{subject_ok, numbers_ok, depth_ok, in_file}
use Rattle.columns.specs.declared.refusal.Refusal.TheVariants.{SubjectLength, NumberRange, UnresolvedChild, UnresolvedKind, DepthOrder, RootOutside, GroupOrder}
use Rattle.columns.specs.declared.refusal.Refusal.TheVariants.{SourceOrder, CoverInSome}
use Rattle.archive.specs.File.{Unresolved, CoverColumns, File}
use Rattle.cleaning.specs.Source.{Source, cover_read, source_of, end_of, is_there}
use Rattle.cleaning.specs.Taking.{group_follows, source_follows, cover_follows, file_end, unresolved_rules, cover_rules, file_rules, files_rules, take_rules}
use Rattle.columns.proofs.FirstBroken.{each_none, each-none-in, passed}
use Rattle.lists.proofs.From.{EachFrom}
use Rattle.cleaning.proofs.Sides.{SlotBelow, each-slot, forward-below}

-- ── a source ─────────────────────────────────────────────────────────────────────────────────

-- an unresolved record of a source: its child is a number of the source, its kind is one of the kinds
abbrev pub RecordIn : Source → Unresolved → Type 0
RecordIn s u = (s.first ≤ u.child) × (u.child < end_of s) × (u.kind < reference_kinds)

pub record Sound (K : ℕ) (s : Source) : Type 0 where
  pub subject : subject_ok s.subject ≡ true
  pub numbers : end_of s < end64
  pub depth : depth_ok s.depth ≡ true
  pub slots : length s.forward ≡ K * length s.rows
  pub below : EachFrom (SlotBelow K s.first) 0 s.forward
  pub roots : Each (λ r. r.row < length s.rows) s.roots
  pub unresolved : Each (RecordIn s) s.unresolved

-- `t` is taken after `s`
pub record Follows (s t : Source) : Type 0 where
  pub subject : t.subject ≡ s.subject
  pub first : t.first ≡ end_of s
  pub group : (t.group ≡ s.group) ⊎ (t.group ≡ s.group + 1)
  pub cover : t.group ≡ s.group → is_there t.cover ≡ is_there s.cover

abbrev pub FollowsLast : Option Source → Source → Type 0
FollowsLast none t = t.group ≡ 0
FollowsLast (some s) t = Follows s t

-- sound sources, each taken after the one before it, the first after `before`
abbrev pub Followed : (K : ℕ) → Option Source → List Source → Type 0
Followed K before [] = Unit {0}
Followed K before (s ∷ ss) = Sound K s × FollowsLast before s × Followed K (some s) ss

-- ── takings one after the other ──────────────────────────────────────────────────────────────

followed-on : (K : ℕ) (served : Served K) (before : Option Source) (s : Source) (ss ts : List Source) → Followed K before (s ∷ ss) → Followed K (last (s ∷ ss)) ts
    → Followed K before (s ∷ (ss ++ ts))
unfolding last
followed-on K served before s [] ts h g = (h.0, h.1, g)
followed-on K served before s (r ∷ rs) ts h g = (h.0, h.1, followed-on K served (some s) r rs ts h.2 g)

pub followed-append : (K : ℕ) (served : Served K) (ss ts : List Source) → Followed K none ss → Followed K (last ss) ts → Followed K none (ss ++ ts)
unfolding last
followed-append K served [] ts h g = g
followed-append K served (s ∷ ss) ts h g = followed-on K served none s ss ts h g

-- ── the rules of a file ──────────────────────────────────────────────────────────────────────

same-eq : (xs ys : List ℕ) → same xs ys ≡ true → xs ≡ ys
unfolding same
same-eq [] [] e = refl
same-eq [] (y ∷ ys) e = absurd (false≢true e)
same-eq (x ∷ xs) [] e = absurd (false≢true e)
same-eq (x ∷ xs) (y ∷ ys) e = let p = both (eqb x y) (same xs ys) e in ap₂ (λ z zs. z ∷ zs) (eqb-true x y p.0) (same-eq xs ys p.1)

pub beq-eq : (a b : Bool) → beq a b ≡ true → a ≡ b
beq-eq true true e = refl
beq-eq true false e = absurd (false≢true e)
beq-eq false true e = absurd (false≢true e)
beq-eq false false e = refl

or-true-cases : (a b : Bool) → (a || b) ≡ true → (a ≡ true) ⊎ (b ≡ true)
or-true-cases true b e = inl refl
or-true-cases false b e = inr e

-- a cover is there as read where it is there as stored
pub there-read : (c : Option CoverColumns) → is_there (cover_read c) ≡ is_there c
there-read none = refl
there-read (some c) = refl

-- 24, 25, 26
looks-back : (K : ℕ) (served : Served K) (before : Option Source) (f : File) → group_follows before f ≡ true → source_follows before f ≡ true → cover_follows before f ≡ true
    → FollowsLast before (source_of K f)
unfolding source_of
looks-back K served none f g s c = eqb-true f.group 0 g
looks-back K served (some b) f g s c = let q = both (same f.subject b.subject) (eqb f.first (end_of b)) s in record {
  subject = same-eq f.subject b.subject q.0;
  first = eqb-true f.first (end_of b) q.1;
  group = elim (or-true-cases (eqb f.group b.group) (eqb f.group (b.group + 1)) g) [
    | inl h ↦ inl (eqb-true f.group b.group h)
    | inr h ↦ inr (eqb-true f.group (b.group + 1) h)
  ];
  cover = λ h. there-read f.cover ∙ beq-eq (is_there f.cover) (is_there b.cover) (rw (eq-eqb f.group b.group h) at c);
}

module _ (K : ℕ) (served : Served K) (before : Option Source) (f : File) (e : file_rules K before f ≡ none) where
  rules : Each (λ t. t ≡ none) (refuse SubjectLength (not (subject_ok f.subject))
      ∷ refuse NumberRange (not (numbers_ok f.first (length f.rows)))
      ∷ refuse DepthOrder (not (depth_ok f.depth))
      ∷ refuse GroupOrder (not (group_follows before f))
      ∷ refuse SourceOrder (not (source_follows before f))
      ∷ refuse CoverInSome (not (cover_follows before f))
      ∷ set_rules K forward f.first (length f.rows) (file_end f) f.forward
      ∷ set_rules K reverse f.first (length f.rows) (file_end f) f.reverse
      ∷ set_rules K inbound f.first (length f.rows) (file_end f) f.inbound
      ∷ refuse RootOutside (not (all (λ r. ltb r.row (length f.rows)) f.roots))
      ∷ first_in (unresolved_rules f) f.unresolved
      ∷ cover_rules f.cover
      ∷ [])
  unfolding file_rules
  rules = each_none _ e

  pub cover-rules : cover_rules f.cover ≡ none
  cover-rules = rules.1.1.1.1.1.1.1.1.1.1.1.0

  record-in : (u : Unresolved) → unresolved_rules f u ≡ none → RecordIn (source_of K f) u
  unfolding unresolved_rules in_file source_of
  record-in u r =
      let q = each_none (refuse UnresolvedChild (not (in_file f.first (file_end f) u.child)) ∷ refuse UnresolvedKind (not (ltb u.kind reference_kinds)) ∷ []) r in
      let i = both (leb f.first u.child) (ltb u.child (file_end f)) (passed UnresolvedChild (in_file f.first (file_end f) u.child) q.0) in
      (leb-true f.first u.child i.0, ltb-true u.child (file_end f) i.1, ltb-true u.kind reference_kinds (passed UnresolvedKind (ltb u.kind reference_kinds) q.1.0))

  sound-source : Sound K (source_of K f)
  unfolding source_of numbers_ok
  sound-source = record {
    subject = passed SubjectLength (subject_ok f.subject) rules.0;
    numbers = ltb-true (file_end f) end64 (passed NumberRange (ltb (file_end f) end64) rules.1.0);
    depth = passed DepthOrder (depth_ok f.depth) rules.1.1.0;
    slots = each-slot K served forward f.first (length f.rows) (file_end f) f.forward rules.1.1.1.1.1.1.0;
    below = forward-below K served f.first (length f.rows) (file_end f) f.forward rules.1.1.1.1.1.1.0;
    roots = each-imp (λ r. ltb r.row (length f.rows) ≡ true) (λ r. r.row < length f.rows) f.roots (λ r t. ltb-true r.row (length f.rows) t)
        (all-each (λ r. ltb r.row (length f.rows)) f.roots
        (passed RootOutside (all (λ r. ltb r.row (length f.rows)) f.roots) rules.1.1.1.1.1.1.1.1.1.0));
    unresolved = each-imp (λ u. unresolved_rules f u ≡ none) (RecordIn (source_of K f)) f.unresolved record-in
        (each-none-in (unresolved_rules f) f.unresolved rules.1.1.1.1.1.1.1.1.1.1.0);
  }

  pub follows-last : FollowsLast before (source_of K f)
  unfolding source_of
  follows-last = looks-back K served before f
      (passed GroupOrder (group_follows before f) rules.1.1.1.0)
      (passed SourceOrder (source_follows before f) rules.1.1.1.1.0)
      (passed CoverInSome (cover_follows before f) rules.1.1.1.1.1.0)

pub taken-followed : (K : ℕ) (served : Served K) (before : Option Source) (fs : List File) → files_rules K before fs ≡ none → Followed K before (map (source_of K) fs)
unfolding files_rules
taken-followed K served before [] e = tt
taken-followed K served before (f ∷ fs) e =
    let h = each_none (file_rules K before f ∷ files_rules K (some (source_of K f)) fs ∷ []) e in
    (sound-source K served before f h.0, follows-last K served before f h.0, taken-followed K served (some (source_of K f)) fs h.1.0)

-- the sources of an accepted taking follow those that the run has
pub taking-followed : (K : ℕ) (served : Served K) (ss : List Source) (fs : List File) → take_rules K ss fs ≡ none → Followed K (last ss) (map (source_of K) fs)
unfolding take_rules
taking-followed K served ss fs e =
    taken-followed K served (last ss) fs (each_none _ e).1.1.1.0
