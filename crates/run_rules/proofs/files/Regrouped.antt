-- The rules of a file in the groups in which they are tested are its rules.
use mathlib.Core.Path.{◌≡◌, refl, ◌∙◌}
use mathlib.Core.Bool.{Bool, true, false, cond, not}
use mathlib.Core.List.{List, [], ◌∷◌}
use mathlib.Core.Option.{Option, none, some}
use Prim.Native.Nat.{ℕ}
use lib.Dec.{eqb}
use lib.ListN.{length}
use Rattle.columns.specs.Limits.{kinds}
use Rattle.columns.specs.Refusal.{refuse, first_of}
use Rattle.columns.specs.declared.refusal.Refusal.{Refusal}
use Rattle.columns.specs.declared.refusal.Refusal.TheVariants.{GroupOrder, SourceOrder, CoverInSome}
use Rattle.archive.specs.File.{CoverColumns, File}
use Rattle.archive_read.specs.bodies.View.{head_in, sets_in, cover_in}
use Rattle.archive_read.specs.Layout.{part_in, front_in, middle_in, tail_in, file_from, file_in}
use Rattle.archive_read.specs.declared.records.FileAt.{FileAt}
use Rattle.archive_read.proofs.AtFiles.{rows_counted}
use Rattle.cleaning.specs.Source.{Source, is_there}
use Rattle.cleaning.specs.Taking.{group_follows, source_follows, cover_follows, file_end, unresolved_rules, cover_rules, file_rules}
use Rattle.run_rules.specs.parts.Back.{own_rules, back_rules, groups_near, in_rows, child_rule, record_rule, records_rules, later_rules, sets_rules}
use Rattle.run_rules.specs.files.Parts.{head_rules, subject_in, edges_rules, lists_rules, cover_rule, tail_rules, rest_rules}

-- ── twelve rules in groups ───────────────────────────────────────────────────────────────────

regroup : (a b c d e g h i j k l m : Option Refusal) → first_of (a ∷ b ∷ c ∷ d ∷ e ∷ g ∷ h ∷ i ∷ j ∷ k ∷ l ∷ m ∷ [])
    ≡ first_of (first_of (first_of (a ∷ b ∷ c ∷ []) ∷ first_of (d ∷ e ∷ g ∷ []) ∷ []) ∷ first_of (first_of (h ∷ first_of (i ∷ j ∷ []) ∷ []) ∷ first_of (first_of (k ∷ l ∷ []) ∷ m ∷ []) ∷ []) ∷ [])
unfolding first_of
regroup (some x) b c d e g h i j k l m = refl
regroup none (some x) c d e g h i j k l m = refl
regroup none none (some x) d e g h i j k l m = refl
regroup none none none (some x) e g h i j k l m = refl
regroup none none none none (some x) g h i j k l m = refl
regroup none none none none none (some x) h i j k l m = refl
regroup none none none none none none (some x) i j k l m = refl
regroup none none none none none none none (some x) j k l m = refl
regroup none none none none none none none none (some x) k l m = refl
regroup none none none none none none none none none (some x) l m = refl
regroup none none none none none none none none none none (some x) m = refl
regroup none none none none none none none none none none none (some x) = refl
regroup none none none none none none none none none none none none = refl

-- ── looking back ─────────────────────────────────────────────────────────────────────────────

back-same : (before : Option Source) (f : File)
    → first_of (refuse GroupOrder (not (group_follows before f)) ∷ refuse SourceOrder (not (source_follows before f)) ∷ refuse CoverInSome (not (cover_follows before f)) ∷ [])
    ≡ back_rules before f.group f.subject f.first (is_there f.cover)
unfolding first_of groups_near
back-same (some s) f = refl
back-same none f = go (eqb f.group 0)
  where
    go : (t : Bool) → first_of (refuse GroupOrder (not t) ∷ none ∷ none ∷ []) ≡ refuse GroupOrder (not t)
    go true = refl
    go false = refl

-- ── a file ───────────────────────────────────────────────────────────────────────────────────

there-cond : (b : Bool) (c : CoverColumns) → is_there (cond b (some c) none) ≡ b
there-cond true c = refl
there-cond false c = refl

grouped : (before : Option Source) (f : File) → file_rules kinds before f
    ≡ first_of (first_of (own_rules f.subject f.first (length f.rows) f.depth ∷ back_rules before f.group f.subject f.first (is_there f.cover) ∷ [])
    ∷ first_of (sets_rules f.first (length f.rows) (file_end f) f.forward f.reverse f.inbound
    ∷ first_of (records_rules f.first (length f.rows) (file_end f) f.roots f.unresolved ∷ cover_rules f.cover ∷ []) ∷ []) ∷ [])
unfolding file_rules own_rules sets_rules later_rules records_rules in_rows record_rule child_rule unresolved_rules
grouped before f = regroup _ _ _ _ _ _ _ _ _ _ _ _ ∙ rw (back-same before f)

module _ (l : List ℕ) (f : FileAt) where
  cover-there : is_there (file_in l f).cover ≡ f.tail.covered
  unfolding file_in file_from tail_in
  cover-there = there-cond f.tail.covered (cover_in (part_in l f.tail.body) f.front.head.rows f.tail.cover)

  pub parts_are : (before : Option Source) → file_rules kinds before (file_in l f) ≡ first_of (head_rules before (subject_in l f.front) f.front.head f.tail.covered ∷ rest_rules l f ∷ [])
  unfolding file_in file_from front_in middle_in tail_in head_in sets_in head_rules rest_rules edges_rules tail_rules lists_rules cover_rule
  parts_are before = grouped before (file_in l f) ∙ rw (rows_counted l f, cover-there)
