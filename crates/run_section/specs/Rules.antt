-- Document 01, 1, 7, 8, 10 and 15: the rules of building that a run's survivors can break, by what is tested of one group.
use Rattle.std.specs.Prelude.{◌≡◌, Bool, true, not, List, [], ◌∷◌, ℕ, ◌+◌, ◌*◌, ◌≤◌, ltb, length}
use Rattle.std.proofs.Math.Option.{Option}
use Rattle.lists.specs.Lists.{part}
use Rattle.columns.specs.Limits.{kinds}
use Rattle.columns.specs.Refusal.{refuse, first_of}
use Rattle.columns.specs.EdgeSet.{offsets_form, cut}
use Rattle.columns.specs.Building.{Depth, deltas_fit}
use Rattle.columns.specs.declared.refusal.Refusal.{Refusal}
use Rattle.columns.specs.declared.refusal.Refusal.TheVariants.{SubjectLength, UnresolvedKind, DepthOrder, SeqNotRising, DeltaRange}
use Rattle.archive.specs.File.{Unresolved}
use Rattle.archive_store.specs.Lent.{depth_from}
use Rattle.run_state.specs.declared.Groups.{Groups}
use Rattle.run_state.specs.View.{facts_at, has_cover}
use Rattle.run_section.specs.declared.rules.Known.{Known}

-- the first of them that is broken: whether there is a subject, kinds are kinds, the depth is in order, seqs rise, spans fit
unfoldable pub faults : Bool → Bool → Bool → Bool → Bool → Option Refusal
faults named kinds depth seqs spans =
    first_of (refuse SubjectLength (not named)
    ∷ refuse UnresolvedKind (not kinds)
    ∷ refuse DepthOrder (not depth)
    ∷ refuse SeqNotRising (not seqs)
    ∷ refuse DeltaRange (not spans)
    ∷ [])

-- an unresolved reference is of one of the kinds
abbrev pub kind_fits : Unresolved → Bool
kind_fits u = ltb u.kind kinds

-- what is known of a group
unfoldable pub depth_in : Known → Option Depth
depth_in k = depth_from k.deep k.least k.greatest

pub record KnownOf (groups : Groups) (g : ℕ) (k : Known) : Type 0 where
  pub depth_is : depth_in k ≡ (facts_at groups g).depth
  pub cover_is : k.covered ≡ has_cover groups g

-- two tables of lists of the same rows: parents, and children
pub record Lists (rows : ℕ) (offsets targets starts kids : List ℕ) : Type 0 where
  pub parents : offsets_form kinds rows (length targets) offsets ≡ true
  pub children : offsets_form kinds rows (length kids) starts ≡ true
  pub few_parents : length targets ≤ 4096
  pub few_children : length kids ≤ 4096

-- 15 of the lists of n rows from row a on
unfoldable pub spans_in : ℕ → ℕ → ℕ → List ℕ → List ℕ → Bool
spans_in start a n offsets targets = deltas_fit kinds (start + a) (part (kinds * a) (kinds * n) (cut offsets targets))
