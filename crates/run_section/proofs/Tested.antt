-- The tests of one group, and the first rule that they break.
use Rattle.std.specs.Prelude.{Err, Ok, Result}
use mathlib.Core.Path.{◌≡◌}
use mathlib.Core.Bool.{Bool, true, false, ◌&&◌, not}
use mathlib.Core.List.{List}
use Prim.Native.Nat.{ℕ, ◌+◌, ◌-◌, ◌*◌, ◌≤◌, ◌<◌}
use native.Mathlib.Nat.{sub-zero}
use lib.Dec.{leb}
use lib.ListN.{get_or, drop}
use lib.Seq.{get_or-drop}
use borrow.Author.Tests.{lt-ltb, le-ltb, not-true, not-false}
use Rattle.columns.specs.Limits.{kinds}
use Rattle.lists.specs.Lists.{all, part}
use Rattle.columns.specs.EdgeSet.{cut}
use Rattle.columns.specs.Refusal.{first_of}
use Rattle.columns.specs.Building.{depth_ok, deltas_fit}
use Rattle.columns.specs.Answers.{ruling}
use Rattle.columns.specs.declared.refusal.Refusal.{Refusal}
use Rattle.columns.specs.declared.refusal.Refusal.TheVariants.{SubjectLength, UnresolvedKind, DepthOrder, SeqNotRising, DeltaRange}
use Rattle.archive_bytes.specs.Bytes.{several}
use Rattle.archive_bytes.proofs.Several.{several-none, several-cons}
use Rattle.run_section.specs.declared.rules.Known.{Known}
use Rattle.run_section.specs.Tables.{unresolved_in}
use Rattle.run_section.specs.Rules.{faults, kind_fits, depth_in, spans_in}

-- ── the depth ────────────────────────────────────────────────────────────────────────────────

module _ (k : Known) where
  pub not-deep : not k.deep ≡ true → true ≡ depth_ok (depth_in k)
  unfolding depth_in
  not-deep h = rw (not-true k.deep h)

  pub deep-fits : not k.deep ≡ false → leb k.least k.greatest ≡ depth_ok (depth_in k)
  unfolding depth_in
  deep-fits h = rw (not-false k.deep h)

-- ── kinds ────────────────────────────────────────────────────────────────────────────────────

pub kinds-start : (n a : ℕ) (l : List ℕ) → all kind_fits (several 3 unresolved_in n (drop (a * 3) l)) ≡ all kind_fits (several 3 unresolved_in (n - 0) (drop (a * 3) l))
kinds-start n a l = rw sub-zero

module _ {t : Bool} (n i p : ℕ) (l : List ℕ) (e : t ≡ all kind_fits (several 3 unresolved_in (n - i) (drop p l))) where
  pub kinds-done : n ≤ i → true ≡ t
  unfolding all
  kinds-done h = rw (e, several-none 3 unresolved_in n i l p h)

  pub kind-no : i < n → 2 ≤ get_or l (p + 1) 0 → false ≡ t
  unfolding all
  kind-no h f = rw (e, several-cons 3 unresolved_in n i l p h, get_or-drop p l 1 0, le-ltb (get_or l (p + 1) 0) 2 f)

  pub kind-yes : i < n → get_or l (p + 1) 0 < 2 → t ≡ all kind_fits (several 3 unresolved_in (n - (i + 1)) (drop (p + 3) l))
  unfolding all
  kind-yes h f = rw (e, several-cons 3 unresolved_in n i l p h, get_or-drop p l 1 0, lt-ltb (get_or l (p + 1) 0) 2 f)

-- ── spans ────────────────────────────────────────────────────────────────────────────────────

module _ (start rows a n : ℕ) (offsets targets starts kids : List ℕ) {x : Bool} (e : x ≡ deltas_fit kinds (start + a) (part (2 * a) (2 * n) (cut offsets targets))) where
  pub parents-far : not x ≡ true → false ≡ spans_in start a n offsets targets && spans_in start a n starts kids
  unfolding spans_in
  parents-far h = rw (← e, not-true x h)

  pub parents-near : not x ≡ false → {y : Bool} → y ≡ deltas_fit kinds (start + a) (part (2 * a) (2 * n) (cut starts kids))
      → y ≡ spans_in start a n offsets targets && spans_in start a n starts kids
  unfolding spans_in
  parents-near h f = rw (← e, not-false x h) f

-- ── the first rule ───────────────────────────────────────────────────────────────────────────

module _ (named kinds depth seqs spans : Bool) where
  pub no-subject : not named ≡ true → Err SubjectLength ≡ ruling (faults named kinds depth seqs spans)
  unfolding faults first_of
  no-subject a = rw (not-true named a)

  module _ (a : not named ≡ false) where
    pub no_kind : not kinds ≡ true → Err UnresolvedKind ≡ ruling (faults named kinds depth seqs spans)
    unfolding faults first_of
    no_kind b = rw (not-false named a, not-true kinds b)

    module _ (b : not kinds ≡ false) where
      pub no-depth : not depth ≡ true → Err DepthOrder ≡ ruling (faults named kinds depth seqs spans)
      unfolding faults first_of
      no-depth c = rw (not-false named a, not-false kinds b, not-true depth c)

      module _ (c : not depth ≡ false) where
        pub no-rise : not seqs ≡ true → Err SeqNotRising ≡ ruling (faults named kinds depth seqs spans)
        unfolding faults first_of
        no-rise d = rw (not-false named a, not-false kinds b, not-false depth c, not-true seqs d)

        module _ (d : not seqs ≡ false) where
          pub no_span : not spans ≡ true → Err DeltaRange ≡ ruling (faults named kinds depth seqs spans)
          unfolding faults first_of
          no_span f = rw (not-false named a, not-false kinds b, not-false depth c, not-false seqs d, not-true spans f)

          pub no-fault : not spans ≡ false → (Ok tt) ≡ ruling (faults named kinds depth seqs spans)
          unfolding faults first_of
          no-fault f = rw (not-false named a, not-false kinds b, not-false depth c, not-false seqs d, not-false spans f)

-- the same by what the tests say
pub faults-told : {named kinds depth seqs spans named' kinds' depth' seqs' spans' : Bool} {r : Result (Unit {0}) Refusal} → r ≡ ruling (faults named kinds depth seqs spans)
    → named ≡ named' → kinds ≡ kinds' → depth ≡ depth' → seqs ≡ seqs' → spans ≡ spans' → r ≡ ruling (faults named' kinds' depth' seqs' spans')
faults-told e a b c d f = rw (← a, ← b, ← c, ← d, ← f) e
