-- Limits and verdicts: which refusal comes first.
use Rattle.std.specs.Prelude.{Err, Ok}
use mathlib.Core.Path.{◌≡◌, refl}
use mathlib.Core.Bool.{Bool, true, false, not}
use mathlib.Core.List.{List, [], ◌∷◌}
use mathlib.Core.Option.{Option, none, some}
use Prim.Native.Nat.{ℕ}
use lib.Dec.{ltb}
use Rattle.lists.specs.Lists.{any}
use Rattle.columns.specs.Limits.{max_records, max_numbers}
use Rattle.columns.specs.Refusal.{Verdict, refused, accepted, unless, refuse, first_of, Lent, short, limits}
use lib.ListN.{length}
use Rattle.columns.specs.declared.refusal.Refusal.{Refusal}
use Rattle.columns.specs.declared.refusal.Refusal.TheVariants.{SliceShort, OverRecords, OverNumbers}
use Rattle.cover.specs.Chains.{Link}
use Rattle.cover.specs.Cover.{LinkColumns}
use Rattle.cover.specs.Answers.{counted, links_over, links_after}

module _ (records columns : List ℕ) (lent : List Lent) where
  pub limits-records : any (ltb max_records) records ≡ true → limits records columns lent ≡ some OverRecords
  unfolding limits first_of
  limits-records e = rw e

  module _ (e : any (ltb max_records) records ≡ false) where
    pub limits-numbers : any (ltb max_numbers) columns ≡ true → limits records columns lent ≡ some OverNumbers
    unfolding limits first_of
    limits-numbers f = rw (e, f)

    module _ (f : any (ltb max_numbers) columns ≡ false) where
      pub limits-short : any short lent ≡ true → limits records columns lent ≡ some SliceShort
      unfolding limits first_of
      limits-short g = rw (e, f, g)

      pub limits-none : any short lent ≡ false → limits records columns lent ≡ none
      unfolding limits first_of
      limits-none g = rw (e, f, g)

-- rules that refuse nothing are passed over, and the first that does is the verdict
module _ {A : Type 0} (a : A) where
  pub first-refuses : (r : Refusal) (t : Option Refusal) (ts : List (Option Refusal)) → t ≡ some r → unless (first_of (t ∷ ts)) a ≡ refused r
  unfolding unless first_of
  first-refuses r t ts e = rw e

  pub next-rule : (v : Verdict A) (t : Option Refusal) (ts : List (Option Refusal)) → t ≡ none → unless (first_of ts) a ≡ v → unless (first_of (t ∷ ts)) a ≡ v
  unfolding unless first_of
  next-rule v t ts e f = rw e f

  pub no-rule : unless (first_of []) a ≡ accepted a
  unfolding unless first_of
  no-rule = refl

pub refuse-not : (r : Refusal) (t : Bool) → t ≡ false → refuse r (not t) ≡ some r
refuse-not r t e = rw e

-- ── answers ──────────────────────────────────────────────────────────────────────────────────

-- a refused call answers its refusal, another how many records it wrote
module _ {A B : Type 0} (f : A → List B) (v : Verdict A) where
  pub counted-refused : {r : Refusal} → v ≡ refused r → Err r ≡ counted f v
  unfolding counted
  counted-refused e = rw e

  pub counted-done : (a : A) {n : ℕ} → v ≡ accepted a → n ≡ length (f a) → Ok n ≡ counted f v
  unfolding counted
  counted-done a e g = rw (e, g)

-- a refused call leaves the columns as they were
module _ {A : Type 0} (f : A → List Link) (v : Verdict A) where
  pub columns-kept : (r : Refusal) (c : LinkColumns) → v ≡ refused r → c ≡ links_after f v c
  unfolding links_after
  columns-kept r c e = rw e

  pub columns-written : (a : A) (c c' : LinkColumns) → v ≡ accepted a → c' ≡ links_over (f a) c → c' ≡ links_after f v c
  unfolding links_after
  columns-written a c c' e g = rw e g
