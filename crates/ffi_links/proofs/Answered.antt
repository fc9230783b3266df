-- An answer as a machine value, the columns of zeros that a walk starts with, and how a verdict over columns is one over links.
use mathlib.Core.Path.{◌≡◌, ap, subst}
use mathlib.Core.List.{List, [], ◌∷◌}
use Prim.Native.Nat.{ℕ, ◌≤◌, ◌<◌, ◌^◌}
use native.Mathlib.Omega.{arith}
use lib.Dec.{lit<}
use lib.ListN.{length}
use mir.Val.{Val}
use denote.Laws.{Is}
use denote.Builtin.{u32}
use denote.Slice.{Room}
use denote.Steps.{only}
use denote.Struct.Laws as LL
use Rattle.ffi.specs.declared.answer.Answer.{Answer}
use Rattle.ffi.specs.contracts.answer.Answer as Q
use Rattle.ffi.proofs.answer.Answer.TheLaws as Q'
pub use Rattle.ffi_links.proofs.Four.{zeros, even}

module _ (r : Answer) (v : Val) (is : Is Q.the_row r (v ∷ [])) where
  pub answer-spelled : v ≡ Q'.lowered r
  answer-spelled = ap only (LL.tells Q.the_type Q'.the_laws r (v ∷ []) is)

  pub answer-is : Is Q.the_row r (LL.vals Q.the_type Q'.the_laws r)
  answer-is = subst (Is Q.the_row r) (LL.tells Q.the_type Q'.the_laws r (v ∷ []) is) is

pub full : Room u32 1024
full = (lit< tt, lit< tt)

pub few-room : (k : ℕ) → k ≤ 1024 → Room u32 k
few-room k h = (omega arith, omega arith)

pub few-small : (k : ℕ) → k ≤ 1024 → k < 2 ^ 64
few-small k h = omega arith

pub few-fits : (k : ℕ) (column : List ℕ) → k ≤ 1024 → length column ≡ 1024 → k ≤ length column
few-fits k column h e = omega arith
