-- Document 01: after a refusal a lent slice holds what it held.
use Rattle.std.specs.Prelude.{List}
use Rattle.std.proofs.Math.Option.{Option, none, some}
use Rattle.columns.specs.declared.refusal.Refusal.{Refusal}

-- a slice after a call that some rules may refuse: what it held, or what the call makes of it
unfoldable pub left : {A : Type 0} → Option Refusal → List A → List A → List A
left none old new = new
left (some r) old new = old
