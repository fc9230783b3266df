-- The room is as long as it is written, by a lemma at any number: computing so long a list takes more stack than the checker has.
use mathlib.Core.Path.{◌≡◌, sym}
use Prim.Native.Nat.{ℕ}
use Rattle.std.proofs.lemmas.List.{length-replicate}
use Rattle.std.proofs.Math.ListN.{length, replicate}
use Rattle.messages.proofs.input_room.Goals as goal

room : (n : ℕ) → n ≡ length {A = ℕ} (replicate n 0)
room n = sym (length-replicate n 0)

pub returns : goal.returns
returns c = room _
