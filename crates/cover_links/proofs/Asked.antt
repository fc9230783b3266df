-- The call of `least_of` in a walk: the contract that is cited, what its triple binds outside, that a caller has what it asks, and what it ensures.
-- Assumes `Logic`.
use mathlib.Core.Path.{◌≡◌, refl, ap}
use Prim.Native.Nat.{ℕ, ◌<◌, ◌^◌}
use mathlib.Core.List.{[], ◌∷◌}
use seplogic.Ra.Ura.{Ura}
use mir.Syntax.{w64}
use mir.Val.{Val, vint}
use base.Logic.{SProp, ent, ex_e, snd∗, emp}
use prog.Memory.{Memory}
use prog.Routine.{Routine}
use types.Logic.{Logic, sem}
use contract.Monad.{Fun, fact}
use types.Kit.{◌$◌, ◌∵◌, !, qed, join, fjoin, frame, done}
use denote.Laws.{Is}
use denote.Plain.{uint_Makes, uint_Tells}
use denote.Builtin.{usize}
use denote.Steps.{owned, only, nothing}
use denote.Triple.Statement.{Contract}
use denote.Triple.Clauses.{ensured, lasts}
use denote.Triple.Spec.{triple_of}
use Rattle.cover_links.specs.Links.{least}
use Rattle.cover_links.specs.contracts.least_of as least-of

-- a number's one machine value, spelled out
pub spelled : (r : ℕ) (v : Val) → Is usize r (v ∷ []) → v ≡ vint w64 r
spelled r v is = ap only (uint_Tells w64 r (v ∷ []) is)

module _ {M : Type 1} {𝓤 : Ura M} (𝓛 : Logic 𝓤) (mem : Memory → SProp 𝓤) (run : Routine → Fun 𝓤) where
  abbrev pub LeastOf : Contract 𝓤
  LeastOf = triple_of 𝓛 least-of.signature (least-of.spec 𝓛 mem run)

  module _ (a b c d e : ℕ) where
    abbrev pub to-least : LeastOf.Ghost
    to-least = (
      (tt, tt, tt, (a, (b, (c, (d, (e, tt))))), (vint w64 a ∷ [], (vint w64 b ∷ [], (vint w64 c ∷ [], (vint w64 d ∷ [], (vint w64 e ∷ [], tt)))))),
      tt,
    )

    -- of its `ensured` the clause alone
    pub least-is : (r : ℕ) → ent 𝓤 (ensured 𝓛 least-of.ended (least-of.clauses 𝓛 mem run) tt (a, (b, (c, (d, (e, tt))))) tt r) (fact 𝓤 (r ≡ least a b c d e))
    least-is r = ex_e 𝓤 _ (λ ws. snd∗ 𝓤 (sem 𝓛 (lasts least-of.ended tt (a, (b, (c, (d, (e, tt))))) ws)) (fact 𝓤 (r ≡ least a b c d e)))

    pub goes-least : a < 2 ^ 64 → b < 2 ^ 64 → c < 2 ^ 64 → d < 2 ^ 64 → e < 2 ^ 64 → ent 𝓤 (emp 𝓤) (LeastOf.pre to-least)
    goes-least ga gb gc gd ge =
        qed 𝓛 [] ∵ nothing ! $ owned ! usize (Is usize) (uint_Makes 𝓛 w64) e _ (refl, ge) $ fjoin ! $ owned ! usize (Is usize) (uint_Makes 𝓛 w64) d _ (refl, gd) $ fjoin ! $
        owned ! usize (Is usize) (uint_Makes 𝓛 w64) c _ (refl, gc) $ fjoin ! $ owned ! usize (Is usize) (uint_Makes 𝓛 w64) b _ (refl, gb) $ fjoin ! $
        owned ! usize (Is usize) (uint_Makes 𝓛 w64) a _ (refl, ga) $ fjoin ! $ nothing ! $ join ! $ frame ! $ done !
