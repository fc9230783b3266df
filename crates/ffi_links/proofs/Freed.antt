-- The locals of a walk, freed all at once as its function returns.
--     Rooms            the rooms of locals, with nothing in them, in order, over the rest of the context
--     free_all         they are freed
use mathlib.Core.List.{List, [], ◌∷◌}
use Prim.Native.Nat.{ℕ}
use seplogic.Ra.Ura.{Ura}
use mir.Syntax.{Ty}
use base.Fml.{froom, fdies}
use prog.Wp.{Env}
use types.Logic.{Logic}
use types.Kit.{Item, ‵, Goal, frees, Step, step, ◌$◌}
use types.Run.{free1, free0}

abbrev pub Rooms : {M : Type 1} {𝓤 : Ura M} → List (Ty × ℕ) → List (Item 𝓤) → List (Item 𝓤)
Rooms [] Γ = Γ
Rooms ((τ, b) ∷ E) Γ = ‵ (froom τ b 0) ∷ ‵ (fdies τ b) ∷ Rooms E Γ

module _ {M : Type 1} {𝓤 : Ura M} {𝓛 : Logic 𝓤} {K : Type 0} {Γ : List (Item 𝓤)} {G : Goal 𝓤 𝓛.H} where
  open 𝓛 use {H}

  freed : K → (E : Env 𝓤 H) → Step K 𝓛 Γ G (Rooms E Γ) (frees E G)
  freed t [] = free0 t
  freed t ((τ, b) ∷ E) = step (λ go. free1 t $ freed t E $ go)

  pub free_all : K → {E : Env 𝓤 H} → Step K 𝓛 Γ G (Rooms E Γ) (frees E G)
  free_all t {E} = freed t E
