-- Four columns in memory, as one item of a walk, and lent together for a call.
--     Quad             four of a kind.        Four     the columns x in the blocks l.        Long     each has n numbers
--     lend-four, back-four     all four as `&mut [u32]`: the four tokens, the four references, and what the lender has meanwhile (`Loaned`)
--     lend-fronts, back-fronts     all four as `&[u32]`, of the first column its first k numbers alone (`Fronted`)
--     open-tokens, join-tokens, open-lasts, join-four      four tokens, last lists and references, as a contract has them and one by one
--     four-room        at the end: the room of the four arrays
--     zeros, even      the columns of zeros that a call over records starts with, and that each has 1,024
-- Assume `Logic`.
use mathlib.Core.Path.{◌≡◌}
use Prim.Native.Nat.{ℕ, ◌≤◌}
use mathlib.Core.List.{List, [], ◌∷◌}
use lib.ListN.{length, take, replicate, length-replicate}
use seplogic.Ra.Ura.{Ura}
use base.Fraction.{full_share}
use mir.Syntax.{Lifetime, w32, ty_int, ty_array}
use base.Fml.{Fml, ftrue, fsep, feq, froom, flft, fbor, flent}
use types.Logic.{Logic}
use types.Kit.{Item, ‵, ◌⊛◌, Goal, Soaks, Seq, Step, step, ◌$◌, move, drop, use1, split, join, fsplit, fjoin, feq_l}
use denote.Builtin.{u32}
use denote.Slice.{slice_val, MutSlice, ShrSlice, Room, finally}
use denote.Lend.{Held}
use denote.Index.{row}
use Rattle.cover_links.proofs.Elements.{ref, ref-shr}
use Rattle.ffi_links.proofs.Loans.{Loan, life, by, Shared, Front, lend-mut, back-mut, lend-shr-u32, back_shr, lend-front-u32, back-front, row_room}

pub record Quad (X : Type 0) : Type 0 where
  pub a : X
  pub b : X
  pub c : X
  pub d : X

abbrev pub quad : {X : Type 0} → X → X → X → X → Quad X
quad a b c d = record { a = a; b = b; c = c; d = d }

abbrev pub Four : Quad ℕ → Quad (List ℕ) → Fml
Four l x = fsep (row u32 full_share x.a l.a 0) (fsep (row u32 full_share x.b l.b 0) (fsep (row u32 full_share x.c l.c 0) (row u32 full_share x.d l.d 0)))

abbrev pub Long : ℕ → Quad (List ℕ) → Type 0
Long n x = (length x.a ≡ n) × ((length x.b ≡ n) × ((length x.c ≡ n) × (length x.d ≡ n)))

abbrev pub zeros : Quad (List ℕ)
zeros = quad (replicate 1024 0) (replicate 1024 0) (replicate 1024 0) (replicate 1024 0)

pub even : Long 1024 zeros
even = let long : length {A = ℕ} (replicate 1024 0) ≡ 1024 = length-replicate {A = ℕ} 1024 0 in (long, (long, (long, long)))

-- four lists are as long as four others
abbrev pub Even : Quad (List ℕ) → Quad (List ℕ) → Type 0
Even x y = (length x.a ≡ length y.a) × ((length x.b ≡ length y.b) × ((length x.c ≡ length y.c) × (length x.d ≡ length y.d)))

-- what the lender has meanwhile
abbrev pub Loaned : ℕ → Quad Loan → Quad ℕ → Fml
Loaned n z l = fsep (flent (life z.a) (Held u32 n l.a 0 z.a.name)) (fsep (flent (life z.b) (Held u32 n l.b 0 z.b.name))
    (fsep (flent (life z.c) (Held u32 n l.c 0 z.c.name)) (flent (life z.d) (Held u32 n l.d 0 z.d.name))))

abbrev pub Fronted : ℕ → Quad Loan → Quad ℕ → Quad (List ℕ) → Fml
Fronted k z l x = fsep (Front u32 z.a k x.a l.a 0) (fsep (Shared u32 z.b x.b l.b 0) (fsep (Shared u32 z.c x.c l.c 0) (Shared u32 z.d x.d l.d 0)))

-- the last lists x' of four references that wrote, as a contract has them: each hands its borrow back, closed
abbrev last : Loan → ℕ → List ℕ → List ℕ → Fml
last z b old zs = fsep (fsep (finally u32 z.name zs) (feq ℕ (length zs) (length old))) (fbor (life z) (Held u32 (length old) b 0 z.name))

abbrev pub LastsOf : Quad Loan → Quad ℕ → Quad (List ℕ) → Quad (List ℕ) → Fml
LastsOf z l x x' = fsep (last z.a l.a x.a x'.a) (fsep (last z.b l.b x.b x'.b) (fsep (last z.c l.c x.c x'.c) (fsep (last z.d l.d x.d x'.d) ftrue)))

module _ {M : Type 1} {𝓤 : Ura M} where
  -- the four tokens of a loan
  abbrev pub Tokens : Quad Loan → List (Item 𝓤) → List (Item 𝓤)
  Tokens z Γ = ‵ (flft (life z.a) full_share) ∷ ‵ (flft (life z.b) full_share) ∷ ‵ (flft (life z.c) full_share) ∷ ‵ (flft (life z.d) full_share) ∷ Γ

  -- four references that write, and four that read
  abbrev pub Writers : Quad Lifetime → ℕ → Quad Loan → Quad ℕ → Quad (List ℕ) → List (Item 𝓤) → List (Item 𝓤)
  Writers ℓ n z l x Γ = ‵ ((MutSlice ℓ.a (life z.a) u32).own_val (ref (by z.a l.a 0) x.a) (slice_val (l.a, 0) n ∷ []))
      ∷ ‵ ((MutSlice ℓ.b (life z.b) u32).own_val (ref (by z.b l.b 0) x.b) (slice_val (l.b, 0) n ∷ []))
      ∷ ‵ ((MutSlice ℓ.c (life z.c) u32).own_val (ref (by z.c l.c 0) x.c) (slice_val (l.c, 0) n ∷ []))
      ∷ ‵ ((MutSlice ℓ.d (life z.d) u32).own_val (ref (by z.d l.d 0) x.d) (slice_val (l.d, 0) n ∷ [])) ∷ Γ

  abbrev pub Readers : Quad Lifetime → ℕ → ℕ → Quad Loan → Quad ℕ → Quad (List ℕ) → List (Item 𝓤) → List (Item 𝓤)
  Readers ℓ k n z l x Γ = ‵ ((ShrSlice ℓ.a (life z.a) u32).own_val (ref-shr (by z.a l.a 0) (take k x.a)) (slice_val (l.a, 0) k ∷ []))
      ∷ ‵ ((ShrSlice ℓ.b (life z.b) u32).own_val (ref-shr (by z.b l.b 0) x.b) (slice_val (l.b, 0) n ∷ []))
      ∷ ‵ ((ShrSlice ℓ.c (life z.c) u32).own_val (ref-shr (by z.c l.c 0) x.c) (slice_val (l.c, 0) n ∷ []))
      ∷ ‵ ((ShrSlice ℓ.d (life z.d) u32).own_val (ref-shr (by z.d l.d 0) x.d) (slice_val (l.d, 0) n ∷ [])) ∷ Γ

  -- the room of an array
  abbrev room_of : ℕ → ℕ → Item 𝓤
  room_of n b = ‵ (froom (ty_array (ty_int w32) n) b 0)

  -- four tokens as a contract has them, before i
  abbrev pub TokensOf : Quad Loan → Item 𝓤 → Item 𝓤
  TokensOf z i = ‵ (flft (life z.a) full_share) ⊛ (‵ (flft (life z.b) full_share) ⊛ (‵ (flft (life z.c) full_share) ⊛ (‵ (flft (life z.d) full_share) ⊛ i)))

  -- the last lists of four references that wrote
  abbrev pub Lasts : Quad Loan → Quad (List ℕ) → List (Item 𝓤) → List (Item 𝓤)
  Lasts z x Γ = ‵ (finally u32 z.a.name x.a) ∷ ‵ (finally u32 z.b.name x.b) ∷ ‵ (finally u32 z.c.name x.c) ∷ ‵ (finally u32 z.d.name x.d) ∷ Γ

module _ {M : Type 1} {𝓤 : Ura M} {𝓛 : Logic 𝓤} {K : Type 0} {Γ : List (Item 𝓤)} {G : Goal 𝓤 𝓛.H} where
  -- as a contract has them, and one by one
  pub open-tokens : K → (z : Quad Loan) {i : Item 𝓤} → Step K 𝓛 (Tokens z (i ∷ Γ)) G (TokensOf z i ∷ Γ) G
  open-tokens t z = step (λ go. split t $ move t (1 ∷ []) $ split t $ move t (1 ∷ []) $ split t $ move t (1 ∷ []) $ split t $ move t (4 ∷ 3 ∷ 2 ∷ 0 ∷ []) $ go)

  pub join-tokens : K → (z : Quad Loan) {i : Item 𝓤} → Step K 𝓛 (TokensOf z i ∷ Γ) G (Tokens z (i ∷ Γ)) G
  join-tokens t z = step (λ go. move t (3 ∷ 4 ∷ []) $ join t $ move t (3 ∷ 0 ∷ []) $ join t $ move t (2 ∷ 0 ∷ []) $ join t $ move t (1 ∷ 0 ∷ []) $ join t $ go)

  -- with the lengths that they keep
  told-last : K → (z : Loan) (b : ℕ) (old zs : List ℕ) {F : Fml} → (length zs ≡ length old → Seq K 𝓛 (‵ F ∷ ‵ (finally u32 z.name zs) ∷ Γ) G) → Seq K 𝓛 (‵ (fsep (last z b old zs) F) ∷ Γ) G
  told-last t z b old zs go = fsplit t $ fsplit t $ move t (1 ∷ []) $ drop t $ fsplit t $ move t (1 ∷ []) $ feq_l t (λ e. move t (1 ∷ []) $ go e)

module _ {M : Type 1} {𝓤 : Ura M} {𝓛 : Logic 𝓤} {K : Type 0} {Γ : List (Item 𝓤)} {G : Goal 𝓤 𝓛.H} where
  pub told-lasts : K → (z : Quad Loan) (l : Quad ℕ) (x x' : Quad (List ℕ)) → (Even x' x → Seq K 𝓛 (Lasts z x' Γ) G) → Seq K 𝓛 (‵ (LastsOf z l x x') ∷ Γ) G
  told-lasts t z l x x' go = told-last t z.a l.a x.a x'.a (λ ea. told-last t z.b l.b x.b x'.b (λ eb. told-last t z.c l.c x.c x'.c (λ ec. told-last t z.d l.d x.d x'.d (λ ed.
      drop t $ move t (3 ∷ 2 ∷ 1 ∷ 0 ∷ []) $ go (ea, (eb, (ec, ed)))))))

  pub open-lasts : K → (z : Quad Loan) (l : Quad ℕ) (x x' : Quad (List ℕ)) → Step K 𝓛 (Lasts z x' Γ) G (‵ (LastsOf z l x x') ∷ Γ) G
  open-lasts t z l x x' = step (λ go. told-lasts t z l x x' (λ _. go))

  -- four of what references own, before P
  pub join-four : K → {P Q R S F : Fml} → Step K 𝓛 (‵ (fsep P (fsep Q (fsep R (fsep S F)))) ∷ Γ) G (‵ P ∷ ‵ Q ∷ ‵ R ∷ ‵ S ∷ ‵ F ∷ Γ) G
  join-four t = step (λ go. move t (3 ∷ 4 ∷ []) $ fjoin t $ move t (3 ∷ 0 ∷ []) $ fjoin t $ move t (2 ∷ 0 ∷ []) $ fjoin t $ move t (1 ∷ 0 ∷ []) $ fjoin t $ go)

  pub lend-four : K → Soaks G → (ℓ : Quad Lifetime) {n : ℕ} → Room u32 n → (l : Quad ℕ) (x : Quad (List ℕ)) → Long n x
      → ((z : Quad Loan) → Seq K 𝓛 (Tokens z (Writers ℓ n z l x (‵ (Loaned n z l) ∷ Γ))) G) → Seq K 𝓛 (‵ (Four l x) ∷ Γ) G
  lend-four t so ℓ room l x long k =
      fsplit t $ lend-mut t so ℓ.a u32 x.a long.0 room l.a 0 (λ za. move t (3 ∷ []) $ fsplit t $ lend-mut t so ℓ.b u32 x.b long.1.0 room l.b 0 (λ zb. move t (3 ∷ []) $
      fsplit t $ lend-mut t so ℓ.c u32 x.c long.1.1.0 room l.c 0 (λ zc. move t (3 ∷ []) $ lend-mut t so ℓ.d u32 x.d long.1.1.1 room l.d 0 (λ zd.
      -- [the token, the reference and what is kept: of d, of c, of b, of a]
      move t (5 ∷ 2 ∷ []) $ fjoin t $ move t (7 ∷ 0 ∷ []) $ fjoin t $ move t (9 ∷ 0 ∷ []) $ fjoin t $ move t (7 ∷ 5 ∷ 3 ∷ 1 ∷ 8 ∷ 6 ∷ 4 ∷ 2 ∷ []) $ k (quad za zb zc zd)))))

  pub back-four : K → Soaks G → (n : ℕ) (z : Quad Loan) (l : Quad ℕ) (x : Quad (List ℕ)) → (Long n x → Seq K 𝓛 (‵ (Four l x) ∷ Γ) G) → Seq K 𝓛 (Tokens z (Lasts z x (‵ (Loaned n z l) ∷ Γ))) G
  back-four t so n z l x k =
      move t (8 ∷ []) $ fsplit t $ move t (2 ∷ 0 ∷ 6 ∷ []) $ back-mut t so u32 z.a n x.a l.a 0 (λ ea. move t (1 ∷ []) $ fsplit t $
      move t (3 ∷ 0 ∷ 6 ∷ []) $ back-mut t so u32 z.b n x.b l.b 0 (λ eb. move t (1 ∷ []) $ fsplit t $ move t (4 ∷ 0 ∷ 6 ∷ []) $ back-mut t so u32 z.c n x.c l.c 0 (λ ec.
      move t (4 ∷ 1 ∷ 5 ∷ []) $ back-mut t so u32 z.d n x.d l.d 0 (λ ed.
      move t (1 ∷ 0 ∷ []) $ fjoin t $ move t (1 ∷ 0 ∷ []) $ fjoin t $ move t (1 ∷ 0 ∷ []) $ fjoin t $ k (ea, (eb, (ec, ed)))))))

  pub lend-fronts : K → Soaks G → (ℓ : Quad Lifetime) (k : ℕ) {n : ℕ} → Room u32 k → Room u32 n → (l : Quad ℕ) (x : Quad (List ℕ)) → Long n x → k ≤ length x.a
      → ((z : Quad Loan) → Seq K 𝓛 (Tokens z (Readers ℓ k n z l x (‵ (Fronted k z l x) ∷ Γ))) G) → Seq K 𝓛 (‵ (Four l x) ∷ Γ) G
  lend-fronts t so ℓ k room room' l x long le go =
      fsplit t $ lend-front-u32 t so ℓ.a k x.a le room l.a 0 (λ za. move t (3 ∷ []) $ fsplit t $ lend-shr-u32 t so ℓ.b x.b long.1.0 room' l.b 0 (λ zb. move t (3 ∷ []) $
      fsplit t $ lend-shr-u32 t so ℓ.c x.c long.1.1.0 room' l.c 0 (λ zc. move t (3 ∷ []) $ lend-shr-u32 t so ℓ.d x.d long.1.1.1 room' l.d 0 (λ zd.
      move t (5 ∷ 2 ∷ []) $ fjoin t $ move t (7 ∷ 0 ∷ []) $ fjoin t $ move t (9 ∷ 0 ∷ []) $ fjoin t $ move t (7 ∷ 5 ∷ 3 ∷ 1 ∷ 8 ∷ 6 ∷ 4 ∷ 2 ∷ []) $ go (quad za zb zc zd)))))

  pub back-fronts : K → Soaks G → (k : ℕ) (z : Quad Loan) (l : Quad ℕ) (x : Quad (List ℕ)) → Step K 𝓛 (‵ (Four l x) ∷ Γ) G (Tokens z (‵ (Fronted k z l x) ∷ Γ)) G
  back-fronts t so k z l x = step (λ go.
      move t (4 ∷ []) $ fsplit t $ move t (2 ∷ 0 ∷ []) $ back-front t so u32 z.a k x.a l.a 0 $ move t (1 ∷ []) $ fsplit t $ move t (3 ∷ 0 ∷ []) $ back_shr t so u32 z.b x.b l.b 0 $
      move t (1 ∷ []) $ fsplit t $ move t (4 ∷ 0 ∷ []) $ back_shr t so u32 z.c x.c l.c 0 $ move t (4 ∷ 1 ∷ []) $ back_shr t so u32 z.d x.d l.d 0 $
      move t (1 ∷ 0 ∷ []) $ fjoin t $ move t (1 ∷ 0 ∷ []) $ fjoin t $ move t (1 ∷ 0 ∷ []) $ fjoin t $ go)

  pub four-room : K → (n : ℕ) (l : Quad ℕ) (x : Quad (List ℕ)) → Long n x → Step K 𝓛 (room_of n l.a ∷ room_of n l.b ∷ room_of n l.c ∷ room_of n l.d ∷ Γ) G (‵ (Four l x) ∷ Γ) G
  four-room t n l x long = step (λ go. fsplit t $ use1 𝓛 (room_of n l.a) (row_room 𝓛 n x.a l.a long.0) $ move t (1 ∷ []) $ fsplit t $
      use1 𝓛 (room_of n l.b) (row_room 𝓛 n x.b l.b long.1.0) $ move t (1 ∷ []) $ fsplit t $ use1 𝓛 (room_of n l.c) (row_room 𝓛 n x.c l.c long.1.1.0) $
      move t (1 ∷ []) $ use1 𝓛 (room_of n l.d) (row_room 𝓛 n x.d l.d long.1.1.1) $ move t (3 ∷ 2 ∷ 1 ∷ 0 ∷ []) $ go)
