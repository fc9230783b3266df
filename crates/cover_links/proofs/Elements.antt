-- Steps for a walk of code over a lent slice: one element is read or written, with the borrow opened before and closed after.
--     Lent             where a slice reference points, its ghost name, its lifetime, and the share of that lifetime's token
--     Had              what a `&mut [R]` at a list is, without its fact: obs, the borrow, the token
--     ref, ref-shr     the `&mut` at a list, and the `&`, which has no name
--     Seen             what a `&[R]` at a list is, without its fact: the token, what it holds of the elements
--     Opened, Looked   the same while the borrow is open at element i
--     put-number, put-link     `*p = x`, where p points at element i of a `&mut [u32]`, of a `&mut [Link]`: the list l is l' after it, by an equation
--     get-number, get-link     `d = *p`, where p points at element i of a `&[u32]`, of a `&[Link]`
--     back, back-shared        at exit: what is had of a slice is what its type owns
-- The operands and the place are judged while the borrow is open: what stands below the slice's three (two) items lies three further on.
-- Assume `Logic`.
use mathlib.Core.Path.{◌≡◌, refl, sym, ap, subst}
use Prim.Native.Nat.{ℕ, ◌<◌, ◌^◌}
use mathlib.Core.List.{List, [], ◌∷◌}
use lib.ListN.{length, get_or, set, length-set}
use seplogic.Ra.Ura.{Ura}
use base.Fraction.{full_share}
use mir.Syntax.{Lifetime, w32, ty_int, Place, Opd as Operand, Body, seq, assign, rv_opd, copy}
use mir.Val.{Val, vint}
use base.Fml.{Lft, GName, Share, fobs, fauth, fbor, fobor, flft, fhide}
use prog.Wp.{Env, Spot, Calls, Loops}
use types.Logic.{Logic}
use types.Kit.{Item, ‵, Post, Goal, runs, Seq, Step, step, ◌$◌, move, drop, fjoin}
use types.Run.{Opd, Finds, Writes, look, look_raw, store, store_raw, load, of_opd, assigns}
use denote.RattleType.{RattleType}
use denote.Laws.{Is, shows}
use denote.Memory.{cell_at, mem, shares}
use denote.Copied.{uint_Copied}
use denote.Opens.{Shut}
use denote.Plain.{uint_vals, uint_Tells, uint_Makes}
use denote.Builtin.{u32}
use denote.Ref.{Bor, MutBor}
use denote.Shadow.{pure_i}
use denote.Slice.{slice_val, MutSlice, ShrSlice, Room, shr_slice_at, mut_slice_at, heres, coded_holeys, elements_shared}
use denote.Lend.{Held}
use denote.Index.{row, place, others, elem_out, elem_back, elem_put, opens_slice, closes_slice, looks_slice, shuts_slice}
use denote.Steps.{owned}
use denote.Struct.Laws as LL
use Rattle.cover_links.specs.Links.{none}
use Rattle.cover_links.specs.declared.Link.{Link}
use Rattle.cover_links.specs.contracts.Link as T
use Rattle.cover_links.proofs.Link.TheLaws as T'

pub record Lent : Type 0 where
  pub lft : Lft
  pub share : Share
  pub block : ℕ
  pub from : ℕ
  pub name : GName

-- the `&mut` at a list
abbrev pub ref : {X : Type 0} → Lent → List X → MutBor (List X)
ref s l = record { ref_ptr = (s.block, s.from); ghost_name = s.name; now = l }

-- the `&` at a list
abbrev pub ref-shr : {X : Type 0} → Lent → List X → Bor (List X)
ref-shr s l = record { ref_ptr = (s.block, s.from); now = l }

-- a parameter's, with its lifetime and share
abbrev pub lent : {X : Type 0} → Lft → Share → MutBor (List X) → Lent
lent κ q x = record { lft = κ; share = q; block = x.ref_ptr.0; from = x.ref_ptr.1; name = x.ghost_name }

-- a link's one machine value
abbrev pub vals : Link → List Val
vals = LL.vals T.the_type T'.the_laws

module _ {M : Type 1} {𝓤 : Ura M} (R : RattleType) (s : Lent) (l : List R.Denot) where
  -- a `&mut [R]` at the list l, over the rest of the context
  abbrev pub Had : List (Item 𝓤) → List (Item 𝓤)
  Had Γ = ‵ (fobs s.name ((coded_holeys R).code (heres R l))) ∷ ‵ (fbor s.lft (Held R (length l) s.block s.from s.name)) ∷ ‵ (flft s.lft s.share) ∷ Γ

  -- a `&[R]` at the list l
  abbrev pub Seen : List (Item 𝓤) → List (Item 𝓤)
  Seen Γ = ‵ (flft s.lft s.share) ∷ ‵ (fhide (elements_shared R l s.block s.from s.lft)) ∷ Γ

  -- the same while the borrow is open: element i, at the machine values vs, stands first
  abbrev pub Opened : ℕ → R.Denot → List Val → List (Item 𝓤) → List (Item 𝓤)
  Opened i x vs Γ = ‵ (cell_at full_share R.mir vs s.block (place (mem R).size s.from i)) ∷ ‵ (R.own_val x vs) ∷ ‵ (others (shares R) full_share l i s.block s.from)
      ∷ ‵ (fobor s.lft s.share (Held R (length l) s.block s.from s.name)) ∷ ‵ (fobs s.name ((coded_holeys R).code (heres R l)))
      ∷ ‵ (fauth s.name ((coded_holeys R).code (heres R l))) ∷ Γ

  abbrev pub Looked : Logic 𝓤 → Share → ℕ → R.Denot → List Val → List (Item 𝓤) → List (Item 𝓤)
  Looked 𝓛 q i x vs Γ = ‵ (cell_at q R.mir vs s.block (place (mem R).size s.from i)) ∷ ‵ (R.own_val x vs) ∷ ‵ (others (shares R) q l i s.block s.from)
      ∷ Shut 𝓛 s.lft s.share (row R q l s.block s.from) ∷ ‵ (fhide (elements_shared R l s.block s.from s.lft)) ∷ Γ

-- the list is another one, by an equation
named : {M : Type 1} {𝓤 : Ura M} {𝓛 : Logic 𝓤} {K : Type 0} {Γ : List (Item 𝓤)} {G : Goal 𝓤 𝓛.H} → K → (R : RattleType) (s : Lent) {l l' : List R.Denot} → l ≡ l'
    → Step K 𝓛 (Had R s l' Γ) G (Had R s l Γ) G
named {𝓛 = 𝓛} {K = K} {Γ} {G} t R s {l} {l'} e = step (λ k. subst (λ (z : List R.Denot). Seq K 𝓛 (Had R s z Γ) G) (sym e) k)

module _ {M : Type 1} {𝓤 : Ura M} {𝓛 : Logic 𝓤} {K : Type 0} {Γ : List
    (Item 𝓤)} {E : Env 𝓤 𝓛.H} {C : Calls 𝓤 𝓛.H} {Λ : Loops 𝓤 𝓛.H} {q : Post 𝓤 𝓛.H} {p : Place} {rest : Body} where
  -- ---- a store
  open 𝓛 use {H}

  pub put-number : K → (s : Lent) (l l' : List ℕ) (i v : ℕ) → i < length l → v < 2 ^ 32 → set l i v ≡ l' → {x : Operand}
      → Opd K 𝓛 (Opened u32 s l i (get_or l i 0) (uint_vals w32 (get_or l i 0)) Γ) E x (vint w32 v)
      → Finds K 𝓛 (Opened u32 s l i (get_or l i 0) (uint_vals w32 (get_or l i 0)) Γ) E p (ty_int w32, s.block, place 4 s.from i)
      → Step K 𝓛 (Had u32 s l' Γ) (runs C Λ E rest q) (Had u32 s l Γ) (runs C Λ E (seq (assign p (rv_opd x)) rest) q)
  put-number t s l l' i v lt fits e x f = step (λ k. opens_slice t tt u32 l s.block s.from $
      elem_out t u32 (Is u32) (shows 𝓛 u32) (uint_vals w32) (uint_Tells w32) full_share l i 0 s.block s.from lt (λ _. assigns t (of_opd t x) f (store t 0 refl
      (tt, record { fits = fits })) $
      move t (1 ∷ []) $ drop t $ owned t u32 (Is u32) (uint_Makes 𝓛 w32) v (vint w32 v ∷ []) (refl, fits) $ move t (1 ∷ 0 ∷ []) $
      elem_put t u32 full_share l i v (vint w32 v ∷ []) s.block s.from lt $
      closes_slice t tt u32 l (set l i v) (length-set l i v) s.block s.from $ named t u32 s e $ k))

  pub put-link : K → (s : Lent) (l l' : List Link) (i : ℕ) (v : Link) → i < length l → Is T.the_row v (vals v) → set l i v ≡ l' → {x : Operand}
      → Opd K 𝓛 (Opened T.the_row s l i (get_or l i none) (vals (get_or l i none)) Γ) E x (T'.lowered v)
      → Finds K 𝓛 (Opened T.the_row s l i (get_or l i none) (vals (get_or l i none)) Γ) E p (T'.mir, s.block, place 16 s.from i)
      → Step K 𝓛 (Had T.the_row s l' Γ) (runs C Λ E rest q) (Had T.the_row s l Γ) (runs C Λ E (seq (assign p (rv_opd x)) rest) q)
  put-link t s l l' i v lt is e x f = step (λ k. opens_slice t tt T.the_row l s.block s.from $
      elem_out t T.the_row (Is T.the_row) (shows 𝓛 T.the_row) vals (LL.tells T.the_type T'.the_laws) full_share l i none s.block s.from lt (λ _.
      assigns t (of_opd t x) f (store_raw t 0 refl ((LL.lawful T.the_type T'.the_laws 𝓛).typed v (vals v) is).0) $
      move t (1 ∷ []) $ drop t $ owned t T.the_row (Is T.the_row) (LL.makes T.the_type T'.the_plain 𝓛) v (vals v) is $ move t (1 ∷ 0 ∷ []) $
      elem_put t T.the_row full_share l i v (vals v) s.block s.from lt $
      closes_slice t tt T.the_row l (set l i v) (length-set l i v) s.block s.from $ named t T.the_row s e $ k))

  -- ---- a read: what follows has the element's relation in hand
  pub get-number : K → (s : Lent) (l : List ℕ) (i : ℕ) → i < length l → {x : Place} {Γ' : List (Item 𝓤)} {sp : Spot 𝓤 H}
      → ((r : Share) → Finds K 𝓛 (Looked u32 s l 𝓛 r i (get_or l i 0) (uint_vals w32 (get_or l i 0)) Γ) E x (ty_int w32, s.block, place 4 s.from i))
      → ((r : Share) → Finds K 𝓛 (Looked u32 s l 𝓛 r i (get_or l i 0) (uint_vals w32 (get_or l i 0)) Γ) E p sp)
      → ((r : Share) → get_or l i 0 < 2 ^ 32
      → Writes K 𝓛 (Looked u32 s l 𝓛 r i (get_or l i 0) (uint_vals w32 (get_or l i 0)) Γ) sp.0 sp.1 sp.2 (vint w32 (get_or l i 0)) (Looked u32 s l 𝓛 r i (get_or l i 0) (uint_vals w32
      (get_or l i 0)) Γ'))
      → (get_or l i 0 < 2 ^ 32 → Seq K 𝓛 (Seen u32 s l Γ') (runs C Λ E rest q)) → Seq K 𝓛 (Seen u32 s l Γ) (runs C Λ E (seq (assign p (rv_opd (copy x))) rest) q)
  get-number t s l i lt x f w k = move t (1 ∷ 0 ∷ []) $ looks_slice t tt u32 (uint_Copied 𝓛 w32) l s.block s.from (λ r.
      elem_out t u32 (Is u32) (shows 𝓛 u32) (uint_vals w32) (uint_Tells w32) r l i 0 s.block s.from lt (λ g. assigns t (of_opd t (load t (x r) (look t 0 refl))) (f r) (w r g.1) $
      elem_back t u32 r l i 0 (vint w32 (get_or l i 0) ∷ []) s.block s.from lt $ shuts_slice t tt u32 r l s.block s.from $ k g.1))

  pub get-link : K → (s : Lent) (l : List Link) (i : ℕ) → i < length l → {x : Place} {Γ' : List (Item 𝓤)} {sp : Spot 𝓤 H}
      → ((r : Share) → Finds K 𝓛 (Looked T.the_row s l 𝓛 r i (get_or l i none) (vals (get_or l i none)) Γ) E x (T'.mir, s.block, place 16 s.from i))
      → ((r : Share) → Finds K 𝓛 (Looked T.the_row s l 𝓛 r i (get_or l i none) (vals (get_or l i none)) Γ) E p sp)
      → ((r : Share) → Is T.the_row (get_or l i none) (vals (get_or l i none))
      → Writes K 𝓛 (Looked T.the_row s l 𝓛 r i (get_or l i none) (vals (get_or l i none)) Γ) sp.0 sp.1 sp.2 (T'.lowered (get_or l i none)) (Looked T.the_row s l 𝓛 r i (get_or l i none) (vals
      (get_or l i none)) Γ'))
      → (Is T.the_row (get_or l i none) (vals (get_or l i none)) → Seq K 𝓛 (Seen T.the_row s l Γ') (runs C Λ E rest q))
      → Seq K 𝓛 (Seen T.the_row s l Γ) (runs C Λ E (seq (assign p (rv_opd (copy x))) rest) q)
  get-link t s l i lt x f w k = move t (1 ∷ 0 ∷ []) $
      looks_slice t tt T.the_row (LL.copied T.the_type T'.the_copy 𝓛) l s.block s.from (λ r.
      elem_out t T.the_row (Is T.the_row) (shows 𝓛 T.the_row) vals (LL.tells T.the_type T'.the_laws) r l i none s.block s.from lt (λ g. assigns t (of_opd t (load t (x r)
      (look_raw t 0 refl))) (f r) (w r g) $
      elem_back t T.the_row r l i none (vals (get_or l i none)) s.block s.from lt $ shuts_slice t tt T.the_row r l s.block s.from $ k g))

-- ---- at exit: with the fact on its machine value, what is had of a slice is what its type owns
module _ {M : Type 1} {𝓤 : Ura M} {𝓛 : Logic 𝓤} {K : Type 0} {Γ : List (Item 𝓤)} {G : Goal 𝓤 𝓛.H} where
  pub back : K → (R : RattleType) (ℓ : Lifetime) (s : Lent) (l : List R.Denot) {m : ℕ} → length l ≡ m → Room R m
      → Step K 𝓛 (‵ ((MutSlice ℓ s.lft R).own_val (ref s l) (slice_val (s.block, s.from) m ∷ [])) ∷ Γ) G
      (‵ (fobs s.name ((coded_holeys R).code (heres R l))) ∷ ‵ (fbor s.lft (Held R (length l) s.block s.from s.name)) ∷ Γ) G
  back t R ℓ s l {m} e room = step (λ k. fjoin t $
      pure_i t (mut_slice_at R (ref s l) (slice_val (s.block, s.from) m ∷ [])) (tt, (tt, tt)) (ap (λ (c : ℕ). slice_val (s.block, s.from) c ∷ []) (sym e), subst (Room R) (sym e) room) $ fjoin t $ k)

  pub back-shared : K → (R : RattleType) (ℓ : Lifetime) (s : Lent) (l : List R.Denot) → Room R (length l)
      → Step K 𝓛 (‵ ((ShrSlice ℓ s.lft R).own_val (ref-shr s l) (slice_val (s.block, s.from) (length l) ∷ [])) ∷ Γ) G
      (‵ (fhide (elements_shared R l s.block s.from s.lft)) ∷ Γ) G
  back-shared t R ℓ s l room = step (λ k. pure_i t (shr_slice_at R (ref-shr s l) (slice_val (s.block, s.from) (length l) ∷ [])) (tt, (tt, tt)) (refl, room) $ fjoin t $ k)
