-- Memory that a walk lends for one call: a row of elements goes to the callee at a lifetime of its own and comes back once that is over; and a local array, as such a row.
--     Loan             the lifetime of a loan, and the name that the reference has (a `&` has none, and 0 stands there).        by   the reference of a loan
--     lend-mut, back-mut       a row lent as a `&mut [R]`, and back at the list that the callee left
--     lend-shr, back_shr       a row lent as a `&[R]`, and back.        lend-front, back-front   the first k of a row lent so. R has the law by which a
--                      `&` is made (`Shares`), at `'static`: it holds no `&mut`
--     reshare, unshare         a `&mut [R]` that is lent as a `&[R]`, and back
--     shares-u32, shares-link  that law at the two rows in use: numbers, and links of `cover_links`
--     lend-shr-u32, lend-front-u32, reshare-u32, lend-shr-link, lend-front-link, reshare-link      the three laws there, with no such premise
--     big-lit          a constant that stands with the proof of its bound
--     zeros-typed, zeros-row   an array of zeros: its machine value is typed, and its memory is a row.        row_room    a row is the room of its array
-- Assume `Logic`.
use mathlib.Core.Path.{◌≡◌, refl, sym, subst}
use Prim.Native.Nat.{ℕ, zero, suc, ◌≤◌}
use mathlib.Core.List.{List, [], ◌∷◌, ◌++◌, not-mem-nil}
use lib.Dec.{lit<, T as Holds}
use lib.ListN.{length, replicate, length-replicate, take, drop as drop-list, take-append-drop}
use lib.Seq.{length-take-le}
use seplogic.Ra.Ura.{Ura}
use base.Fraction.{full_share}
use mir.Syntax.{Lifetime, Width, w32, ty_int, ty_array, int_big}
use mir.Val.{Val, vint, Fits, has_ty, WT}
use base.Logic.{ent, via, guard_i}
use base.Fml.{Lft, GName, Incl-refl, Fml, fsep, fat, froom, flft, fobs, fauth, fobor, flent}
use prog.Wp.{Env}
use types.Logic.{Logic, sem}
use types.Kit.{Item, ‵, ◌⊛◌, some, later, Goal, Soaks, Seq, Step, step, ◌$◌, ◌∵◌, !, qed, by as hence, move, drop, use1, use2, use3, split, pick}
use types.Kit.{rewrite, fsplit, fjoin, feq_l, feq_i, await, done}
use types.Run.{Opd}
use types.Tokens.{lft_new, lft_end, lent_back}
use types.SemTy.{cells, Arr}
use types.Share.{arr_parts}
use denote.RattleType.{RattleType}
use denote.Shadow.{shadow}
use denote.Copied.{uint_Copied}
use denote.Shares.{Shares}
use denote.Laws.{Is}
use denote.Memory.{mem, shares, part_at}
use denote.Plain.{uint_Makes, uint_Lawful}
use denote.Builtin.{u32}
use denote.Array.{Array, array_val, each, Array-Lawful, Array-Makes}
use denote.ArrayMemory.{Array-apart, Array-whole}
use denote.Slice.{slice_val, MutSlice, ShrSlice, heres, Room, finally, coded_holeys}
use denote.Lend.{Held, lends_slice, slice_back, lends_shr_slice}
use denote.Index.{row, whole_out, whole_in, opens_slice, closes_slice}
use denote.Steps.{owned}
use denote.Struct.Laws as LL
use borrow.Table.OneValue.{part_in, part_out}
use borrow.Table.Elements.{at, cut_app, join_app}
use Rattle.cover_links.specs.declared.Link.{Link}
use Rattle.cover_links.specs.contracts.Link as T
use Rattle.cover_links.proofs.Link.TheLaws as T'
use Rattle.cover_links.proofs.Elements.{Lent, ref, ref-shr, back}

pub record Loan : Type 0 where
  pub life : ℕ
  pub name : GName

abbrev pub life : Loan → Lft
life z = z.life ∷ []

-- the reference of a loan, to what lies in the block b from o on
abbrev pub by : Loan → ℕ → ℕ → Lent
by z b o = record { lft = life z; share = full_share; block = b; from = o; name = z.name }

-- what the lender has meanwhile of a row lent as a `&[R]`
abbrev pub Shared : (R : RattleType) → Loan → List R.Denot → ℕ → ℕ → Fml
Shared R z xs b o = flent (life z) ((arr_parts (shares R) (length xs)).part full_share xs b o)

module _ {M : Type 1} {𝓤 : Ura M} {𝓛 : Logic 𝓤} {K : Type 0} {Γ : List (Item 𝓤)} {G : Goal 𝓤 𝓛.H} where
  pub lend-mut : K → Soaks G → (ℓ : Lifetime) (R : RattleType) (xs : List R.Denot) {n : ℕ} → length xs ≡ n → Room R n → (b o : ℕ)
      → ((z : Loan) → Seq K 𝓛 (‵ (flft (life z) full_share) ∷ ‵ ((MutSlice ℓ (life z) R).own_val (ref (by z b o) xs) (slice_val (b, o) n ∷ [])) ∷ ‵ (flent (life z) (Held R n b o z.name)) ∷ Γ) G)
      → Seq K 𝓛 (‵ (row R full_share xs b o) ∷ Γ) G
  lend-mut t so ℓ R xs {n} e room b o k = lft_new t so (λ ν. move t (1 ∷ []) $ use1 𝓛 (‵ (cells (mem R) xs b o)) (whole_in 𝓛 R xs b o) $
      use1 𝓛 (later (some (λ (γ : GName). ‵ ((MutSlice ℓ (ν ∷ []) R).own_val (record { ref_ptr = (b, o); ghost_name = γ; now = xs }) (slice_val (b, o) (length xs) ∷ [])) ⊛ ‵
      (flent (ν ∷ []) (Held R (length xs) b o γ)))))
      (lends_slice 𝓛 R ℓ (ν ∷ []) xs b o (subst (Room R) (sym e) room)) $ await t so $ pick t (λ γ. split t $
      rewrite t 0 (λ (m : ℕ). ‵ ((MutSlice ℓ (ν ∷ []) R).own_val (record { ref_ptr = (b, o); ghost_name = γ; now = xs }) (slice_val (b, o) m ∷ []))) e refl $
      rewrite t 1 (λ (m : ℕ). ‵ (flent (ν ∷ []) (Held R m b o γ))) e refl $ move t (2 ∷ []) $ k (record { life = ν; name = γ })))

  pub back-mut : K → Soaks G → (R : RattleType) (z : Loan) (n : ℕ) (zs : List R.Denot) (b o : ℕ) → (length zs ≡ n → Seq K 𝓛 (‵ (row R full_share zs b o) ∷ Γ) G)
      → Seq K 𝓛 (‵ (flft (life z) full_share) ∷ ‵ (flent (life z) (Held R n b o z.name)) ∷ ‵ (finally R z.name zs) ∷ Γ) G
  back-mut t so R z n zs b o k = lft_end t so $ use3 𝓛 (later (‵ ((Arr (mem R) n).own_at zs b o))) (slice_back 𝓛 R (life z) z.name zs n b o) $ await t so $ fsplit t $ feq_l t (λ e.
      use1 𝓛 (‵ (row R full_share zs b o)) (whole_out 𝓛 R zs b o) $ k e)

  pub lend-shr : K → Soaks G → (ℓ : Lifetime) (R : RattleType) → Shares 𝓛 R [] → (xs : List R.Denot) {n : ℕ} → length xs ≡ n → Room R n → (b o : ℕ)
      → ((z : Loan) → Seq K 𝓛 (‵ (flft (life z) full_share) ∷ ‵ ((ShrSlice ℓ (life z) R).own_val (ref-shr (by z b o) xs) (slice_val (b, o) n ∷ [])) ∷ ‵ (Shared R z xs b o) ∷ Γ) G)
      → Seq K 𝓛 (‵ (row R full_share xs b o) ∷ Γ) G
  lend-shr t so ℓ R sh xs {n} e room b o k = lft_new t so (λ ν. move t (1 ∷ []) $ feq_i t ℕ (length xs) (length xs) refl $ fjoin t $ move t (0 ∷ 1 ∷ []) $
      use2 𝓛 (later ((‵ ((ShrSlice ℓ (ν ∷ []) R).own_val (record { ref_ptr = (b, o); now = xs }) (slice_val (b, o) (length xs) ∷ []))
      ⊛ ‵ (flent (ν ∷ []) ((arr_parts (shares R) (length xs)).part full_share xs b o)))
      ⊛ ‵ (flft (ν ∷ []) full_share)))
      (lends_shr_slice 𝓛 R ℓ (ν ∷ []) full_share xs b o (subst (Room R) (sym e) room) [] sh ((ν ∷ [], full_share) ∷ [])
      (λ a m. absurd (not-mem-nil m)) (Incl-refl (ν ∷ []))) $ await t so $ split t $ split t $
      rewrite t 0 (λ (m : ℕ). ‵ ((ShrSlice ℓ (ν ∷ []) R).own_val (record { ref_ptr = (b, o); now = xs }) (slice_val (b, o) m ∷ []))) e refl $ move t (2 ∷ []) $ k (record { life = ν; name = 0 }))

  pub back_shr : K → Soaks G → (R : RattleType) (z : Loan) (xs : List R.Denot) (b o : ℕ)
      → Step K 𝓛 (‵ (row R full_share xs b o) ∷ Γ) G (‵ (flft (life z) full_share) ∷ ‵ (Shared R z xs b o) ∷ Γ) G
  back_shr t so R z xs b o = step (λ k. lft_end t so $ lent_back t so $ fsplit t $ drop t $ k)

-- what the lender has meanwhile of a row whose first k are lent as a `&[R]`: the others too
abbrev pub Front : (R : RattleType) → Loan → ℕ → List R.Denot → ℕ → ℕ → Fml
Front R z k xs b o = fsep (Shared R z (take k xs) b o) (cells (mem R) (drop-list k xs) b (at o (mem R).size (length (take k xs))))

-- what the holder of a `&mut [R]` has meanwhile that is lent as a `&[R]`
abbrev pub Reshared : (R : RattleType) → Loan → Lent → List R.Denot → Fml
Reshared R z s ys = fsep (Shared R z ys s.block s.from) (fsep (fobor s.lft s.share (Held R (length ys) s.block s.from s.name))
    (fsep (fobs s.name ((coded_holeys R).code (heres R ys))) (fauth s.name ((coded_holeys R).code (heres R ys)))))

module _ {M : Type 1} {𝓤 : Ura M} {𝓛 : Logic 𝓤} {K : Type 0} {Γ : List (Item 𝓤)} {G : Goal 𝓤 𝓛.H} where
  pub lend-front : K → Soaks G → (ℓ : Lifetime) (R : RattleType) → Shares 𝓛 R [] → (k : ℕ) (xs : List R.Denot) → k ≤ length xs → Room R k → (b o : ℕ)
      → ((z : Loan) → Seq K 𝓛 (‵ (flft (life z) full_share) ∷ ‵ ((ShrSlice ℓ (life z) R).own_val (ref-shr (by z b o) (take k xs)) (slice_val (b, o) k ∷ [])) ∷ ‵ (Front R z k xs b o) ∷ Γ) G)
      → Seq K 𝓛 (‵ (row R full_share xs b o) ∷ Γ) G
  lend-front t so ℓ R sh k xs le room b o go = use1 𝓛 (‵ (cells (mem R) xs b o)) (whole_in 𝓛 R xs b o) $
      rewrite t 0 (λ (l : List R.Denot). ‵ (cells (mem R) l b o)) (sym (take-append-drop k xs)) refl $
      use1 𝓛 (‵ (cells (mem R) (take k xs) b o) ⊛ ‵ (cells (mem R) (drop-list k xs) b (at o (mem R).size (length (take k xs))))) (cut_app 𝓛 (mem R) (take k xs) (drop-list k xs) b o) $ split t $
      use1 𝓛 (‵ (row R full_share (take k xs) b o)) (whole_out 𝓛 R (take k xs) b o) $
      lend-shr t so ℓ R sh (take k xs) (length-take-le k xs le) room b o (λ z. move t (2 ∷ 3 ∷ []) $ fjoin t $ move t (1 ∷ 2 ∷ []) $ go z)

  pub back-front : K → Soaks G → (R : RattleType) (z : Loan) (k : ℕ) (xs : List R.Denot) (b o : ℕ)
      → Step K 𝓛 (‵ (row R full_share xs b o) ∷ Γ) G (‵ (flft (life z) full_share) ∷ ‵ (Front R z k xs b o) ∷ Γ) G
  back-front t so R z k xs b o = step (λ go. move t (1 ∷ []) $ fsplit t $ move t (2 ∷ 0 ∷ []) $ back_shr t so R z (take k xs) b o $
      use1 𝓛 (‵ (cells (mem R) (take k xs) b o)) (whole_in 𝓛 R (take k xs) b o) $
      use2 𝓛 (‵ (cells (mem R) (take k xs ++ drop-list k xs) b o)) (join_app 𝓛 (mem R) (take k xs) (drop-list k xs) b o) $
      rewrite t 0 (λ (l : List R.Denot). ‵ (cells (mem R) l b o)) (take-append-drop k xs) refl $ use1 𝓛 (‵ (row R full_share xs b o)) (whole_out 𝓛 R xs b o) $ go)

  pub reshare : K → Soaks G → (ℓ ℓ' : Lifetime) (R : RattleType) → Shares 𝓛 R [] → (s : Lent) (ys : List R.Denot) → Room R (length ys)
      → ((z : Loan) → Seq K 𝓛 (‵ (flft (life z) full_share) ∷ ‵ ((ShrSlice ℓ' (life z) R).own_val (ref-shr (by z s.block s.from) ys) (slice_val (s.block, s.from) (length ys) ∷ []))
      ∷ ‵ (Reshared R z s ys) ∷ Γ) G)
      → Seq K 𝓛 (‵ ((MutSlice ℓ s.lft R).own_val (ref s ys) (slice_val (s.block, s.from) (length ys) ∷ [])) ∷ ‵ (flft s.lft s.share) ∷ Γ) G
  reshare t so ℓ ℓ' R sh s ys room k = fsplit t $ drop t $ fsplit t $ opens_slice t so R ys s.block s.from $ lend-shr t so ℓ' R sh ys refl room s.block s.from (λ z.
      move t (4 ∷ 5 ∷ []) $ fjoin t $ move t (4 ∷ 0 ∷ []) $ fjoin t $ move t (3 ∷ 0 ∷ []) $ fjoin t $ move t (1 ∷ 2 ∷ []) $ k z)

  pub unshare : K → Soaks G → (ℓ : Lifetime) (R : RattleType) (z : Loan) (s : Lent) (ys : List R.Denot) → Room R (length ys)
      → Step K 𝓛 (‵ ((MutSlice ℓ s.lft R).own_val (ref s ys) (slice_val (s.block, s.from) (length ys) ∷ [])) ∷ ‵ (flft s.lft s.share) ∷ Γ) G
      (‵ (flft (life z) full_share) ∷ ‵ (Reshared R z s ys) ∷ Γ) G
  unshare t so ℓ R z s ys room = step (λ k. move t (1 ∷ []) $ fsplit t $ move t (2 ∷ 0 ∷ []) $ back_shr t so R z ys s.block s.from $
      move t (1 ∷ []) $ fsplit t $ move t (1 ∷ []) $ fsplit t $ move t (3 ∷ 2 ∷ 0 ∷ 1 ∷ []) $ closes_slice t so R ys ys refl s.block s.from $ back t R ℓ s ys refl room $ k)

-- ---- at the two rows in use: numbers, and links
module _ {M : Type 1} {𝓤 : Ura M} (𝓛 : Logic 𝓤) where
  pub shares-u32 : Shares 𝓛 u32 []
  shares-u32 = (uint_Copied 𝓛 w32).shares full_share []

  pub shares-link : Shares 𝓛 T.the_row []
  shares-link = (LL.copied T.the_type T'.the_copy 𝓛).shares full_share []

module _ {M : Type 1} {𝓤 : Ura M} {𝓛 : Logic 𝓤} {K : Type 0} {Γ : List (Item 𝓤)} {G : Goal 𝓤 𝓛.H} where
  pub lend-shr-u32 : K → Soaks G → (ℓ : Lifetime) (xs : List ℕ) {n : ℕ} → length xs ≡ n → Room u32 n → (b o : ℕ)
      → ((z : Loan) → Seq K 𝓛 (‵ (flft (life z) full_share) ∷ ‵ ((ShrSlice ℓ (life z) u32).own_val (ref-shr (by z b o) xs) (slice_val (b, o) n ∷ [])) ∷ ‵ (Shared u32 z xs b o) ∷ Γ) G)
      → Seq K 𝓛 (‵ (row u32 full_share xs b o) ∷ Γ) G
  lend-shr-u32 t so ℓ xs e room b o k = lend-shr t so ℓ u32 (shares-u32 𝓛) xs e room b o k

  pub lend-front-u32 : K → Soaks G → (ℓ : Lifetime) (k : ℕ) (xs : List ℕ) → k ≤ length xs → Room u32 k → (b o : ℕ)
      → ((z : Loan) → Seq K 𝓛 (‵ (flft (life z) full_share) ∷ ‵ ((ShrSlice ℓ (life z) u32).own_val (ref-shr (by z b o) (take k xs)) (slice_val (b, o) k ∷ []))
      ∷ ‵ (Front u32 z k xs b o) ∷ Γ) G)
      → Seq K 𝓛 (‵ (row u32 full_share xs b o) ∷ Γ) G
  lend-front-u32 t so ℓ k xs le room b o go = lend-front t so ℓ u32 (shares-u32 𝓛) k xs le room b o go

  pub reshare-u32 : K → Soaks G → (ℓ ℓ' : Lifetime) (s : Lent) (ys : List ℕ) → Room u32 (length ys)
      → ((z : Loan) → Seq K 𝓛 (‵ (flft (life z) full_share) ∷ ‵ ((ShrSlice ℓ' (life z) u32).own_val (ref-shr (by z s.block s.from) ys) (slice_val (s.block, s.from) (length ys) ∷ []))
      ∷ ‵ (Reshared u32 z s ys) ∷ Γ) G)
      → Seq K 𝓛 (‵ ((MutSlice ℓ s.lft u32).own_val (ref s ys) (slice_val (s.block, s.from) (length ys) ∷ [])) ∷ ‵ (flft s.lft s.share) ∷ Γ) G
  reshare-u32 t so ℓ ℓ' s ys room k = reshare t so ℓ ℓ' u32 (shares-u32 𝓛) s ys room k

  pub lend-shr-link : K → Soaks G → (ℓ : Lifetime) (xs : List Link) {n : ℕ} → length xs ≡ n → Room T.the_row n → (b o : ℕ)
      → ((z : Loan) → Seq K 𝓛 (‵ (flft (life z) full_share) ∷ ‵ ((ShrSlice ℓ (life z) T.the_row).own_val (ref-shr (by z b o) xs) (slice_val (b, o) n ∷ [])) ∷ ‵ (Shared T.the_row z xs b o) ∷ Γ) G)
      → Seq K 𝓛 (‵ (row T.the_row full_share xs b o) ∷ Γ) G
  lend-shr-link t so ℓ xs e room b o k = lend-shr t so ℓ T.the_row (shares-link 𝓛) xs e room b o k

  pub lend-front-link : K → Soaks G → (ℓ : Lifetime) (k : ℕ) (xs : List Link) → k ≤ length xs → Room T.the_row k → (b o : ℕ)
      → ((z : Loan) → Seq K 𝓛 (‵ (flft (life z) full_share) ∷ ‵ ((ShrSlice ℓ (life z) T.the_row).own_val (ref-shr (by z b o) (take k xs)) (slice_val (b, o) k ∷ []))
      ∷ ‵ (Front T.the_row z k xs b o) ∷ Γ) G)
      → Seq K 𝓛 (‵ (row T.the_row full_share xs b o) ∷ Γ) G
  lend-front-link t so ℓ k xs le room b o go = lend-front t so ℓ T.the_row (shares-link 𝓛) k xs le room b o go

  pub reshare-link : K → Soaks G → (ℓ ℓ' : Lifetime) (s : Lent) (ys : List Link) → Room T.the_row (length ys)
      → ((z : Loan) → Seq K 𝓛 (‵ (flft (life z) full_share) ∷ ‵ ((ShrSlice ℓ' (life z) T.the_row).own_val (ref-shr (by z s.block s.from) ys) (slice_val (s.block, s.from) (length ys) ∷ []))
      ∷ ‵ (Reshared T.the_row z s ys) ∷ Γ) G)
      → Seq K 𝓛 (‵ ((MutSlice ℓ s.lft T.the_row).own_val (ref s ys) (slice_val (s.block, s.from) (length ys) ∷ [])) ∷ ‵ (flft s.lft s.share) ∷ Γ) G
  reshare-link t so ℓ ℓ' s ys room k = reshare t so ℓ ℓ' T.the_row (shares-link 𝓛) s ys room k

-- a constant that stands with the proof of its bound
pub big-lit : {M : Type 1} {𝓤 : Ura M} {𝓛 : Logic 𝓤} {K : Type 0} {Γ : List (Item 𝓤)} {E : Env 𝓤 𝓛.H} → K → {w : Width} {n : ℕ} → Fits w n
    → Opd K 𝓛 Γ E (int_big w n) (vint w n)
big-lit {𝓤 = 𝓤} t {w} {n} z = record { go = λ Kt h. via 𝓤 (Kt (vint w n)) h (guard_i 𝓤 (Fits w n) (Kt (vint w n)) z) }

-- ---- an array of zeros
each-zero : (n : ℕ) → shadow (each ℕ u32.own_val (replicate n 0) (replicate n (vint w32 0)))
each-zero zero = tt
each-zero (suc n) = ((refl, lit< tt), each-zero n)

zeros-is : (n : ℕ) → Is (Array u32 n) (replicate n 0) (array_val (replicate n (vint w32 0)) ∷ [])
zeros-is n = (replicate n (vint w32 0), ((refl, length-replicate n 0), each-zero n))

module _ {M : Type 1} {𝓤 : Ura M} (𝓛 : Logic 𝓤) (n : ℕ) where
  pub zeros-typed : Holds (has_ty (ty_array (ty_int w32) n) (array_val (replicate n (vint w32 0)))) × WT (array_val (replicate n (vint w32 0)))
  zeros-typed = ((Array-Lawful 𝓛 u32 (uint_Lawful 𝓛 w32) n).typed (replicate n 0) (array_val (replicate n (vint w32 0)) ∷ []) (zeros-is n)).0

  pub zeros-row : (b : ℕ) → ent 𝓤 (sem 𝓛 (fat full_share (ty_array (ty_int w32) n) b 0 (array_val (replicate n (vint w32 0))))) (sem 𝓛 (row u32 full_share (replicate n 0) b 0))
  zeros-row b =
      qed 𝓛 (‵ (fat full_share (ty_array (ty_int w32) n) b 0 (array_val (replicate n (vint w32 0)))) ∷ []) ∵
      owned ! (Array u32 n) (Is (Array u32 n)) (Array-Makes 𝓛 u32 (uint_Makes 𝓛 w32) n) (replicate n 0) (array_val (replicate n (vint w32 0)) ∷ []) (zeros-is n) $ move ! (1 ∷ 0 ∷ []) $
      use2 𝓛 (‵ (part_at (Array u32 n) full_share (replicate n 0) b 0)) (part_in 𝓛 (Array u32 n) refl full_share (replicate n 0) b 0 (array_val (replicate n (vint w32 0)))) $
      use1 𝓛 (‵ ((arr_parts (shares u32) n).part full_share (replicate n 0) b 0)) (Array-apart 𝓛 u32 full_share tt n (replicate n 0) b 0) $ fsplit ! $ drop ! $ done !

  pub row_room : (xs : List ℕ) (b : ℕ) → length xs ≡ n → ent 𝓤 (sem 𝓛 (row u32 full_share xs b 0)) (sem 𝓛 (froom (ty_array (ty_int w32) n) b 0))
  row_room xs b e =
      qed 𝓛 (‵ (row u32 full_share xs b 0) ∷ []) ∵ feq_i ! ℕ (length xs) n e $ fjoin ! $ use1 𝓛 (‵ (part_at (Array u32 n) full_share xs b 0)) (Array-whole 𝓛 u32 full_share n xs b 0) $
      use1 𝓛 (some (λ (v : Val). ‵ (fat full_share (ty_array (ty_int w32) n) b 0 v) ⊛ ‵ ((Array u32 n).own_val xs (v ∷ [])))) (part_out 𝓛 (Array u32 n) refl full_share xs b 0) $ pick ! (λ v. split ! $
      move ! (1 ∷ []) $ drop ! $ hence ! (𝓛.laws.at_room (ty_array (ty_int w32) n) b 0 v))
