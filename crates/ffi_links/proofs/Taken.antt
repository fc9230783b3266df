-- The calls of `ridgeoven_links_apart` and `ridgeoven_links_together` in a walk that owns the four columns.
--     Apart, Together          the contracts that are cited
--     lend-apart, back-apart   the columns and a `&[Link]` become what the call asks; after it the columns are back, with what is ensured of them (`Taken`)
--     lend-together, back-together     the same of the columns, of the first its first k numbers, and a `&mut [Link]` that is given away (`Put`): its borrow comes back, closed
-- Assume `Logic`.
use mathlib.Core.Path.{◌≡◌}
use Prim.Native.Nat.{ℕ, ◌≤◌}
use mathlib.Core.List.{List, [], ◌∷◌, map}
use lib.ListN.{length, take}
use seplogic.Ra.Ura.{Ura}
use base.Fraction.{full_share}
use mir.Syntax.{named}
use mir.Val.{Val}
use base.Logic.{SProp, ent, id⊢}
use base.Fml.{ftrue, flft, fbor}
use prog.Memory.{Memory}
use prog.Routine.{Routine}
use types.Logic.{Logic}
use contract.Monad.{Fun, fact}
use types.Kit.{Item, ‵, raw, some, later, ◌⊛◌, ⋆, Goal, Soaks, Seq, ◌$◌, ◌∵◌, !, qed, cut, move, drop, use1, split, join, pick, fsplit, fjoin, feq_l, frame, await, done}
use denote.Builtin.{u32, usize}
use denote.Slice.{slice_val, MutSlice, ShrSlice, Room, finally}
use denote.Lend.{Held}
use denote.Steps.{heard, nothing}
use denote.Triple.Statement.{Contract}
use denote.Triple.Clauses.{ensured, lasts}
use denote.Triple.Spec.{triple_of}
use Rattle.cover_links.specs.Links.{over, carried, from_chain_of, from_seq_of, to_chain_of, to_seq_of, link_in, places}
use Rattle.cover_links.specs.declared.Link.{Link}
use Rattle.cover_links.proofs.Elements.{Lent, ref, ref-shr}
use Rattle.cover_links.specs.contracts.Link as T
use Rattle.cover_links.specs.contracts.ridgeoven_links_apart as apart
use Rattle.cover_links.specs.contracts.ridgeoven_links_together as together
use Rattle.ffi_links.proofs.Loans.{Loan, life, by}
use Rattle.ffi_links.proofs.Four.{Quad, quad, Four, Long, Loaned, Fronted, Tokens, TokensOf, Writers, Readers, open-tokens, join-tokens, open-lasts, join-four}
use Rattle.ffi_links.proofs.Four.{lend-four, back-four, lend-fronts, back-fronts}

-- the columns that links were taken apart into, from the columns x
abbrev pub Taken : List Link → Quad (List ℕ) → ℕ → Quad (List ℕ) → Type 0
Taken ys x r y = (r ≡ carried ys x.a x.b x.c x.d) × ((y.a ≡ over (map from_chain_of (take (carried ys x.a x.b x.c x.d) ys)) x.a)
    × ((y.b ≡ over (map from_seq_of (take (carried ys x.a x.b x.c x.d) ys)) x.b) × ((y.c ≡ over (map to_chain_of (take (carried ys x.a x.b x.c x.d) ys)) x.c)
    × (y.d ≡ over (map to_seq_of (take (carried ys x.a x.b x.c x.d) ys)) x.d))))

-- the links zs that stand where ys stood, once the first k of the columns x were put there
abbrev pub Put : ℕ → Quad (List ℕ) → List Link → ℕ → List Link → Type 0
Put k x ys r zs = (r ≡ carried ys (take k x.a) x.b x.c x.d)
    × (zs ≡ over (map (link_in (take k x.a) x.b x.c x.d) (places (carried ys (take k x.a) x.b x.c x.d))) ys)

module _ {M : Type 1} {𝓤 : Ura M} (𝓛 : Logic 𝓤) (mem : Memory → SProp 𝓤) (run : Routine → Fun 𝓤) where
  open 𝓛 use {H}

  abbrev pub Apart : Contract 𝓤
  Apart = triple_of 𝓛 apart.signature (apart.spec 𝓛 mem run)

  abbrev pub Together : Contract 𝓤
  Together = triple_of 𝓛 together.signature (together.spec 𝓛 mem run)

  module _ (s : Lent) (ys : List Link) (n : ℕ) (l : Quad ℕ) (x : Quad (List ℕ)) where
    -- what each triple binds outside
    abbrev pub to-apart : Quad Loan → Apart.Ghost
    to-apart z = (
      (
        (s.lft, (life z.a, (life z.b, (life z.c, (life z.d, tt))))),
        (s.share, (full_share, (full_share, (full_share, (full_share, tt))))),
        tt,
        (ref-shr s ys, (ref (by z.a l.a 0) x.a, (ref (by z.b l.b 0) x.b, (ref (by z.c l.c 0) x.c, (ref (by z.d l.d 0) x.d, tt))))),
        (slice_val (s.block, s.from) (length ys) ∷ [], (slice_val (l.a, 0) n ∷ [], (slice_val (l.b, 0) n ∷ [], (slice_val (l.c, 0) n ∷ [], (slice_val (l.d, 0) n ∷ [], tt))))),
      ),
      tt,
    )

    abbrev pub to-together : ℕ → Quad Loan → Together.Ghost
    to-together k z = (
      (
        (life z.a, (life z.b, (life z.c, (life z.d, (s.lft, tt))))),
        (full_share, (full_share, (full_share, (full_share, (s.share, tt))))),
        tt,
        (ref-shr (by z.a l.a 0) (take k x.a), (ref-shr (by z.b l.b 0) x.b, (ref-shr (by z.c l.c 0) x.c, (ref-shr (by z.d l.d 0) x.d, (ref s ys, tt))))),
        (slice_val (l.a, 0) k ∷ [], (slice_val (l.b, 0) n ∷ [], (slice_val (l.c, 0) n ∷ [], (slice_val (l.d, 0) n ∷ [], (slice_val (s.block, s.from) (length ys) ∷ [], tt))))),
      ),
      tt,
    )

    -- what each call asks, of items in order
    abbrev links-seen : Item 𝓤
    links-seen = ‵ ((ShrSlice (named 0) s.lft T.the_row).own_val (ref-shr s ys) (slice_val (s.block, s.from) (length ys) ∷ []))

    abbrev links-had : Item 𝓤
    links-had = ‵ ((MutSlice (named 4) s.lft T.the_row).own_val (ref s ys) (slice_val (s.block, s.from) (length ys) ∷ []))

    abbrev asked-apart : Quad Loan → List (Item 𝓤)
    asked-apart z = ‵ (flft s.lft s.share) ∷ links-seen ∷ Tokens z (Writers (quad (named 1) (named 2) (named 3) (named 4)) n z l x [])

    abbrev asked-together : ℕ → Quad Loan → List (Item 𝓤)
    asked-together k z = links-had ∷ ‵ (flft s.lft s.share) ∷ Tokens z (Readers (quad (named 0) (named 1) (named 2) (named 3)) k n z l x [])

    goes-apart : (z : Quad Loan) → ent 𝓤 (⋆ 𝓛 (asked-apart z)) (Apart.pre (to-apart z))
    goes-apart z =
        qed 𝓛 (asked-apart z) ∵ nothing ! $ move ! (3 ∷ 4 ∷ 5 ∷ 6 ∷ 0 ∷ []) $ join-tokens ! z $ move ! (1 ∷ 0 ∷ []) $ join ! $ nothing ! $ move ! (3 ∷ 4 ∷ 5 ∷ 6 ∷ 0 ∷ []) $ join-four ! $
        move ! (2 ∷ 0 ∷ []) $ fjoin ! $ move ! (1 ∷ 0 ∷ []) $ join ! $ frame ! $ done !

    goes-together : (k : ℕ) (z : Quad Loan) → ent 𝓤 (⋆ 𝓛 (asked-together k z)) (Together.pre (to-together k z))
    goes-together k z =
        qed 𝓛 (asked-together k z) ∵ nothing ! $ move ! (2 ∷ 0 ∷ []) $ join ! $ move ! (2 ∷ 3 ∷ 4 ∷ 5 ∷ 0 ∷ []) $ join-tokens ! z $ nothing ! $ move ! (2 ∷ 0 ∷ []) $ fjoin ! $
        move ! (2 ∷ 3 ∷ 4 ∷ 5 ∷ 0 ∷ []) $ join-four ! $ move ! (1 ∷ 0 ∷ []) $ join ! $ frame ! $ done !

    module _ {K : Type 0} {Γ : List (Item 𝓤)} {G : Goal 𝓤 H} where
      pub lend-apart : K → Soaks G → Room u32 n → Long n x → ((z : Quad Loan) → Seq K 𝓛 (raw (Apart.pre (to-apart z)) ∷ ‵ (Loaned n z l) ∷ Γ) G)
          → Seq K 𝓛 (‵ (Four l x) ∷ links-seen ∷ ‵ (flft s.lft s.share) ∷ Γ) G
      lend-apart t so room long k = lend-four t so (quad (named 1) (named 2) (named 3) (named 4)) room l x long (λ z. move t (10 ∷ 9 ∷ 0 ∷ 1 ∷ 2 ∷ 3 ∷ 4 ∷ 5 ∷ 6 ∷ 7 ∷ []) $
          cut (asked-apart z) (raw (Apart.pre (to-apart z)) ∷ []) (‵ (Loaned n z l) ∷ Γ) (goes-apart z) $ k z)

      pub back-apart : K → Soaks G → (z : Quad Loan) (v : Val)
          → ((r : ℕ) (y : Quad (List ℕ)) → Taken ys x r y → Long n y → Seq K 𝓛 (‵ (usize.own_val r (v ∷ [])) ∷ ‵ (Four l y) ∷ ‵ (flft s.lft s.share) ∷ Γ) G)
          → Seq K 𝓛 (raw (Apart.post (to-apart z) v) ∷ ‵ (Loaned n z l) ∷ Γ) G
      back-apart t so z v k =
          use1 𝓛 (later (some (λ (r : ℕ). ((‵ (flft s.lft s.share) ⊛ TokensOf z (‵ ftrue)) ⊛ ‵ (usize.own_val r (v ∷ []))) ⊛ raw
          (ensured 𝓛 apart.ended (apart.clauses 𝓛 mem run) (to-apart z).0.0 (to-apart z).0.3 tt r))))
          (id⊢ 𝓤 _) $ await t so $ pick t (λ r. split t $ move t (1 ∷ []) $
          use1 𝓛 (some (λ (ws : Unit {0} × (List ℕ × (List ℕ × (List ℕ × (List ℕ × Unit {0}))))). ‵ (lasts apart.ended (to-apart z).0.0 (to-apart z).0.3 ws) ⊛ raw
          (fact 𝓤 (Taken ys x r (left ws)))))
          (id⊢ 𝓤 _) $ pick t (λ ws. split t $ move t (1 ∷ []) $ heard t (Taken ys x r (left ws)) (λ e.
          fsplit t $ drop t $ open-lasts t z l x (left ws) $
          -- [the last lists; the tokens and the answer; what is kept]
          move t (4 ∷ []) $ split t $ split t $ move t (1 ∷ []) $ open-tokens t z $ move t (0 ∷ 1 ∷ 2 ∷ 3 ∷ 7 ∷ 8 ∷ 9 ∷ 10 ∷ 11 ∷ []) $ back-four t so n z l (left ws) (λ long.
          move t (1 ∷ []) $ drop t $ move t (2 ∷ 0 ∷ 1 ∷ []) $ k r (left ws) e long))))
        where
          left : Unit {0} × (List ℕ × (List ℕ × (List ℕ × (List ℕ × Unit {0})))) → Quad (List ℕ)
          left ws = quad ws.1.0 ws.1.1.0 ws.1.1.1.0 ws.1.1.1.1.0

      pub lend-together : K → Soaks G → (k : ℕ) → Room u32 k → Room u32 n → Long n x → k ≤ length x.a
          → ((z : Quad Loan) → Seq K 𝓛 (raw (Together.pre (to-together k z)) ∷ ‵ (Fronted k z l x) ∷ Γ) G)
          → Seq K 𝓛 (‵ (Four l x) ∷ links-had ∷ ‵ (flft s.lft s.share) ∷ Γ) G
      lend-together t so k room room' long le go = lend-fronts t so (quad (named 0) (named 1) (named 2) (named 3)) k room room' l x long le (λ z. move t (9 ∷ 10 ∷ 0 ∷ 1 ∷ 2 ∷ 3 ∷ 4 ∷ 5 ∷ 6 ∷ 7 ∷ []) $
          cut (asked-together k z) (raw (Together.pre (to-together k z)) ∷ []) (‵ (Fronted k z l x) ∷ Γ) (goes-together k z) $ go z)

      pub back-together : K → Soaks G → (k : ℕ) (z : Quad Loan) (v : Val)
          → ((r : ℕ) (zs : List Link) → Put k x ys r zs → length zs ≡ length ys
          → Seq K 𝓛 (‵ (usize.own_val r (v ∷ [])) ∷ ‵ (Four l x) ∷ ‵ (finally T.the_row s.name zs) ∷ ‵ (flft s.lft s.share)
          ∷ ‵ (fbor s.lft (Held T.the_row (length ys) s.block s.from s.name)) ∷ Γ) G)
          → Seq K 𝓛 (raw (Together.post (to-together k z) v) ∷ ‵ (Fronted k z l x) ∷ Γ) G
      back-together t so k z v go =
          use1 𝓛 (later (some (λ (r : ℕ). (TokensOf z (‵ (flft s.lft s.share) ⊛ ‵ ftrue) ⊛ ‵ (usize.own_val r (v ∷ []))) ⊛ raw
          (ensured 𝓛 together.ended (together.clauses 𝓛 mem run) (to-together k z).0.0 (to-together k z).0.3 tt r))))
          (id⊢ 𝓤 _) $ await t so $ pick t (λ r. split t $ move t (1 ∷ []) $
          use1 𝓛 (some (λ (ws : Unit {0} × (Unit {0} × (Unit {0} × (Unit {0} × (List Link × Unit {0}))))). ‵ (lasts together.ended (to-together k z).0.0 (to-together k z).0.3 ws)
          ⊛ raw (fact 𝓤 (Put k x ys r ws.1.1.1.1.0)))) (id⊢ 𝓤 _) $ pick t (λ ws. split t $ move t (1 ∷ []) $ heard t (Put k x ys r ws.1.1.1.1.0) (λ e.
          fsplit t $ drop t $ fsplit t $ drop t $ fsplit t $ drop t $ fsplit t $ drop t $ fsplit t $ fsplit t $ fsplit t $ move t (1 ∷ []) $ feq_l t (λ long.
          -- [the last list; the borrow; true; the tokens and the answer; what is kept]
          move t (3 ∷ []) $ split t $ open-tokens t z $ move t (0 ∷ 1 ∷ 2 ∷ 3 ∷ 9 ∷ []) $ back-fronts t so k z l x $
          -- [the columns; the links' token and true; the answer; the last list; the borrow; true]
          move t (1 ∷ []) $ split t $ move t (1 ∷ []) $ drop t $ move t (5 ∷ []) $ drop t $ move t (2 ∷ 1 ∷ 3 ∷ 0 ∷ 4 ∷ []) $ go r ws.1.1.1.1.0 e long))))
