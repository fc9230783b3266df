-- Links as columns: those that are held and those of a file's cover.
use mathlib.Core.Path.{◌≡◌, refl, sym, ◌∙◌, ap}
use mathlib.Core.List.{List, [], ◌∷◌, ◌++◌, map}
use Prim.Native.Nat.{ℕ, zero, suc, ◌≤◌, ◌<◌, ◌+◌}
use native.Mathlib.Omega.{arith}
use lib.ListN.{length, get_or, length-map}
use Rattle.cover.specs.Chains.{Link}
use Rattle.cover.specs.Cover.{links_of, sums}
use Rattle.cover.proofs.Stored.{length-sums}
use Rattle.cleaning.specs.Sheet.{GroupLink}
use Rattle.run_state.specs.declared.Links.{Links}
use Rattle.run_state.specs.View.{listed, link_at}
use Rattle.run_store.specs.parts.Grown.{links_with}
use Rattle.run_store.proofs.joined.Grows.{sets-before, sets-at, get_or-map-in, listed-grown, column-at}

abbrev no_link : Link
no_link = record { from_chain = 0; from_seq = 0; to_chain = 0; to_seq = 0 }

links-length : (ss bs cs ds : List ℕ) → length bs ≡ length ss → length cs ≡ length ss → length ds ≡ length ss → length (links_of ss bs cs ds) ≡ length ss
unfolding links_of
links-length [] bs cs ds e f g = refl
links-length (s ∷ ss) [] cs ds e f g = absurd (omega arith)
links-length (s ∷ ss) (b ∷ bs) [] ds e f g = absurd (omega arith)
links-length (s ∷ ss) (b ∷ bs) (c ∷ cs) [] e f g = absurd (omega arith)
links-length (s ∷ ss) (b ∷ bs) (c ∷ cs) (d ∷ ds) e f g = ap suc (links-length ss bs cs ds (omega arith) (omega arith) (omega arith))

links_span : (ss bs cs ds : List ℕ) (j : ℕ) → length bs ≡ length ss → length cs ≡ length ss → length ds ≡ length ss → j < length ss
    → get_or (links_of ss bs cs ds) j no_link ≡ record { from_chain = get_or ss j 0; from_seq = get_or bs j 0; to_chain = get_or cs j 0; to_seq = get_or ds j 0 }
unfolding links_of
links_span [] bs cs ds j e f g h = absurd (omega arith)
links_span (s ∷ ss) [] cs ds j e f g h = absurd (omega arith)
links_span (s ∷ ss) (b ∷ bs) [] ds j e f g h = absurd (omega arith)
links_span (s ∷ ss) (b ∷ bs) (c ∷ cs) [] j e f g h = absurd (omega arith)
links_span (s ∷ ss) (b ∷ bs) (c ∷ cs) (d ∷ ds) zero e f g h = refl
links_span (s ∷ ss) (b ∷ bs) (c ∷ cs) (d ∷ ds) (suc j) e f g h = links_span ss bs cs ds j (omega arith) (omega arith) (omega arith) (omega arith)

-- room for n entries more in every column
pub record LinkRoom (l : Links) (n : ℕ) : Type 0 where
  pub groups : l.count + n ≤ length l.groups
  pub chains : l.count + n ≤ length l.from.chains
  pub seqs : l.count + n ≤ length l.from.seqs
  pub to_chains : l.count + n ≤ length l.to.chains
  pub to_seqs : l.count + n ≤ length l.to.seqs

module _ (l : Links) (group : ℕ) (ds bs cs es : List ℕ) (e : length bs ≡ length ds) (f : length cs ≡ length ds) (g : length es ≡ length ds) (r : LinkRoom l (length ds)) where
  abbrev in_group : Link → GroupLink
  in_group k = record { group = group; link = k }

  abbrev more : List Link
  more = links_of (sums 0 ds) bs cs es

  len : length more ≡ length ds
  len = links-length (sums 0 ds) bs cs es (e ∙ sym (length-sums 0 ds)) (f ∙ sym (length-sums 0 ds)) (g ∙ sym (length-sums 0 ds)) ∙ length-sums 0 ds

  pub links-grown : listed (link_at (links_with l group ds bs cs es)) (l.count + length ds) ≡ listed (link_at l) l.count ++ map in_group more
  unfolding links_with link_at
  links-grown =
      let n = l.count in
      ap (λ i. listed (link_at (links_with l group ds bs cs es)) (l.count + i)) (sym (length-map more in_group ∙ len))
      ∙ listed-grown (link_at (links_with l group ds bs cs es)) (link_at l) l.count (map in_group more) (in_group no_link)
      (λ i h. rw (
        sets-before l.groups l.count (map (λ x. group) ds) i 0 h,
        sets-before l.from.chains l.count (sums 0 ds) i 0 h,
        sets-before l.from.seqs l.count bs i 0 h,
        sets-before l.to.chains l.count cs i 0 h,
        sets-before l.to.seqs l.count es i 0 h,
      ))
      (λ j h. let k : j < length more = rw (length-map more in_group) at h in
      let q : j < length ds = omega (arith, len) in
      let u : j < length (sums 0 ds) = omega (arith, length-sums 0 ds) in
      rw (
        column-at (λ x. group) l.groups l.count ds j 0 q r.groups,
        sets-at l.from.chains l.count (sums 0 ds) j 0 u (rw (length-sums 0 ds) r.chains),
        sets-at l.from.seqs l.count bs j 0 (rw e q) (rw e r.seqs),
        sets-at l.to.chains l.count cs j 0 (rw f q) (rw f r.to_chains),
        sets-at l.to.seqs l.count es j 0 (rw g q) (rw g r.to_seqs),
        get_or-map-in in_group more j (in_group no_link) no_link k,
        links_span (sums 0 ds) bs cs es j (e ∙ sym (length-sums 0 ds)) (f ∙ sym (length-sums 0 ds)) (g ∙ sym (length-sums 0 ds)) u,
      ))
