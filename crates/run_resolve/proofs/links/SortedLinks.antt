-- What sorted columns of links stand for, and columns with the links of a group more.
use mathlib.Core.Path.{◌≡◌, refl, sym, ap, ap₂, ◌∙◌}
use mathlib.Core.List.{List, [], ◌∷◌, ◌++◌, map, map-append, append_assoc}
use Prim.Native.Nat.{ℕ, zero, suc, ◌+◌, ◌-◌, ◌≤◌, ◌<◌}
use native.Mathlib.Omega.{arith}
use native.Mathlib.Nat.{zero-add}
use lib.ListN.{length, get_or, take, drop, replicate, length-map, length-append, get_or-map, get_or-replicate}
use lib.Seq.{drop-cons, take_at, length-take-le, get_or-take, get_or-drop}
use borrow.Rule.Slice.PartMut.{post_of, put_mid}
use mir.Syntax.{w64}
use mir.Val.{Fits}
use Rattle.lists.specs.Lists.{up_from}
use Rattle.lists.proofs.Flat.{map-ext, up_from-append, length-map-up_from}
use Rattle.lists.proofs.Filters.{each_below, map-places}
use Rattle.cover.specs.Chains.{Link, sort_links}
use Rattle.cover.specs.Cover as cover
use Rattle.cover.specs.Answers.{link, over, link_columns, links_over}
use Rattle.cover.specs.Places.{row_at}
use Rattle.cleaning.specs.Sheet.{GroupLink}
use Rattle.cleaning.proofs.GroupLinks.{in_group}
use Rattle.cleaning.proofs.GoodGroups.{few-sorted}
use Rattle.run_state.specs.View.{listed, link_at}
use Rattle.run_state.specs.ByColumns.{links_of}
use Rattle.run_resolve.specs.links.Sorted.{Appended, SortedBehind}
use Rattle.run_resolve.proofs.links.Copying.{behind}

-- ── sorted columns ───────────────────────────────────────────────────────────────────────────

-- what stands at places i to j
abbrev span : ℕ → ℕ → List ℕ → List ℕ
span i j l = take (j - i) (drop i l)

module _ (a b c d : List ℕ) (p : length a ≡ 1024) (q : length b ≡ 1024) (u : length c ≡ 1024) (v : length d ≡ 1024) where
  places-from : (m i : ℕ) → i + m ≤ 1024 → cover.links_of (take m (drop i a)) (take m (drop i b)) (take m (drop i c)) (take m (drop i d)) ≡ map (row_at a b c d) (up_from i m)
  unfolding cover.links_of row_at up_from
  places-from zero i h = refl
  places-from (suc m) i h =
      rw (drop-cons a i 0 (omega arith), drop-cons b i 0 (omega arith), drop-cons c i 0 (omega arith), drop-cons d i 0 (omega arith))
      (ap (λ ks. row_at a b c d i ∷ ks) (places-from m (suc i) (omega arith)))

  -- the links at places i to j are those that are sorted
  pub part-sorted : (i j k r : ℕ) → i ≤ j → j ≤ 1024 → (x y z w x' y' z' w' : List ℕ)
      → SortedBehind (cover.links_of (span i j a) (span i j b) (span i j c) (span i j d)) k r x y z w x' y' z' w'
      → SortedBehind (map (row_at a b c d) (up_from i (j - i))) k r x y z w x' y' z' w'
  part-sorted i j k r h l x y z w x' y' z' w' o = rw (places-from (j - i) i (omega arith)) at o

sort-few : (ls : List Link) → length (sort_links ls) ≤ length ls
unfolding sort_links
sort-few ls = omega (arith, few-sorted [] ls)

-- ── columns with sorted links behind others ──────────────────────────────────────────────────

-- a column whose part from k on is written anew
module _ (k m : ℕ) (was q old vs : List ℕ) (l : length was ≡ 1024) (h : k + m ≤ 1024) (n : length vs ≡ m) (e : q ≡ over vs old) where
  column-behind : Appended k m was (put_mid k (length was - k) was q) vs
  unfolding over
  column-behind =
      let rest = drop (length vs) old in
      let post = post_of k (length was - k) was in
      let front : length (take k was ++ vs) ≡ k + m = simp length-append (omega (arith, length-take-le k was (omega arith))) in
      behind was (put_mid k (length was - k) was q) vs k m
      (ap (λ xs. take (k + m) (take k was ++ (xs ++ post))) e
      ∙ ap (λ xs. take (k + m) (take k was ++ xs)) (append_assoc vs rest post)
      ∙ ap (take (k + m)) (sym (append_assoc (take k was) vs (rest ++ post)))
      ∙ take_at (take k was ++ vs) (rest ++ post) (k + m) front) h l

links_few : (a b c d : List ℕ) → length (cover.links_of a b c d) ≤ length a
unfolding cover.links_of
links_few [] b c d = omega arith
links_few (p ∷ a) [] c d = omega arith
links_few (p ∷ a) (q ∷ b) [] d = omega arith
links_few (p ∷ a) (q ∷ b) (r ∷ c) [] = omega arith
links_few (p ∷ a) (q ∷ b) (r ∷ c) (s ∷ d) = omega (arith, links_few a b c d)

pub sorted-behind : (a b c d : List ℕ) (k r : ℕ) (x y z w x' y' z' w' ox oy oz ow : List ℕ) → k + length a ≤ 1024
    → length x ≡ 1024 → length y ≡ 1024 → length z ≡ 1024 → length w ≡ 1024
    → r ≡ length (sort_links (cover.links_of a b c d)) → link_columns x' y' z' w' ≡ links_over (sort_links (cover.links_of a b c d)) (link_columns ox oy oz ow)
    → SortedBehind (cover.links_of a b c d) k r x y z w (put_mid k (length x - k) x x') (put_mid k (length y - k) y y') (put_mid k (length z - k) z z') (put_mid k (length w - k) w w')
unfolding links_over
sorted-behind a b c d k r x y z w x' y' z' w' ox oy oz ow h lx ly lz lw n e =
    let ls = sort_links (cover.links_of a b c d) in
    let room : k + r ≤ 1024 = omega (arith, n, sort-few (cover.links_of a b c d), links_few a b c d) in
    let long : (f : Link → ℕ) → length (map f ls) ≡ r = λ f. length-map ls f ∙ sym n in
    record {
      count = n;
      from_chains = column-behind k r x x' ox (map (λ l. l.from_chain) ls) lx room (long (λ l. l.from_chain)) (ap (λ t. t.from_chains) e);
      from_seqs = column-behind k r y y' oy (map (λ l. l.from_seq) ls) ly room (long (λ l. l.from_seq)) (ap (λ t. t.from_seqs) e);
      to_chains = column-behind k r z z' oz (map (λ l. l.to_chain) ls) lz room (long (λ l. l.to_chain)) (ap (λ t. t.to_chains) e);
      to_seqs = column-behind k r w w' ow (map (λ l. l.to_seq) ls) lw room (long (λ l. l.to_seq)) (ap (λ t. t.to_seqs) e);
    }

-- ── the links of a group more ────────────────────────────────────────────────────────────────

module _ (end m : ℕ) (was is vs : List ℕ) (a : Appended end m was is vs) where
  kept_at : (i : ℕ) → i < end → get_or is i 0 ≡ get_or was i 0
  kept_at i h = sym (get_or-take end is i 0 h) ∙ ap (λ l. get_or l i 0) a.kept ∙ get_or-take end was i 0 h

  added-at : (j : ℕ) → j < m → get_or is (end + j) 0 ≡ get_or vs j 0
  added-at j h = sym (get_or-take (end + m) is (end + j) 0 (omega arith)) ∙ sym (get_or-drop end (take (end + m) is) j 0) ∙ ap (λ l. get_or l j 0) a.added

link-at : (f : Link → ℕ) (s : List Link) (d : Link) → f d ≡ 0 → (j : ℕ) → get_or (map f s) j 0 ≡ f (get_or s j d)
link-at f s d z j = ap (λ v. get_or (map f s) j v) (sym z) ∙ get_or-map f s j d

abbrev nil : Link
nil = link 0 0 0 0

module _ (g : ℕ) (ls : List Link) (k m : ℕ) (gs x y z w gs' x' y' z' w' : List ℕ) (o : SortedBehind ls k m x y z w x' y' z' w') (t : Appended k m gs gs' (replicate m g)) where
  was : ℕ → GroupLink
  was = link_at (links_of k gs x y z w)

  is : ℕ → GroupLink
  is = link_at (links_of (k + m) gs' x' y' z' w')

  old-link : (i : ℕ) → i < k → is i ≡ was i
  unfolding link_at was is
  old-link i h = rw (
    kept_at k m gs gs' (replicate m g) t i h,
    kept_at k m x x' (map (λ l. l.from_chain) (sort_links ls)) o.from_chains i h,
    kept_at k m y y' (map (λ l. l.from_seq) (sort_links ls)) o.from_seqs i h,
    kept_at k m z z' (map (λ l. l.to_chain) (sort_links ls)) o.to_chains i h,
    kept_at k m w w' (map (λ l. l.to_seq) (sort_links ls)) o.to_seqs i h,
  )

  more-link : (j : ℕ) → j < m → is (k + j) ≡ record { group = g; link = get_or (sort_links ls) j nil }
  unfolding link_at is
  more-link j h = rw (
    added-at k m gs gs' (replicate m g) t j h,
    get_or-replicate m j g 0 h,
    added-at k m x x' (map (λ l. l.from_chain) (sort_links ls)) o.from_chains j h,
    link-at (λ l. l.from_chain) (sort_links ls) nil refl j,
    added-at k m y y' (map (λ l. l.from_seq) (sort_links ls)) o.from_seqs j h,
    link-at (λ l. l.from_seq) (sort_links ls) nil refl j,
    added-at k m z z' (map (λ l. l.to_chain) (sort_links ls)) o.to_chains j h,
    link-at (λ l. l.to_chain) (sort_links ls) nil refl j,
    added-at k m w w' (map (λ l. l.to_seq) (sort_links ls)) o.to_seqs j h,
    link-at (λ l. l.to_seq) (sort_links ls) nil refl j,
  )

  pub links-added : listed (link_at (links_of (k + m) gs' x' y' z' w')) (k + m) ≡ listed (link_at (links_of k gs x y z w)) k ++ in_group g (sort_links ls)
  unfolding was is
  links-added =
      let more = in_group g (sort_links ls) in
      let l : length more ≡ m = length-map (sort_links ls) (λ v. record { group = g; link = v }) ∙ sym o.count in
      ap (map is) (up_from-append 0 k m) ∙ map-append is (up_from 0 k) (up_from (0 + k) m)
      ∙ ap₂ ◌++◌ (map-ext is was (up_from 0 k) (each_below (λ i. is i ≡ was i) k old-link))
      (ap (λ i. map is (up_from i m)) (zero-add k) ∙ ap (λ n. map is (up_from k n)) (sym l)
      ∙ map-places is k more (record { group = g; link = nil }) (λ j h. more-link j (omega arith) ∙ sym (get_or-map (λ v. record { group = g; link = v }) (sort_links ls) j nil)))

-- no more links than there were
module _ (i j k m : ℕ) (a b c d x y z w x' y' z' w' : List ℕ) (h : i ≤ j) (l : j ≤ 1024) (e : k ≤ i) (o : SortedBehind (map (row_at a b c d) (up_from i (j - i))) k m x y z w x' y' z' w') where
  pub part-few : k + m ≤ j
  part-few = omega (arith, o.count, sort-few (map (row_at a b c d) (up_from i (j - i))), length-map-up_from (row_at a b c d) i (j - i))

  pub part_room : k + m ≤ 1024
  part_room = omega (arith, part-few)

  pub part-fits : Fits w64 (k + m)
  part-fits = omega (arith, part_room)
