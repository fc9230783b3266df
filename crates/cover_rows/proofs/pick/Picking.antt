-- Places picked one by one, and the links at them as four columns.
use mathlib.Core.Path.{◌≡◌, refl}
use mathlib.Core.Bool.{true}
use mathlib.Core.List.{List, [], ◌∷◌, map}
use Prim.Native.Nat.{ℕ, ◌+◌, ◌*◌, ◌^◌, ◌≤◌, ◌<◌}
use native.Mathlib.Numerals.{add-one}
use native.Mathlib.Omega.{arith}
use lib.Dec.{ltb}
use lib.ListN.{length, take, get_or, set, length-map, drop_of_length-le}
use lib.Seq.{sets, slice, slice-cons, length-take-le, get_or-take}
use mir.Syntax.{w64}
use mir.Val.{Fits}
use borrow.Author.Tests.{ltb-true}
use Rattle.lists.proofs.Tests.{all-each}
use Rattle.lists.proofs.Each.{each-get_or}
use Rattle.cover.specs.Chains.{Link}
use Rattle.cover.specs.Answers.{link_columns, over, links_over}
use Rattle.cover.specs.Places.{row_at}
use Rattle.cover_rows.proofs.Columned.{over-sets}
use Rattle.cover_rows.specs.pick.Picked.{picked, within}

module _ (column rows : List ℕ) (n : ℕ) (h : n ≤ length rows) where
  pub picks_start : (out : List ℕ) → n ≤ length out → over (picked column (take n rows)) out ≡ sets out 0 (picked column (slice 0 n rows))
  unfolding picked
  picks_start out k = over-sets (picked column (take n rows)) out (rw (length-map, length-take-le n rows h) k)

  pub row_in : (m i : ℕ) → within m (take n rows) ≡ true → i < n → get_or rows i 0 < m
  unfolding within
  row_in m i e k =
      let p = each-get_or (λ j. ltb j m ≡ true) (take n rows) i 0 (all-each (λ j. ltb j m) (take n rows) e) (rw (length-take-le n rows h) k) in
      ltb-true (get_or rows i 0) m (rw (get_or-take n rows i 0 k) at p)

  pub row_fits : (m i : ℕ) → within m (take n rows) ≡ true → i < n → m * 4 < 2 ^ 63 → Fits w64 (get_or rows i 0 * 4)
  row_fits m i e k g = record { fits = omega (arith, row_in m i e k) }

  module _ {t : List ℕ} (out : List ℕ) (i : ℕ) (e : t ≡ sets out i (picked column (slice i n rows))) where
    pub picks_done : n ≤ i → out ≡ t
    unfolding picked
    picks_done k = rw (e, drop_of_length-le (take n rows) {i = i} (rw (length-take-le n rows h) k))

    pub picks-on : i < n → t ≡ sets (set out i (get_or column (get_or rows i 0) 0)) (i + 1) (picked column (slice (i + 1) n rows))
    unfolding picked
    picks-on k = rw (e, slice-cons i n rows 0 k h, add-one)

-- ── four columns ─────────────────────────────────────────────────────────────────────────────

pub in-range : (m k : ℕ) (rows : List ℕ) → k ≡ m → within m rows ≡ true → within k rows ≡ true
in-range m k rows e h = rw e h

map_rows : (f : Link → ℕ) (g : ℕ → Link) (column rows : List ℕ) → ((i : ℕ) → f (g i) ≡ get_or column i 0) → map f (map g rows) ≡ picked column rows
unfolding picked
map_rows f g column [] h = refl
map_rows f g column (r ∷ rs) h = rw (h r, map_rows f g column rs h)

pub links-picked : (a b c d rows x y z w x' y' z' w' : List ℕ) → x' ≡ over (picked a rows) x → y' ≡ over (picked b rows) y → z' ≡ over (picked c rows) z → w' ≡ over (picked d rows) w
    → link_columns x' y' z' w' ≡ links_over (map (row_at a b c d) rows) (link_columns x y z w)
unfolding links_over row_at
links-picked a b c d rows x y z w x' y' z' w' e f g h =
    let row = row_at a b c d in
    rw (
      e,
      f,
      g,
      h,
      map_rows (λ l. l.from_chain) row a rows (λ i. refl),
      map_rows (λ l. l.from_seq) row b rows (λ i. refl),
      map_rows (λ l. l.to_chain) row c rows (λ i. refl),
      map_rows (λ l. l.to_seq) row d rows (λ i. refl),
    )
