-- Records of rows and of groups as columns: what is held and what a file adds.
use mathlib.Core.Path.{◌≡◌, refl, sym, ◌∙◌, ap}
use mathlib.Core.List.{List, [], ◌∷◌, ◌++◌, map, map-append}
use Prim.Native.Nat.{ℕ, ◌≤◌, ◌<◌, ◌+◌}
use lib.ListN.{length, take, length-map}
use lib.Seq.{sets}
use Rattle.archive.specs.File
use Rattle.cleaning.specs.Held.{shifted}
use Rattle.run_state.specs.declared.Unresolved as records
use Rattle.run_state.specs.declared.Roots.{Roots}
use Rattle.run_state.specs.View.{flagged, listed, unresolved_at, root_at}
use Rattle.run_store.specs.grow.Column.{bit}
use Rattle.run_store.specs.parts.Grown.{unresolved_with, roots_with}
use Rattle.run_store.proofs.joined.Grows.{sets-take, sets-before, get_or-map-in, listed-grown, column-at, flag-back}

-- ── columns of rows ──────────────────────────────────────────────────────────────────────────

pub column-grown : {A : Type 0} (f : A → ℕ) (l : List ℕ) (n : ℕ) (xs : List A) → n + length xs ≤ length l
    → take (n + length xs) (sets l n (map f xs)) ≡ take n l ++ map f xs
column-grown f l n xs h = sets-take (map f xs) l n (n + length xs) (ap (λ i. n + i) (length-map xs f)) h

pub flags-grown : (l : List ℕ) (n : ℕ) (rs : List File.Row) → n + length rs ≤ length l
    → map flagged (take (n + length rs) (sets l n (map (λ r. bit r.erased) rs))) ≡ map flagged (take n l) ++ map (λ r. r.erased) rs
flags-grown l n rs h =
    ap (map flagged) (column-grown (λ r. bit r.erased) l n rs h) ∙ map-append flagged (take n l) (map (λ r. bit r.erased) rs)
    ∙ ap (λ r. map flagged (take n l) ++ r) (go rs)
  where
    go : (rs : List File.Row) → map flagged (map (λ r. bit r.erased) rs) ≡ map (λ r. r.erased) rs
    go [] = refl
    go (r ∷ rs) = rw (flag-back r.erased, go rs)

-- ── unresolved references, roots ─────────────────────────────────────────────────────────────

abbrev no_record : File.Unresolved
no_record = record { child = 0; kind = 0; handle = 0 }

abbrev no_root : File.Root
no_root = record { row = 0; handle = 0 }

module _ (u : records.Unresolved) (us : List File.Unresolved) (a : u.count + length us ≤ length u.children) (b : u.count + length us ≤ length u.kinds)
    (c : u.count + length us ≤ length u.handles) where
  pub unresolved-grown : listed (unresolved_at (unresolved_with u us)) (u.count + length us) ≡ listed (unresolved_at u) u.count ++ us
  unfolding unresolved_with unresolved_at
  unresolved-grown = listed-grown (unresolved_at (unresolved_with u us)) (unresolved_at u) u.count us no_record
      (λ i h. rw (
        sets-before u.children u.count (map (λ x. x.child) us) i 0 h,
        sets-before u.kinds u.count (map (λ x. x.kind) us) i 0 h,
        sets-before u.handles u.count (map (λ x. x.handle) us) i 0 h,
      ))
      (λ j h. rw (
        column-at (λ x. x.child) u.children u.count us j no_record h a,
        column-at (λ x. x.kind) u.kinds u.count us j no_record h b,
        column-at (λ x. x.handle) u.handles u.count us j no_record h c,
      ))

module _ (r : Roots) (n : ℕ) (rs : List File.Root) (a : r.count + length rs ≤ length r.rows) (b : r.count + length rs ≤ length r.handles) where
  pub roots-grown : listed (root_at (roots_with r n rs)) (r.count + length rs) ≡ listed (root_at r) r.count ++ shifted n rs
  unfolding roots_with root_at shifted
  roots-grown =
      let more : File.Root → File.Root = λ x. record { row = n + x.row; handle = x.handle } in
      ap (λ i. listed (root_at (roots_with r n rs)) (r.count + i)) (sym (length-map rs more))
      ∙ listed-grown (root_at (roots_with r n rs)) (root_at r) r.count (map more rs) no_root
      (λ i h. rw (sets-before r.rows r.count (map (λ x. n + x.row) rs) i 0 h, sets-before r.handles r.count (map (λ x. x.handle) rs) i 0 h))
      (λ j h. let k : j < length rs = rw (length-map rs more) at h in
      rw (column-at (λ x. n + x.row) r.rows r.count rs j no_root k a, column-at (λ x. x.handle) r.handles r.count rs j no_root k b, get_or-map-in more rs j no_root no_root k))
