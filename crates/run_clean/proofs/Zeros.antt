-- Columns of zeros are those of what holds nothing; what is filled into them is what is stored.
use mathlib.Core.Path.{◌≡◌, sym, ap, subst, ◌∙◌}
use mathlib.Core.Bool.{Bool, true}
use mathlib.Core.List.{List}
use Prim.Native.Nat.{ℕ, ◌≤◌}
use native.Mathlib.Omega.{arith}
use lib.ListN.{length, take}
use Rattle.columns.specs.Limits.{kinds}
use Rattle.lists.specs.Lists.{all}
use Rattle.lists.specs.Order.{not_falling}
use Rattle.run_renumber.specs.NewLists.{new_lists}
use Rattle.archive.specs.File as files
use Rattle.cleaning.specs.Sheet.{GroupLink}
use Rattle.cleaning.specs.Survivors.{keep_unresolved, keep_roots, sort_groups}
use Rattle.run_state.specs.declared.Edges.{Edges}
use Rattle.run_state.specs.declared.Unresolved.{Unresolved}
use Rattle.run_state.specs.declared.Roots.{Roots}
use Rattle.run_state.specs.declared.Links.{Links}
use Rattle.run_state.specs.declared.Held.{Held}
use Rattle.run_state.specs.Blank.{zeros, blank}
use Rattle.run_state.specs.View.{listed, unresolved_at, root_at, link_at, slots_in}
use Rattle.run_state.specs.Valid.{edges_ok}
use Rattle.run_state.specs.order.Long.{LongLinks}
use Rattle.run_state.specs.ByColumns.{rows_of, edges_of, unresolved_of, roots_of, links_of}
use Rattle.std.specs.declared.option.Option as rust
use Rattle.run_resolve.specs.parents.Renewal.{Renewal}
use Rattle.run_store.specs.turns.Parts.{Accepted}
use Rattle.run_clean.specs.Survived.{Alone}

module _ (h : Held) (l : List ℕ) (a : Alone h l) where
  pub may-store : Accepted h l
  may-store = a.accepted

  pub no_rows : 0 ≡ h.sheet.rows.count
  unfolding blank
  no_rows = rw a.none

  pub zero_flags : {f : List ℕ} → f ≡ zeros 1024 → f ≡ h.erased
  unfolding blank
  zero_flags e = rw (a.none, e)

  pub zero-rows : {g t c s : List ℕ} → g ≡ zeros 1024 → t ≡ zeros 1024 → c ≡ zeros 1024 → s ≡ zeros 1024 → rows_of 0 g t c s ≡ h.sheet.rows
  unfolding blank
  zero-rows e f i j = rw (a.none, e, f, i, j)

  pub zero-lists : {o t : List ℕ} → o ≡ zeros 2049 → t ≡ zeros 4096 → edges_of 0 o t ≡ h.sheet.edges
  unfolding blank
  zero-lists e f = rw (a.none, e, f)

  pub zero-unresolved : {c k s : List ℕ} → c ≡ zeros 1024 → k ≡ zeros 1024 → s ≡ zeros 1024 → unresolved_of 0 c k s ≡ h.sheet.unresolved
  unfolding blank
  zero-unresolved e f i = rw (a.none, e, f, i)

  pub zero-roots : {r s : List ℕ} → r ≡ zeros 1024 → s ≡ zeros 1024 → roots_of 0 r s ≡ h.sheet.roots
  unfolding blank
  zero-roots e f = rw (a.none, e, f)

  pub zero-links : links_of 0 (zeros 1024) (zeros 1024) (zeros 1024) (zeros 1024) (zeros 1024) ≡ h.sheet.links
  unfolding blank
  zero-links = rw a.none

-- ── what is filled, and what is stored ───────────────────────────────────────────────────────

module _ {e : Edges} (m : ℕ) (os ts : List ℕ) (is : edges_of m os ts ≡ e) where
  pub filled-form : (n : ℕ) → edges_ok n e ≡ true → edges_ok n (edges_of m os ts) ≡ true
  filled-form n k = rw is k

  pub filled-lists : (start n : ℕ) (flags : List ℕ) (q : rust.Option Edges) → Renewal flags (new_lists kinds start flags (slots_in n (edges_of m os ts))) q
      → Renewal flags (new_lists kinds start flags (slots_in n e)) q
  filled-lists start n flags q k = subst (λ v. Renewal flags (new_lists kinds start flags (slots_in n v)) q) is k

module _ {u : Unresolved} (n : ℕ) (cs ks hs : List ℕ) (is : unresolved_of n cs ks hs ≡ u) where
  pub unresolved_few : u.count ≤ 1024 → n ≤ 1024
  unresolved_few k = omega (arith, ap (λ v. v.count) is)

  pub unresolved-fewer : (r : ℕ) → r ≤ n → r ≤ u.count
  unresolved-fewer r k = omega (arith, ap (λ v. v.count) is)

  pub unresolved-here : (p : ℕ → Bool) → all p (take u.count u.children) ≡ true → all p (take n cs) ≡ true
  unresolved-here p k = subst (λ v. all p (take v.count v.children) ≡ true) (sym is) k

  pub unresolved-kept : (start : ℕ) (es : List Bool) {ls : List files.Unresolved} → ls ≡ keep_unresolved start es (listed (unresolved_at (unresolved_of n cs ks hs)) n)
      → ls ≡ keep_unresolved start es (listed (unresolved_at u) u.count)
  unresolved-kept start es {ls} k = subst (λ v. ls ≡ keep_unresolved start es (listed (unresolved_at v) v.count)) is k

module _ {u : Roots} (n : ℕ) (rs hs : List ℕ) (is : roots_of n rs hs ≡ u) where
  pub roots_few : u.count ≤ 1024 → n ≤ 1024
  roots_few k = omega (arith, ap (λ v. v.count) is)

  pub roots-fewer : (r : ℕ) → r ≤ n → r ≤ u.count
  roots-fewer r k = omega (arith, ap (λ v. v.count) is)

  pub roots-here : (p : ℕ → Bool) → all p (take u.count u.rows) ≡ true → all p (take n rs) ≡ true
  roots-here p k = subst (λ v. all p (take v.count v.rows) ≡ true) (sym is) k

  pub roots_kept : (es : List Bool) {ls : List files.Root} → ls ≡ keep_roots es (listed (root_at (roots_of n rs hs)) n) → ls ≡ keep_roots es (listed (root_at u) u.count)
  roots_kept es {ls} k = subst (λ v. ls ≡ keep_roots es (listed (root_at v) v.count)) is k

module _ {u : Links} (n : ℕ) (gs a b c d : List ℕ) (is : links_of n gs a b c d ≡ u) where
  pub links_few : u.count ≤ 1024 → n ≤ 1024
  links_few k = omega (arith, ap (λ v. v.count) is)

  module _ (long : LongLinks u) where
    pub long-groups : length gs ≡ 1024
    long-groups = ap (λ v. length v.groups) is ∙ long.groups

    pub long-chains : length a ≡ 1024
    long-chains = ap (λ v. length v.from.chains) is ∙ long.from.chains

    pub long-seqs : length b ≡ 1024
    long-seqs = ap (λ v. length v.from.seqs) is ∙ long.from.seqs

    pub long-to-chains : length c ≡ 1024
    long-to-chains = ap (λ v. length v.to.chains) is ∙ long.to.chains

    pub long-to-seqs : length d ≡ 1024
    long-to-seqs = ap (λ v. length v.to.seqs) is ∙ long.to.seqs

  pub links-level : not_falling (take u.count u.groups) ≡ true → not_falling (take n gs) ≡ true
  links-level k = subst (λ v. not_falling (take v.count v.groups) ≡ true) (sym is) k

  pub links-sorted : (count : ℕ) {ls : List GroupLink} → ls ≡ sort_groups count (listed (link_at (links_of n gs a b c d)) n) → ls ≡ sort_groups count (listed (link_at u) u.count)
  links-sorted count {ls} k = subst (λ v. ls ≡ sort_groups count (listed (link_at v) v.count)) is k
