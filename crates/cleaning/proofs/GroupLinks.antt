-- The links of a group among those of all groups.
use mathlib.Core.Path.{◌≡◌, refl, ◌∙◌}
use mathlib.Core.Bool.{true, false}
use mathlib.Core.List.{List, [], ◌++◌, map, map-append, map-map, map-id}
use Prim.Native.Nat.{ℕ}
use lib.Dec.{eqb}
use borrow.Author.Tests.{eq-eqb, ne_eqb}
use Rattle.lists.specs.Lists.{filter, Each}
use Rattle.lists.proofs.Each.{each-imp, each_map, each_all}
use Rattle.lists.proofs.Filters.{filter_none, filter-all, filter-append}
use Rattle.cover.specs.Chains.{Link}
use Rattle.cleaning.specs.Sheet.{GroupLink, links_of}

-- links of one group
abbrev pub in_group : ℕ → List Link → List GroupLink
in_group m ms = map (λ l. record { group = m; link = l }) ms

pub links-append : (ls ms : List GroupLink) (g : ℕ) → links_of (ls ++ ms) g ≡ links_of ls g ++ links_of ms g
unfolding links_of
links-append ls ms g = rw (filter-append (λ l. eqb l.group g) ls ms) (map-append (λ l. l.link) (filter (λ l. eqb l.group g) ls) (filter (λ l. eqb l.group g) ms))

-- links of other groups
pub links-none : (ls : List GroupLink) (g : ℕ) → Each (λ l. l.group ≡ g → ⊥) ls → links_of ls g ≡ []
unfolding links_of
links-none ls g h = rw (filter_none (λ l. eqb l.group g) ls (each-imp (λ l. l.group ≡ g → ⊥) (λ l. eqb l.group g ≡ false) ls (λ l d. ne_eqb l.group g d) h))

pub links-own : (g : ℕ) (ms : List Link) → links_of (in_group g ms) g ≡ ms
unfolding links_of
links-own g ms =
    rw (filter-all (λ l. eqb l.group g) (in_group g ms)
    (each_map (λ l. eqb l.group g ≡ true) (λ l. record { group = g; link = l }) ms (each_all (λ l. eqb g g ≡ true) (λ l. eq-eqb g g refl) ms)))
    (map-map (λ l. l.link) (λ l. record { group = g; link = l }) ms ∙ map-id ms)

pub links-other : (m g : ℕ) (ms : List Link) → (m ≡ g → ⊥) → links_of (in_group m ms) g ≡ []
links-other m g ms d =
    links-none (in_group m ms) g (each_map (λ l. l.group ≡ g → ⊥) (λ l. record { group = m; link = l }) ms (each_all (λ l. m ≡ g → ⊥) (λ l. d) ms))
