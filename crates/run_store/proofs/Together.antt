-- The parts that were grown, put together, are what is held after the files of an archive.
use mathlib.Core.Path.{◌≡◌, sym, ap, ◌∙◌}
use mathlib.Core.Bool.{true}
use mathlib.Core.List.{List}
use mathlib.Core.Option.{none}
use Prim.Native.Nat.{ℕ}
use Rattle.columns.specs.Limits.{kinds}
use Rattle.lists.specs.Lists.{Each}
use Rattle.archive.specs.Fits.{FileFits}
use Rattle.archive.specs.Parse.{parse}
use Rattle.cleaning.specs.Held.{hold_rules}
use Rattle.cleaning.specs.History.{files_in}
use Rattle.run_state.specs.declared.Rows.{Rows}
use Rattle.run_state.specs.declared.Edges.{Edges}
use Rattle.run_state.specs.declared.Unresolved.{Unresolved}
use Rattle.run_state.specs.declared.Roots.{Roots}
use Rattle.run_state.specs.declared.Links.{Links}
use Rattle.run_state.specs.declared.Held.{Held}
use Rattle.run_state.specs.View.{held_in}
use Rattle.run_state.specs.Valid.{held_ok}
use Rattle.run_state.specs.order.Long.{LongHeld}
use Rattle.run_state.specs.order.Ordered.{ordered}
use Rattle.run_store.specs.turns.Going.{is_got, held_after}
use Rattle.run_store.specs.turns.Parts.{Parts, parts_of, stored, Accepted}
use Rattle.run_store.specs.declared.names.Names.{Names}
use Rattle.run_store.specs.names.Named.{Named}

-- what is asked of an archive that is stored
pub accepted : (h : Held) (l : List ℕ) → LongHeld h
    → ((held_ok h ≡ true) × (ordered h.sheet ≡ true)) × (((is_got (parse kinds l) ≡ true) × Each (FileFits kinds) (files_in (parse kinds l)))
    × (hold_rules kinds (held_in h) (files_in (parse kinds l)) ≡ none)) → Accepted h l
accepted h l long r = record { long = long; ok = r.0.0; order = r.0.1; parsed = r.1.0.0; fits = r.1.0.1; rules = r.1.1 }

-- names and parts, put together
abbrev together : Names → Parts → Held
together n p = record {
  sheet = record { start = n.start; subject = n.subject; groups = n.groups; rows = p.rows; edges = p.edges; unresolved = p.unresolved; roots = p.roots; links = p.links };
  erased = p.erased;
  reverse = p.reverse;
  inbound = p.inbound;
  ranges = n.ranges;
}

module _ (h : Held) (l : List ℕ) (n : Names) (d : Named h l n) where
  held-is : together n (stored h l) ≡ d.held
  held-is = ap (λ p. together n p) (sym d.parts) ∙ ap (λ m. together m (parts_of d.held)) d.names

  module _ {a : Rows} {b : Edges} {c : Unresolved} {e : Roots} {f : Links} {g : List ℕ} {i j : Edges} (ra : a ≡ (stored h l).rows) (rb : b ≡ (stored h l).edges)
      (rc : c ≡ (stored h l).unresolved) (re : e ≡ (stored h l).roots) (rf : f ≡ (stored h l).links) (rg : g ≡ (stored h l).erased) (ri : i ≡ (stored h l).reverse)
      (rj : j ≡ (stored h l).inbound) where
    abbrev whole : Held
    whole = together n (record { rows = a; edges = b; unresolved = c; roots = e; links = f; erased = g; reverse = i; inbound = j })

    whole_is : whole ≡ d.held
    whole_is = rw (ra, rb, rc, re, rf, rg, ri, rj) held-is

    pub together-stored : (held_in whole ≡ held_after h (parse kinds l)) × ((held_ok whole ≡ true) × (ordered whole.sheet ≡ true))
    together-stored = (ap held_in whole_is ∙ d.whole, (ap held_ok whole_is ∙ d.ok, ap (λ q. ordered q.sheet) whole_is ∙ d.order))
