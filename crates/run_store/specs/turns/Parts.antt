-- The columns of what a run holds, all but the names of the run and of its groups: after the files of an archive they follow from the files alone.
use Rattle.std.specs.Prelude.{◌≡◌, true, List, [], ◌∷◌, map, ℕ}
use Rattle.std.proofs.Math.Option.{none}
use Rattle.std.proofs.lemmas.List.Edits.{sets}
use Rattle.columns.specs.Limits.{kinds}
use Rattle.lists.specs.Lists.{Each}
use Rattle.archive.specs.File.{File}
use Rattle.archive.specs.Fits.{FileFits}
use Rattle.archive.specs.Parse.{parse}
use Rattle.cleaning.specs.Held.{hold_rules}
use Rattle.cleaning.specs.History.{files_in}
use Rattle.run_state.specs.declared.Rows.{Rows}
use Rattle.run_state.specs.declared.Edges.{Edges}
use Rattle.run_state.specs.declared.Unresolved.{Unresolved}
use Rattle.run_state.specs.declared.Roots.{Roots}
use Rattle.run_state.specs.declared.Links.{Links}
use Rattle.run_state.specs.declared.Held.{Held}
use Rattle.run_state.specs.View.{held_in}
use Rattle.run_state.specs.Valid.{held_ok}
use Rattle.run_state.specs.order.Long.{LongHeld}
use Rattle.run_state.specs.order.Ordered.{ordered}
use Rattle.run_store.specs.grow.Column.{bit}
use Rattle.run_store.specs.parts.Grown.{rows_with, edges_with, unresolved_with, roots_with}
use Rattle.run_store.specs.joined.Joined.{labels_more, links_more}
use Rattle.run_store.specs.turns.Going.{is_got}

pub record Parts : Type 0 where
  pub rows : Rows
  pub edges : Edges
  pub unresolved : Unresolved
  pub roots : Roots
  pub links : Links
  pub erased : List ℕ
  pub reverse : Edges
  pub inbound : Edges

abbrev pub parts_of : Held → Parts
parts_of h = record {
  rows = h.sheet.rows;
  edges = h.sheet.edges;
  unresolved = h.sheet.unresolved;
  roots = h.sheet.roots;
  links = h.sheet.links;
  erased = h.erased;
  reverse = h.reverse;
  inbound = h.inbound;
}

-- with a file more
unfoldable pub parts_more : Parts → File → Parts
parts_more p f = record {
  rows = labels_more (rows_with p.rows f.group f.rows) p.rows.count f.cover;
  edges = edges_with p.edges p.rows.count f.first f.forward;
  unresolved = unresolved_with p.unresolved f.unresolved;
  roots = roots_with p.roots p.rows.count f.roots;
  links = links_more p.links f.group f.cover;
  erased = sets p.erased p.rows.count (map (λ r. bit r.erased) f.rows);
  reverse = edges_with p.reverse p.rows.count f.first f.reverse;
  inbound = edges_with p.inbound p.rows.count f.first f.inbound;
}

unfoldable pub parts_after : Parts → List File → Parts
parts_after p [] = p
parts_after p (f ∷ fs) = parts_after (parts_more p f) fs

-- the columns of what is held after the files of an archive
abbrev pub stored : Held → List ℕ → Parts
stored h l = parts_after (parts_of h) (files_in (parse kinds l))

-- the bytes are an archive whose files may be stored in what is held
pub record Accepted (h : Held) (l : List ℕ) : Type 0 where
  pub long : LongHeld h
  pub ok : held_ok h ≡ true
  pub order : ordered h.sheet ≡ true
  pub parsed : is_got (parse kinds l) ≡ true
  pub fits : Each (FileFits kinds) (files_in (parse kinds l))
  pub rules : hold_rules kinds (held_in h) (files_in (parse kinds l)) ≡ none
