-- The file of a group is as long as the counts of its section say.
use mathlib.Core.Path.{◌≡◌, refl, sym, ap₂, ◌∙◌}
use mathlib.Core.Bool.{Bool, true, false}
use mathlib.Core.List.{List, map}
use Prim.Native.Nat.{ℕ, ◌+◌, ◌-◌, ◌*◌, ◌≤◌}
use native.Mathlib.Omega.{arith}
use lib.ListN.{length, drop, length-map}
use Rattle.lists.proofs.Flat.{length-starts, length-joined}
use Rattle.columns.specs.Limits.{kinds}
use Rattle.columns.proofs.Served.{kinds-served}
use Rattle.columns.specs.EdgeSet.{offsets_form, set_of}
use Rattle.columns.specs.Reading.{Label}
use Rattle.columns.specs.Building.{rows_within}
use Rattle.columns.proofs.Offsets.{form-length}
use Rattle.columns.proofs.Within.{section-long}
use Rattle.cover.specs.Chains.{Link, ranges_of}
use Rattle.cover.specs.Cover.{columns_of}
use Rattle.archive_bytes.specs.Bytes.{several}
use Rattle.archive.proofs.Back.{length-several}
use Rattle.archive.proofs.References.{no_record}
use Rattle.archive.specs.Encode.{file_bytes}
use Rattle.archive_store.specs.sizes.FileSize.{file_size}
use Rattle.archive_store.proofs.sizes.Sized.{SetHas, CoverHas, bare, covered, length-file}
use Rattle.cleaning.specs.Sections.{cover_where, unerased_row}
use Rattle.cleaning.specs.Writing.{label_columns}
use Rattle.cleaning.proofs.ArchiveSize.{length-differences}
use Rattle.cleaning.proofs.OutputFigures.{length-deltas}
use Rattle.run_state.specs.declared.Groups.{Groups}
use Rattle.run_section.specs.declared.Counts.{Counts}
use Rattle.run_section.specs.declared.Section.{Section}
use Rattle.run_section.specs.Tables.{field, unresolved_in, root_in, link_in}
use Rattle.run_section.specs.Rules.{Lists}
use Rattle.run_section.specs.Files.{many, tags_at, links_at, sets_at, sets_over, file_at}
use Rattle.run_section.specs.declared.sizes.Edges.{Edges}
use Rattle.run_section.specs.Sizes.{EdgesOf, size_at}
use Rattle.run_section.specs.Measures.{size_by}

-- ── sets ─────────────────────────────────────────────────────────────────────────────────────

module _ (first low high a n rows : ℕ) (offsets targets : List ℕ) (form : offsets_form kinds rows (length targets) offsets ≡ true) (there : a + n ≤ rows) where
  pub set-has : {k : ℕ} → k ≡ (set_of kinds first (rows_within kinds low high a n offsets targets)).count → SetHas n k (set_of kinds first (rows_within kinds low high a n offsets targets))
  unfolding set_of
  set-has e =
      let lists = rows_within kinds low high a n offsets targets in
      record {
        offsets = omega (arith, length-starts 0 lists, section-long kinds low high a n offsets targets (omega (arith, form-length kinds rows (length targets) offsets form)));
        deltas = length-deltas kinds kinds-served first lists ∙ sym (length-joined lists) ∙ sym e;
      }

-- ── covers ───────────────────────────────────────────────────────────────────────────────────

cover-has : (there : Bool) (ls : List Label) (links : List Link) (n k l : ℕ) → (there ≡ true → length ls ≡ n) → (there ≡ true → length (ranges_of ls) ≡ k) → length links ≡ l
    → CoverHas there n k l (cover_where there ls links)
unfolding columns_of label_columns
cover-has false ls links n k l e f g = bare
cover-has true ls links n k l e f g = covered (record {
  chains = length-map ls (λ l. l.chain) ∙ e refl;
  seqs = length-map ls (λ l. l.seq) ∙ e refl;
  spans = f refl;
  from_chains = length-differences 0 (map (λ l. l.from_chain) links) ∙ length-map links (λ l. l.from_chain) ∙ g;
  from_seqs = length-map links (λ l. l.from_seq) ∙ g;
  to_chains = length-map links (λ l. l.to_chain) ∙ g;
  to_seqs = length-map links (λ l. l.to_seq) ∙ g;
})

-- ── the file ─────────────────────────────────────────────────────────────────────────────────

module _ (z : Counts) (subject : List ℕ) (groups : Groups) (g : ℕ) (s : Section) (rows unresolved roots links offsets targets starts kids : List ℕ)
    (lists : Lists z.rows offsets targets starts kids) (rises : s.rows.from ≤ s.rows.to) (within : s.rows.to ≤ z.rows)
    (there : Bool) (ls : List Label) (ranges : ℕ)
    (labels : there ≡ true → length ls ≡ many s.rows) (spans : there ≡ true → length (ranges_of ls) ≡ ranges) where
  pub file-length : length (file_bytes (file_at z subject groups g s rows unresolved roots (sets_at z s offsets targets starts kids) (cover_where there ls (links_at s links))))
      ≡ size_by (length subject) s (sets_at z s offsets targets starts kids) there ranges
  unfolding file_at sets_over size_by
  file-length =
      let n = many s.rows in
      let first = z.start + s.rows.from in
      let b = sets_at z s offsets targets starts kids in
      let inside : s.rows.from + n ≤ z.rows = omega arith in
      let f = file_at z subject groups g s rows unresolved roots (sets_at z s offsets targets starts kids) (cover_where there ls (links_at s links)) in
      length-file f (length-map (tags_at s rows) unerased_row ∙ length-several 4 (field 1) n (drop (s.rows.from * 4) rows))
      (set-has first 0 (z.start + z.rows) s.rows.from n z.rows offsets targets lists.parents inside refl)
      (set-has first 0 (z.start + s.rows.to) s.rows.from n z.rows starts kids lists.children inside refl)
      (set-has first (z.start + s.rows.to) (z.start + z.rows) s.rows.from n z.rows starts kids lists.children inside refl)
      (cover-has there ls (links_at s links) n ranges (many s.links) labels spans
      (length-map (several 5 link_in (many s.links) (drop (s.links.from * 5) links)) (λ l. l.link) ∙ length-several 5 link_in (many s.links) (drop (s.links.from * 5) links)))
      (no_record (tags_at s rows))
      ∙ ap₂ (λ u r. file_size (length subject) n b.forward.count b.reverse.count b.inbound.count u r there ranges (many s.links))
      (length-several 3 unresolved_in (many s.unresolved) (drop (s.unresolved.from * 3) unresolved))
      (length-map (several 2 root_in (many s.roots) (drop (s.roots.from * 2) roots)) (λ r. record { row = r.row - s.rows.from; handle = r.handle })
      ∙ length-several 2 root_in (many s.roots) (drop (s.roots.from * 2) roots))

  -- the same by edges that are counted
  pub file-size : (e : Edges) → EdgesOf (sets_at z s offsets targets starts kids) e
      → length (file_bytes (file_at z subject groups g s rows unresolved roots (sets_at z s offsets targets starts kids) (cover_where there ls (links_at s links))))
      ≡ size_at (length subject) s e there ranges
  unfolding size_at size_by
  file-size e edges = file-length ∙ rw (← edges.forward_is, ← edges.reverse_is, ← edges.inbound_is)
