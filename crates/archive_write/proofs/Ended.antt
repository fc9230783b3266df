-- Each call that writes a record: what its worker asks for holds where no rule refuses, and what the call answers.
use Rattle.std.specs.Prelude.{Err, Ok, Result}
use mathlib.Core.Path.{◌≡◌}
use mathlib.Core.List.{List, [], ◌∷◌}
use mathlib.Core.Option.{Option}
use Prim.Native.Nat.{ℕ, ◌<◌, ◌+◌, ◌-◌, ◌*◌, ◌^◌}
use native.Mathlib.Omega.{arith}
use lib.IntN.{ℤ}
use lib.ListN.{length}
use borrow.Author.Tests.{eqb-true}
use Rattle.lists.specs.Lists.{flat}
use Rattle.columns.specs.Answers.{ruling}
use Rattle.columns.specs.declared.refusal.Refusal.{Refusal}
use Rattle.columns.proofs.Told.{told, told-kept}
use Rattle.archive_bytes.specs.After.{left}
use Rattle.archive.specs.Encode.{record_bytes, sets_bytes, row_bytes, unresolved_bytes, root_bytes, cover_bytes, counted_bytes, references_bytes}
use Rattle.archive.proofs.Lengths.{length-record}
use Rattle.archive_store.specs.Lent.{zip2, zip3, head_from, set_from, row_from, unresolved_from, root_from, range_from, links_from, cover_from, cited_from, Cited}
use Rattle.archive_store.specs.declared.heads.HeadOut.{HeadOut}
use Rattle.archive_store.specs.records.Sizes.{head_size, sets_size, rows_size, unresolved_size, roots_size, cover_body, references_body, references_size}
use Rattle.archive_store.proofs.records.Whole.{head-size, sets-size, rows-size, unresolved-size, roots-size, cover-size}
use Rattle.archive_store.proofs.references.Rows.{references-size}
use Rattle.archive_write.specs.Writes.{head_rules, edges_rules, rows_rules, unresolved_rules, roots_rules, cover_rules, references_rules, wrote}
use Rattle.archive_write.proofs.Judged.{three-same, cover_even, subject-small, few-first-of, sets-fit, cover-fits, unresolved-whole, roots-whole, fine-ok, fine-records, fine-numbers}
use Rattle.archive_write.proofs.references.Asked.{references-whole, references-few}

-- ── answers ──────────────────────────────────────────────────────────────────────────────────

module _ (r : Option Refusal) (v : Result (Unit {0}) Refusal) (d : v ≡ ruling r) where
  pub refused-told : {x : Refusal} (end : ℕ) → v ≡ Err x → Err x ≡ wrote r end
  unfolding wrote
  refused-told end e = rw (told r d e)

  pub refused-kept : {x : Refusal} (old new : List ℕ) → v ≡ Err x → old ≡ left r old new
  unfolding left
  refused-kept old new e = rw (told r d e)

  pub ended : (e : v ≡ Ok tt) (end end' : ℕ) → end ≡ end' → Ok end ≡ wrote r end'
  unfolding wrote
  ended e end end' h = rw (told-kept r d e, h)

  pub written : {k : List ℕ} → v ≡ Ok tt → (old new : List ℕ) → k ≡ new → k ≡ left r old new
  unfolding left
  written e old new h = rw (told-kept r d e) h

-- ── 1 file ───────────────────────────────────────────────────────────────────────────────────

module _ {v : Result (Unit {0}) Refusal} (h : HeadOut) (s : List ℕ) (len at : ℕ) (d : v ≡ ruling (head_rules h.rows (length s) len at)) (e : v ≡ Ok tt) where
  pub subject-fits : length s < 256
  subject-fits = let k = subject-small (length s) (fine-ok _ _ _ _ _ _ _ v d e) in omega arith

  pub head-ends : {r : ℕ} → r ≡ at + head_size (length s) → Ok r ≡ wrote (head_rules h.rows (length s) len at) (at + length (record_bytes 1 (head_from h s)))
  head-ends {r} f = ended (head_rules h.rows (length s) len at) v d e r _ (omega (arith, length-record 1 (head_from h s), head-size h s))

-- ── 2 edges ──────────────────────────────────────────────────────────────────────────────────

module _ {v : Result (Unit {0}) Refusal} (fo ro io : List ℕ) (fd rd id : List ℤ) (len at : ℕ)
    (d : v ≡ ruling (edges_rules (length fo) (length fd) (length ro) (length rd) (length io) (length id) len at)) (e : v ≡ Ok tt) where
  pub edges-short : 2 + sets_size (length fo) (length fd) (length ro) (length rd) (length io) (length id) < 2 ^ 32
  edges-short = sets-fit _ _ _ _ _ _ (fine-numbers _ _ _ _ _ _ _ v d e)

  pub edges-end : {r : ℕ} → r ≡ at + (6 + sets_size (length fo) (length fd) (length ro) (length rd) (length io) (length id))
      → Ok r ≡ wrote (edges_rules (length fo) (length fd) (length ro) (length rd) (length io) (length id) len at)
      (at + length (record_bytes 2 (sets_bytes (set_from fo fd) (set_from ro rd) (set_from io id))))
  edges-end {r} f =
      ended (edges_rules (length fo) (length fd) (length ro) (length rd) (length io) (length id) len at) v d e r _
      (omega (arith, length-record 2 (sets_bytes (set_from fo fd) (set_from ro rd) (set_from io id)), sets-size fo ro io fd rd id))

-- ── 3 rows ───────────────────────────────────────────────────────────────────────────────────

module _ {v : Result (Unit {0}) Refusal} (flags tags : List ℕ) (len at : ℕ) (d : v ≡ ruling (rows_rules (length flags) (length tags) len at)) (e : v ≡ Ok tt) where
  pub rows-even : length flags ≡ length tags
  rows-even = eqb-true _ _ (fine-ok _ _ _ _ _ _ _ v d e)

  pub rows_short : 2 + length tags * 9 < 2 ^ 32
  rows_short = let k = few-first-of (length flags) (length tags ∷ []) (fine-records _ _ _ _ _ _ _ v d e) in let j = rows-even in omega arith

  pub rows_end : {r : ℕ} → r ≡ at + rows_size (length tags)
      → Ok r ≡ wrote (rows_rules (length flags) (length tags) len at) (at + length (record_bytes 3 (flat row_bytes (zip2 row_from flags tags))))
  rows_end {r} f =
      ended (rows_rules (length flags) (length tags) len at) v d e r _ (omega (arith, length-record 3 (flat row_bytes (zip2 row_from flags tags)), rows-size flags tags rows-even))

-- ── 4 unresolved ─────────────────────────────────────────────────────────────────────────────

module _ {v : Result (Unit {0}) Refusal} (children kinds handles : List ℕ) (len at : ℕ) (d : v ≡ ruling (unresolved_rules children (length kinds) (length handles) len at)) (e : v ≡ Ok tt) where
  unresolved-even : (length kinds ≡ length children) × (length handles ≡ length children)
  unresolved-even = three-same _ _ _ (unresolved-whole children _ _ (fine-ok _ _ _ _ _ _ _ v d e)).0

  pub kinds-even : length kinds ≡ length children
  kinds-even = unresolved-even.0

  pub handles-even : length handles ≡ length children
  handles-even = unresolved-even.1

  pub unresolved-short : 2 + (4 + length children * 13) < 2 ^ 32
  unresolved-short = let k = few-first-of (length children) (length kinds ∷ length handles ∷ []) (fine-records _ _ _ _ _ _ _ v d e) in omega arith

  pub unresolved-end : {r : ℕ} → r ≡ at + unresolved_size (length children)
      → Ok r ≡ wrote (unresolved_rules children (length kinds) (length handles) len at) (at + length (record_bytes 4 (counted_bytes unresolved_bytes (zip3 unresolved_from children kinds handles))))
  unresolved-end {r} f =
      ended (unresolved_rules children (length kinds) (length handles) len at) v d e r _
      (omega (arith, length-record 4 (counted_bytes unresolved_bytes (zip3 unresolved_from children kinds handles)), unresolved-size children kinds handles kinds-even handles-even))

-- ── 5 roots ──────────────────────────────────────────────────────────────────────────────────

module _ {v : Result (Unit {0}) Refusal} (rows handles : List ℕ) (len at : ℕ) (d : v ≡ ruling (roots_rules rows (length handles) len at)) (e : v ≡ Ok tt) where
  pub roots-even : length handles ≡ length rows
  roots-even = (roots-whole rows _ (fine-ok _ _ _ _ _ _ _ v d e)).0

  pub roots-short : 2 + (4 + length rows * 16) < 2 ^ 32
  roots-short = let k = few-first-of (length rows) (length handles ∷ []) (fine-records _ _ _ _ _ _ _ v d e) in omega arith

  pub roots-end : {r : ℕ} → r ≡ at + roots_size (length rows)
      → Ok r ≡ wrote (roots_rules rows (length handles) len at) (at + length (record_bytes 5 (counted_bytes root_bytes (zip2 root_from rows handles))))
  roots-end {r} f =
      ended (roots_rules rows (length handles) len at) v d e r _ (omega (arith, length-record 5 (counted_bytes root_bytes (zip2 root_from rows handles)), roots-size rows handles roots-even))

-- ── 6 cover ──────────────────────────────────────────────────────────────────────────────────

module _ {v : Result (Unit {0}) Refusal} (chains seqs ids minima maxima a b c f : List ℕ) (len at : ℕ)
    (d : v ≡ ruling (cover_rules (length chains) (length seqs) (length ids) (length minima) (length maxima) (length a) (length b) (length c) (length f) len at)) (e : v ≡ Ok tt) where
  pub minima-even : length minima ≡ length ids
  minima-even = (cover_even _ _ _ _ _ _ _ _ _ (fine-ok _ _ _ _ _ _ _ v d e)).least

  pub maxima-even : length maxima ≡ length ids
  maxima-even = (cover_even _ _ _ _ _ _ _ _ _ (fine-ok _ _ _ _ _ _ _ v d e)).greatest

  pub cover-short : 2 + cover_body (length chains) (length seqs) (length ids) (length a) (length b) (length c) (length f) < 2 ^ 32
  cover-short = cover-fits _ _ _ _ _ _ _ _ _ (fine-records _ _ _ _ _ _ _ v d e)

  pub cover-ends : {r : ℕ} → r ≡ at + (6 + cover_body (length chains) (length seqs) (length ids) (length a) (length b) (length c) (length f))
      → Ok r ≡ wrote (cover_rules (length chains) (length seqs) (length ids) (length minima) (length maxima) (length a) (length b) (length c) (length f) len at)
      (at + length (record_bytes 6 (cover_bytes (cover_from chains seqs (zip3 range_from ids minima maxima) (links_from a b c f)))))
  cover-ends {r} g =
      ended (cover_rules (length chains) (length seqs) (length ids) (length minima) (length maxima) (length a) (length b) (length c) (length f) len at) v d e r _
      (omega (
        arith,
        length-record 6 (cover_bytes (cover_from chains seqs (zip3 range_from ids minima maxima) (links_from a b c f))),
        cover-size chains seqs ids minima maxima a b c f minima-even maxima-even,
      ))

-- ── 7 references ─────────────────────────────────────────────────────────────────────────────

module _ {v : Result (Unit {0}) Refusal} (os ks ss ts : List ℕ) (len at : ℕ) (d : v ≡ ruling (references_rules os ks ss ts len at)) (e : v ≡ Ok tt) where
  pub references-cited : Cited os ks ss ts
  references-cited = references-whole os ks ss ts (fine-ok _ _ _ _ _ _ _ v d e)

  pub references-short : 2 + references_body (length os - 1) (length ks) < 2 ^ 32
  references-short = references-few (length os) _ _ _ (fine-records _ _ _ _ _ _ _ v d e) (fine-numbers _ _ _ _ _ _ _ v d e)

  pub references-end : {r : ℕ} → r ≡ at + references_size (length os - 1) (length ks)
      → Ok r ≡ wrote (references_rules os ks ss ts len at) (at + length (record_bytes 7 (references_bytes (cited_from os ks ss ts))))
  references-end {r} f =
      ended (references_rules os ks ss ts len at) v d e r _
      (omega (arith, length-record 7 (references_bytes (cited_from os ks ss ts)), references-size os ks ss ts references-cited))
