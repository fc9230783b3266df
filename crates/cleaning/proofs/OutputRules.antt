-- An output file by itself and after the one before it: no rule of a taking's files refuses it.
use mathlib.Core.Path.{◌≡◌, refl, ap}
use mathlib.Core.Bool.{Bool, true, or-true}
use mathlib.Core.List.{List, [], ◌∷◌, map}
use mathlib.Core.Option.{Option, none, some}
use Prim.Native.Nat.{ℕ, zero, suc, ◌+◌, ◌≤◌, ◌<◌}
use native.Mathlib.Omega.{arith}
use borrow.Author.Tests.{lt-ltb, le-leb, eq-eqb, ne_eqb}
use lib.Dec.{ltb, eqb}
use lib.ListN.{length, length-map}
use Rattle.lists.specs.Lists.{flat, all, same, up_from, Each}
use Rattle.lists.proofs.Tests.{all-of}
use Rattle.lists.proofs.Each.{each-imp, each_append, each-get_or}
use Rattle.columns.specs.Limits.{Served, end64, reference_kinds}
use Rattle.columns.specs.Building.{numbers_ok, in_file, Built}
use Rattle.columns.specs.declared.refusal.Refusal.TheVariants.{SubjectLength, NumberRange, DepthOrder, RootOutside, GroupOrder, SourceOrder, CoverInSome, CoverForm}
use Rattle.cover.specs.Chains.{Link}
use Rattle.cover.specs.Cover.{range_rules, link_rules}
use Rattle.cover.proofs.Stored.{stored_ok, ranges-ok}
use Rattle.archive.specs.File.{Root, Unresolved, File}
use Rattle.cleaning.specs.Source.{Source, source_of}
use Rattle.cleaning.specs.Taking.{group_follows, source_follows, cover_follows, file_end, unresolved_rules, cover_rules, file_rules, files_rules}
use Rattle.cleaning.specs.Summary.{Summary}
use Rattle.cleaning.specs.Writing.{Numbered, rows_in, unresolved_of, root_of, roots_from, labels_in, group_at, cover_of_group, file_of_rows, output_of, outputs}
use Rattle.cleaning.proofs.Good.{GoodLinks, GoodGroup, Good}
use Rattle.columns.proofs.FirstBroken.{none_of, none_in, passes}
use Rattle.cleaning.proofs.Blocks.{rows-first}
use Rattle.cleaning.proofs.Outputs.{row_of, references-each}
use Rattle.cleaning.proofs.OutputSides.{first_of, end_of, end-next, end-within}
use Rattle.cleaning.proofs.OutputSets.{sets_of, output-sets, forward-rules, reverse-rules, inbound-rules}

-- ── records ──────────────────────────────────────────────────────────────────────────────────

same_self : (xs : List ℕ) → same xs xs ≡ true
unfolding same
same_self [] = refl
same_self (x ∷ xs) = rw (eq-eqb x x refl) (same_self xs)

roots-within : (i : ℕ) (rs : List Numbered) → Each (λ r. (i ≤ r.row) × (r.row < i + length rs)) (roots_from i rs)
unfolding roots_from
roots-within i [] = tt
roots-within i (r ∷ rs) =
    each_append _ (root_of i r.row.body.root) (roots_from (suc i) rs) (one r.row.body.root)
    (each-imp (λ r. (suc i ≤ r.row) × (r.row < suc i + length rs)) (λ r. (i ≤ r.row) × (r.row < i + suc (length rs))) (roots_from (suc i) rs)
    (λ r w. (omega arith, omega arith)) (roots-within (suc i) rs))
  where
    one : (o : Option ℕ) → Each (λ r. (i ≤ r.row) × (r.row < i + suc (length rs))) (root_of i o)
    one none = tt
    one (some h) = ((omega arith, omega arith), tt)

-- 6 and 7 of an unresolved record
record-passes : (f : File) (u : Unresolved) → f.first ≤ u.child → u.child < file_end f → u.kind < reference_kinds → unresolved_rules f u ≡ none
unfolding unresolved_rules in_file
record-passes f u a b k =
    rw (le-leb f.first u.child a, lt-ltb u.child (file_end f) b, lt-ltb u.kind reference_kinds k) (none_of _ (refl, (refl, tt)))

cover-passes : (links : Option (List Link)) (rs : List Numbered) → GoodLinks links → cover_rules (cover_of_group links rs) ≡ none
unfolding range_rules link_rules
cover-passes none rs h = refl
cover-passes (some ls) rs h =
    none_of _ (passes CoverForm _ (ranges-ok (labels_in rs)), (passes CoverForm _ (stored_ok ls h.0 h.1), tt))

-- ── one file ─────────────────────────────────────────────────────────────────────────────────

-- the source before that of a group
abbrev prior : (K : ℕ) → Summary → ℕ → Option Source
prior K S zero = none
prior K S (suc g) = some (source_of K (output_of K S g))

module _ (K : ℕ) (served : Served K) (S : Summary) (good : Good K S) where
  looks-back : (g : ℕ) (b : Built) → g < length S.groups → let f = file_of_rows S.subject g (group_at S g) (rows_in S g) b in
      (group_follows (prior K S g) f ≡ true) × (source_follows (prior K S g) f ≡ true) × (cover_follows (prior K S g) f ≡ true)
  unfolding source_of output_of
  looks-back zero b l = (refl, refl, refl)
  looks-back (suc g) b l =
      let before : g < length S.groups = omega arith in
      let first : first_of S (suc g) ≡ first_of S g + length (map row_of (rows_in S g)) =
      omega (arith, end-next K served S good g before, rows-first K served S good (suc g) l, length-map (rows_in S g) row_of) in (
        rw (eq-eqb (suc g) (g + 1) (omega arith)) (or-true (eqb (suc g) g)),
        rw (same_self S.subject) (eq-eqb (first_of S (suc g)) (first_of S g + length (map row_of (rows_in S g))) first),
        rw (ne_eqb (suc g) g (omega arith)),
      )

  module _ (g : ℕ) (l : g < length S.groups) where
    this-group : GoodGroup (group_at S g)
    this-group = each-get_or GoodGroup S.groups g _ good.groups l

    records-pass : (f : File) → f.first ≡ first_of S g → file_end f ≡ end_of S g → Each (λ u. unresolved_rules f u ≡ none) (flat unresolved_of (rows_in S g))
    records-pass f a b =
        references-each K served S good g (λ u. unresolved_rules f u ≡ none) l
        (λ u low high kind handle. record-passes f u (omega (arith, rows-first K served S good g l)) (omega (arith, end-next K served S good g l)) kind)

    file-rules : file_rules K (prior K S g) (output_of K S g) ≡ none
    unfolding file_rules numbers_ok
    file-rules =
        let n : length (map row_of (rows_in S g)) ≡ length (rows_in S g) = length-map (rows_in S g) row_of in
        let numbers : numbers_ok (first_of S g) (length (map row_of (rows_in S g))) ≡ true =
        lt-ltb (first_of S g + length (map row_of (rows_in S g))) end64 (omega (arith, n, end-within K served S good g l, good.numbers)) in
        let inside : Root → Bool = λ r. ltb r.row (length (map row_of (rows_in S g))) in
        let roots : all inside (roots_from 0 (rows_in S g)) ≡ true =
        all-of inside (roots_from 0 (rows_in S g))
        (each-imp (λ r. (0 ≤ r.row) × (r.row < 0 + length (rows_in S g))) (λ r. inside r ≡ true) (roots_from 0 (rows_in S g))
        (λ r w. lt-ltb r.row (length (map row_of (rows_in S g))) (omega (arith, n))) (roots-within 0 (rows_in S g))) in
        let back = looks-back g (sets_of K S g) l in
        rw (output-sets K served S good g) (none_of _ (
          passes SubjectLength _ good.subject,
          (
            passes NumberRange _ numbers,
            (
              passes DepthOrder _ this-group.0,
              (
                passes GroupOrder _ back.0,
                (
                  passes SourceOrder _ back.1,
                  (
                    passes CoverInSome _ back.2,
                    (
                      rw n (forward-rules K served S good g l),
                      (
                        rw n (reverse-rules K served S good g l),
                        (
                          rw n (inbound-rules K served S good g l),
                          (
                            passes RootOutside _ roots,
                            (
                              none_in _ (flat unresolved_of (rows_in S g)) (records-pass _ refl (ap (λ m. first_of S g + m) n)),
                              (
                                cover-passes (group_at S g).links (rows_in S g) this-group.2,
                                tt,
                              ),
                            ),
                          ),
                        ),
                      ),
                    ),
                  ),
                ),
              ),
            ),
          ),
        ))

  -- ── all files ────────────────────────────────────────────────────────────────────────────────

  files-from : (g m : ℕ) → g + m ≤ length S.groups → files_rules K (prior K S g) (map (output_of K S) (up_from g m)) ≡ none
  unfolding files_rules up_from
  files-from g zero h = refl
  files-from g (suc m) h = none_of _ (file-rules g (omega arith), (files-from (suc g) m (omega arith), tt))

  pub files-rules : files_rules K none (outputs K S) ≡ none
  unfolding outputs
  files-rules = files-from 0 (length S.groups) (omega arith)
