-- Encoding: the loop that writes differences, and the verdict, return by return.
use Rattle.std.proofs.Common.{◌≡◌, ℕ, ◌+◌, ◌<◌, ◌≤◌, Bool, true, false, not, ◌&&◌, eqb, ltb, List, [], ◌∷◌, length, get_or, drop, set, sym, ap, ◌∙◌, add-one, arith, drop_of_length-le, drop-cons, eq-eqb, ne_eqb, eqb-true, Err, Ok}
use mathlib.Core.Option.{none}
use lib.Seq.{sets}
use borrow.Author.Tests.{not-true, not-false}
use Rattle.lists.specs.Lists.{any}
use Rattle.lists.proofs.Tests.{both}
use Rattle.columns.specs.Limits.{max_records}
use Rattle.columns.specs.Refusal.{Verdict, refused, accepted, short, limits}
use Rattle.columns.specs.declared.refusal.Refusal.TheVariants.{OverRecords, SliceShort, CoverForm}
use Rattle.columns.proofs.FirstBroken.{passes}
use Rattle.cover.specs.Cover.{LinkColumns, links_of, even_columns, wrapping_less, differences, columns_of, encode}
use Rattle.cover.specs.Answers.{link_columns, link_lengths, for_records, over, counted, columns_over, columns_after}
use Rattle.cover.proofs.Stored.{length-differences}
use Rattle.cover_rows.proofs.limits.Anyone.{any-nil}
use Rattle.cover_rows.proofs.Columned.{over-sets}
use Rattle.cover_rows.proofs.Fitting.{columns_of_lem}
use Rattle.cover_rows.proofs.limits.Verdicts.{counted-refused, counted-done, limits-records, limits-short, limits-none, first-refuses, next-rule, no-rule, refuse-not}

-- ── differences ──────────────────────────────────────────────────────────────────────────────

pub diffs-over : (xs out : List ℕ) → length xs ≤ length out → over (differences 0 xs) out ≡ sets out 0 (differences 0 xs)
diffs-over xs out h = over-sets (differences 0 xs) out (rw (length-differences 0 xs) h)

module _ {t : List ℕ} (before i : ℕ) (xs out : List ℕ) (e : t ≡ sets out i (differences before (drop i xs))) where
  pub diffs-done : length xs ≤ i → out ≡ t
  unfolding differences
  diffs-done h = rw (e, drop_of_length-le xs {i = i} h)

  pub diffs-on : (r : ℕ) → r ≡ wrapping_less (get_or xs i 0) before → i < length xs → t ≡ sets (set out i r) (i + 1) (differences (get_or xs i 0) (drop (i + 1) xs))
  unfolding differences
  diffs-on r g h = rw (e, drop-cons xs i 0 h, g, add-one)

-- ── the form ─────────────────────────────────────────────────────────────────────────────────

module _ (s b c d : List ℕ) where
  pub uneven-from : (length b ≡ length s → ⊥) → false ≡ even_columns (link_columns s b c d)
  unfolding even_columns
  uneven-from h = rw (ne_eqb (length b) (length s) h)

  module _ (p : length b ≡ length s) where
    pub uneven-to : (length c ≡ length s → ⊥) → false ≡ even_columns (link_columns s b c d)
    unfolding even_columns
    uneven-to h = rw (eq-eqb (length b) (length s) p, ne_eqb (length c) (length s) h)

    pub even-ends : length c ≡ length s → eqb (length d) (length s) ≡ even_columns (link_columns s b c d)
    unfolding even_columns
    even-ends q = rw (eq-eqb (length b) (length s) p, eq-eqb (length c) (length s) q)

  module _ (ok : even_columns (link_columns s b c d) ≡ true) where
    rest : (eqb (length b) (length s) ≡ true) × ((eqb (length c) (length s) && eqb (length d) (length s)) ≡ true)
    unfolding even_columns
    rest = both (eqb (length b) (length s)) (eqb (length c) (length s) && eqb (length d) (length s)) ok

    same_from : length b ≡ length s
    same_from = eqb-true (length b) (length s) rest.0

    same-to : length c ≡ length s
    same-to = eqb-true (length c) (length s) (both (eqb (length c) (length s)) (eqb (length d) (length s)) rest.1).0

    same_ends : length d ≡ length s
    same_ends = eqb-true (length d) (length s) (both (eqb (length c) (length s)) (eqb (length d) (length s)) rest.1).1

    pub even-from-room : (o : List ℕ) → length s ≤ length o → length b ≤ length o
    even-from-room o h = omega (arith, same_from)

    pub even-to-room : (o : List ℕ) → length s ≤ length o → length c ≤ length o
    even-to-room o h = omega (arith, same-to)

    pub even-ends-room : (o : List ℕ) → length s ≤ length o → length d ≤ length o
    even-ends-room o h = omega (arith, same_ends)

    stored : columns_of (links_of s b c d) ≡ link_columns (differences 0 s) b c d
    stored = columns_of_lem s b c d same_from same-to same_ends

pub stored-written : (s b c d x y z w x' y' z' w' : List ℕ) → x' ≡ over (differences 0 s) x → y' ≡ over b y → z' ≡ over c z → w' ≡ over d w
    → link_columns x' y' z' w' ≡ columns_over (link_columns (differences 0 s) b c d) (link_columns x y z w)
unfolding columns_over
stored-written s b c d x y z w x' y' z' w' e f g h = rw (e, f, g, h)

-- ── the verdict ──────────────────────────────────────────────────────────────────────────────

columns-kept : (v : Verdict LinkColumns) (o : LinkColumns) {r : _} → v ≡ refused r → o ≡ columns_after v o
unfolding columns_after
columns-kept v o e = rw e

columns-stored : (v : Verdict LinkColumns) (k x y : LinkColumns) → v ≡ accepted k → y ≡ columns_over k x → y ≡ columns_after v x
unfolding columns_after
columns-stored v k x y e f = rw e f

module _ (s b c d ns : List ℕ) where
  abbrev l : LinkColumns
  l = link_columns s b c d

  abbrev k : LinkColumns
  k = columns_of (links_of s b c d)

  abbrev verdict : Verdict LinkColumns
  verdict = encode (link_columns s b c d) (for_records ns)

  module _ {t : Bool} (e : t ≡ any (ltb max_records) (length s ∷ length b ∷ length c ∷ length d ∷ [])) where
    over-limit : t ≡ true → encode (link_columns s b c d) (for_records ns) ≡ refused OverRecords
    unfolding encode
    over-limit h = first-refuses k OverRecords _ _ (limits-records (link_lengths l) [] (for_records ns) (sym e ∙ h))

    pub encode-over-told : t ≡ true → Err OverRecords ≡ counted (λ x. x.from_chains) (encode (link_columns s b c d) (for_records ns))
    encode-over-told h = counted-refused _ _ (over-limit h)

    pub encode-over-kept : (o : LinkColumns) → t ≡ true → o ≡ columns_after (encode (link_columns s b c d) (for_records ns)) o
    encode-over-kept o h = columns-kept _ o (over-limit h)

    module _ (h : t ≡ false) {u : Bool} (f : u ≡ any short (for_records ns)) where
      too_short : u ≡ true → encode (link_columns s b c d) (for_records ns) ≡ refused SliceShort
      unfolding encode
      too_short m = first-refuses k SliceShort _ _ (limits-short (link_lengths l) [] (for_records ns) (sym e ∙ h) (any-nil _) (sym f ∙ m))

      pub encode-short-told : u ≡ true → Err SliceShort ≡ counted (λ x. x.from_chains) (encode (link_columns s b c d) (for_records ns))
      encode-short-told m = counted-refused _ _ (too_short m)

      pub encode-short-kept : (o : LinkColumns) → u ≡ true → o ≡ columns_after (encode (link_columns s b c d) (for_records ns)) o
      encode-short-kept o m = columns-kept _ o (too_short m)

      module _ (m : u ≡ false) {v : Bool} (g : v ≡ even_columns (link_columns s b c d)) where
        within : limits (link_lengths l) [] (for_records ns) ≡ none
        within = limits-none (link_lengths l) [] (for_records ns) (sym e ∙ h) (any-nil _) (sym f ∙ m)

        uneven : not v ≡ true → encode (link_columns s b c d) (for_records ns) ≡ refused CoverForm
        unfolding encode
        uneven p = next-rule k (refused CoverForm) _ _ within (first-refuses k CoverForm _ _ (refuse-not CoverForm (even_columns l) (sym g ∙ not-true v p)))

        pub encode-uneven-told : not v ≡ true → Err CoverForm ≡ counted (λ x. x.from_chains) (encode (link_columns s b c d) (for_records ns))
        encode-uneven-told p = counted-refused _ _ (uneven p)

        pub encode-uneven-kept : (o : LinkColumns) → not v ≡ true → o ≡ columns_after (encode (link_columns s b c d) (for_records ns)) o
        encode-uneven-kept o p = columns-kept _ o (uneven p)

        done : not v ≡ false → encode (link_columns s b c d) (for_records ns) ≡ accepted (link_columns (differences 0 s) b c d)
        unfolding encode
        done p =
            next-rule k (accepted k) _ _ within (next-rule k (accepted k) _ _ (passes CoverForm (even_columns l) (sym g ∙ not-false v p)) (no-rule k))
            ∙ ap accepted (stored s b c d (sym g ∙ not-false v p))

        pub encode-told : not v ≡ false → Ok (length s) ≡ counted (λ x. x.from_chains) (encode (link_columns s b c d) (for_records ns))
        encode-told p = counted-done _ _ (link_columns (differences 0 s) b c d) (done p) (sym (length-differences 0 s))

        pub encode-written : (x y : LinkColumns) → y ≡ columns_over (link_columns (differences 0 s) b c d) x → not v ≡ false → y ≡ columns_after (encode (link_columns s b c d) (for_records ns)) x
        encode-written x y q p = columns-stored _ (link_columns (differences 0 s) b c d) x y (done p) q

pub columns-even : (s b c d : List ℕ) {v : Bool} → v ≡ even_columns (link_columns s b c d) → not v ≡ false → even_columns (link_columns s b c d) ≡ true
columns-even s b c d {v} g p = sym g ∙ not-false v p
