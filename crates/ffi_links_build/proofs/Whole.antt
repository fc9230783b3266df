-- From what the call over columns does to what the call over records does.
--     Done             the columns x became y, the ranges o became p, and the answer is r
--     Answered         the answer r of the call, the ranges p where o stood, and the records zs where os stood
use mathlib.Core.Path.{◌≡◌, refl, sym, ◌∙◌, ap, subst}
use mathlib.Core.List.{List, map}
use Prim.Native.Nat.{ℕ, ◌≤◌, ◌<◌}
use native.Mathlib.Omega.{arith}
use lib.ListN.{length, length-map}
use Rattle.columns.specs.Refusal.{Verdict, refused, accepted}
use Rattle.columns.specs.declared.refusal.Refusal.TheVariants.{OverRecords}
use Rattle.cover.specs.Chains.{Link}
use Rattle.cover.specs.Cover.{LinkColumns, Cover}
use Rattle.cover.specs.Answers.{RangeColumns, counted, links_after}
use Rattle.cover_build.specs.Built.{built_of, ranges_after}
use Rattle.cover_links.specs.Links.{meant}
use Rattle.cover_links.specs.declared.Link as records
use Rattle.ffi.specs.Numbers.{answer_of}
use Rattle.ffi_cover.specs.Numbers.{records_of, covered_of}
use Rattle.ffi_cover.specs.declared.covers.Covered.{Covered}
use Rattle.ffi_links.specs.Records.{records_after, first_links, given}
use Rattle.ffi_links.proofs.Four.{Quad, Long}
use Rattle.ffi_links.proofs.Taken.{Taken, Put}
use Rattle.ffi_links.proofs.Meaning.{columns, taken-links, given-all, answer-few, put-means}
use Rattle.ffi_links_build.specs.Covers.{links_in, Wrote}

-- the links of a cover are counted and written as links alone are
links-counted : (v : Verdict Cover) → (covered_of (built_of v)).links ≡ (records_of (counted (λ k. k) (links_in v))).length
unfolding covered_of built_of answer_of counted links_in
links-counted (refused r) = refl
links-counted (accepted c) = refl

links-after : (v : Verdict Cover) (k : LinkColumns) → links_after (λ c. c.links) v k ≡ links_after (λ l. l) (links_in v) k
unfolding links_after links_in
links-after (refused r) k = refl
links-after (accepted c) k = refl

module _ (f : List Link → Verdict Cover) (ys : List records.Link) where
  abbrev verdict : Quad (List ℕ) → Verdict Cover
  verdict x = given (length ys) (f (first_links (length ys) (columns x)))

  abbrev pub Done : Quad (List ℕ) → RangeColumns → Covered → Quad (List ℕ) → RangeColumns → Type 0
  Done x o r y p = Wrote (verdict x) r o p (columns x) (columns y)

  abbrev pub Answered : List records.Link → RangeColumns → Covered → List records.Link → RangeColumns → Type 0
  Answered os o r zs p =
      (r ≡ covered_of (built_of (f (map meant ys)))) × ((p ≡ ranges_after (f (map meant ys)) o) × (map meant zs ≡ records_after (links_in (f (map meant ys))) (map meant os)))

  module _ (x : Quad (List ℕ)) (o : RangeColumns) (r : Covered) (y : Quad (List ℕ)) (p : RangeColumns) (e : Done x o r y p) (long : Long 1024 y) where
    -- the call over columns, of the links alone
    count : r.links ≡ (records_of (counted (λ k. k) (links_in (verdict x)))).length
    count = ap (λ (a : Covered). a.links) e.answer ∙ links-counted (verdict x)

    written : columns y ≡ links_after (λ k. k) (links_in (verdict x)) (columns x)
    written = e.writes ∙ links-after (verdict x) (columns x)

    few : (records_of (counted (λ k. k) (links_in (verdict x)))).length ≤ 1024
    few = answer-few (links_in (verdict x)) x y written long

    pub done-few : r.links ≤ 1024
    done-few = subst (λ (n : ℕ). n ≤ 1024) (sym count) few

    pub done-answered : ((ls : List Link) → 1024 < length ls → f ls ≡ refused OverRecords) → (n : ℕ) (w : Quad (List ℕ)) → Long 1024 w → Taken ys w n x → (k : ℕ) (os zs : List records.Link)
        → ((records_of (counted (λ l. l) (links_in (f (map meant ys))))).length ≤ 1024 → (records_of (counted (λ l. l) (links_in (f (map meant ys))))).length ≤ length os)
        → Put r.links y os k zs → Answered os o r zs p
    done-answered many n w even taken k os zs fits put =
        let same : verdict x ≡ f (map meant ys) = given-all f (length ys) (first_links (length ys) (columns x)) (map meant ys) (λ h. taken-links ys w x n even taken h)
        (λ h. many (map meant ys) (omega (arith, h, length-map ys meant))) in
        let room : (records_of (counted (λ l. l) (links_in (verdict x)))).length ≤ length os = rw same (fits (rw same at few)) in (
          e.answer ∙ ap (λ v. covered_of (built_of v)) same,
          (
            e.leaves ∙ ap (λ v. ranges_after v o) same,
            put-means (links_in (verdict x)) x y os zs k written long room (subst (λ (m : ℕ). Put m y os k zs) count put) ∙ ap (λ v. records_after (links_in v) (map meant os)) same,
          ),
        )
