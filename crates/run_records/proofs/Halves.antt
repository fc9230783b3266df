-- Bytes written one part after the other: the halves of a group's file, each out of its records.
use mathlib.Core.Path.{◌≡◌, refl, sym, ap, ◌∙◌}
use mathlib.Core.Bool.{Bool, true, false, not}
use mathlib.Core.List.{List, ◌++◌, map}
use Prim.Native.Nat.{ℕ, ◌+◌, ◌-◌, ◌*◌, ◌≤◌}
use native.Mathlib.Omega.{arith}
use borrow.Author.Tests.{not-true, not-false}
use lib.ListN.{length, drop, length-append, length-map}
use lib.Seq.{sets, length-sets}
use Rattle.lists.specs.Lists.{flat}
use Rattle.archive.specs.Encode.{record_bytes, head_fields, row_bytes, unresolved_bytes, root_bytes, counted_bytes, cover_bytes}
use Rattle.lists.proofs.Cut.{length-blocks}
use Rattle.archive_bytes.specs.Bytes.{several}
use Rattle.archive.proofs.Back.{length-several}
use Rattle.archive.proofs.Lengths.{length-record, length-head, length-counted, wide_row, wide-unresolved, wide-root}
use Rattle.archive_store.specs.records.Sizes.{head_size, rows_size, unresolved_size, roots_size, cover_body}
use Rattle.archive_store.specs.sizes.FileSize.{edges_size}
use Rattle.archive_store.proofs.Chained.{then}
use Rattle.cleaning.specs.Sections.{unerased_row}
use Rattle.run_section.specs.declared.Counts.{Counts}
use Rattle.run_section.specs.declared.Section.{Section}
use Rattle.run_section.specs.declared.rules.Known.{Known}
use Rattle.run_section.specs.declared.facts.Facts.{Facts}
use Rattle.run_section.specs.declared.sizes.Edges.{Edges}
use Rattle.run_section.specs.Tables.{field, unresolved_in, root_in}
use Rattle.run_section.specs.Rules.{depth_in}
use Rattle.run_section.specs.Sizes.{EdgesOf}
use Rattle.run_section.specs.Files.{many, tags_at, unresolved_at, roots_at, sets_at}
use Rattle.run_records.specs.Front.{built_bytes}
use Rattle.run_records.specs.Stored.{root_above, cover_in}
use Rattle.run_records.specs.Files.{Wrote, front_at, middle_at, last_at, back_at, FrontReady}
use Rattle.run_records.proofs.Covered.{cover-size}
use Rattle.run_records.proofs.SetsStored.{edges-after}

-- ── two parts ────────────────────────────────────────────────────────────────────────────────

pub both-wrote : {xs ys was mid is : List ℕ} {at p end : ℕ} → Wrote xs was mid at p → Wrote ys mid is p end → Wrote (xs ++ ys) was is at end
both-wrote {xs} {ys} {was} {at = at} d e = record {
  stored = then was at xs ys d.stored e.stored d.ends;
  ends = omega (arith, d.ends, e.ends, length-append xs ys);
}

pub wrote-long : {xs was is : List ℕ} {at end : ℕ} → Wrote xs was is at end → length is ≡ length was
wrote-long {xs} {was} {at = at} d = ap length d.stored ∙ length-sets was at xs

-- what has room together has room one after the other
pub first-room : (xs ys : List ℕ) (at size : ℕ) → at + length (xs ++ ys) ≤ size → at + length xs ≤ size
first-room xs ys at size room = omega (arith, length-append xs ys)

pub second-room : (xs ys was : List ℕ) (at : ℕ) → at + length (xs ++ ys) ≤ length was → {mid : List ℕ} {p : ℕ} → Wrote xs was mid at p → p + length ys ≤ length mid
second-room xs ys was at room d = omega (arith, length-append xs ys, d.ends, wrote-long d)

-- ── 1 and 2 ──────────────────────────────────────────────────────────────────────────────────

module _ (z : Counts) (g : ℕ) (s : Section) (k : Known) (subject offsets targets starts kids : List ℕ) (at : ℕ) (out : List ℕ) where
  abbrev head : List ℕ
  head = record_bytes 1 (head_fields (z.start + s.rows.from) (many s.rows) g subject (depth_in k))

  abbrev edges : List ℕ
  edges = record_bytes 2 (built_bytes (sets_at z s offsets targets starts kids))

  head-size : length head ≡ head_size (length subject)
  head-size =
      let first = z.start + s.rows.from in
      length-record 1 (head_fields first (many s.rows) g subject (depth_in k)) ∙ ap (λ n. 6 + n) (length-head first (many s.rows) g subject (depth_in k))

  module _ (room : at + length (front_at z g s k subject (sets_at z s offsets targets starts kids)) ≤ length out) where
    pub head-room : at + head_size (length subject) ≤ length out
    unfolding front_at
    head-room = omega (arith, first-room head edges at (length out) room, head-size)

  module _ (ready : FrontReady z g s subject offsets targets starts kids) (e : Edges) (counted : EdgesOf (sets_at z s offsets targets starts kids) e)
      {j : List ℕ} {p : ℕ} (d : j ≡ sets out at head) (f : p ≡ at + head_size (length subject)) where
    edges-size : length edges ≡ edges_size (many s.rows) e.forward e.reverse e.inbound
    edges-size =
        length-record 2 (built_bytes (sets_at z s offsets targets starts kids))
        ∙ omega (arith, edges-after z s e offsets targets starts kids ready.rises ready.within ready.lists counted 0 refl)

    head-wrote : Wrote head out j at p
    head-wrote = record { stored = d; ends = omega (arith, head-size) }

    pub edges_room : at + length (front_at z g s k subject (sets_at z s offsets targets starts kids)) ≤ length out
        → p + edges_size (many s.rows) e.forward e.reverse e.inbound ≤ length j
    unfolding front_at
    edges_room room = omega (arith, second-room head edges out at room head-wrote, edges-size)

    pub front-wrote : {m : List ℕ} {r : ℕ} → m ≡ sets j p edges → r ≡ p + edges_size (many s.rows) e.forward e.reverse e.inbound
        → Wrote (front_at z g s k subject (sets_at z s offsets targets starts kids)) out m at r
    unfolding front_at
    front-wrote a b = both-wrote head-wrote (record { stored = a; ends = omega (arith, edges-size) })

-- ── 3, 4 and 5 ───────────────────────────────────────────────────────────────────────────────

module _ (s : Section) (rows unresolved roots : List ℕ) (at : ℕ) where
  abbrev third : List ℕ
  third = record_bytes 3 (flat row_bytes (map unerased_row (tags_at s rows)))

  abbrev fourth : List ℕ
  fourth = record_bytes 4 (counted_bytes unresolved_bytes (unresolved_at s unresolved))

  abbrev fifth : List ℕ
  fifth = record_bytes 5 (counted_bytes root_bytes (roots_at s roots))

  third-size : length third ≡ rows_size (many s.rows)
  third-size =
      let n = many s.rows in
      let t = drop (s.rows.from * 4) rows in
      omega (
        arith,
        length-record 3 (flat row_bytes (map unerased_row (tags_at s rows))),
        length-blocks row_bytes 9 wide_row (map unerased_row (tags_at s rows)),
        length-map (tags_at s rows) unerased_row,
        length-several 4 (field 1) n t,
      )

  fourth-size : length fourth ≡ unresolved_size (many s.unresolved)
  fourth-size =
      omega (
        arith,
        length-record 4 (counted_bytes unresolved_bytes (unresolved_at s unresolved)),
        length-counted unresolved_bytes 13 wide-unresolved (unresolved_at s unresolved),
        length-several 3 unresolved_in (many s.unresolved) (drop (s.unresolved.from * 3) unresolved),
      )

  fifth-size : length fifth ≡ roots_size (many s.roots)
  fifth-size =
      let t = several 2 root_in (many s.roots) (drop (s.roots.from * 2) roots) in
      omega (
        arith,
        length-record 5 (counted_bytes root_bytes (roots_at s roots)),
        length-counted root_bytes 16 wide-root (roots_at s roots),
        length-map t (root_above s.rows.from),
        length-several 2 root_in (many s.roots) (drop (s.roots.from * 2) roots),
      )

  pub rows-room : (size : ℕ) → at + length (middle_at s rows unresolved roots) ≤ size → at + rows_size (many s.rows) ≤ size
  unfolding middle_at
  rows-room size room = omega (arith, first-room third (fourth ++ fifth) at size room, third-size)

  module _ (out : List ℕ) (room : at + length (middle_at s rows unresolved roots) ≤ length out) where
    module _ {i : List ℕ} {p : ℕ} (c : i ≡ sets out at third) (d : p ≡ at + rows_size (many s.rows)) where
      third-wrote : Wrote third out i at p
      third-wrote = record { stored = c; ends = omega (arith, third-size) }

      rest-room : p + length (fourth ++ fifth) ≤ length i
      unfolding middle_at
      rest-room = second-room third (fourth ++ fifth) out at room third-wrote

      pub unresolved-room : p + unresolved_size (many s.unresolved) ≤ length i
      unresolved-room = omega (arith, first-room fourth fifth p (length i) rest-room, fourth-size)

      module _ {j : List ℕ} {q : ℕ} (e : j ≡ sets i p fourth) (f : q ≡ p + unresolved_size (many s.unresolved)) where
        fourth-wrote : Wrote fourth i j p q
        fourth-wrote = record { stored = e; ends = omega (arith, fourth-size) }

        pub roots-room : q + roots_size (many s.roots) ≤ length j
        roots-room = omega (arith, second-room fourth fifth i p rest-room fourth-wrote, fifth-size)

        pub middle-wrote : {m : List ℕ} {r : ℕ} → m ≡ sets j q fifth → r ≡ q + roots_size (many s.roots) → Wrote (middle_at s rows unresolved roots) out m at r
        unfolding middle_at
        middle-wrote a b = both-wrote third-wrote (both-wrote fourth-wrote (record { stored = a; ends = omega (arith, fifth-size) }))

-- ── 6 ────────────────────────────────────────────────────────────────────────────────────────

module _ (covered : Bool) (s : Section) (from to : ℕ) (rows ranges links : List ℕ) (at : ℕ) where
  abbrev cover : List ℕ
  cover = cover_bytes (cover_in (many s.rows) (drop (s.rows.from * 4) rows) (to - from) (drop (from * 3) ranges) (many s.links) (drop (s.links.from * 5) links))

  last-is : covered ≡ true → last_at covered s from to rows ranges links ≡ record_bytes 6 cover
  unfolding last_at
  last-is e = rw e

  pub none-wrote : {out : List ℕ} → not covered ≡ true → Wrote (last_at covered s from to rows ranges links) out out at at
  unfolding last_at
  none-wrote h = let e : covered ≡ false = not-true covered h in rw e (record { stored = refl; ends = omega arith })

  module _ (h : not covered ≡ false) where
    is-cover : last_at covered s from to rows ranges links ≡ record_bytes 6 cover
    is-cover = last-is (not-false covered h)

    last-size : length (last_at covered s from to rows ranges links)
        ≡ 6 + cover_body (many s.rows) (many s.rows) (to - from) (many s.links) (many s.links) (many s.links) (many s.links)
    last-size =
        ap length is-cover ∙ length-record 6 cover
        ∙ omega (arith, cover-size (many s.rows) (drop (s.rows.from * 4) rows) (to - from) (drop (from * 3) ranges) (many s.links) (drop (s.links.from * 5) links))

    pub cover-room : (size : ℕ) → at + length (last_at covered s from to rows ranges links) ≤ size
        → at + (6 + cover_body (many s.rows) (many s.rows) (to - from) (many s.links) (many s.links) (many s.links) (many s.links)) ≤ size
    cover-room size room = omega (arith, last-size)

    pub cover-wrote : {out m : List ℕ} {r : ℕ} → m ≡ sets out at (record_bytes 6 cover)
        → r ≡ at + (6 + cover_body (many s.rows) (many s.rows) (to - from) (many s.links) (many s.links) (many s.links) (many s.links))
        → Wrote (last_at covered s from to rows ranges links) out m at r
    cover-wrote {out} a b = record { stored = a ∙ ap (sets out at) (sym is-cover); ends = omega (arith, last-size) }

-- ── 3 to 6 ───────────────────────────────────────────────────────────────────────────────────

module _ (s : Section) (f : Facts) (rows unresolved roots links ranges : List ℕ) (at : ℕ) (out : List ℕ) where
  pub middle-room : at + length (back_at s f rows unresolved roots links ranges) ≤ length out → at + length (middle_at s rows unresolved roots) ≤ length out
  unfolding back_at
  middle-room room = first-room (middle_at s rows unresolved roots) (last_at f.known.covered s f.from f.to rows ranges links) at (length out) room

  module _ {j : List ℕ} {p : ℕ} (d : Wrote (middle_at s rows unresolved roots) out j at p) where
    pub last-room : at + length (back_at s f rows unresolved roots links ranges) ≤ length out → p + length (last_at f.known.covered s f.from f.to rows ranges links) ≤ length j
    unfolding back_at
    last-room room = second-room (middle_at s rows unresolved roots) (last_at f.known.covered s f.from f.to rows ranges links) out at room d

    pub back-wrote : {m : List ℕ} {r : ℕ} → Wrote (last_at f.known.covered s f.from f.to rows ranges links) j m p r → Wrote (back_at s f rows unresolved roots links ranges) out m at r
    unfolding back_at
    back-wrote e = both-wrote d e
