-- The records of a file: each answer of the functions that read one record, or two after each other.
use Rattle.std.specs.Prelude.{None, Some, Option}
use mathlib.Core.Path.{◌≡◌, refl, sym}
use mathlib.Core.Bool.{Bool, true, false, not}
use mathlib.Core.List.{List, [], ◌∷◌}
use mathlib.Core.Option.{none, some}
use Prim.Native.Nat.{ℕ, zero, suc, ◌≤◌, ◌+◌, ◌-◌, ◌*◌}
use native.Mathlib.Omega.{arith}
use lib.ListN.{length, get_or, drop, length-drop}
use lib.Seq.{length-take-le}
use borrow.Author.Tests.{eq-eqb, ne_eqb, not-true, not-false}
use Rattle.columns.specs.Limits.{kinds}
use Rattle.archive.specs.Bytes.{several}
use Rattle.archive.specs.Reader.{Parsed, broken, got, and_then, ◌>>=◌, whole, body, record_of, optionally}
use Rattle.archive.specs.Parse
use Rattle.archive.specs.Parse.{root_at, file}
use Rattle.archive_read.specs.bodies.View.{head_in, head_of, HeadInside, set_end, edges_of, EdgesInside, rows_of, RowsInside, unresolved_of, roots_of, ListInside}
use Rattle.archive_read.specs.bodies.View.{cover_end, cover_in, cover_of, CoverInside, references_from, cited_of, CitedInside}
use Rattle.archive_read.specs.Layout.{part_in, body_of, Inside, Ends, Holds, HoldsHead, HoldsSets, FewDeltas, optional_of, AfterOptional, front, front_in, front_of}
use Rattle.archive_read.specs.Layout.{AfterFront, middle, middle_in, middle_of, AfterMiddle, tail, tail_in, tail_of, covered, covered_with, AfterTail, rest, rest_of, AfterRest}
use Rattle.archive_read.specs.Layout.{cites_of, AfterCites, Plain, cited_tail, cited_with, file_from, file_in, AfterFile}
use Rattle.archive_read.specs.declared.bodies.HeadAt.{HeadAt}
use Rattle.archive_read.specs.declared.bodies.EdgesAt.{EdgesAt}
use Rattle.archive_read.specs.declared.bodies.CoverAt.{CoverAt}
use Rattle.archive_read.specs.declared.records.Part.{Part}
use Rattle.archive_read.specs.declared.records.CoverPart.{CoverPart}
use Rattle.archive_read.specs.declared.records.CitesPart.{CitesPart}
use Rattle.archive_read.specs.declared.records.FrontAt.{FrontAt}
use Rattle.archive_read.specs.declared.records.MiddleAt.{MiddleAt}
use Rattle.archive_read.specs.declared.records.TailAt.{TailAt}
use Rattle.archive_read.specs.declared.records.RestAt.{RestAt}

-- ── a body ───────────────────────────────────────────────────────────────────────────────────

module _ (l : List ℕ) (p : ℕ) (x : Option Part) {a : Part} (i : Inside l p x) (d : x ≡ Some a) where
  pub starts-before : a.at ≤ a.end
  starts-before = (rw d at i).1

  pub body-fits : a.end ≤ length l
  body-fits = (rw d at i).2

  ends : Ends l p a
  ends = let u = (rw d at i).0 in let v = (rw d at i).1 in (omega arith, body-fits)

  module _ {b : List ℕ} (t : b ≡ part_in l a) where
    -- a count that is no more than the body's bytes
    few : (n : ℕ) → n ≤ length b → p + n ≤ a.end
    few n h =
        let u = (rw d at i).0 in
        let v = (rw d at i).1 in
        let w = (rw d at i).2 in
        let z : length b ≡ a.end - a.at = rw t (length-take-le (a.end - a.at) (drop a.at l) (rw (length-drop a.at l) (omega arith))) in
        omega arith

    holds : (n : ℕ) → n ≤ length b → Holds l a n
    holds n h = record { starts = starts-before; ends = body-fits; long = rw t at h }

    holds-head : (y : Option HeadAt) {h : HeadAt} → HeadInside b y → y ≡ Some h → HoldsHead l h a
    holds-head y {h} k e = holds (14 + h.subject) (rw e at k)

    few-deltas : (n : ℕ) (y : Option EdgesAt) {s : EdgesAt} → EdgesInside b n y → y ≡ Some s → FewDeltas p s a.end
    few-deltas n y {s} h e =
        let u = rw e at h in
        (few s.forwards (omega (arith, u.0)), few s.reverses (omega (arith, u.1)), few s.inbounds (omega (arith, u.2)))

    holds-sets : (n : ℕ) (y : Option EdgesAt) {s : EdgesAt} → EdgesInside b n y → y ≡ Some s → HoldsSets l n s a
    holds-sets n y {s} h e =
        let u = rw e at h in
        record {
          forward = holds (set_end n 0 s.forwards) u.0;
          reverse = holds (set_end n s.reverse s.reverses) u.1;
          inbound = holds (set_end n s.inbound s.inbounds) u.2;
        }

    module _ (n : ℕ) (r : Bool) (h : RowsInside b n r) (e : not r ≡ false) where
      few_rows : p + n ≤ a.end
      few_rows = let u : n * 9 ≤ length b = rw (not-false r e) at h in few n (omega arith)

      holds_rows : Holds l a (n * 9)
      holds_rows = holds (n * 9) (rw (not-false r e) at h)

    module _ (w : ℕ) (y : Option ℕ) {n : ℕ} (h : ListInside w b y) (e : y ≡ Some n) where
      few_listed : p + n ≤ a.end
      few_listed = few n (rw e at h).0

      holds_list : Holds l a (4 + n * w)
      holds_list = holds (4 + n * w) (rw e at h).1

    pub cover_after : (n : ℕ) (y : Option CoverAt) {c : CoverAt} → CoverInside b n y → y ≡ Some c → AfterOptional l p n (Some (Some (record { cover = c; part = a })))
    cover_after n y {c} h e =
        let u = rw e at h in
        (ends, (few c.ranges (omega arith), few c.links (omega arith)), holds (cover_end n c.ranges c.links) u)

    pub cites_after : (n : ℕ) (y : Option ℕ) {c : ℕ} → CitedInside b n y → y ≡ Some c → AfterCites l p n (Some (Some (record { count = c; part = a })))
    cites_after n y {c} h e =
        let u = rw e at h in
        (ends, few c u.0, record { holds = holds c u.0; counted = rw (← t) u.1 })

-- ── 6, if it is there ────────────────────────────────────────────────────────────────────────

pub no-kind-byte : (l : List ℕ) (p : ℕ) → p ≤ length l → length l - p ≤ 5 → 0 ≡ get_or l (p + 5) 0
no-kind-byte l p h k = sym (past l (p + 5) (omega arith))
  where
    past : (l : List ℕ) (i : ℕ) → length l ≤ i → get_or l i 0 ≡ 0
    past [] i h = refl
    past (x ∷ l) zero h = absurd (omega arith)
    past (x ∷ l) (suc i) h = past l i (omega arith)

module _ (l : List ℕ) (p n : ℕ) {k : ℕ} (d : k ≡ get_or l (p + 5) 0) where
  pub no_cover : (k ≡ 6 → ⊥) → got none p ≡ optionally 6 (Parse.cover n) l p
  unfolding optionally
  no_cover h = rw (← d, ne_eqb k 6 h)

  module _ (h : k ≡ 6) (x : Option Part) (e : body_of l x ≡ body 6 l p) where
    pub bad-cover1 : x ≡ None → broken ≡ optionally 6 (Parse.cover n) l p
    unfolding optionally record_of ◌>>=◌
    bad-cover1 f = rw (← d, eq-eqb k 6 h, ← e, f)

    module _ {a : Part} {b : List ℕ} (y : Option CoverAt) (f : x ≡ Some a) (t : b ≡ part_in l a) (g : cover_of b n y ≡ whole (Parse.cover n) b) where
      pub bad-cover2 : y ≡ None → broken ≡ optionally 6 (Parse.cover n) l p
      unfolding optionally record_of ◌>>=◌
      bad-cover2 m = rw (← d, eq-eqb k 6 h, ← e, f, ← t, ← g, m)

      pub has-cover : {c : CoverAt} → y ≡ Some c → got (some (cover_in (part_in l a) n c)) a.end ≡ optionally 6 (Parse.cover n) l p
      unfolding optionally record_of ◌>>=◌
      has-cover m = rw (← d, eq-eqb k 6 h, ← e, f, ← t, ← g, m)

-- ── 7, if it is there ────────────────────────────────────────────────────────────────────────

module _ (l : List ℕ) (p n : ℕ) {k : ℕ} (d : k ≡ get_or l (p + 5) 0) where
  pub no-cites : (k ≡ 7 → ⊥) → got none p ≡ optionally 7 (Parse.references n) l p
  unfolding optionally
  no-cites h = rw (← d, ne_eqb k 7 h)

  module _ (h : k ≡ 7) (x : Option Part) (e : body_of l x ≡ body 7 l p) where
    pub bad-cites1 : x ≡ None → broken ≡ optionally 7 (Parse.references n) l p
    unfolding optionally record_of ◌>>=◌
    bad-cites1 f = rw (← d, eq-eqb k 7 h, ← e, f)

    module _ {a : Part} {b : List ℕ} (y : Option ℕ) (f : x ≡ Some a) (t : b ≡ part_in l a) (g : cited_of b n y ≡ whole (Parse.references n) b) where
      pub bad-cites2 : y ≡ None → broken ≡ optionally 7 (Parse.references n) l p
      unfolding optionally record_of ◌>>=◌
      bad-cites2 m = rw (← d, eq-eqb k 7 h, ← e, f, ← t, ← g, m)

      pub has-cites : {c : ℕ} → y ≡ Some c → got (some (references_from n (part_in l a))) a.end ≡ optionally 7 (Parse.references n) l p
      unfolding optionally record_of ◌>>=◌
      has-cites m = rw (← d, eq-eqb k 7 h, ← e, f, ← t, ← g, m)

-- ── records in pairs ─────────────────────────────────────────────────────────────────────────

module _ (l : List ℕ) (p : ℕ) (x : Option Part) (d : body_of l x ≡ body 1 l p) where
  pub no-front1 : x ≡ None → broken ≡ front l p
  unfolding front record_of ◌>>=◌
  no-front1 e = rw (← d, e)

  module _ {a : Part} {b : List ℕ} (y : Option HeadAt) (e : x ≡ Some a) (t : b ≡ part_in l a) (f : head_of b y ≡ whole Parse.head b) where
    pub no-front2 : y ≡ None → broken ≡ front l p
    unfolding front record_of ◌>>=◌
    no-front2 g = rw (← d, e, ← t, ← f, g)

    module _ {h : HeadAt} (z : Option Part) (g : y ≡ Some h) (k : body_of l z ≡ body 2 l a.end) where
      pub no-front3 : z ≡ None → broken ≡ front l p
      unfolding front record_of head_in ◌>>=◌
      no-front3 m = rw (← d, e, ← t, ← f, g, ← k, m)

      module _ {a2 : Part} {b2 : List ℕ} (w : Option EdgesAt) (m : z ≡ Some a2) (u : b2 ≡ part_in l a2) (v : edges_of b2 h.rows w ≡ whole (Parse.sets kinds h.rows) b2) where
        pub no-front4 : w ≡ None → broken ≡ front l p
        unfolding front record_of head_in ◌>>=◌
        no-front4 o = rw (← d, e, ← t, ← f, g, ← k, m, ← u, ← v, o)

        pub is_front : {s : EdgesAt} → w ≡ Some s → got (front_in l (record { head = h; file = a; edges = s; sets = a2 })) a2.end ≡ front l p
        unfolding front front_in record_of head_in ◌>>=◌
        is_front o = rw (← d, e, ← t, ← f, g, ← k, m, ← u, ← v, o)

pub front-after : (l : List ℕ) (p : ℕ) (x : Option Part) {a : Part} {b : List ℕ} → Inside l p x → x ≡ Some a → b ≡ part_in l a → (y : Option HeadAt) {h : HeadAt} → HeadInside b y → y ≡ Some h
    → (z : Option Part) {a2 : Part} {b2 : List ℕ} → Inside l a.end z → z ≡ Some a2 → b2 ≡ part_in l a2 → (w : Option EdgesAt) {s : EdgesAt} → EdgesInside b2 h.rows w → w ≡ Some s
    → AfterFront l p (Some (record { head = h; file = a; edges = s; sets = a2 }))
front-after l p x {a} i d t y {h} j e z k f u w o g =
    let m = ends l p x i d in
    let n = ends l a.end z k f in
    let v = few-deltas l a.end z k f u h.rows w o g in (
      (omega (arith, m.0, n.0), n.1),
      (omega (arith, m.0, v.0), omega (arith, m.0, v.1), omega (arith, m.0, v.2)),
      holds-head l p x i d t y j e,
      holds-sets l a.end z k f u h.rows w o g,
    )

module _ (l : List ℕ) (p n : ℕ) (x : Option Part) (d : body_of l x ≡ body 3 l p) where
  pub no-middle1 : x ≡ None → broken ≡ middle n l p
  unfolding middle record_of ◌>>=◌
  no-middle1 e = rw (← d, e)

  module _ {a : Part} {b : List ℕ} (r : Bool) (e : x ≡ Some a) (t : b ≡ part_in l a) (f : rows_of b n r ≡ whole (Parse.rows n) b) where
    pub no-middle2 : not r ≡ true → broken ≡ middle n l p
    unfolding middle record_of ◌>>=◌
    no-middle2 g = rw (← d, e, ← t, ← f, not-true r g)

    module _ (z : Option Part) (g : not r ≡ false) (k : body_of l z ≡ body 4 l a.end) where
      pub no-middle3 : z ≡ None → broken ≡ middle n l p
      unfolding middle record_of ◌>>=◌
      no-middle3 m = rw (← d, e, ← t, ← f, not-false r g, ← k, m)

      module _ {a2 : Part} {b2 : List ℕ} (w : Option ℕ) (m : z ≡ Some a2) (u : b2 ≡ part_in l a2) (v : unresolved_of b2 w ≡ whole Parse.unresolved b2) where
        pub no-middle4 : w ≡ None → broken ≡ middle n l p
        unfolding middle record_of ◌>>=◌
        no-middle4 o = rw (← d, e, ← t, ← f, not-false r g, ← k, m, ← u, ← v, o)

        pub is-middle : {c : ℕ} → w ≡ Some c → got (middle_in l n (record { rows = a; count = c; unresolved = a2 })) a2.end ≡ middle n l p
        unfolding middle middle_in record_of ◌>>=◌
        is-middle o = rw (← d, e, ← t, ← f, not-false r g, ← k, m, ← u, ← v, o)

pub middle-after : (l : List ℕ) (p n : ℕ) (x : Option Part) {a : Part} {b : List ℕ} → Inside l p x → x ≡ Some a → b ≡ part_in l a → (r : Bool) → RowsInside b n r → not r ≡ false
    → (z : Option Part) {a2 : Part} {b2 : List ℕ} → Inside l a.end z → z ≡ Some a2 → b2 ≡ part_in l a2 → (w : Option ℕ) {c : ℕ} → ListInside 13 b2 w → w ≡ Some c
    → AfterMiddle l p n (Some (record { rows = a; count = c; unresolved = a2 }))
middle-after l p n x {a} i d t r j e z k f u w o g =
    let m = ends l p x i d in
    let q = ends l a.end z k f in
    let v = few_rows l p x i d t n r j e in
    let s = few_listed l a.end z k f u 13 w o g in (
      (omega (arith, m.0, q.0), q.1),
      omega (arith, v, q.0),
      omega (arith, m.0, s),
      record { rows = holds_rows l p x i d t n r j e; unresolved = holds_list l a.end z k f u 13 w o g },
    )

module _ (l : List ℕ) (p n : ℕ) (x : Option Part) (d : body_of l x ≡ body 5 l p) where
  pub no-covered1 : x ≡ None → broken ≡ covered n l p
  unfolding covered record_of ◌>>=◌
  no-covered1 e = rw (← d, e)

  module _ {a : Part} {b : List ℕ} (w : Option ℕ) (e : x ≡ Some a) (t : b ≡ part_in l a) (f : roots_of b w ≡ whole Parse.roots b) where
    pub no-covered2 : w ≡ None → broken ≡ covered n l p
    unfolding covered record_of ◌>>=◌
    no-covered2 g = rw (← d, e, ← t, ← f, g)

    module _ {m : ℕ} (y : Option (Option CoverPart)) (g : w ≡ Some m) (k : optional_of l n a.end y ≡ optionally 6 (Parse.cover n) l a.end) where
      pub no-covered3 : y ≡ None → broken ≡ covered n l p
      unfolding covered record_of ◌>>=◌
      no-covered3 h = rw (← d, e, ← t, ← f, g, ← k, h)

      pub is-covered : {c : Option CoverPart} {r : TailAt} → y ≡ Some c → r ≡ covered_with m a c → tail_of l n (Some r) ≡ covered n l p
      unfolding covered record_of ◌>>=◌ covered_with tail_in
      is-covered {c} h i = rw (← d, e, ← t, ← f, g, ← k, h, i, t) (go c)
        where
          go : (c : Option CoverPart) → tail_of l n (Some (covered_with m a c))
              ≡ and_then (optional_of l n a.end (Some c)) (λ c q. got (record { roots = several 16 root_at m (drop 4 (part_in l a)); cover = c; references = none }) q)
          go None = refl
          go (Some c) = refl

pub covered-after : (l : List ℕ) (p n : ℕ) (x : Option Part) {a : Part} {b : List ℕ} → Inside l p x → x ≡ Some a → b ≡ part_in l a → (w : Option ℕ) {m : ℕ} → ListInside 16 b w → w ≡ Some m
    → (y : Option (Option CoverPart)) {c : Option CoverPart} {r : TailAt} → AfterOptional l a.end n y → y ≡ Some c → r ≡ covered_with m a c → AfterTail l p n (Some r)
unfolding covered_with
covered-after l p n x {a} i d t w {m} j e y {c} k h g = rw g (go c (rw h at k))
  where
    u : Ends l p a × (p + m ≤ a.end) × Holds l a (4 + m * 16)
    u = (ends l p x i d, few_listed l p x i d t 16 w j e, holds_list l p x i d t 16 w j e)

    go : (c : Option CoverPart) → AfterOptional l a.end n (Some c) → AfterTail l p n (Some (covered_with m a c))
    go None j = let w = u in
        (w.0.0, w.0.1, w.1, (omega (arith, w.0.0), omega (arith, w.0.0)), (omega arith, omega arith), record { roots = w.2; cover = tt; references = omega arith }, omega (arith, w.0.0))
    go (Some c) j = let w = u in (
      omega (arith, w.0.0, j.0.0),
      j.0.1,
      omega (arith, w.1, j.0.0),
      (omega (arith, w.0.0, j.1.0), omega (arith, w.0.0, j.1.1)),
      tt,
      record { roots = w.2; cover = j.2; references = omega arith },
      omega (arith, w.0.0, j.0.0),
    )

module _ (l : List ℕ) (p n : ℕ) (x : Option TailAt) (d : tail_of l n x ≡ covered n l p) where
  pub no-tail : x ≡ None → broken ≡ tail n l p
  unfolding tail ◌>>=◌
  no-tail e = rw (← d, e)

  module _ {t : TailAt} (c : Option (Option CitesPart)) (e : x ≡ Some t) (f : cites_of l n t.end c ≡ optionally 7 (Parse.references n) l t.end) where
    pub no-tail2 : c ≡ None → broken ≡ tail n l p
    unfolding tail ◌>>=◌
    no-tail2 g = rw (← d, e, ← f, g)

    pub is-tail : {b : Option CitesPart} {r : TailAt} → Plain x → c ≡ Some b → r ≡ cited_with t b → tail_of l n (Some r) ≡ tail n l p
    unfolding tail ◌>>=◌ cited_tail tail_in
    is-tail {b} h g i = rw (← d, e, ← f, g, i) (go b)
      where
        plain : t.cited ≡ false
        plain = rw e at h

        go : (b : Option CitesPart) → tail_of l n (Some (cited_with t b))
            ≡ and_then (cites_of l n t.end (Some b)) (λ xs q. got (record { roots = (tail_in l n t).roots; cover = (tail_in l n t).cover; references = xs }) q)
        go None = rw plain
        go (Some b) = refl

pub covered-plain : (m : ℕ) (a : Part) {r : TailAt} (c : Option CoverPart) → r ≡ covered_with m a c → Plain (Some r)
unfolding covered_with
covered-plain m a c g = rw g (go c)
  where
    go : (c : Option CoverPart) → Plain (Some (covered_with m a c))
    go None = refl
    go (Some c) = refl

pub tail-after : (l : List ℕ) (p n : ℕ) (x : Option TailAt) {t : TailAt} → AfterTail l p n x → x ≡ Some t
    → (c : Option (Option CitesPart)) {b : Option CitesPart} {r : TailAt} → AfterCites l t.end n c → c ≡ Some b → r ≡ cited_with t b → AfterTail l p n (Some r)
unfolding cited_tail
tail-after l p n x {t} i e c {b} k h g = rw g (go b (rw h at k))
  where
    u : AfterTail l p n (Some t)
    u = rw e at i

    go : (b : Option CitesPart) → AfterCites l t.end n (Some b) → AfterTail l p n (Some (cited_with t b))
    go None j = u
    go (Some b) j = let w = u in (
      omega (arith, w.0, j.0.0),
      j.0.1,
      omega (arith, w.2, j.0.0),
      (omega (arith, w.3.0, j.0.0), omega (arith, w.3.1, j.0.0)),
      w.4,
      record { roots = w.5.roots; cover = w.5.cover; references = j.2 },
      omega (arith, w.0, j.1),
    )

pub tail-end-fits : (l : List ℕ) (p n : ℕ) (x : Option TailAt) {t : TailAt} → AfterTail l p n x → x ≡ Some t → t.end ≤ length l
tail-end-fits l p n x i e = (rw e at i).1

module _ (l : List ℕ) (p n : ℕ) (x : Option MiddleAt) (d : middle_of l n x ≡ middle n l p) where
  pub no-rest1 : x ≡ None → broken ≡ rest n l p
  unfolding rest ◌>>=◌
  no-rest1 e = rw (← d, e)

  module _ {m : MiddleAt} (y : Option TailAt) (e : x ≡ Some m) (f : tail_of l n y ≡ tail n l m.unresolved.end) where
    pub no-rest2 : y ≡ None → broken ≡ rest n l p
    unfolding rest ◌>>=◌
    no-rest2 k = rw (← d, e, ← f, k)

    pub is-rest : {t : TailAt} → y ≡ Some t → got (record { middle = middle_in l n m; tail = tail_in l n t }) t.end ≡ rest n l p
    unfolding rest ◌>>=◌
    is-rest k = rw (← d, e, ← f, k)

pub rest-after : (l : List ℕ) (p n : ℕ) (x : Option MiddleAt) {m : MiddleAt} → AfterMiddle l p n x → x ≡ Some m
    → (y : Option TailAt) {t : TailAt} → AfterTail l m.unresolved.end n y → y ≡ Some t → AfterRest l p n (Some (record { middle = m; tail = t }))
rest-after l p n x i e y j f =
    let u = rw e at i in
    let v = rw f at j in (
      omega (arith, u.0.0, v.0),
      v.1,
      omega (arith, u.1, v.0),
      omega (arith, u.2, v.0),
      omega (arith, u.0.0, v.2),
      (omega (arith, u.0.0, v.3.0), omega (arith, u.0.0, v.3.1)),
      v.4,
      u.3,
      v.5,
      omega (arith, u.0.0, v.6),
    )

-- ── a file ───────────────────────────────────────────────────────────────────────────────────

and_then-assoc : {A B C : Type 0} (o : Parsed A) (f : A → ℕ → Parsed B) (g : B → ℕ → Parsed C) → and_then (and_then o f) g ≡ and_then o (λ x q. and_then (f x q) g)
and_then-assoc broken f g = refl
and_then-assoc (got x q) f g = refl

pub file-parts : (l : List ℕ) (p : ℕ) → and_then (front l p) (λ f q. and_then (rest f.head.rows l q) (λ r q. got (file_from f r) q)) ≡ file kinds l p
unfolding file front rest middle tail covered file_from ◌>>=◌
file-parts l p = simp and_then-assoc

module _ (l : List ℕ) (p : ℕ) (x : Option FrontAt) (d : front_of l x ≡ front l p) where
  pub no-file1 : x ≡ None → broken ≡ file kinds l p
  no-file1 e = rw (← file-parts l p, ← d, e)

  module _ {f : FrontAt} (y : Option RestAt) (e : x ≡ Some f) (g : rest_of l f.head.rows y ≡ rest f.head.rows l f.sets.end) where
    pub no-file2 : y ≡ None → broken ≡ file kinds l p
    unfolding front_in head_in
    no-file2 k = rw (← file-parts l p, ← d, e, ← g, k)

    pub is-file : {r : RestAt} → y ≡ Some r → got (file_in l (record { front = f; middle = r.middle; tail = r.tail })) r.tail.end ≡ file kinds l p
    unfolding front_in head_in file_in
    is-file k = rw (← file-parts l p, ← d, e, ← g, k)

pub file-after : (l : List ℕ) (p : ℕ) (x : Option FrontAt) {f : FrontAt} → AfterFront l p x → x ≡ Some f
    → (y : Option RestAt) {r : RestAt} → AfterRest l f.sets.end f.head.rows y → y ≡ Some r → AfterFile l p (Some (record { front = f; middle = r.middle; tail = r.tail }))
file-after l p x i e y j g =
    let u = rw e at i in
    let v = rw g at j in (
      omega (arith, u.0.0, v.0),
      v.1,
      (
        omega (arith, u.0.0, v.2),
        omega (arith, u.0.0, v.3),
        omega (arith, u.0.0, v.4),
        (omega (arith, u.0.0, v.5.0), omega (arith, u.0.0, v.5.1)),
        (omega (arith, u.1.0, v.0), omega (arith, u.1.1, v.0), omega (arith, u.1.2, v.0)),
        v.6,
        omega (arith, u.0.0, v.9),
      ),
      record { head = u.2; sets = u.3; middle = v.7; tail = v.8 },
    )
