-- What the body of each of a file's records gave has the body's bytes and fits its fields.
use mathlib.Core.Path.{◌≡◌, refl, sym, ◌∙◌}
use mathlib.Core.Bool.{Bool, true, false, ◌&&◌}
use mathlib.Core.List.{List, [], ◌∷◌, ◌++◌, map, append-nil}
use Prim.Native.Nat.{ℕ, zero, suc, ◌≤◌, ◌<◌, ◌+◌, ◌*◌, ◌^◌}
use native.Mathlib.Omega.{arith}
use lib.Dec.{leb, eqb}
use lib.ListN.{length, take, drop, get_or, length-map}
use lib.Seq.{take-add, drop-drop, drop-cons}
use borrow.Author.Tests.{leb-true, eqb-true}
use Rattle.lists.specs.Lists.{Each, flat}
use Rattle.lists.specs.Order.{rising, not_falling}
use Rattle.lists.proofs.Tests.{both}
use Rattle.archive.specs.Bytes.{bytes_of, signed_of}
use Rattle.archive.specs.Reader.{byte, number, bytes, table, numbers, record_of, optionally, counted}
use Rattle.archive.specs.Parse
use Rattle.archive.specs.Parse.{Head, depth_flag_ok, depth_read, head_end, edge_set, Sets, row_at, unresolved_at, root_at, range_at}
use Rattle.archive.specs.Encode.{depth_bytes, set_bytes, flag_of, row_bytes, unresolved_bytes, root_bytes, range_bytes, links_bytes, cover_bytes, counted_bytes, cover_record}
use Rattle.archive.specs.Fits.{DepthFits, SetFits, UnresolvedFits, RootFits, RangeFits, LinksFit, CoverFits, CoverFitsIn, Short, Wide}
use Rattle.archive_bytes.proofs.Numbers.{AllBytes, be-small, bytes_of-be, get_or-small, unsigned-all-back}
use Rattle.archive.proofs.Back.{Back, Said, then-back, end_back, weaker-back, number-back, byte-back, bytes_back, Things, tested_table-back, table-back, numbers-back}
use Rattle.archive.proofs.Framed.{record-back, optionally-back}

-- ── 1 file ───────────────────────────────────────────────────────────────────────────────────

-- the bytes of what record 1 holds
abbrev pub bytes_of_head : Head → List ℕ
bytes_of_head h = bytes_of 8 h.first ++ (bytes_of 4 h.rows ++ ((h.group ∷ []) ++ ((length h.subject ∷ []) ++ (h.subject ++ depth_bytes h.depth))))

pub record HeadFits (h : Head) : Type 0 where
  pub first : h.first < 256 ^ 8
  pub rows : h.rows < 256 ^ 4
  pub group : h.group < 256
  pub subject : length h.subject < 256
  pub subject_bytes : Wide 1 h.subject
  pub depth : DepthFits h.depth

depth-back : (flag least greatest : ℕ) → least < 256 ^ 8 → greatest < 256 ^ 8 → depth_flag_ok flag least greatest ≡ true
    → Said depth_bytes DepthFits (depth_read flag least greatest) ((flag ∷ []) ++ (bytes_of 8 least ++ bytes_of 8 greatest))
unfolding depth_bytes depth_flag_ok
depth-back flag least greatest h k t = go (eqb flag 1) refl
  where
    go : (b : Bool) → eqb flag 1 ≡ b → Said depth_bytes DepthFits (depth_read flag least greatest) ((flag ∷ []) ++ (bytes_of 8 least ++ bytes_of 8 greatest))
    go true e = rw (e, eqb-true flag 1 e) (record { bytes = refl; fits = (h, k) })
    go false e =
        let u = both (eqb flag 0) (eqb least 0 && eqb greatest 0) (rw e at t) in
        let v = both (eqb least 0) (eqb greatest 0) u.1 in
        rw (e, eqb-true flag 0 u.0, eqb-true least 0 v.0, eqb-true greatest 0 v.1) (record { bytes = refl; fits = tt })

pub head-back : Back Parse.head (Said bytes_of_head HeadFits)
unfolding Parse.head head_end
head-back =
    then-back (number 8) _ (number-back 8) (λ first. then-back (number 4) _ (number-back 4) (λ rows. then-back byte _ byte-back (λ group.
    then-back byte _ byte-back (λ n. then-back (bytes n) _ (bytes_back n) (λ subject. then-back byte _ byte-back (λ flag.
    then-back (number 8) _ (number-back 8) (λ least. then-back (number 8) _ (number-back 8) (λ greatest.
    end_back (λ l p. depth_flag_ok flag least greatest) _ (λ l p t kg kl kf ks kn k2 k1 k0.
    let d = depth-back flag least greatest kl kg t in
    record {
      bytes = rw (d.bytes, ks.0, append-nil);
      fits = record { first = k0; rows = k1; group = k2; subject = rw ks.0 kn; subject_bytes = ks.1; depth = d.fits };
    })))))))))

-- ── 2 edges ──────────────────────────────────────────────────────────────────────────────────

set_back : (K rows : ℕ) → Back (edge_set K rows) (Said set_bytes (SetFits K rows))
unfolding edge_set set_bytes
set_back K rows =
    then-back (number 4) _ (number-back 4) (λ n. then-back (numbers 8 (K * rows + 1)) _ (numbers-back 8 (K * rows + 1)) (λ offsets.
    then-back (numbers 8 n) _ (numbers-back 8 n) (λ ds. end_back (λ l p. true) _ (λ l p t kd ko kn.
    let u = unsigned-all-back ds kd.1 in
    record {
      bytes = rw (u.0, append-nil);
      fits = record { slots = ko.0; counted = sym (length-map ds signed_of ∙ kd.0); count = kn; offsets = ko.1; deltas = u.1 };
    }))))

-- the bytes of the three sets
abbrev pub bytes_of_sets : Sets → List ℕ
bytes_of_sets s = set_bytes s.forward ++ (set_bytes s.reverse ++ set_bytes s.inbound)

pub record SetsFit (K : ℕ) (rows : ℕ) (s : Sets) : Type 0 where
  pub forward : SetFits K rows s.forward
  pub reverse : SetFits K rows s.reverse
  pub inbound : SetFits K rows s.inbound

pub sets-back : (K rows : ℕ) → Back (Parse.sets K rows) (Said bytes_of_sets (SetsFit K rows))
unfolding Parse.sets
sets-back K rows =
    then-back (edge_set K rows) _ (set_back K rows) (λ f. then-back (edge_set K rows) _ (set_back K rows) (λ r. then-back (edge_set K rows) _ (set_back K rows) (λ i.
    end_back (λ l p. true) _ (λ l p t ki kr kf. record { bytes = rw append-nil; fits = record { forward = kf; reverse = kr; inbound = ki } }))))

-- ── 3 rows ───────────────────────────────────────────────────────────────────────────────────

-- a flag that was read is written back
flag_of-eqb : (b : ℕ) → leb b 1 ≡ true → flag_of (eqb b 1) ≡ b
flag_of-eqb zero t = refl
flag_of-eqb (suc zero) t = refl
flag_of-eqb (suc (suc b)) t = let h = leb-true (suc (suc b)) 1 t in absurd (omega arith)

row-said : (l : List ℕ) → AllBytes l → 9 ≤ length l → leb (get_or l 0 0) 1 ≡ true → Said row_bytes (λ r. r.tag < 256 ^ 8) (row_at l) (take 9 l)
unfolding row_bytes row_at
row-said [] h k t = absurd (omega arith)
row-said (b ∷ l) h k t = record { bytes = rw (flag_of-eqb b t, bytes_of-be (b ∷ l) h 1 8 k); fits = be-small (b ∷ l) h 1 8 }

pub rows_back : (n : ℕ) → Back (Parse.rows n) (Said (flat row_bytes) (Things (λ r. r.tag < 256 ^ 8) n))
unfolding Parse.rows
rows_back n = tested_table-back 9 row_at (λ l. get_or l 0 0) (λ flag. leb flag 1) row_bytes (λ r. r.tag < 256 ^ 8) row-said n

-- ── 4 unresolved, 5 roots ────────────────────────────────────────────────────────────────────

-- what a count, its things and a test say
pub record Counted {A : Type 0} (F : A → Type 0) (t : List A → Bool) (xs : List A) : Type 0 where
  pub count : length xs < 256 ^ 4
  pub each : Each F xs
  pub test : t xs ≡ true

pub counted_back : {A : Type 0} (w : ℕ) (f : List ℕ → A) (t : List A → Bool) {enc : A → List ℕ} {F : A → Type 0}
    → ((l : List ℕ) → AllBytes l → w ≤ length l → Said enc F (f l) (take w l)) → Back (counted w f t) (Said (counted_bytes enc) (Counted F t))
unfolding counted_bytes
counted_back w f t one =
    then-back (number 4) _ (number-back 4) (λ n. then-back (table w f n) _ (table-back w f one n) (λ xs. end_back (λ l p. t xs) _ (λ l p e kx kn.
    record { bytes = rw (kx.0, append-nil); fits = record { count = rw kx.0 kn; each = kx.1; test = e } })))

unresolved-said : (l : List ℕ) → AllBytes l → 13 ≤ length l → Said unresolved_bytes UnresolvedFits (unresolved_at l) (take 13 l)
unfolding unresolved_bytes unresolved_at
unresolved-said l h k = record {
  bytes = rw (take-add 8 5 l, drop-cons l 8 0 (omega arith), bytes_of-be l h 0 8 (omega arith), bytes_of-be l h 9 4 (omega arith));
  fits = (be-small l h 0 8, get_or-small l 8 h, be-small l h 9 4);
}

root_said : (l : List ℕ) → AllBytes l → 16 ≤ length l → Said root_bytes RootFits (root_at l) (take 16 l)
unfolding root_bytes root_at
root_said l h k = record { bytes = rw (take-add 8 8 l, bytes_of-be l h 0 8 (omega arith), bytes_of-be l h 8 8 (omega arith)); fits = (be-small l h 0 8, be-small l h 8 8) }

pub unresolved-back : Back Parse.unresolved (Said (counted_bytes unresolved_bytes) (Counted UnresolvedFits (λ us. not_falling (map (λ u. u.child) us))))
unfolding Parse.unresolved
unresolved-back = counted_back 13 unresolved_at (λ us. not_falling (map (λ u. u.child) us)) unresolved-said

pub roots-back : Back Parse.roots (Said (counted_bytes root_bytes) (Counted RootFits (λ rs. rising (map (λ r. r.row) rs))))
unfolding Parse.roots
roots-back = counted_back 16 root_at (λ rs. rising (map (λ r. r.row) rs)) root_said

-- ── 6 cover ──────────────────────────────────────────────────────────────────────────────────

range-said : (l : List ℕ) → AllBytes l → 12 ≤ length l → Said range_bytes RangeFits (range_at l) (take 12 l)
unfolding range_bytes range_at
range-said l h k = record {
  bytes = rw (take-add 4 8 l, take-add 4 4 (drop 4 l), drop-drop 4 4 l, bytes_of-be l h 0 4 (omega arith), bytes_of-be l h 4 4 (omega arith), bytes_of-be l h 8 4 (omega arith));
  fits = (be-small l h 0 4, be-small l h 4 4, be-small l h 8 4);
}

links-back : Back Parse.links (Said links_bytes LinksFit)
unfolding Parse.links links_bytes
links-back =
    then-back (number 4) _ (number-back 4) (λ n. then-back (numbers 4 n) _ (numbers-back 4 n) (λ a. then-back (numbers 4 n) _ (numbers-back 4 n) (λ b.
    then-back (numbers 4 n) _ (numbers-back 4 n) (λ c. then-back (numbers 4 n) _ (numbers-back 4 n) (λ d. end_back (λ l p. true) _ (λ l p t kd kc kb ka kn.
    record {
      bytes = rw (ka.0, append-nil);
      fits = record {
        count = rw ka.0 kn;
        second = kb.0 ∙ sym ka.0;
        third = kc.0 ∙ sym ka.0;
        fourth = kd.0 ∙ sym ka.0;
        from_chains = ka.1;
        from_seqs = kb.1;
        to_chains = kc.1;
        to_seqs = kd.1;
      };
    }))))))

-- that the record is not too long, the record says
cover-back : (rows : ℕ) → Back (Parse.cover rows) (Said cover_bytes (λ c. Short (cover_bytes c) → CoverFits rows c))
unfolding Parse.cover cover_bytes
cover-back rows =
    then-back (numbers 4 rows) _ (numbers-back 4 rows) (λ chains. then-back (numbers 4 rows) _ (numbers-back 4 rows) (λ seqs. then-back (number 4) _ (number-back 4) (λ m.
    then-back (table 12 range_at m) _ (table-back 12 range_at range-said m) (λ ranges. then-back Parse.links _ links-back (λ ls. end_back (λ l p. true) _ (λ l p t kl kr km ks kc.
    record {
      bytes = rw (kr.0, append-nil);
      fits = λ short. record {
        chain_count = kc.0;
        seq_count = ks.0;
        chains = kc.1;
        seqs = ks.1;
        range_count = rw kr.0 km;
        ranges = kr.1;
        links = kl;
        short = short;
      };
    }))))))

pub cover-found-back : (rows : ℕ) → Back (optionally 6 (Parse.cover rows)) (Said cover_record (CoverFitsIn rows))
cover-found-back rows =
    optionally-back 6 (Parse.cover rows)
    (weaker-back (record_of 6 (Parse.cover rows)) (record-back 6 (Parse.cover rows) (cover-back rows)) (λ c e s. record { bytes = s.bytes; fits = s.fits.0 s.fits.1 }))
    (record { bytes = refl; fits = tt })
