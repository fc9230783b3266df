-- The bytes of the files of the groups from one on. All are those from group 0 on; one turn of a loop goes from g to g + 1.
use mathlib.Core.Path.{◌≡◌, refl, sym, ap, ◌∙◌}
use mathlib.Core.List.{List, [], ◌++◌, map}
use Prim.Native.Nat.{ℕ, suc, ◌+◌, ◌-◌, ◌≤◌, ◌<◌}
use native.Mathlib.Nat.{sub-zero}
use native.Mathlib.Numerals.{add-one}
use native.Mathlib.Omega.{arith}
use lib.ListN.{length, length-append}
use lib.Seq.{sets}
use Rattle.columns.specs.Limits.{kinds}
use Rattle.lists.specs.Lists.{up_from}
use Rattle.lists.proofs.Slices.{sets-append}
use Rattle.archive.specs.Encode.{file_bytes, encode}
use Rattle.cleaning.specs.Sheet.{Sheet}
use Rattle.cleaning.specs.Sections.{section_file, section_bytes}
use Rattle.run_records.specs.Files.{Wrote}
use Rattle.run_records.proofs.Halves.{wrote-long}

-- of the groups from g up to n
unfoldable pub bytes_from : Sheet → ℕ → ℕ → List ℕ
bytes_from s g n = encode (map (section_file kinds s) (up_from g (n - g)))

module _ (s : Sheet) (g n : ℕ) where
  pub bytes-end : n ≤ g → bytes_from s g n ≡ []
  unfolding bytes_from encode up_from
  bytes-end h = let e : n - g ≡ 0 = omega arith in rw e

  pub bytes_next : g < n → bytes_from s g n ≡ file_bytes (section_file kinds s g) ++ bytes_from s (g + 1) n
  unfolding bytes_from encode up_from
  bytes_next h = let e : n - g ≡ suc (n - suc g) = omega arith in rw (e, add-one)

all-bytes : (s : Sheet) → section_bytes kinds s ≡ bytes_from s 0 (length s.groups)
unfolding section_bytes bytes_from
all-bytes s = rw (sub-zero (length s.groups))

-- what is left of a sheet's files at group g of n: they go from a place on
pub record Left (s : Sheet) (n : ℕ) (out₀ out : List ℕ) (at g : ℕ) : Type 0 where
  pub within : g ≤ n
  pub as_long : length out ≡ length out₀
  pub whole : sets out₀ 0 (section_bytes kinds s) ≡ sets out at (bytes_from s g n)
  pub room : at + length (bytes_from s g n) ≤ length out₀

module _ (s : Sheet) {n : ℕ} {out₀ : List ℕ} where
  pub left-all : length s.groups ≡ n → length (section_bytes kinds s) ≤ length out₀ → Left s n out₀ out₀ 0 0
  left-all e room =
      let all : section_bytes kinds s ≡ bytes_from s 0 n = all-bytes s ∙ ap (bytes_from s 0) e in
      record { within = omega arith; as_long = refl; whole = ap (sets out₀ 0) all; room = omega (arith, ap length all) }

  module _ {out : List ℕ} {at g : ℕ} (l : Left s n out₀ out at g) where
    pub left_none : n ≤ g → out ≡ sets out₀ 0 (section_bytes kinds s)
    left_none h = sym (l.whole ∙ rw (bytes-end s g n h))

    module _ (h : g < n) where
      pub file_room : at + length (file_bytes (section_file kinds s g)) ≤ length out
      file_room =
          omega (arith, l.room, l.as_long, ap length (bytes_next s g n h), length-append (file_bytes (section_file kinds s g)) (bytes_from s (g + 1) n))

      pub left_next : {is : List ℕ} {end : ℕ} → Wrote (file_bytes (section_file kinds s g)) out is at end → Left s n out₀ is end (g + 1)
      left_next {is} {end} w =
          let f = file_bytes (section_file kinds s g) in
          let rest = bytes_from s (g + 1) n in
          let e = bytes_next s g n h in
          record {
            within = omega arith;
            as_long = wrote-long w ∙ l.as_long;
            whole = l.whole ∙ ap (sets out at) e ∙ sets-append out at f rest ∙ rw (w.stored, w.ends);
            room = omega (arith, l.room, ap length e, length-append f rest, w.ends);
          }
