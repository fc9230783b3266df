-- Group numbers met so far: one file more, and each answer.
use Rattle.std.specs.Prelude.{None, Some, Option}
use mathlib.Core.Path.{◌≡◌, refl, sym, ◌∙◌, ap}
use mathlib.Core.Bool.{Bool, true, false, ◌||◌, false≢true}
use mathlib.Core.List.{List, [], ◌∷◌, ◌++◌, foldl, foldl-append, append_assoc, append-nil}
use Prim.Native.Nat.{ℕ, zero, suc, ◌≤◌, ◌<◌, ◌+◌, ◌-◌}
use native.Mathlib.Nat.{add-zero, zero-add}
use native.Mathlib.Numerals.{add-one}
use native.Mathlib.Omega.{arith}
use lib.Dec.{eqb}
use lib.ListN.{length, get_or, take, set, length-append}
use lib.Seq.{take-suc-set, slice, slice-cons, length-take-le}
use borrow.Author.Tests.{lt-leb, lt-ltb, le-ltb, eq-eqb, ne_eqb, eqb-false}
use Rattle.lists.specs.Lists.{mem, add, once, up_from}
use Rattle.lists.proofs.Flat.{length-up_from, up_from-snoc}
use Rattle.lists.proofs.Once.{mem-append, add-there, add-new, fold-grows}
use Rattle.lists.proofs.Slices.{slice-none}
use Rattle.columns.specs.Limits.{kinds, max_groups}
use Rattle.archive.specs.File.{File}
use Rattle.archive.specs.Reader.{Parsed, broken, got, and_then, ◌>>=◌}
use Rattle.archive.specs.Parse.{file, files, parse}
use Rattle.archive_read.specs.bodies.View.{head_in}
use Rattle.archive_read.specs.Layout.{front_in, file_from, file_in, file_of, AfterFile}
use Rattle.archive_read.specs.declared.records.FileAt.{FileAt}
use Rattle.archive_read.proofs.AtFiles.{files-end, file-past}
use Rattle.archive_groups.specs.Groups.{files_of, is_read, groups_of, groups_over}

-- ── among ────────────────────────────────────────────────────────────────────────────────────

module _ {t : Bool} (l : List ℕ) (i n g : ℕ) (e : t ≡ mem g (slice i n l)) where
  pub none_left : n ≤ i → false ≡ t
  unfolding mem
  none_left h = rw (e, slice-none i n l h)

  pub is-here : i < n → n ≤ length l → get_or l i 0 ≡ g → true ≡ t
  unfolding mem
  is-here h k d = rw (e, slice-cons i n l 0, d, eq-eqb g g refl)

  pub not-here : i < n → n ≤ length l → (get_or l i 0 ≡ g → ⊥) → t ≡ mem g (slice (i + 1) n l)
  unfolding mem
  not-here h k d = rw (e, slice-cons i n l 0, ne_eqb g (get_or l i 0) (λ q. d (sym q)), add-one)

-- ── one number more ──────────────────────────────────────────────────────────────────────────

mem-up_from : (g i k : ℕ) → i ≤ g → g < i + k → mem g (up_from i k) ≡ true
unfolding mem up_from
mem-up_from g i zero h l = absurd (omega arith)
mem-up_from g i (suc k) h l = go (eqb g i) refl (λ d. mem-up_from g (suc i) k (omega arith) (omega arith))
  where
    go : (b : Bool) → eqb g i ≡ b → ((g ≡ i → ⊥) → mem g (up_from (suc i) k) ≡ true) → (eqb g i || mem g (up_from (suc i) k)) ≡ true
    go true e more = rw e
    go false e more = rw e (more (eqb-false g i e))

not-below : (g i k : ℕ) → i + k ≤ g → mem g (up_from i k) ≡ false
unfolding mem up_from
not-below g i zero h = refl
not-below g i (suc k) h = rw (ne_eqb g i (λ q. omega arith)) (not-below g (suc i) k (omega arith))

module _ (l : List ℕ) (n k g : ℕ) where
  pub below-k : {w : ℕ} → w ≡ g → w < k → up_from 0 k ++ take n l ≡ add (up_from 0 k ++ take n l) g
  below-k d h = sym (add-there (up_from 0 k ++ take n l) g (rw (mem-append g (up_from 0 k) (take n l), mem-up_from g 0 k (omega arith) (omega arith))))

  module _ {w : ℕ} {b : Bool} (d : w ≡ g) (h : k ≤ w) (e : b ≡ mem g (take n l)) where
    is_mem : mem g (up_from 0 k ++ take n l) ≡ b
    is_mem = rw (mem-append g (up_from 0 k) (take n l), not-below g 0 k (omega arith)) (sym e)

    pub met : b ≡ true → up_from 0 k ++ take n l ≡ add (up_from 0 k ++ take n l) g
    met f = sym (add-there (up_from 0 k ++ take n l) g (is_mem ∙ f))

    pub unmet : b ≡ false → k + n ≤ 16 → length l ≡ 17 → up_from 0 k ++ take (n + 1) (set l n g) ≡ add (up_from 0 k ++ take n l) g
    unmet f j m = rw (add-one n, take-suc-set l n g (omega arith)) (sym (append_assoc (up_from 0 k) (take n l) (g ∷ [])) ∙ sym (add-new (up_from 0 k ++ take n l) g (is_mem ∙ f)))

-- ── how many ─────────────────────────────────────────────────────────────────────────────────

-- numbers that are not there yet are added at the end
fold_up : (i k : ℕ) → foldl add (up_from 0 i) (up_from i k) ≡ up_from 0 (i + k)
unfolding up_from
fold_up i zero = ap (up_from 0) (sym (add-zero i))
fold_up i (suc k) =
    let a : add (up_from 0 i) i ≡ up_from 0 (suc i) = add-new (up_from 0 i) i (not-below i 0 i (omega arith)) ∙ ap (λ j. up_from 0 i ++ (j ∷ [])) (sym (zero-add i)) ∙ sym (up_from-snoc 0 i) in
    let z : suc i + k ≡ i + suc k = omega arith in
    ap (λ s. foldl add s (up_from (suc i) k)) a ∙ fold_up (suc i) k ∙ ap (up_from 0) z

-- those of a run, then those of the files
pub from-run : (k : ℕ) (gs : List ℕ) → once (up_from 0 k ++ gs) ≡ foldl add (up_from 0 k) gs
unfolding once up_from
from-run k gs = foldl-append add [] (up_from 0 k) gs ∙ ap (λ s. foldl add s gs) (fold-none k)
  where
    fold-none : (k : ℕ) → foldl add [] (up_from 0 k) ≡ up_from 0 k
    fold-none k = fold_up 0 k ∙ ap (up_from 0) (zero-add k)

pub run-over : (k : ℕ) (x : Parsed (List File)) → 16 < k → true ≡ groups_over k (files_of x)
unfolding groups_over
run-over k x h =
    sym (lt-ltb max_groups (length (once (up_from 0 k ++ groups_of x)))
    (omega (arith, fold-grows (up_from 0 k) (groups_of x), length-up_from 0 k, ap length (from-run k (groups_of x)))))

-- ── one file more ────────────────────────────────────────────────────────────────────────────

-- the files that are left are read, and the numbers met with theirs are those of the whole
pub record Still (l : List ℕ) (k : ℕ) (s : List ℕ) (rest : Parsed (List File)) : Type 0 where
  pub read : is_read rest ≡ true
  pub same : once (up_from 0 k ++ groups_of (parse kinds l)) ≡ foldl add s (groups_of rest)

pub starts : (l : List ℕ) (k : ℕ) (z : List ℕ) → is_read (parse kinds l) ≡ true → Still l k (up_from 0 k ++ take 0 z) (files kinds (length l - 0) l 0)
unfolding parse
starts l k z h =
    let e : length l - 0 ≡ length l = omega arith in
    let a : up_from 0 k ++ [] ≡ up_from 0 k = append-nil (up_from 0 k) in
    record { read = rw e h; same = rw (e, a) (from-run k (groups_of (files kinds (length l) l 0))) }

rest_read : (f : File) (r : Parsed (List File)) → is_read (and_then r (λ fs q. got (f ∷ fs) q)) ≡ true → is_read r ≡ true
unfolding is_read
rest_read f broken e = e
rest_read f (got fs q) e = refl

rest-groups : (f : File) (r : Parsed (List File)) (s : List ℕ) → is_read r ≡ true
    → foldl add s (groups_of (and_then r (λ fs q. got (f ∷ fs) q))) ≡ foldl add (add s f.group) (groups_of r)
unfolding is_read files_of
rest-groups f broken s e = absurd (false≢true e)
rest-groups f (got fs q) s e = refl

module _ (l : List ℕ) (k m p : ℕ) (s : List ℕ) (st : Still l k s (files kinds (length l - m) l p)) where
  few-left : length l ≤ p → length s ≤ 16 → false ≡ groups_over k (files_of (parse kinds l))
  unfolding groups_over files_of
  few-left h j =
      let e = st.same ∙ ap (λ x. foldl add s (groups_of x)) (files-end (length l - m) l p h) in
      sym (le-ltb max_groups (length (once (up_from 0 k ++ groups_of (parse kinds l)))) (omega (arith, ap length e)))

  module _ (h : p < length l) (g : m ≤ p) (x : Option FileAt) (d : file_of l x ≡ file kinds l p) where
    z : length l - m ≡ suc (length l - (m + 1))
    z = omega arith

    never : x ≡ None → false ≡ true
    unfolding files ◌>>=◌ is_read
    never f = rw (z, lt-leb (length l) p h, ← d, f) at st.read

    pub no-file : x ≡ None → false ≡ groups_over k (files_of (parse kinds l))
    no-file f = absurd (false≢true (never f))

    module _ {f : FileAt} (y : x ≡ Some f) where
      opened : files kinds (length l - m) l p ≡ and_then (files kinds (length l - (m + 1)) l f.tail.end) (λ fs q. got (file_in l f ∷ fs) q)
      unfolding files ◌>>=◌
      opened = rw (z, lt-leb (length l) p h, ← d, y)

      pub next : {t : List ℕ} {n : ℕ} → t ≡ add s n → n ≡ f.front.head.group → Still l k t (files kinds (length l - (m + 1)) l f.tail.end)
      unfolding file_in file_from front_in head_in
      next {t} {n} a b =
          let rest = files kinds (length l - (m + 1)) l f.tail.end in
          let r : is_read rest ≡ true = rest_read (file_in l f) rest (ap is_read (sym opened) ∙ st.read) in
          record {
            read = r;
            same = st.same ∙ ap (λ x. foldl add s (groups_of x)) opened ∙ rest-groups (file_in l f) rest s r ∙ ap (λ u. foldl add u (groups_of rest)) (ap (add s) (sym b) ∙ sym a);
          }

too_many : (l : List ℕ) (k n : ℕ) (list : List ℕ) (rest : Parsed (List File)) → Still l k (up_from 0 k ++ take n list) rest → n ≤ length list → 16 < k + n
    → true ≡ groups_over k (files_of (parse kinds l))
unfolding groups_over
too_many l k n list rest st j h =
    sym (lt-ltb max_groups (length (once (up_from 0 k ++ groups_of (parse kinds l))))
    (omega (
      arith,
      ap length st.same,
      fold-grows (up_from 0 k ++ take n list) (groups_of rest),
      length-append (up_from 0 k) (take n list),
      length-up_from 0 k,
      length-take-le n list j,
    )))

module _ (l : List ℕ) (k n m p : ℕ) (list : List ℕ) (few : k + n ≤ 16) (len : length list ≡ 17) (st : Still l k (up_from 0 k ++ take n list) (files kinds (length l - m) l p)) where
  pub none_over : length l ≤ p → false ≡ groups_over k (files_of (parse kinds l))
  none_over h = few-left l k m p (up_from 0 k ++ take n list) st h (omega (arith, length-append (up_from 0 k) (take n list), length-up_from 0 k, length-take-le n list (omega arith)))

  pub over-now : {r g : ℕ} (list' : List ℕ) (x : Option FileAt) {f : FileAt} → p < length l → m ≤ p → file_of l x ≡ file kinds l p → x ≡ Some f
      → up_from 0 k ++ take r list' ≡ add (up_from 0 k ++ take n list) g → g ≡ f.front.head.group → r ≤ n + 1 → length list' ≡ 17 → 16 < k + r → true ≡ groups_over k (files_of (parse kinds l))
  over-now {r} list' x {f} h j d y a b c e o =
      too_many l k r list' (files kinds (length l - (m + 1)) l f.tail.end) (next l k m p (up_from 0 k ++ take n list) st h j x d y a b) (omega arith) o

-- ── the loop moves on ────────────────────────────────────────────────────────────────────────

module _ (l : List ℕ) (p : ℕ) (x : Option FileAt) {f : FileAt} (a : AfterFile l p x) (e : x ≡ Some f) where
  pub one-file-more : (m : ℕ) → m ≤ p → m + 1 ≤ f.tail.end
  one-file-more m h = omega (arith, file-past l p x a e)

  pub less-left : p < length l → length l - f.tail.end < length l - p
  less-left h = omega (arith, file-past l p x a e)
