-- What a reader reads from bytes that stand somewhere in a list: the law of each reader of bytes, and of readers one after the other.
use mathlib.Core.Path.{◌∙◌, ◌≡◌, refl}
use mathlib.Core.Bool.{cond, Bool, true, false}
use mathlib.Core.List.{List, [], ◌∷◌, ◌++◌, map, map-id, append_assoc, append-nil}
use mathlib.Core.Option.{none, some}
use Prim.Native.Nat.{ℕ, ◌≤◌, ◌<◌, ◌+◌, ◌-◌, ◌*◌, ◌^◌}
use native.Mathlib.Nat.{add-zero, zero-add, add_assoc, mul_comm}
use native.Mathlib.Omega.{arith}
use lib.Dec.{leb, eqb}
use lib.ListN.{length, get_or, length-append}
use lib.Seq.{take-append_seam, drop-append_seam, drop_at, get_or-append_seam, get_or-append-add}
use borrow.Author.Tests.{le-leb, eq-eqb}
use Rattle.lists.specs.Lists.{Each, flat}
use Rattle.lists.proofs.Each.{each-imp}
use Rattle.lists.proofs.Cut.{length-blocks}
use Rattle.archive.specs.Bytes.{be, bytes_of, several}
use Rattle.archive.specs.Reader.{Parsed, got, Reader, ◌>>=◌, byte, number, bytes, table, numbers, checked, ahead, whole, body, record_of, optionally, counted}
use Rattle.archive.specs.Encode.{record_bytes, column_bytes, counted_bytes}
use Rattle.archive.specs.Fits.{Wide, Short}
use Rattle.archive_bytes.proofs.Numbers.{length-bytes_of, be-at}

-- the bytes e, with `post` behind them, give x, and the reader stops where they end
pub record Reads {A : Type 0} (post : List ℕ) (r : Reader A) (e : List ℕ) (x : A) : Type 0 where
  pub read : (pre : List ℕ) → r (pre ++ (e ++ post)) (length pre) ≡ got x (length pre + length e)

-- ── one after the other ──────────────────────────────────────────────────────────────────────

module _ {A B : Type 0} {post : List ℕ} (r : Reader A) (f : A → Reader B) {x : A} {y : B} where
  pub then-reads : {e g : List ℕ} → Reads (g ++ post) r e x → Reads post (f x) g y → Reads post (◌>>=◌ r f) (e ++ g) y
  unfolding ◌>>=◌
  then-reads {e} {g} d k = record {
    read = λ pre.
        rw (append_assoc e g post, d.read pre, length-append e g, ← add_assoc (length pre) (length e) (length g))
        (rw (append_assoc pre e (g ++ post), length-append pre e) at (k.read (pre ++ e)));
  }

  -- where what follows reads no more
  pub end_reads : {e : List ℕ} → Reads post r e x → ((l : List ℕ) (p : ℕ) → p ≤ length l → f x l p ≡ got y p) → Reads post (◌>>=◌ r f) e y
  unfolding ◌>>=◌
  end_reads {e} d k = record { read = λ pre. rw (d.read pre) (k (pre ++ (e ++ post)) (length pre + length e) (simp length-append (omega arith))) }

  -- where the same bytes are read again
  pub again-reads : {e : List ℕ} → Reads post r e x → Reads post (f x) e y → Reads post (◌>>=◌ (ahead r) f) e y
  unfolding ◌>>=◌
  again-reads {e} d k = record { read = λ pre. rw (d.read pre) (k.read pre) }

-- ── numbers and bytes ────────────────────────────────────────────────────────────────────────

module _ {post : List ℕ} where
  pub number-reads : (w n : ℕ) → n < 256 ^ w → Reads post (number w) (bytes_of w n) n
  number-reads w n h = record { read = λ pre. rw (be-at w n pre post h, length-bytes_of w n) }

  pub byte_reads : (b : ℕ) → Reads post byte (b ∷ []) b
  byte_reads b = record { read = λ pre. rw (get_or-append_seam pre b post 0) }

  pub bytes-reads : (s : List ℕ) → Reads post (bytes (length s)) s s
  bytes-reads s = record { read = λ pre. rw (drop-append_seam pre (s ++ post), take-append_seam s post) }

-- ── tables ───────────────────────────────────────────────────────────────────────────────────

-- from a thing's bytes, whatever is behind them, g gives what h says of the thing
abbrev pub Item : {A B : Type 0} → (A → List ℕ) → (List ℕ → B) → (A → B) → A → Type 0
Item enc g h x = (post : List ℕ) → g (enc x ++ post) ≡ h x

module _ {A : Type 0} (w : ℕ) (enc : A → List ℕ) (wide : (x : A) → length (enc x) ≡ w) where
  several-flat : {B : Type 0} (g : List ℕ → B) (h : A → B) (xs : List A) (post : List ℕ) → Each (Item enc g h) xs → several w g (length xs) (flat enc xs ++ post) ≡ map h xs
  unfolding several
  several-flat g h [] post k = refl
  several-flat g h (x ∷ xs) post k =
      rw (append_assoc (enc x) (flat enc xs) post, k.0 (flat enc xs ++ post), drop_at (enc x) (flat enc xs ++ post) w (wide x), several-flat g h xs post k.1)

  pub table-reads : {B : Type 0} {post : List ℕ} (g : List ℕ → B) (h : A → B) (xs : List A) → Each (Item enc g h) xs → Reads post (table w g (length xs)) (flat enc xs) (map h xs)
  unfolding table
  table-reads {post = post} g h xs k = record {
    read = λ pre.
        let i : length (flat enc xs) ≡ length xs * w = length-blocks enc w wide xs ∙ mul_comm w (length xs) in
        let room : length pre + length xs * w ≤ length (pre ++ (flat enc xs ++ post)) = simp length-append (omega arith) in
        rw (le-leb (length pre + length xs * w) (length (pre ++ (flat enc xs ++ post))) room, drop-append_seam pre (flat enc xs ++ post), several-flat g h xs post k, i);
  }

  -- things as they are
  module _ {post : List ℕ} (g : List ℕ → A) (xs : List A) (k : Each (Item enc g (λ x. x)) xs) where
    pub things-read : (n : ℕ) → length xs ≡ n → Reads post (table w g n) (flat enc xs) xs
    things-read n e = rw (e, map-id xs) at (table-reads {post = post} g (λ x. x) xs k)

    pub counted-read : (t : List A → Bool) → length xs < 256 ^ 4 → t xs ≡ true → Reads post (counted w g t) (counted_bytes enc xs) xs
    unfolding counted_bytes
    counted-read t n e = then-reads (number 4) _ (number-reads 4 (length xs) n) (end_reads (table w g (length xs)) _ (things-read (length xs) refl) (λ l p h. rw e))

pub numbers-read : {post : List ℕ} (w n : ℕ) (xs : List ℕ) → length xs ≡ n → Wide w xs → Reads post (numbers w n) (column_bytes w xs) xs
numbers-read w n xs e k = things-read w (bytes_of w) (length-bytes_of w) (λ l. be w l 0) xs (each-imp _ _ xs (λ x h post. be-at w x [] post h) k) n e

-- ── records ──────────────────────────────────────────────────────────────────────────────────

whole-reads : {A : Type 0} (r : Reader A) {x : A} (e : List ℕ) → Reads [] r e x → whole r e ≡ got x (length e)
unfolding whole
whole-reads r {x} e d =
    let k : r e 0 ≡ got x (length e) = rw (append-nil e, zero-add (length e)) at (d.read []) in
    rw (k, eq-eqb (length e) (length e) refl)

body_reads : {post : List ℕ} (k : ℕ) (b : List ℕ) → Short b → Reads post (body k) (record_bytes k b) b
unfolding body record_bytes
body_reads {post} k b g =
    let z : 2 + length b - 2 ≡ length b = omega arith in
    let s : Reads post (bytes (2 + length b - 2)) b b = rw z (bytes-reads b) in
    then-reads (number 4) _ (number-reads 4 (2 + length b) g) (then-reads byte _ (byte_reads 1) (then-reads byte _ (byte_reads k)
    (end_reads (bytes (2 + length b - 2)) _ s (λ l p h. rw (le-leb 2 (2 + length b) (omega arith), eq-eqb k k refl, le-leb p (length l) h)))))

-- the kind is the sixth byte
pub record-kind : (k : ℕ) (b post : List ℕ) → get_or (record_bytes k b ++ post) 5 0 ≡ k
unfolding record_bytes bytes_of
record-kind k b post = refl

module _ {A : Type 0} {post : List ℕ} (k : ℕ) (r : Reader A) where
  pub record-reads : {b : List ℕ} {x : A} → Short b → Reads [] r b x → Reads post (record_of k r) (record_bytes k b) x
  unfolding record_of
  record-reads {b} g d = end_reads (body k) _ (body_reads k b g) (λ l p h. rw (whole-reads r b d))

  pub found-reads : {b : List ℕ} {x : A} → Short b → Reads [] r b x → Reads post (optionally k r) (record_bytes k b) (some x)
  unfolding optionally
  found-reads {b} {x} g d = record {
    read = λ pre.
        rw (get_or-append-add pre (record_bytes k b ++ post) 5 0, record-kind k b post, eq-eqb k k refl, (record-reads g d).read pre);
  }

  pub none_reads : (eqb (get_or post 5 0) k ≡ false) → Reads post (optionally k r) [] none
  unfolding optionally
  none_reads g = record { read = λ pre. rw (get_or-append-add pre post 5 0, g, add-zero (length pre)) }

-- at the end of the bytes a reader that may stop reads no more
pub stops-at-end : {A : Type 0} (x : A) (more : Parsed A) (pre : List ℕ) → cond (leb (length (pre ++ [])) (length pre)) (got x (length pre)) more ≡ got x (length pre + 0)
stops-at-end x more pre = rw (append-nil pre, le-leb (length pre) (length pre) (omega arith), add-zero (length pre))
