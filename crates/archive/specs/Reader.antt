-- Readers of bytes. Each reads from a place on and says which place is next. A single number past the end reads as zeros: that nothing was
-- read past the end is tested once, at the end of a body (`whole`) and of a record (`body`). A count is tested before its things are read.
use Rattle.std.specs.Prelude.{Bool, cond, ◌&&◌, List, ℕ, ◌+◌, ◌-◌, ◌*◌, leb, eqb, length, get_or, take, drop}
use Rattle.std.proofs.Math.Option.{Option, none, some}
use Rattle.archive.specs.Bytes.{be, several}

-- nothing, where a record is broken (23); or what was read, and the next place
pub data Parsed (A : Type 0) : Type 0 where
  broken : Parsed A
  got : A → ℕ → Parsed A

abbrev pub Reader : Type 0 → Type 0
Reader A = List ℕ → ℕ → Parsed A

abbrev pub and_then : {A B : Type 0} → Parsed A → (A → ℕ → Parsed B) → Parsed B
and_then broken f = broken
and_then (got x p) f = f x p

unfoldable pub ◌>>=◌ : {A B : Type 0} → Reader A → (A → Reader B) → Reader B
◌>>=◌ r f = λ l p. and_then (r l p) (λ x q. f x l q)

abbrev pub return : {A : Type 0} → A → Reader A
return x = λ l p. got x p

abbrev pub fail : {A : Type 0} → Reader A
fail = λ l p. broken

abbrev pub byte : Reader ℕ
byte = λ l p. got (get_or l p 0) (p + 1)

-- a number of w bytes
abbrev pub number : ℕ → Reader ℕ
number w = λ l p. got (be w l p) (p + w)

-- n bytes
abbrev pub bytes : ℕ → Reader (List ℕ)
bytes n = λ l p. got (take n (drop p l)) (p + n)

-- n things of w bytes each, if there are that many bytes
unfoldable pub table : {A : Type 0} → ℕ → (List ℕ → A) → ℕ → Reader (List A)
table w f n = λ l p. let things = got (several w f n (drop p l)) (p + n * w) in cond (leb (p + n * w) (length l)) things broken

-- n numbers of w bytes
abbrev pub numbers : ℕ → ℕ → Reader (List ℕ)
numbers w n = table w (λ l. be w l 0) n

-- what r reads, with the place left where it is
abbrev pub ahead : {A : Type 0} → Reader A → Reader A
ahead r = λ l p. and_then (r l p) (λ x q. got x p)

-- x, if the test holds
abbrev pub checked : {A : Type 0} → Bool → A → Reader A
checked t x = λ l p. cond t (got x p) broken

-- a count, as many things of w bytes each, and a test of them
abbrev pub counted : {A : Type 0} → ℕ → (List ℕ → A) → (List A → Bool) → Reader (List A)
counted w f test = do
  n ← number 4
  xs ← table w f n
  checked (test xs) xs

-- x, if the test holds and nothing was read past the end
abbrev pub unbroken : {A : Type 0} → Bool → A → Reader A
unbroken t x = λ l p. cond (t && leb p (length l)) (got x p) broken

-- what a reader makes of all the bytes of b
unfoldable pub whole : {A : Type 0} → Reader A → List ℕ → Parsed A
whole r b = and_then (r b 0) (λ x q. cond (eqb (length b) q) (got x q) broken)

abbrev pub within : {A : Type 0} → List ℕ → Reader A → Reader A
within b r = λ l p. and_then (whole r b) (λ x q. got x p)

-- x where nothing is left, and otherwise what r reads
abbrev pub unless_end : {A : Type 0} → A → Reader A → Reader A
unless_end x r = λ l p. let more = r l p in cond (leb (length l) p) (got x p) more

-- ── records ──────────────────────────────────────────────────────────────────────────────────

-- the body of a record of a kind: the length of what follows, which counts version and kind; version 1; the kind
unfoldable pub body : ℕ → Reader (List ℕ)
body kind = do
  n ← number 4
  version ← byte
  k ← byte
  b ← bytes (n - 2)
  unbroken (leb 2 n && (eqb version 1 && eqb k kind)) b

-- a record of a kind, whose body a reader takes whole
unfoldable pub record_of : {A : Type 0} → ℕ → Reader A → Reader A
record_of kind r = do
  b ← body kind
  within b r

-- the record of a kind where the next record is of that kind, and nothing where it is of another or there is none
unfoldable pub optionally : {A : Type 0} → ℕ → Reader A → Reader (Option A)
optionally kind r = λ l p. let found = and_then (record_of kind r l p) (λ x q. got (some x) q) in cond (eqb (get_or l (p + 5) 0) kind) found (got none p)
