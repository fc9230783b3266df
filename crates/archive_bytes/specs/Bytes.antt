-- Document 01, "Archive records": numbers as big-endian bytes, signed ones in two's complement.
use Rattle.std.specs.Prelude.{cond, List, [], ◌∷◌, ◌++◌, ℕ, zero, suc, ◌+◌, ◌-◌, ◌*◌, ◌/◌, ◌%◌, ◌^◌, ◌<◌, ltb, ℤ, pos, negsuc, get_or, drop}
use Rattle.lists.specs.Lists.{Each}
use Rattle.columns.specs.Limits.{end64}

-- the number that w bytes from place p on hold; a byte past the end reads as 0
unfoldable pub be : ℕ → List ℕ → ℕ → ℕ
be zero l p = 0
be (suc w) l p = be w l p * 256 + get_or l (p + w) 0

-- the number of signed 64 bits that an unsigned one stands for, and back
unfoldable pub signed_of : ℕ → ℤ
signed_of n = cond (ltb n (2 ^ 63)) (pos n) (negsuc (end64 - 1 - n))

unfoldable pub unsigned_of : ℤ → ℕ
unsigned_of (pos n) = n
unsigned_of (negsuc n) = end64 - 1 - n

-- the w bytes of a number
unfoldable pub bytes_of : ℕ → ℕ → List ℕ
bytes_of zero n = []
bytes_of (suc w) n = bytes_of w (n / 256) ++ ((n % 256) ∷ [])

-- n things of w bytes each, one after the other from the front of the bytes
unfoldable pub several : {A : Type 0} → ℕ → (List ℕ → A) → ℕ → List ℕ → List A
several w f zero l = []
several w f (suc n) l = f l ∷ several w f n (drop w l)

-- the n numbers of w bytes each from place p on
abbrev pub column : ℕ → ℕ → List ℕ → ℕ → List ℕ
column w n l p = several w (λ l. be w l 0) n (drop p l)

-- numbers of w bytes
abbrev pub Wide : ℕ → List ℕ → Type 0
Wide w xs = Each (λ x. x < 256 ^ w) xs
