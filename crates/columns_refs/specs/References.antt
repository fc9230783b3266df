-- Document 02, L1: `resolve_graph`. The references of a file's rows, with the answers of their lookups, become parent lists and unresolved records.
use Rattle.std.specs.Prelude.{Bool, cond, ◌&&◌, not, List, [], ◌∷◌, ◌++◌, map, ℕ, suc, ◌+◌, ltb, eqb, length}
use Rattle.std.proofs.Math.Option.{Option}
use Rattle.lists.specs.Lists.{flat, filter, is_empty, up_from}
use Rattle.columns.specs.Limits.{kinds, reference_kinds}
use Rattle.columns.specs.Refusal.{Verdict, unless, refuse, first_of, Lent, limits}
use Rattle.columns.specs.EdgeSet.{from_to, cut}
use Rattle.columns.specs.Building.{numbers_ok}
use Rattle.columns.specs.declared.refusal.Refusal.{Refusal}
use Rattle.columns.specs.declared.refusal.Refusal.TheVariants.{EdgeEntries, NumberRange}
use Rattle.columns_refs.specs.declared.refs.Reference.{Reference}

-- ── what is given ────────────────────────────────────────────────────────────────────────────

-- the references that columns hold, each with its answer, as many as every column has
unfoldable pub references_of : List ℕ → List ℕ → List ℕ → List ℕ → List ℕ → List Reference
references_of [] ss ts ks ns = []
references_of (x ∷ xs) [] ts ks ns = []
references_of (x ∷ xs) (s ∷ ss) [] ks ns = []
references_of (x ∷ xs) (s ∷ ss) (t ∷ ts) [] ns = []
references_of (x ∷ xs) (s ∷ ss) (t ∷ ts) (k ∷ ks) [] = []
references_of (x ∷ xs) (s ∷ ss) (t ∷ ts) (k ∷ ks) (n ∷ ns) =
    record { kind = x; space = s; target = t; known = k; number = n } ∷ references_of xs ss ts ks ns

-- a file's rows: its first number, how many rows there are, where each row's references start and where the last one's end, and the
-- references with their answers, a column for each part
pub record Referred : Type 0 where
  pub first : ℕ
  pub rows : ℕ
  pub starts : List ℕ
  -- prev 0, auth 1, link 2, parent 3, related 4, root 5
  pub kinds_given : List ℕ
  -- event id 0, external 1, protocol id 2, sequence 3
  pub spaces : List ℕ
  -- the number, or the host's handle
  pub targets : List ℕ
  -- whether the lookup knows the target, 0 for no, and its number
  pub known : List ℕ
  pub numbers : List ℕ

abbrev pub references_in : Referred → List Reference
references_in g = references_of g.kinds_given g.spaces g.targets g.known g.numbers

-- the references of each row
abbrev pub rows_in : Referred → List (List Reference)
rows_in g = cut g.starts (references_in g)

-- ── one reference ────────────────────────────────────────────────────────────────────────────

-- the space of sequence numbers
abbrev pub by_sequence : ℕ
by_sequence = 3

-- what a reference names, one number or none: its target by sequence; otherwise the number of its answer, if that is known
unfoldable pub names : Reference → List ℕ
names x = cond (eqb x.space by_sequence) (x.target ∷ []) (cond (eqb x.known 0) [] (x.number ∷ []))

-- a prev or auth reference that names nothing
unfoldable pub is_unresolved : Reference → Bool
is_unresolved x = ltb x.kind reference_kinds && is_empty (names x)

-- ── parent lists ─────────────────────────────────────────────────────────────────────────────

-- what those of a row's references that are of one kind name, in order
unfoldable pub parents_of : ℕ → List Reference → List ℕ
parents_of kind xs = flat names (filter (λ x. eqb x.kind kind) xs)

-- row by row, a list for each kind
unfoldable pub parent_lists : List (List Reference) → List (List ℕ)
parent_lists rows = flat (λ row. map (λ kind. parents_of kind row) (up_from 0 kinds)) rows

-- ── unresolved records ───────────────────────────────────────────────────────────────────────

pub record Unresolved : Type 0 where
  pub child : ℕ
  pub kind : ℕ
  pub handle : ℕ

-- the records of a row's references: the event is their child, and each reference's place among all given is its handle
unfoldable pub records_from : ℕ → ℕ → List Reference → List Unresolved
records_from event place [] = []
records_from event place (x ∷ xs) =
    cond (is_unresolved x) (record { child = event; kind = x.kind; handle = place } ∷ records_from event (suc place) xs) (records_from event (suc place) xs)

-- row by row
unfoldable pub unresolved_from : ℕ → ℕ → List (List Reference) → List Unresolved
unresolved_from event place [] = []
unresolved_from event place (row ∷ rows) = records_from event place row ++ unresolved_from (suc event) (place + length row) rows

-- ── 2 ────────────────────────────────────────────────────────────────────────────────────────

-- columns of one length, and so an answer for each reference; an offset for each row and one more, rising or level from 0 to the number of
-- references
unfoldable pub referred_ok : Referred → Bool
referred_ok g =
    let n = length g.kinds_given in
    (eqb (length g.spaces) n && (eqb (length g.targets) n && (eqb (length g.known) n && eqb (length g.numbers) n)))
    && (eqb (length g.starts) (g.rows + 1) && from_to 0 n g.starts)

-- ── resolving ────────────────────────────────────────────────────────────────────────────────

-- the parent lists of the slots, and the records in the order of their references
pub record Resolution : Type 0 where
  pub lists : List (List ℕ)
  pub unresolved : List Unresolved

unfoldable pub resolution_of : Referred → Resolution
resolution_of g = record { lists = parent_lists (rows_in g); unresolved = unresolved_from g.first 0 (rows_in g) }

-- the lengths of the columns that are lent to be read
unfoldable pub referred_lengths : Referred → List ℕ
referred_lengths g =
    length g.starts ∷ length g.kinds_given ∷ length g.spaces ∷ length g.targets ∷ length g.known ∷ length g.numbers ∷ []

-- 2, then 3
unfoldable pub input_rules : Referred → Option Refusal
input_rules g = first_of (refuse EdgeEntries (not (referred_ok g)) ∷ refuse NumberRange (not (numbers_ok g.first g.rows)) ∷ [])

-- 42, 43, 41, then 2 and 3
unfoldable pub resolve_rules : Referred → List Lent → Option Refusal
resolve_rules g lent = first_of (limits (g.rows ∷ length (filter is_unresolved (references_in g)) ∷ []) (referred_lengths g) lent ∷ input_rules g ∷ [])

unfoldable pub resolve_graph : Referred → List Lent → Verdict Resolution
resolve_graph g lent = unless (resolve_rules g lent) (resolution_of g)
