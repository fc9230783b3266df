-- What the functions over edge columns are given and answer by numbers.
use Rattle.std.specs.Prelude.{not, List, ◌≡◌, ℕ, ltb, Err, None, Ok, Result, Some}
use Rattle.std.proofs.Math.Option.{Option, none, some}
use Rattle.columns.specs.Refusal.{number_of, Verdict, refused, refuse}
use Rattle.columns.specs.Ancestor.{SharedAncestor}
use Rattle.columns.specs.declared.refusal.Refusal.{Refusal}
use Rattle.columns.specs.declared.refusal.Refusal.TheVariants.{InboundParent}
use Rattle.std.specs.declared.option.Option as rust
use Rattle.columns_ask.specs.declared.ChainLabel.{ChainLabel}
use Rattle.columns_read.specs.declared.Counts.{Counts}
use Rattle.columns_read.specs.declared.Head.{Head}
use Rattle.ffi.specs.Numbers.{flag_at, answer_of, edges, no_edges}
use Rattle.ffi.specs.declared.answer.Answer.{Answer}
use Rattle.ffi.specs.declared.granule.Granule.{Granule}
use Rattle.ffi_columns.specs.declared.edges.Label.{Label}
use Rattle.ffi_columns.specs.declared.walks.Walked.{Walked}
use Rattle.ffi_columns.specs.declared.walks.Ancestor.{Ancestor}

-- ── given ────────────────────────────────────────────────────────────────────────────────────

-- a kind or a set is given by its number. One that names none of so many is 12
abbrev pub unnamed : ℕ → ℕ → Option Refusal
unnamed many n = refuse InboundParent (not (ltb n many))

-- a verdict after a test that goes before all others
unfoldable pub after : {A : Type 0} → Option Refusal → Verdict A → Verdict A
after none v = v
after (some r) v = refused r

-- the head of a granule
abbrev pub head_at : ℕ → ℕ → ℕ → ℕ → ℕ → ℕ → ℕ → Head
head_at first rows end forward reverse inbound cover =
    record { first = first; rows = rows; end = end; forward = forward; reverse = reverse; inbound = inbound; cover = flag_at cover }

-- ── answered ─────────────────────────────────────────────────────────────────────────────────

abbrev pub count_of : Result ℕ Refusal → Answer
count_of = answer_of

abbrev pub roots_of : Result ℕ Refusal → Answer
roots_of = answer_of

unfoldable pub granule_of : Result Counts Refusal → Granule
granule_of (Ok c) = edges c.forward c.reverse c.inbound
granule_of (Err r) = no_edges r

unfoldable pub label_of : Result (rust.Option ChainLabel) Refusal → Label
label_of (Ok (Some l)) = record { refusal = 0; found = 1; chain = l.chain; seq = l.seq }
label_of (Ok None) = record { refusal = 0; found = 0; chain = 0; seq = 0 }
label_of (Err r) = record { refusal = number_of r; found = 0; chain = 0; seq = 0 }

unfoldable pub walked_of : Result (ℕ × ℕ) Refusal → Walked
walked_of (Ok (n, handed)) = record { refusal = 0; levels = n; handed = handed }
walked_of (Err r) = record { refusal = number_of r; levels = 0; handed = 0 }

-- the answer for a number that was found, or for none
abbrev pub found_of : Option ℕ → Ancestor
found_of (some x) = record { refusal = 0; found = 1; number = x }
found_of none = record { refusal = 0; found = 0; number = 0 }

unfoldable pub ancestor_of : Result (rust.Option ℕ) Refusal → Ancestor
ancestor_of (Ok (Some x)) = found_of (some x)
ancestor_of (Ok None) = found_of none
ancestor_of (Err r) = record { refusal = number_of r; found = 0; number = 0 }

-- an answer that tells a shared ancestor of a and b, or that there is none
pub record Tells (r : Ancestor) (parents_of : ℕ → List ℕ) (a b : ℕ) : Type 0 where
  pub ancestor : Option ℕ
  pub told : r ≡ found_of ancestor
  pub right : SharedAncestor parents_of a b ancestor

-- what is promised of the shared ancestor of a and b, by what the rules say
abbrev pub PromisedBy : Ancestor → Option Refusal → (ℕ → List ℕ) → ℕ → ℕ → Type 0
PromisedBy r (some why) parents_of a b = r ≡ ancestor_of (Err why)
PromisedBy r none parents_of a b = Tells r parents_of a b
