-- What the functions over columns do: fronts of columns, and verdicts where more links were given than columns hold.
use Rattle.std.specs.Prelude.{Ok, Err}
use mathlib.Core.Path.{◌≡◌, refl, sym, ◌∙◌, ap}
use mathlib.Core.Bool.{Bool, true, false}
use mathlib.Core.List.{List, []}
use Prim.Native.Nat.{ℕ, ◌≤◌, ◌<◌, zero-le}
use native.Mathlib.Omega.{arith}
use lib.Dec.{ltb}
use lib.ListN.{length, take}
use lib.Seq.{length-take-le}
use borrow.Author.Tests.{lt-ltb, le-ltb, ltb-true, ltb-false}
use Rattle.lists.specs.Lists.{any}
use Rattle.columns.specs.Limits.{max_records}
use Rattle.columns.specs.Refusal.{Verdict, refused, accepted, unless, first_of, limits}
use Rattle.columns.specs.declared.refusal.Refusal.TheVariants.{OverRecords}
use Rattle.cover.specs.Chains.{Link, sort_links}
use Rattle.cover.specs.Cover.{LinkColumns}
use Rattle.cover.specs.Answers.{link_columns, links_over, links_after, counted}
use Rattle.cover_rows.proofs.Fitting.{length-links}
use Rattle.cleaning.proofs.GoodGroups.{few-sorted}
use Rattle.ffi.specs.Numbers.{answer_of}
use Rattle.ffi.specs.declared.answer.Answer.{Answer}
use Rattle.ffi_cover.specs.Numbers.{records_of}
use Rattle.ffi_links.specs.Records.{sort_lent, first_links, given}

-- the fronts of columns of 1,024 numbers
module _ (n : ℕ) (h : n ≤ 1024) where
  pub front_long : (a : List ℕ) → length a ≡ 1024 → length (take n a) ≡ n
  front_long a p = length-take-le n a (omega arith)

  pub fronts-even : (a b : List ℕ) → length a ≡ 1024 → length b ≡ 1024 → length (take n b) ≡ length (take n a)
  fronts-even a b p q = front_long b q ∙ sym (front_long a p)

  pub front-few : (a : List ℕ) → length a ≡ 1024 → length (take n a) ≤ 1024
  front-few a p = omega (arith, front_long a p)

  pub front-within : (a b : List ℕ) → length a ≡ 1024 → length b ≡ 1024 → length (take n a) ≤ length b
  front-within a b p q = omega (arith, front_long a p)

  pub links_few : (a b c d : List ℕ) → length a ≡ 1024 → length b ≡ 1024 → length c ≡ 1024 → length d ≡ 1024 → length (first_links n (link_columns a b c d)) ≤ 1024
  links_few a b c d p q u v = omega (arith, length-links (take n a) (take n b) (take n c) (take n d) (fronts-even a b p q) (fronts-even a c p u) (fronts-even a d p v), front-few a p)

module _ (ks ls : List Link) (e : ks ≡ ls) where
  pub sorted-count : {r : ℕ} → r ≡ length (sort_links ks) → r ≡ length (sort_links ls)
  sorted-count f = f ∙ ap (λ l. length (sort_links l)) e

  pub sorted-over : (o : LinkColumns) {o' : LinkColumns} → o' ≡ links_over (sort_links ks) o → o' ≡ links_over (sort_links ls) o
  sorted-over o f = f ∙ ap (λ l. links_over (sort_links l) o) e

-- ── verdicts ─────────────────────────────────────────────────────────────────────────────────

pub over-given : {A : Type 0} (n : ℕ) (v : Verdict A) → 1024 < n → given n v ≡ refused OverRecords
unfolding given
over-given n v h = rw (lt-ltb max_records n h)

pub few-given : {A : Type 0} (n : ℕ) (v : Verdict A) → n ≤ 1024 → given n v ≡ v
unfolding given
few-given n v h = rw (le-ltb max_records n h)

pub few-sorts : (ls : List Link) → length ls ≤ 1024 → sort_lent ls ≡ accepted (sort_links ls)
unfolding sort_lent limits first_of unless any
few-sorts ls h = rw (le-ltb max_records (length ls) h)

pub many-sorts : (ls : List Link) → 1024 < length ls → sort_lent ls ≡ refused OverRecords
unfolding sort_lent limits first_of unless any
many-sorts ls h = rw (lt-ltb max_records (length ls) h)

-- sorted links are no more than they were
pub sort-room : (ls : List Link) → (records_of (counted (λ x. x) (sort_lent ls))).length ≤ length ls
unfolding answer_of counted sort_links
sort-room ls = by-test (ltb max_records (length ls)) refl
  where
    by-test : (b : Bool) → ltb max_records (length ls) ≡ b → (records_of (counted (λ x. x) (sort_lent ls))).length ≤ length ls
    by-test true e = rw (many-sorts ls (ltb-true max_records (length ls) e)) zero-le
    by-test false e = rw (few-sorts ls (ltb-false max_records (length ls) e)) (omega (arith, few-sorted [] ls))

-- more were given
module _ (n : ℕ) (v : Verdict (List Link)) (h : 1024 < n) where
  pub over-told : {r : Answer} → r ≡ answer_of (Err OverRecords) → r ≡ records_of (counted (λ x. x) (given n v))
  unfolding counted
  over-told e = rw (over-given n v h) e

  pub over-kept : (o : LinkColumns) → o ≡ links_after (λ x. x) (given n v) o
  unfolding links_after
  over-kept o = rw (over-given n v h)

-- all are there
module _ (n : ℕ) (ls : List Link) (h : n ≤ 1024) (l : length ls ≤ 1024) where
  sorts : given n (sort_lent ls) ≡ accepted (sort_links ls)
  sorts = few-given n (sort_lent ls) h ∙ few-sorts ls l

  pub sort-told : {r : Answer} (k : ℕ) → r ≡ answer_of (Ok k) → k ≡ length (sort_links ls) → r ≡ records_of (counted (λ x. x) (given n (sort_lent ls)))
  unfolding counted
  sort-told k e f = rw sorts (e ∙ ap (λ n. answer_of (Ok n)) f)

  pub sort-written : (o : LinkColumns) {o' : LinkColumns} → o' ≡ links_over (sort_links ls) o → o' ≡ links_after (λ x. x) (given n (sort_lent ls)) o
  unfolding links_after
  sort-written o e = rw sorts e
