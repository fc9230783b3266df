-- What is known of references whose rules are kept, and what `resolve_graph` answers and leaves in the slices that it is lent.
use Rattle.std.specs.Prelude.{Err, Ok, Result}
use mathlib.Core.Path.{◌≡◌, refl, ◌∙◌}
use mathlib.Core.Bool.{true, false, ◌&&◌}
use mathlib.Core.List.{List, [], ◌∷◌, map}
use mathlib.Core.Option.{Option, none, some}
use Prim.Native.Nat.{ℕ, ◌+◌, ◌≤◌, ◌<◌}
use native.Mathlib.Omega.{arith}
use lib.Dec.{ltb, eqb}
use lib.ListN.{length, length-map}
use lib.Seq.{sets}
use borrow.Author.Tests.{ltb-true, ltb-false, eqb-true}
use Rattle.lists.specs.Lists as Lists
use Rattle.lists.specs.Lists.{any, filter, joined, Each}
use Rattle.lists.proofs.Tests.{both}
use Rattle.lists.proofs.Once.{or-is-false}
use Rattle.lists.proofs.Flat.{length-starts}
use Rattle.lists.proofs.Slices.{sets-front}
use Rattle.columns.specs.Limits.{kinds, max_records, max_numbers, end64}
use Rattle.columns.specs.Refusal.{accepted, unless, Lent, short, limits}
use Rattle.columns.specs.EdgeSet.{offsets_form, from_to}
use Rattle.columns.specs.Building.{numbers_ok}
use Rattle.columns.specs.Answers.{ruling, written_in}
use Rattle.columns.specs.declared.refusal.Refusal.{Refusal}
use Rattle.columns.specs.declared.refusal.Refusal.TheVariants.{EdgeEntries, NumberRange, SliceShort, OverRecords, OverNumbers}
use Rattle.columns.proofs.FirstBroken.{each_none, not-refused, passed}
use Rattle.columns.proofs.Told.{told, told-kept}
use Rattle.columns_refs.specs.References.{Referred, Unresolved, references_in, rows_in, is_unresolved, parent_lists, unresolved_from, referred_ok, Resolution}
use Rattle.columns_refs.specs.References.{resolution_of, referred_lengths, input_rules, resolve_rules, resolve_graph}
use Rattle.columns_refs.specs.Resolved.{slices_of, Noted, RowsForm, Ready, resolved_of, laid, offsets_column, parents_column, Answers}
use Rattle.columns_refs.specs.declared.Made.{Made}
use Rattle.columns_refs.proofs.Counted.{even-many}
use Rattle.columns_refs.proofs.Slots.{length-lists}
use Rattle.columns_refs.proofs.Bounds.{parents-few, records-many, Accepted, records-accepted, lists-form}

-- ── rules kept ───────────────────────────────────────────────────────────────────────────────

module _ (g : Referred) (lent : List Lent) (e : resolve_rules g lent ≡ none) where
  limits-kept : limits (g.rows ∷ length (filter is_unresolved (references_in g)) ∷ []) (referred_lengths g) lent ≡ none
  unfolding resolve_rules
  limits-kept = (each_none _ e).0

  input-kept : input_rules g ≡ none
  unfolding resolve_rules
  input-kept = (each_none _ e).1.0

  in_form : referred_ok g ≡ true
  unfolding input_rules
  in_form = passed EdgeEntries _ (each_none _ input-kept).0

  pub last-number : g.first + g.rows < end64
  unfolding input_rules numbers_ok
  last-number = ltb-true (g.first + g.rows) end64 (passed NumberRange _ (each_none _ input-kept).1.0)

  records-few : (ltb max_records g.rows ≡ false) × (ltb max_records (length (filter is_unresolved (references_in g))) ≡ false)
  unfolding limits any
  records-few =
      let p = or-is-false (ltb max_records g.rows) _ (not-refused OverRecords _ (each_none _ limits-kept).0) in
      (p.0, (or-is-false (ltb max_records (length (filter is_unresolved (references_in g)))) _ p.1).0)

  pub rows_few : g.rows ≤ 1024
  rows_few = ltb-false max_records g.rows records-few.0

  pub unresolved_few : length (filter is_unresolved (references_in g)) ≤ 1024
  unresolved_few = ltb-false max_records (length (filter is_unresolved (references_in g))) records-few.1

  pub kinds-few : length g.kinds_given ≤ 4096
  unfolding limits any referred_lengths
  kinds-few =
      let p = or-is-false (ltb max_numbers (length g.starts)) _ (not-refused OverNumbers _ (each_none _ limits-kept).1.0) in
      ltb-false max_numbers (length g.kinds_given) (or-is-false (ltb max_numbers (length g.kinds_given)) _ p.1).0

  pub long-enough : any short lent ≡ false
  unfolding limits
  long-enough = not-refused SliceShort _ (each_none _ limits-kept).1.1.0

  pub as_many : length (references_in g) ≡ length g.kinds_given
  unfolding referred_ok
  as_many =
      let p = both _ _ (both _ _ in_form).0 in
      let q = both _ _ p.1 in
      let r = both _ _ q.1 in
      even-many g.kinds_given g.spaces g.targets g.known g.numbers
      (eqb-true _ _ p.0) (eqb-true _ _ q.0) (eqb-true _ _ r.0) (eqb-true _ _ r.1)

  pub rows-form : RowsForm g.rows g.starts (references_in g)
  unfolding referred_ok
  rows-form =
      let n = length g.kinds_given in
      let a = eqb (length g.spaces) n && (eqb (length g.targets) n && (eqb (length g.known) n && eqb (length g.numbers) n)) in
      let b = eqb (length g.starts) (g.rows + 1) in
      let p = both b (from_to 0 n g.starts) (both a (b && from_to 0 n g.starts) in_form).1 in
      record { many = eqb-true _ _ p.0; climbs = rw as_many p.1 }

-- ── a verdict ────────────────────────────────────────────────────────────────────────────────

taken : {A : Type 0} (o : Option Refusal) (a x : A) → unless o a ≡ accepted x → (o ≡ none) × (a ≡ x)
unfolding unless
taken none a x e = (refl, cc)
taken (some r) a x e = absurd (let z : ◌≡◌ {A = ℕ} 0 1 = cc in omega arith)

-- what is made may be handed to building: the offsets of the parent lists are in 2's form
pub resolved-form : (g : Referred) (lent : List Lent) (x : Resolution) → resolve_graph g lent ≡ accepted x → offsets_form kinds g.rows (length (parents_column x)) (offsets_column x) ≡ true
unfolding resolve_graph resolution_of
resolved-form g lent x e =
    let t = taken (resolve_rules g lent) (resolution_of g) x e in
    rw (← t.1) (lists-form g.rows g.starts (references_in g) (rows-form g lent t.0))

-- and building's 6 and 7 accept the child and the kind of each record
pub resolved-records : (g : Referred) (lent : List Lent) (x : Resolution) → resolve_graph g lent ≡ accepted x → Each (Accepted g.first (g.first + g.rows)) x.unresolved
unfolding resolve_graph resolution_of
resolved-records g lent x e =
    let t = taken (resolve_rules g lent) (resolution_of g) x e in
    rw (← t.1) (records-accepted g.rows g.starts (references_in g) (rows-form g lent t.0) g.first)

-- ── five slices ──────────────────────────────────────────────────────────────────────────────

record Long (o p c k h : ℕ) : Type 0 where
  offsets : 2049 ≤ o
  parents : 4096 ≤ p
  children : 1024 ≤ c
  kinds : 1024 ≤ k
  handles : 1024 ≤ h

long : (o p c k h : ℕ) → any short (slices_of o p c k h) ≡ false → Long o p c k h
unfolding any short
long o p c k h e =
    let a = or-is-false (ltb o 2049) _ e in
    let b = or-is-false (ltb p 4096) _ a.1 in
    let d = or-is-false (ltb c 1024) _ b.1 in
    let f = or-is-false (ltb k 1024) _ d.1 in
    let i = or-is-false (ltb h 1024) _ f.1 in
    record {
      offsets = ltb-false o 2049 a.0;
      parents = ltb-false p 4096 b.0;
      children = ltb-false c 1024 d.0;
      kinds = ltb-false k 1024 f.0;
      handles = ltb-false h 1024 i.0;
    }

-- ── the call ─────────────────────────────────────────────────────────────────────────────────

module _ (g : Referred) (os ps cs us hs : List ℕ) where
  module _ {q : Result (Unit {0}) Refusal} (e : q ≡ ruling (resolve_rules g (slices_of (length os) (length ps) (length cs) (length us) (length hs)))) where
    pub nothing_written : (why : Refusal) → q ≡ Err why → Answers (resolve_graph g (slices_of (length os) (length ps) (length cs) (length us) (length hs)))
        (Err why) os ps cs us hs os ps cs us hs
    unfolding resolve_graph unless resolved_of laid
    nothing_written why f =
        rw (told (resolve_rules g (slices_of (length os) (length ps) (length cs) (length us) (length hs))) e f)
        (record { answer = refl; offsets = refl; parents = refl; children = refl; kinds = refl; handles = refl })

    module _ (f : q ≡ Ok tt) where
      kept : resolve_rules g (slices_of (length os) (length ps) (length cs) (length us) (length hs)) ≡ none
      kept = told-kept (resolve_rules g (slices_of (length os) (length ps) (length cs) (length us) (length hs))) e f

      pub ready : Ready g os ps cs us hs
      ready =
          let l = long (length os) (length ps) (length cs) (length us) (length hs) (long-enough g (slices_of (length os) (length ps) (length cs) (length us) (length hs)) kept) in
          let form = rows-form g (slices_of (length os) (length ps) (length cs) (length us) (length hs)) kept in
          let n : length (unresolved_from g.first 0 (rows_in g)) ≤ 1024 = omega
          (arith, records-many g.rows g.starts (references_in g) form g.first, unresolved_few g (slices_of (length os) (length ps) (length cs) (length us) (length hs)) kept) in
          record {
            numbers = omega (arith, last-number g (slices_of (length os) (length ps) (length cs) (length us) (length hs)) kept);
            form = form;
            lists = record {
              offsets = omega (arith, rows_few g (slices_of (length os) (length ps) (length cs) (length us) (length hs)) kept, l.offsets);
              parents = omega (
                arith,
                parents-few g.rows g.starts (references_in g) form,
                as_many g (slices_of (length os) (length ps) (length cs) (length us) (length hs)) kept,
                kinds-few g (slices_of (length os) (length ps) (length cs) (length us) (length hs)) kept,
                l.parents,
              );
            };
            records = record { children = omega (arith, n, l.children); kinds = omega (arith, n, l.kinds); handles = omega (arith, n, l.handles) };
          }

      pub made_is : (m : Made) (os' ps' cs' us' hs' : List ℕ) → Answers (accepted (resolution_of g)) (Ok m) os ps cs us hs os' ps' cs' us' hs'
          → Answers (resolve_graph g (slices_of (length os) (length ps) (length cs) (length us) (length hs))) (Ok m) os ps cs us hs os' ps' cs' us' hs'
      unfolding resolve_graph unless
      made_is m os' ps' cs' us' hs' a = rw kept a

  pub all_written : Ready g os ps cs us hs → (os' ps' cs' us' hs' : List ℕ) (made noted : ℕ) → made ≡ length (joined (parent_lists (rows_in g)))
      → os' ≡ sets os 0 (Lists.starts 0 (parent_lists (rows_in g))) → ps' ≡ sets ps 0 (joined (parent_lists (rows_in g)))
      → Noted (unresolved_from g.first 0 (rows_in g)) 0 noted cs us hs cs' us' hs'
      → Answers (accepted (resolution_of g)) (Ok (record { parents = made; unresolved = noted })) os ps cs us hs os' ps' cs' us' hs'
  unfolding resolution_of resolved_of laid
  all_written r os' ps' cs' us' hs' made noted a b d n =
      let m : noted ≡ length (unresolved_from g.first 0 (rows_in g)) = omega (arith, n.next) in
      let l = parent_lists (rows_in g) in
      record {
        answer = rw (a, m);
        offsets = b ∙ sets-front os (Lists.starts 0 l) (omega (arith, length-starts 0 l, length-lists g.rows g.starts (references_in g) r.form, r.lists.offsets));
        parents = d ∙ sets-front ps (joined l) r.lists.parents;
        children = column (λ u. u.child) cs cs' n.children r.records.children;
        kinds = column (λ u. u.kind) us us' n.kinds r.records.kinds;
        handles = column (λ u. u.handle) hs hs' n.handles r.records.handles;
      }
    where
      column : (part : Unresolved → ℕ) (was now : List ℕ) → now ≡ sets was 0 (map part (unresolved_from g.first 0 (rows_in g))) → length (unresolved_from g.first 0 (rows_in g)) ≤ length was
          → now ≡ written_in was (map part (unresolved_from g.first 0 (rows_in g)))
      column part was now e h = let us = unresolved_from g.first 0 (rows_in g) in e ∙ sets-front was (map part us) (omega (arith, length-map us part))
