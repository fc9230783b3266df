-- One slot more: the table after it, and one turn of the loop over the slots.
use Rattle.std.specs.Prelude.{None, Some, Option}
use mathlib.Core.Path.{◌≡◌, refl, sym, ◌∙◌, ap}
use mathlib.Core.Bool.{true}
use mathlib.Core.List.{List, [], ◌∷◌, ◌++◌, append-nil}
use Prim.Native.Nat.{ℕ, suc, ◌≤◌, ◌<◌, ◌+◌, ◌*◌, ◌%◌}
use native.Mathlib.Nat.{le_refl, le_trans, add-zero}
use native.Mathlib.Numerals.{add-one}
use native.Mathlib.Omega.{arith}
use lib.ListN.{length, get_or, take, drop, set, length-set, length-append, take-append-drop, drop_of_length-le}
use lib.Seq.{slice, length-take-le, length-slice, take-take, take-suc-set, drop-cons}
use borrow.Author.Tests.{eq-eqb}
use Rattle.lists.specs.Lists.{joined, starts}
use Rattle.lists.specs.Order.{climbs_to}
use Rattle.lists.proofs.Flat.{joined-append}
use Rattle.lists.proofs.Cut.{starts-climb}
use Rattle.lists.proofs.Slots.{kind-some, kind-under}
use Rattle.columns.specs.EdgeSet.{from_to, offsets_form, cut}
use Rattle.columns.proofs.ReadBack.{cut-joined}
use Rattle.columns.proofs.Offsets.{cut-length, cut_at}
use Rattle.run_renumber.specs.Numbers.{numbers_from}
use Rattle.run_renumber.specs.NewLists.{new_list, new_lists_from, new_lists}
use Rattle.run_renumber.specs.Answers.{Grew, Exact, Built, Result}
use Rattle.run_renumber.proofs.Growing.{grew, too_long}
use Rattle.run_renumber.proofs.Tables.{table-rises, table-within, form-length, form-table}

-- ── the slots that are read ──────────────────────────────────────────────────────────────────

module _ (K rows : ℕ) (offsets targets : List ℕ) (s : ℕ) (ok : offsets_form K rows (length targets) offsets ≡ true) (h : s < K * rows) where
  pub read-this : s < length offsets
  read-this = omega (arith, form-length K rows (length targets) offsets ok)

  pub read_next : s + 1 < length offsets
  read_next = omega (arith, form-length K rows (length targets) offsets ok)

  module _ (a b : ℕ) (e : a ≡ get_or offsets s 0) (f : b ≡ get_or offsets (s + 1) 0) where
    pub read-ordered : a ≤ b
    read-ordered = rw (e, f) (table-rises (length targets) offsets (form-table K rows (length targets) offsets ok) s (s + 1) (omega arith) read_next)

    pub read-within : b ≤ length targets
    read-within = rw f (table-within (length targets) offsets (form-table K rows (length targets) offsets ok) (s + 1) read_next)

    pub read-slot : slice a b targets ≡ get_or (cut offsets targets) s []
    read-slot = rw (e, f) (sym (cut_at offsets targets s read_next))

pub kind-below : (K s n : ℕ) → s < K * n → s % K < K
kind-below K s n h = kind-under K s (kind-some K s n h)

-- ── one list more ────────────────────────────────────────────────────────────────────────────

starts-snoc : (a : ℕ) (ls : List (List ℕ)) (x : List ℕ) → starts a (ls ++ (x ∷ [])) ≡ starts a ls ++ ((a + length (joined ls) + length x) ∷ [])
unfolding starts joined
starts-snoc a [] x = rw add-zero
starts-snoc a (l ∷ ls) x =
    ap (λ (r : List ℕ). a ∷ r) (starts-snoc (a + length l) ls x
    ∙ ap (λ (n : ℕ). starts (a + length l) ls ++ ((n + length x) ∷ [])) {x = a + length l + length (joined ls)} {y = a + length (l ++ joined ls)} (omega (arith, length-append l (joined ls))))

joined_snoc : (ls : List (List ℕ)) (x : List ℕ) → joined (ls ++ (x ∷ [])) ≡ joined ls ++ x
unfolding joined
joined_snoc ls x = joined-append ls (x ∷ []) ∙ ap (λ (y : List ℕ). joined ls ++ y) (append-nil x)

starts-table : (ls : List (List ℕ)) → from_to 0 (length (joined ls)) (starts 0 ls) ≡ true
unfolding from_to climbs_to starts joined
starts-table [] = refl
starts-table (l ∷ ls) = starts-climb 0 (0 + length l) (length (l ++ joined ls)) ls (omega arith) (omega (arith, length-append l (joined ls)))

module _ (offs all : List ℕ) (s end : ℕ) (lists : List (List ℕ)) (b : Built offs all s end lists) where
  pub ends : end ≡ length (joined lists)
  ends = sym (length-take-le end all b.filled) ∙ ap length b.entries

  pub built-table : from_to 0 end (take (s + 1) offs) ≡ true
  built-table = rw (b.begins, ends) (starts-table lists)

  pub built-room : s < length offs
  built-room = omega (arith, b.room)

  pub built-filled : end ≤ length all
  built-filled = b.filled

  -- the column has room for all entries, so it is not full
  pub built-fits : length (joined lists) ≤ length all
  built-fits = rw (← ends) b.filled

  -- the table cuts the lists out
  pub built-cut : cut (take (s + 1) offs) (take end all) ≡ lists
  built-cut = rw (b.begins, b.entries) (cut-joined lists)

  module _ (r : Option ℕ) (all' list : List ℕ) (x : Exact r end all all' list) where
    pub slot-full : r ≡ None → length all' < length (joined (lists ++ (list ∷ [])))
    slot-full f = rw (joined_snoc lists list, length-append (joined lists) list, ← ends) (too_long r end all all' list x f)

    module _ (m : ℕ) (f : r ≡ Some m) (h : s + 1 < length offs) where
      g : Grew end all all' m list
      g = grew r m end all all' list x f

      reach : 0 + length (joined lists) + length list ≡ m
      reach = omega (arith, ends, ap length g.holds, length-slice end m all' g.room, g.above)

      pub slot_added : Built (set offs (s + 1) m) all' (s + 1) m (lists ++ (list ∷ []))
      slot_added = record {
        count = length-append lists (list ∷ []) ∙ omega (arith, b.count);
        room = simp length-set (omega arith);
        filled = g.room;
        begins =
            rw (add-one (s + 1), take-suc-set offs (s + 1) m h, b.begins)
            (sym (starts-snoc 0 lists list ∙ ap (λ (n : ℕ). starts 0 lists ++ (n ∷ [])) reach));
        entries =
            sym (take-append-drop end (take m all'))
            ∙ rw (take-take end m all' g.above, g.kept, b.entries, g.holds) (sym (joined_snoc lists list));
      }

-- and has 17's form
pub built-form : (K : ℕ) (offs all : List ℕ) (s end : ℕ) (lists : List (List ℕ)) → Built offs all s end lists → (rows : ℕ) → s ≡ K * rows → offsets_form K rows end (take (s + 1) offs) ≡ true
unfolding offsets_form
built-form K offs all s end lists b rows e =
    rw (eq-eqb (length (take (s + 1) offs)) (K * rows + 1) (length-take-le (s + 1) offs b.room ∙ omega arith)) (built-table offs all s end lists b)

-- what the call for slot s left, under the slot's name
module _ (K rows : ℕ) (offsets targets : List ℕ) (s : ℕ) (ok : offsets_form K rows (length targets) offsets ≡ true) (h : s < K * rows)
    (a b : ℕ) (e : a ≡ get_or offsets s 0) (f : b ≡ get_or offsets (s + 1) 0) (start : ℕ) (flags numbers offs all : List ℕ) (end : ℕ) (lists : List (List ℕ))
    (table : Built offs all s end lists) (r : Option ℕ) (all' : List ℕ) (x : Exact r end all all' (new_list K start flags numbers (s % K) lists (slice a b targets))) where
  pub slot-put : (m : ℕ) → r ≡ Some m → K * rows < length offs
      → Built (set offs (s + 1) m) all' (s + 1) m (lists ++ (new_list K start flags numbers (s % K) lists (get_or (cut offsets targets) s []) ∷ []))
  slot-put m w k =
      rw (← read-slot K rows offsets targets s ok h a b e f) (slot_added offs all s end lists table r all' (new_list K start flags numbers (s % K) lists (slice a b targets)) x m w (omega arith))

  pub slot-none : r ≡ None → length all' < length (joined (lists ++ (new_list K start flags numbers (s % K) lists (get_or (cut offsets targets) s []) ∷ [])))
  slot-none w =
      rw (← read-slot K rows offsets targets s ok h a b e f) (slot-full offs all s end lists table r all' (new_list K start flags numbers (s % K) lists (slice a b targets)) x w)

pub built-same : (offs all : List ℕ) (s end : ℕ) (lists : List (List ℕ)) → Built offs all s end lists → Built offs all s end (cut (take (s + 1) offs) (take end all))
built-same offs all s end lists b = rw (built-cut offs all s end lists b) b

-- ── the loop over the slots ──────────────────────────────────────────────────────────────────

pub begin-cut : (offs all : List ℕ) → Built offs all 0 0 [] → Built offs all 0 0 (cut (take (0 + 1) offs) (take 0 all))
begin-cut offs all b = built-same offs all 0 0 [] b

pub begin-lists : (K start : ℕ) (flags numbers offs all : List ℕ) (slots : List (List ℕ)) → Built offs all 0 0 []
    → new_lists_from K start flags numbers [] slots ≡ new_lists_from K start flags numbers (cut (take (0 + 1) offs) (take 0 all)) slots
begin-lists K start flags numbers offs all slots b = rw (built-cut offs all 0 0 [] b)

pub rows-length : (K rows : ℕ) (offsets targets : List ℕ) → offsets_form K rows (length targets) offsets ≡ true → length (cut offsets targets) ≡ K * rows
rows-length K rows offsets targets ok = cut-length offsets targets ∙ omega (arith, form-length K rows (length targets) offsets ok)

-- the lists of the table and the one of slot s
abbrev more : (K : ℕ) → ℕ → List ℕ → List ℕ → List (List ℕ) → ℕ → List (List ℕ) → List (List ℕ)
more K start flags numbers lists s slots = lists ++ (new_list K start flags numbers (s % K) lists (get_or slots s []) ∷ [])

module _ (K start : ℕ) (flags numbers : List ℕ) where
  lists-grow : (ls slots : List (List ℕ)) → length (joined ls) ≤ length (joined (new_lists_from K start flags numbers ls slots))
  unfolding new_lists_from
  lists-grow ls [] = le_refl _
  lists-grow ls (ps ∷ slots) =
      let x = new_list K start flags numbers (length ls % K) ls ps in
      le_trans (omega (arith, ap length (joined_snoc ls x), length-append (joined ls) x)) (lists-grow (ls ++ (x ∷ [])) slots)

  pub one-slot : (lists : List (List ℕ)) (s : ℕ) (ps : List ℕ) (slots : List (List ℕ)) → length lists ≡ s
      → new_lists_from K start flags numbers lists (ps ∷ slots) ≡ new_lists_from K start flags numbers (lists ++ (new_list K start flags numbers (s % K) lists ps ∷ [])) slots
  unfolding new_lists_from
  one-slot lists s ps slots e = ap (λ (n : ℕ). new_lists_from K start flags numbers (lists ++ (new_list K start flags numbers (n % K) lists ps ∷ [])) slots) e

  module _ (rows : ℕ) (offsets targets : List ℕ) (s : ℕ) (ok : offsets_form K rows (length targets) offsets ≡ true) {t : List (List ℕ)} (offs all : List ℕ) (end : ℕ)
      (b : Built offs all s end (cut (take (s + 1) offs) (take end all)))
      (e : t ≡ new_lists_from K start flags numbers (cut (take (s + 1) offs) (take end all)) (drop s (cut offsets targets))) where
    pub all-built : s ≤ K * rows → K * rows ≤ s → Built offs all (K * rows) end t
    unfolding new_lists_from
    all-built h k =
        let q : s ≡ K * rows = omega arith in
        let o : length (cut offsets targets) ≤ s = omega (arith, rows-length K rows offsets targets ok) in
        rw (← q, e, drop_of_length-le (cut offsets targets) o) b

    module _ (h : s < K * rows) (r : Option ℕ) (offs' all' : List ℕ)
        (x : Result r offs' all' (s + 1) (cut (take (s + 1) offs) (take end all)
        ++ (new_list K start flags numbers (s % K) (cut (take (s + 1) offs) (take end all)) (get_or (cut offsets targets) s []) ∷ []))) where
      turned : t ≡ new_lists_from K start flags numbers (more K start flags numbers (cut (take (s + 1) offs) (take end all)) s (cut offsets targets)) (drop (suc s) (cut offsets targets))
      turned =
          e ∙ ap (new_lists_from K start flags numbers (cut (take (s + 1) offs) (take end all))) (drop-cons (cut offsets targets) s [] (rw (rows-length K rows offsets targets ok) h))
          ∙ one-slot (cut (take (s + 1) offs) (take end all)) s (get_or (cut offsets targets) s []) (drop (suc s) (cut offsets targets)) b.count

      pub slots-full : r ≡ None → length all' < length (joined t)
      slots-full f =
          let w : length all' < length (joined (more K start flags numbers (cut (take (s + 1) offs) (take end all)) s (cut offsets targets))) = rw f at x in
          rw turned (le_trans w (lists-grow (more K start flags numbers (cut (take (s + 1) offs) (take end all)) s (cut offsets targets)) (drop (suc s) (cut offsets targets))))

      module _ (m : ℕ) (f : r ≡ Some m) where
        built : Built offs' all' (s + 1) m (more K start flags numbers (cut (take (s + 1) offs) (take end all)) s (cut offsets targets))
        built = rw f at x

        pub slots-built : Built offs' all' (s + 1) m (cut (take (s + 1 + 1) offs') (take m all'))
        slots-built = built-same offs' all' (s + 1) m (more K start flags numbers (cut (take (s + 1) offs) (take end all)) s (cut offsets targets)) built

        pub slots-more : t ≡ new_lists_from K start flags numbers (cut (take (s + 1 + 1) offs') (take m all')) (drop (s + 1) (cut offsets targets))
        slots-more =
            turned
            ∙ ap (λ (n : ℕ). new_lists_from K start flags numbers (more K start flags numbers (cut (take (s + 1) offs) (take end all)) s (cut offsets targets))
            (drop n (cut offsets targets))) (sym (add-one s))
            ∙ ap (λ (ls : List (List ℕ)). new_lists_from K start flags numbers ls (drop (s + 1) (cut offsets targets)))
            (sym (built-cut offs' all' (s + 1) m (more K start flags numbers (cut (take (s + 1) offs) (take end all)) s (cut offsets targets)) built))

-- ── all slots ────────────────────────────────────────────────────────────────────────────────

pub begins : (offs all : List ℕ) (n : ℕ) → n < length offs → Built (set offs 0 0) all 0 0 []
unfolding starts joined
begins [] all n h = absurd (omega arith)
begins (x ∷ xs) all n h = record { count = refl; room = omega arith; filled = omega arith; begins = refl; entries = refl }

-- a length after a store
pub same_after : (x y : List ℕ) (i v : ℕ) → length x ≡ length (set y i v) → length x ≡ length y
same_after x y i v e = e ∙ simp length-set

pub lists_named : (K : ℕ) (r : Option ℕ) (offs all : List ℕ) (s start : ℕ) (flags numbers : List ℕ) (slots : List (List ℕ))
    → Result r offs all s (new_lists_from K start flags numbers [] slots) → numbers ≡ numbers_from start flags → Result r offs all s (new_lists K start flags slots)
unfolding new_lists
lists_named K r offs all s start flags numbers slots k e = rw e at k
