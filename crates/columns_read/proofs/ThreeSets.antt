-- A granule's limits and rules in parts, and what is answered of them.
use Rattle.std.specs.Prelude.{Err, Ok, Result}
use mathlib.Core.Path.{◌≡◌, refl, sym, ◌∙◌, ap}
use mathlib.Core.Bool.{Bool, true, false, ◌||◌, or-false, or_comm}
use mathlib.Core.List.{List, [], ◌∷◌, ◌++◌}
use mathlib.Core.Option.{none}
use Prim.Native.Nat.{ℕ, ◌≤◌, ◌<◌}
use native.Mathlib.Omega.{arith}
use lib.Dec.{ltb}
use lib.ListN.{length}
use lib.Seq.{sets}
use borrow.Author.Tests.{lt-ltb, le-ltb, ltb-false}
use Rattle.lists.specs.Lists.{any, joined}
use Rattle.lists.proofs.Tests.{any_append}
use Rattle.lists.proofs.Once.{or-is-false}
use Rattle.lists.proofs.Slices.{sets-front}
use Rattle.columns.specs.Limits.{max_numbers}
use Rattle.columns.specs.Refusal.{accepted, refused, unless, first_of, short, limits}
use Rattle.columns.specs.EdgeSet.{EdgeSet, forward, reverse, inbound}
use Rattle.columns.specs.Reading.{slots_of, set_rules, set_lengths, label_rules, cover_rules, label_lengths, idle_labels, column_lengths, granule_rules, granule_of, read_beside}
use Rattle.columns.specs.Answers.{label_columns, limits_of, both_rules, ruling, written_over}
use Rattle.columns_read.specs.Granules.{cover_of, granule_columns, rooms, sets_rules, lent_granule_rules, read_columns, counts_of, decoded_of, set_in}
use Rattle.columns.specs.Readable.{Readable}
use Rattle.columns_read.specs.declared.Head.{Head}
use Rattle.columns_read.specs.declared.Counts.{Counts}
use Rattle.columns.specs.declared.refusal.Refusal.{Refusal}
use Rattle.columns.specs.declared.refusal.Refusal.TheVariants.{SliceShort}
use Rattle.columns.proofs.FirstBroken.{each_none, not-refused}
use Rattle.columns.proofs.Checks.{first-append, then-rest, then-broken, over_none, few-deltas, readable-few}
use Rattle.columns.proofs.Told.{last-rule, told-kept, told}

-- ── limits ───────────────────────────────────────────────────────────────────────────────────

module _ (fo fd ro rd io id chains seqs : ℕ) (a : Bool) (e : a ≡ any (ltb max_numbers) (fo ∷ fd ∷ ro ∷ rd ∷ [])) where
  split : any (ltb max_numbers) (fo ∷ fd ∷ ro ∷ rd ∷ io ∷ id ∷ chains ∷ seqs ∷ []) ≡ a || any (ltb max_numbers) (io ∷ id ∷ chains ∷ seqs ∷ [])
  split = any_append (ltb max_numbers) (fo ∷ fd ∷ ro ∷ rd ∷ []) (io ∷ id ∷ chains ∷ seqs ∷ []) ∙ rw e

  pub four-over : a ≡ true → true ≡ any (ltb max_numbers) (fo ∷ fd ∷ ro ∷ rd ∷ io ∷ id ∷ chains ∷ seqs ∷ [])
  four-over h = rw (split, h)

  pub others-over : a ≡ false → (r : Bool) → r ≡ any (ltb max_numbers) (io ∷ id ∷ chains ∷ seqs ∷ []) → r ≡ any (ltb max_numbers) (fo ∷ fd ∷ ro ∷ rd ∷ io ∷ id ∷ chains ∷ seqs ∷ [])
  others-over h r f = rw (split, h) f

module _ (f r i : ℕ) where
  pub first_short : f < 4096 → true ≡ any short (rooms f r i)
  unfolding any short
  first_short h = rw (lt-ltb f 4096 h)

  module _ (h : 4096 ≤ f) where
    pub second_short : r < 4096 → true ≡ any short (rooms f r i)
    unfolding any short
    second_short k = rw (le-ltb f 4096 h, lt-ltb r 4096 k)

    pub third-short : 4096 ≤ r → ltb i 4096 ≡ any short (rooms f r i)
    unfolding any short
    third-short k = rw (le-ltb f 4096 h, le-ltb r 4096 k, or-false (ltb i 4096))

-- ── rules ────────────────────────────────────────────────────────────────────────────────────

module _ (rows : ℕ) (cover : Bool) (chains seqs : List ℕ) where
  pub covered : cover ≡ true → (q : Result (Unit {0}) Refusal) → q ≡ ruling (label_rules rows (label_columns chains seqs)) → q ≡ ruling (cover_rules rows (cover_of cover chains seqs))
  covered c q e = rw c e

  pub uncovered : cover ≡ false → (Ok tt) ≡ ruling (cover_rules rows (cover_of cover chains seqs))
  uncovered c = rw c

module _ (K : ℕ) (h : Head) (sf sr si : EdgeSet) where
  module _ (k : Result (Unit {0}) Refusal) (e : k ≡ ruling (set_rules K 0 h.first h.rows h.end sf)) where
    pub sets-kept : k ≡ Ok tt → (q : Result (Unit {0}) Refusal) → q ≡ ruling (both_rules K h.first h.rows h.end sr si)
        → q ≡ ruling (sets_rules K h sf sr si)
    unfolding sets_rules both_rules
    sets-kept g q f = then-rest k _ _ e g q f

    pub sets-broken : (why : Refusal) → k ≡ Err why → Err why ≡ ruling (sets_rules K h sf sr si)
    unfolding sets_rules
    sets-broken why g = then-broken k _ _ e why g

  module _ (chains seqs : List ℕ) where
    edges_are : granule_rules K h.first h.rows h.end (granule_columns h sf sr si chains seqs)
        ≡ first_of (sets_rules K h sf sr si ∷ cover_rules h.rows (cover_of h.cover chains seqs) ∷ [])
    unfolding granule_rules sets_rules
    edges_are =
        first-append (set_rules K forward h.first h.rows h.end sf
        ∷ set_rules K reverse h.first h.rows h.end sr
        ∷ set_rules K inbound h.first h.rows h.end si
        ∷ []) (cover_rules h.rows (cover_of h.cover chains seqs) ∷ [])

    module _ (k : Result (Unit {0}) Refusal) (e : k ≡ ruling (sets_rules K h sf sr si)) where
      pub edges-kept : k ≡ Ok tt → (q : Result (Unit {0}) Refusal) → q ≡ ruling (cover_rules h.rows (cover_of h.cover chains seqs))
          → q ≡ ruling (granule_rules K h.first h.rows h.end (granule_columns h sf sr si chains seqs))
      edges-kept g q f = rw edges_are (then-rest k _ _ e g q (f ∙ ap ruling (sym (last-rule (cover_rules h.rows (cover_of h.cover chains seqs))))))

      pub edges-broken : (why : Refusal) → k ≡ Err why → Err why ≡ ruling (granule_rules K h.first h.rows h.end (granule_columns h sf sr si chains seqs))
      edges-broken why g = rw edges_are (then-broken k _ _ e why g)

    -- the label columns count, read or not
    lengths-are : any (ltb max_numbers) (idle_labels h.cover chains seqs ++ column_lengths (granule_columns h sf sr si chains seqs))
        ≡ any (ltb max_numbers) (length sf.offsets ∷ length sf.deltas ∷ length sr.offsets ∷ length sr.deltas ∷ length si.offsets ∷ length si.deltas ∷ length chains ∷ length seqs ∷ [])
    unfolding column_lengths set_lengths
    lengths-are = go h.cover
      where
        go : (b : Bool) → any (ltb max_numbers) (idle_labels b chains seqs
            ++ (length sf.offsets ∷ length sf.deltas ∷ length sr.offsets ∷ length sr.deltas ∷ length si.offsets ∷ length si.deltas ∷ label_lengths (cover_of b chains seqs)))
            ≡ any (ltb max_numbers) (length sf.offsets ∷ length sf.deltas ∷ length sr.offsets ∷ length sr.deltas ∷ length si.offsets ∷ length si.deltas ∷ length chains ∷ length seqs ∷ [])
        go true = refl
        go false =
            let edges : List ℕ = length sf.offsets ∷ length sf.deltas ∷ length sr.offsets ∷ length sr.deltas ∷ length si.offsets ∷ length si.deltas ∷ [] in
            let labels : List ℕ = length chains ∷ length seqs ∷ [] in
            any_append (ltb max_numbers) labels edges ∙ or_comm (any (ltb max_numbers) labels) (any (ltb max_numbers) edges)
            ∙ sym (any_append (ltb max_numbers) edges labels)

    module _ (tight over : Bool) (k : Result (Unit {0}) Refusal)
        (f : over ≡ any (ltb max_numbers) (length sf.offsets ∷ length sf.deltas ∷ length sr.offsets ∷ length sr.deltas ∷ length si.offsets ∷ length si.deltas ∷ length chains ∷ length seqs ∷ []))
        (e : k ≡ ruling (limits_of h.rows over tight)) where
      in_limits : k ≡ ruling (limits_of h.rows (any (ltb max_numbers) (idle_labels h.cover chains seqs ++ column_lengths (granule_columns h sf sr si chains seqs))) tight)
      in_limits = rw (lengths-are, ← f) e

      pub granule-kept : k ≡ Ok tt → (q : Result (Unit {0}) Refusal) → q ≡ ruling (granule_rules K h.first h.rows h.end (granule_columns h sf sr si chains seqs))
          → q ≡ ruling (lent_granule_rules K h sf sr si chains seqs tight)
      unfolding lent_granule_rules
      granule-kept g q p = then-rest k _ _ in_limits g q (p ∙ ap ruling (sym (last-rule (granule_rules K h.first h.rows h.end (granule_columns h sf sr si chains seqs)))))

      pub granule-broken : (why : Refusal) → k ≡ Err why → Err why ≡ ruling (lent_granule_rules K h sf sr si chains seqs tight)
      unfolding lent_granule_rules
      granule-broken why g = then-broken k _ _ in_limits why g

    -- ── a granule whose rules are kept ─────────────────────────────────────────────────────────

    module _ (tight : Bool) (k : Result (Unit {0}) Refusal) (e : k ≡ ruling (lent_granule_rules K h sf sr si chains seqs tight)) where
      module _ (g : k ≡ Ok tt) where
        parts : (limits_of h.rows (any (ltb max_numbers) (idle_labels h.cover chains seqs ++ column_lengths (granule_columns h sf sr si chains seqs))) tight ≡ none)
            × (granule_rules K h.first h.rows h.end (granule_columns h sf sr si chains seqs) ≡ none)
        unfolding lent_granule_rules
        parts = let p = each_none _ (told-kept _ e g) in (p.0, p.1.0)

        few : (any (ltb max_numbers) (set_lengths sf) ≡ false)
            × (any (ltb max_numbers) (set_lengths sr) ≡ false)
            × (any (ltb max_numbers) (set_lengths si) ≡ false)
        unfolding column_lengths
        few =
            let m = ltb max_numbers in
            let f = set_lengths sf in
            let r = set_lengths sr in
            let i = set_lengths si in
            let l = label_lengths (cover_of h.cover chains seqs) in
            let o = or-is-false (any m (idle_labels h.cover chains seqs)) _ (sym (any_append m (idle_labels h.cover chains seqs) (f ++ (r ++ (i ++ l))))
            ∙ over_none h.rows _ tight parts.0) in
            let p = or-is-false _ _ (sym (any_append m f (r ++ (i ++ l))) ∙ o.1) in
            let q = or-is-false _ _ (sym (any_append m r (i ++ l)) ∙ p.1) in
            let s = or-is-false _ _ (sym (any_append m i l) ∙ q.1) in
            (p.0, q.0, s.0)

        kept : (set_rules K forward h.first h.rows h.end sf ≡ none)
            × (set_rules K reverse h.first h.rows h.end sr ≡ none)
            × (set_rules K inbound h.first h.rows h.end si ≡ none)
        unfolding granule_rules
        kept = let p = each_none _ parts.1 in (p.0, p.1.0, p.1.1.0)

        pub forward-readable : Readable K h.first sf
        forward-readable = record { set = forward; rows = h.rows; end = h.end; kept = kept.0; few = few-deltas _ few.0 }

        pub reverse-readable : Readable K h.first sr
        reverse-readable = record { set = reverse; rows = h.rows; end = h.end; kept = kept.1; few = few-deltas _ few.1 }

        pub inbound-readable : Readable K h.first si
        inbound-readable = record { set = inbound; rows = h.rows; end = h.end; kept = kept.2; few = few-deltas _ few.2 }

      -- ── the answer ───────────────────────────────────────────────────────────────────────────

      -- a host names the number of kinds, and W is that number
      module _ (W : ℕ) (w : K ≡ W) (f r i : ℕ) (t : tight ≡ any short (rooms f r i)) where
        lent-are : read_columns W h sf sr si chains seqs (rooms f r i)
            ≡ unless (lent_granule_rules K h sf sr si chains seqs tight) (granule_of K h.first (granule_columns h sf sr si chains seqs))
        unfolding read_beside lent_granule_rules limits limits_of
        lent-are = rw (← w, t)

        module _ (g : k ≡ Ok tt) where
          read_kept : read_columns W h sf sr si chains seqs (rooms f r i)
              ≡ accepted (granule_of K h.first (granule_columns h sf sr si chains seqs))
          unfolding unless
          read_kept = lent-are ∙ rw (told-kept (lent_granule_rules K h sf sr si chains seqs tight) e g)

          pub granule-counted : (n : Counts)
              → n ≡ counts_of (slots_of K h.first sf) (slots_of K h.first sr) (slots_of K h.first si)
              → Ok n ≡ decoded_of (read_columns W h sf sr si chains seqs (rooms f r i))
          unfolding decoded_of granule_of
          granule-counted n p = rw (read_kept, p)

          long : (max_numbers ≤ f) × (max_numbers ≤ r) × (max_numbers ≤ i)
          unfolding any short limits_of
          long =
              let a = or-is-false (ltb f max_numbers) _ (sym t ∙ not-refused SliceShort tight (each_none _ (parts g).0).1.1.0) in
              let b = or-is-false (ltb r max_numbers) _ a.1 in
              (ltb-false f max_numbers a.0, ltb-false r max_numbers b.0, ltb-false i max_numbers (or-is-false (ltb i max_numbers) _ b.1).0)

          module _ (old out : List ℕ) where
            pub forward-written : length old ≡ f → out ≡ sets old 0 (joined (slots_of K h.first sf))
                → out ≡ written_over old (set_in 0 (read_columns W h sf sr si chains seqs (rooms f r i)))
            unfolding set_in written_over granule_of
            forward-written q p = rw read_kept (p ∙ sets-front old (joined (slots_of K h.first sf))
                (omega (arith, long.0, readable-few K h.first sf (forward-readable g))))

            pub reverse-written : length old ≡ r → out ≡ sets old 0 (joined (slots_of K h.first sr))
                → out ≡ written_over old (set_in 1 (read_columns W h sf sr si chains seqs (rooms f r i)))
            unfolding set_in written_over granule_of
            reverse-written q p = rw read_kept (p ∙ sets-front old (joined (slots_of K h.first sr))
                (omega (arith, long.1, readable-few K h.first sr (reverse-readable g))))

            pub inbound-written : length old ≡ i → out ≡ sets old 0 (joined (slots_of K h.first si))
                → out ≡ written_over old (set_in 2 (read_columns W h sf sr si chains seqs (rooms f r i)))
            unfolding set_in written_over granule_of
            inbound-written q p = rw read_kept (p ∙ sets-front old (joined (slots_of K h.first si))
                (omega (arith, long.2, readable-few K h.first si (inbound-readable g))))

        module _ (why : Refusal) (g : k ≡ Err why) where
          read-broken : read_columns W h sf sr si chains seqs (rooms f r i) ≡ refused why
          unfolding unless
          read-broken = lent-are ∙ rw (told (lent_granule_rules K h sf sr si chains seqs tight) e g)

          pub granule-refused : Err why ≡ decoded_of (read_columns W h sf sr si chains seqs (rooms f r i))
          unfolding decoded_of
          granule-refused = rw read-broken

          pub granule-as-was : (set : ℕ) (old : List ℕ) → old ≡ written_over old (set_in set (read_columns W h sf sr si chains seqs (rooms f r i)))
          unfolding set_in written_over
          granule-as-was set old = rw read-broken

-- three figures at once
pub three-counted : (f r i : List (List ℕ)) (a b c : ℕ) → a ≡ length (joined f) → b ≡ length (joined r) → c ≡ length (joined i)
    → ◌≡◌ {A = Counts} (record { forward = a; reverse = b; inbound = c }) (counts_of f r i)
three-counted f r i a b c p q s = rw (p, q, s)
