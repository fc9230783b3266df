-- The limits of building, and its first rules after them.
use Rattle.std.specs.Prelude.{Err, Ok, Result}
use mathlib.Core.Path.{◌≡◌, refl, sym, ◌∙◌, ap}
use mathlib.Core.Bool.{Bool, true, false, ◌||◌, or-false, or_comm}
use mathlib.Core.List.{List, [], ◌∷◌, ◌++◌}
use mathlib.Core.Option.{Option}
use Prim.Native.Nat.{ℕ, ◌≤◌, ◌<◌}
use lib.Dec.{ltb}
use lib.ListN.{length}
use borrow.Author.Tests.{lt-ltb, le-ltb, ltb-false}
use Rattle.lists.specs.Lists.{any}
use Rattle.lists.proofs.Once.{or-is-false}
use Rattle.lists.proofs.Tests.{any_append}
use Rattle.columns.specs.Limits.{max_numbers}
use Rattle.columns.specs.Refusal.{first_of, short}
use Rattle.columns.specs.Reading.{Labels, label_lengths, idle_labels}
use Rattle.columns.specs.Building.{Depth, record_count}
use Rattle.columns.specs.declared.refusal.Refusal.{Refusal}
use Rattle.columns.specs.declared.refusal.Refusal.TheVariants.{SliceShort, OverRecords, OverNumbers}
use Rattle.columns.proofs.FirstBroken.{each_none, not-refused}
use Rattle.columns.specs.Answers.{ruling}
use Rattle.columns_rules.specs.Ruled.{file_rules}
use Rattle.columns.proofs.Told.{told-kept, stops-here, goes_on}
use Rattle.columns_rules.specs.records.Recorded.{labels_given, record_rules}
use Rattle.columns_encode.specs.Encoded.{rooms, limit_rules, input_rules, early_rules}

-- ── lengths ──────────────────────────────────────────────────────────────────────────────────

module _ (o t c p k chains seqs : ℕ) (a : Bool) (e : a ≡ any (ltb max_numbers) (o ∷ t ∷ c ∷ p ∷ [])) where
  split : any (ltb max_numbers) (o ∷ t ∷ c ∷ p ∷ k ∷ chains ∷ seqs ∷ []) ≡ a || (ltb max_numbers k || any (ltb max_numbers) (chains ∷ seqs ∷ []))
  unfolding any
  split = any_append (ltb max_numbers) (o ∷ t ∷ c ∷ p ∷ []) (k ∷ chains ∷ seqs ∷ []) ∙ rw e

  pub four-over : a ≡ true → true ≡ any (ltb max_numbers) (o ∷ t ∷ c ∷ p ∷ k ∷ chains ∷ seqs ∷ [])
  four-over h = rw (split, h)

  module _ (h : a ≡ false) where
    pub fifth-over : 4096 < k → true ≡ any (ltb max_numbers) (o ∷ t ∷ c ∷ p ∷ k ∷ chains ∷ seqs ∷ [])
    fifth-over g = rw (split, h, lt-ltb 4096 k g)

    pub labels-over : k ≤ 4096 → (r : Bool) → r ≡ any (ltb max_numbers) (chains ∷ seqs ∷ []) → r ≡ any (ltb max_numbers) (o ∷ t ∷ c ∷ p ∷ k ∷ chains ∷ seqs ∷ [])
    labels-over g r f = rw (split, h, le-ltb 4096 k g) f

module _ (o d : ℕ) where
  pub offsets-short : o < 2049 → true ≡ any short (rooms o d)
  unfolding any short
  offsets-short h = rw (lt-ltb o 2049 h)

  pub deltas-short : 2049 ≤ o → ltb d 4096 ≡ any short (rooms o d)
  unfolding any short
  deltas-short h = rw (le-ltb o 2049 h, or-false (ltb d 4096))

module _ (fo fd ro rd io id : ℕ) (a : Bool) (e : a ≡ any short (rooms fo fd)) where
  first_two : any short (rooms fo fd ++ (rooms ro rd ++ rooms io id)) ≡ a || any short (rooms ro rd ++ rooms io id)
  first_two = any_append short (rooms fo fd) (rooms ro rd ++ rooms io id) ∙ rw e

  pub forward-short : a ≡ true → true ≡ any short (rooms fo fd ++ (rooms ro rd ++ rooms io id))
  forward-short h = rw (first_two, h)

  module _ (h : a ≡ false) (b : Bool) (f : b ≡ any short (rooms ro rd)) where
    last-four : any short (rooms fo fd ++ (rooms ro rd ++ rooms io id)) ≡ b || any short (rooms io id)
    last-four = first_two ∙ rw h (any_append short (rooms ro rd) (rooms io id) ∙ rw f)

    pub reverse-short : b ≡ true → true ≡ any short (rooms fo fd ++ (rooms ro rd ++ rooms io id))
    reverse-short g = rw (last-four, g)

    pub inbound-short : b ≡ false → (r : Bool) → r ≡ any short (rooms io id) → r ≡ any short (rooms fo fd ++ (rooms ro rd ++ rooms io id))
    inbound-short g r k = rw (last-four, g) k

-- ── limits ───────────────────────────────────────────────────────────────────────────────────

module _ (rows records : ℕ) (over tight : Bool) where
  pub many-rows : 1024 < rows → Err OverRecords ≡ ruling (limit_rules rows records over tight)
  unfolding limit_rules first_of any
  many-rows h = rw (lt-ltb 1024 rows h)

  module _ (h : rows ≤ 1024) where
    pub many-records : 1024 < records → Err OverRecords ≡ ruling (limit_rules rows records over tight)
    unfolding limit_rules first_of any
    many-records g = rw (le-ltb 1024 rows h, lt-ltb 1024 records g)

    module _ (g : records ≤ 1024) where
      pub long-column : over ≡ true → Err OverNumbers ≡ ruling (limit_rules rows records over tight)
      unfolding limit_rules first_of any
      long-column f = rw (le-ltb 1024 rows h, le-ltb 1024 records g, f)

      module _ (f : over ≡ false) where
        pub short-slice : tight ≡ true → Err SliceShort ≡ ruling (limit_rules rows records over tight)
        unfolding limit_rules first_of any
        short-slice t = rw (le-ltb 1024 rows h, le-ltb 1024 records g, f, t)

        pub in_limits : tight ≡ false → (Ok tt) ≡ ruling (limit_rules rows records over tight)
        unfolding limit_rules first_of any
        in_limits t = rw (le-ltb 1024 rows h, le-ltb 1024 records g, f, t)

pub few_rows : (rows records : ℕ) (over tight : Bool) (r : Result (Unit {0}) Refusal) → r ≡ ruling (limit_rules rows records over tight) → r ≡ Ok tt → rows ≤ 1024
unfolding limit_rules any
few_rows rows records over tight r e h =
    ltb-false 1024 rows (or-is-false (ltb 1024 rows) _ (not-refused OverRecords _ (each_none _ (told-kept (limit_rules rows records over tight) e h)).0)).0

-- ── the limits, then 1 to 10 ─────────────────────────────────────────────────────────────────

module _ (subject : List ℕ) (first rows : ℕ) (offsets targets cs ks fs : List ℕ) (depth : Option Depth) (labels : Option Labels) {r : Result (Unit {0}) Refusal}
    (e : r ≡ ruling (file_rules subject first rows offsets targets)) where
  pub file-stops : (x : Refusal) → r ≡ Err x → Err x ≡ ruling (input_rules subject first rows offsets targets cs ks fs depth labels)
  unfolding input_rules
  file-stops x f = stops-here (file_rules subject first rows offsets targets) (record_rules first rows cs ks fs depth labels) e x f

  pub then-records : r ≡ Ok tt → {s : Result (Unit {0}) Refusal} → s ≡ ruling (record_rules first rows cs ks fs depth labels)
      → s ≡ ruling (input_rules subject first rows offsets targets cs ks fs depth labels)
  unfolding input_rules
  then-records f k = goes_on (file_rules subject first rows offsets targets) (record_rules first rows cs ks fs depth labels) e f k

-- the label columns count, read or not
counted : (o t c p k : ℕ) (labelled : Bool) (chains seqs : List ℕ)
    → any (ltb max_numbers) (idle_labels labelled chains seqs ++ (o ∷ t ∷ c ∷ p ∷ k ∷ label_lengths (labels_given labelled chains seqs)))
    ≡ any (ltb max_numbers) (o ∷ t ∷ c ∷ p ∷ k ∷ length chains ∷ length seqs ∷ [])
counted o t c p k true chains seqs = refl
counted o t c p k false chains seqs =
    let given : List ℕ = o ∷ t ∷ c ∷ p ∷ k ∷ [] in
    let labels : List ℕ = length chains ∷ length seqs ∷ [] in
    any_append (ltb max_numbers) labels given ∙ or_comm (any (ltb max_numbers) labels) (any (ltb max_numbers) given) ∙ sym (any_append (ltb max_numbers) given labels)

module _ (subject : List ℕ) (first rows : ℕ) (offsets targets cs ks fs : List ℕ) (depth : Option Depth) (labelled : Bool) (chains seqs : List ℕ) (c p k : ℕ) (tight : Bool)
    (over : Bool) (f : over ≡ any (ltb max_numbers) (length offsets ∷ length targets ∷ c ∷ p ∷ k ∷ length chains ∷ length seqs ∷ []))
    (records : ℕ) (g : records ≡ record_count cs ks fs) {r : Result (Unit {0}) Refusal} (e : r ≡ ruling (limit_rules rows records over tight)) where
  limited : limit_rules rows records over tight
      ≡ limit_rules rows (record_count cs ks fs) (any (ltb max_numbers)
      (idle_labels labelled chains seqs ++ (length offsets ∷ length targets ∷ c ∷ p ∷ k ∷ label_lengths (labels_given labelled chains seqs)))) tight
  limited = rw (counted (length offsets) (length targets) c p k labelled chains seqs, f, g)

  pub limits-stop : (x : Refusal) → r ≡ Err x → Err x ≡ ruling
      (early_rules (idle_labels labelled chains seqs) subject first rows offsets targets cs ks fs depth (labels_given labelled chains seqs) c p k tight)
  unfolding early_rules
  limits-stop x h = stops-here _ (input_rules subject first rows offsets targets cs ks fs depth (labels_given labelled chains seqs)) (e ∙ ap ruling limited) x h

  pub limits-then : r ≡ Ok tt → {s : Result (Unit {0}) Refusal} → s ≡ ruling (input_rules subject first rows offsets targets cs ks fs depth (labels_given labelled chains seqs))
      → s ≡ ruling (early_rules (idle_labels labelled chains seqs) subject first rows offsets targets cs ks fs depth (labels_given labelled chains seqs) c p k tight)
  unfolding early_rules
  limits-then h q = goes_on _ (input_rules subject first rows offsets targets cs ks fs depth (labels_given labelled chains seqs)) (e ∙ ap ruling limited) h q
