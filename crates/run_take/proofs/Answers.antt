-- What a taking hands back: the run that came, or the run with the archive's files more.
use Rattle.std.specs.Prelude.{Err, Ok, Result}
use mathlib.Core.Path.{◌≡◌, refl, sym}
use mathlib.Core.Bool.{true}
use mathlib.Core.List.{List, [], ◌∷◌, map, foldl}
use mathlib.Core.Option.{none, none-ne-some}
use Prim.Native.Nat.{ℕ, suc, ◌<◌}
use lib.ListN.{get_or}
use mir.Val.{Fits}
use mir.Syntax.{w8}
use Rattle.columns.specs.Limits.{kinds}
use Rattle.lists.specs.Lists.{Each}
use Rattle.columns.specs.Refusal.{refused, accepted, unless}
use Rattle.columns.specs.declared.refusal.Refusal.{Refusal}
use Rattle.columns.specs.declared.refusal.Refusal.TheVariants.{RecordBroken}
use Rattle.columns.specs.Answers.{ruling}
use Rattle.columns.proofs.Told.{told, told-kept}
use Rattle.archive.specs.File.{File}
use Rattle.archive.specs.Fits.{FileFits}
use Rattle.archive.specs.Reader.{Parsed, broken, got}
use Rattle.archive.specs.Parse.{parse}
use Rattle.archive.proofs.Faithful.{parse-fits}
use Rattle.cleaning.specs.Source.{source_of}
use Rattle.cleaning.specs.Held.{held_with, hold_rules, hold_more}
use Rattle.cleaning.specs.Held as run
use Rattle.cleaning.specs.History.{files_in}
use Rattle.run_state.specs.declared.Held.{Held}
use Rattle.run_state.specs.View.{held_in}
use Rattle.run_state.specs.Valid.{held_ok}
use Rattle.run_state.specs.order.Ordered.{ordered}
use Rattle.run_store.specs.turns.Going.{is_got, held_after}
use Rattle.run_take.specs.Took.{archive_rules, TookBy}

-- ── the bytes of an archive are bytes ────────────────────────────────────────────────────────

each-byte : (l : List ℕ) → ((i : ℕ) → Fits w8 (get_or l i 0)) → Each (λ b. b < 256) l
each-byte [] h = tt
each-byte (x ∷ xs) h = ((h 0).fits, each-byte xs (λ i. h (suc i)))

pub files-fit : (l : List ℕ) → ((i : ℕ) → Fits w8 (get_or l i 0)) → Each (FileFits kinds) (files_in (parse kinds l))
files-fit l h = go (parse kinds l) refl
  where
    go : (o : Parsed (List File)) → parse kinds l ≡ o → Each (FileFits kinds) (files_in o)
    go broken e = tt
    go (got fs end) e = parse-fits kinds l fs end (each-byte l h) e

-- ── refused, accepted ────────────────────────────────────────────────────────────────────────

-- the steps of a taking are those of its definition
verdict-is : (h : run.Held) (o : Parsed (List File)) → hold_more kinds h o ≡ unless (archive_rules h o) (foldl held_with h (map (source_of kinds) (files_in o)))
unfolding archive_rules unless
verdict-is h broken = refl
verdict-is h (got fs end) = refl

archive-kept : (h : run.Held) (o : Parsed (List File)) → archive_rules h o ≡ none → (hold_rules kinds h (files_in o) ≡ none) × (is_got o ≡ true)
unfolding archive_rules
archive-kept h broken e = absurd (none-ne-some RecordBroken (sym e))
archive-kept h (got fs end) e = (e, refl)

module _ (h : Held) (o : Parsed (List File)) {r : Result (Unit {0}) Refusal} (v : r ≡ ruling (archive_rules (held_in h) o)) where
  -- why it is refused
  pub not-held : {x : Refusal} → r ≡ Err x → hold_more kinds (held_in h) o ≡ refused x
  unfolding unless
  not-held q = rw (verdict-is (held_in h) o, told (archive_rules (held_in h) o) v q)

  pub is-refused : {x : Refusal} → r ≡ Err x → {t : Result Held Refusal} → t ≡ Err x → TookBy (hold_more kinds (held_in h) o) t
  unfolding unless
  is-refused q i = rw (verdict-is (held_in h) o, told (archive_rules (held_in h) o) v q) i

  module _ (q : r ≡ Ok tt) where
    kept : archive_rules (held_in h) o ≡ none
    kept = told-kept (archive_rules (held_in h) o) v q

    pub rules-kept : hold_rules kinds (held_in h) (files_in o) ≡ none
    rules-kept = (archive-kept (held_in h) o kept).0

    pub is-archive : is_got o ≡ true
    is-archive = (archive-kept (held_in h) o kept).1

    -- what is held after it
    pub now-held : hold_more kinds (held_in h) o ≡ accepted (held_after h o)
    unfolding unless
    now-held = rw (verdict-is (held_in h) o, kept)

    pub is-accepted : (k : Held) → held_in k ≡ held_after h o → held_ok k ≡ true → ordered k.sheet ≡ true → TookBy (hold_more kinds (held_in h) o) (Ok k)
    unfolding unless
    is-accepted k a b c = rw (verdict-is (held_in h) o, kept) (k, refl, a, b, c)
