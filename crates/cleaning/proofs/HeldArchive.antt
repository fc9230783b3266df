-- The archive that a run holds is the archive of its sources.
use mathlib.Core.Path.{◌≡◌, refl, ap, sym, ◌∙◌}
use mathlib.Core.List.{List, [], ◌∷◌, ◌++◌, foldl, append-nil, append_assoc}
use mathlib.Core.Option.{Option, none, some}
use Prim.Native.Nat.{ℕ, ◌<◌}
use native.Mathlib.Omega.{arith}
use lib.ListN.{length}
use Rattle.columns.specs.Limits.{Served}
use Rattle.lists.specs.Lists.{flat, is_empty, up_from}
use Rattle.cleaning.specs.Source.{Source}
use Rattle.cleaning.specs.Archive.{Taken, add_source, groups_of, archive_of}
use Rattle.cleaning.specs.Sheet.{groups_from, groups_of_sheet}
use Rattle.cleaning.specs.Held.{Held, nothing, sheet_with, held_with, held_of, archive_held}
use Rattle.cleaning.proofs.Taken.{Followed}
use Rattle.cleaning.proofs.Events.{events_in}
use Rattle.cleaning.proofs.HeldRows.{HeldLast, HeldTo, ready, held_with_lem, start-stays, subject-stays}
use Rattle.cleaning.proofs.HeldEvents.{events-with}
use Rattle.cleaning.proofs.HeldGroups.{groups-with}

events-after : (K : ℕ) (served : Served K) (t : Taken) (before : Option Source) (h : Held) (ss : List Source) → HeldTo K before h → Followed K before ss
    → (archive_held K (foldl held_with h ss)).events ≡ (archive_held K h).events ++ flat (events_in K t) ss
events-after K served t before h [] e f = sym (append-nil (archive_held K h).events)
events-after K served t before h (s ∷ ss) e f =
    let q = ready K served before h s e f.1 in
    events-after K served t (some s) (held_with h s) ss (held_with_lem K served h s q f.0) f.2
    ∙ ap (λ es. es ++ flat (events_in K t) ss) (events-with K served h s q f.0 t) ∙ append_assoc (archive_held K h).events (events_in K t s) (flat (events_in K t) ss)

groups-after : (K : ℕ) (served : Served K) (before : Option Source) (h : Held) (ss : List Source) → HeldTo K before h → Followed K before ss
    → groups_of_sheet (foldl held_with h ss).sheet ≡ foldl add_source (groups_of_sheet h.sheet) ss
groups-after K served before h [] e f = refl
groups-after K served before h (s ∷ ss) e f =
    let q = ready K served before h s e f.1 in
    groups-after K served (some s) (held_with h s) ss (held_with_lem K served h s q f.0) f.2 ∙ ap (λ gs. foldl add_source gs ss) (groups-with K served h s q)

-- start and subject are those of the first source
heads-after : (K : ℕ) (served : Served K) (r : Source) (h : Held) (ss : List Source) → HeldLast K r h → Followed K (some r) ss
    → ((foldl held_with h ss).sheet.start ≡ h.sheet.start) × ((foldl held_with h ss).sheet.subject ≡ h.sheet.subject)
unfolding held_with
heads-after K served r h [] e f = (refl, refl)
heads-after K served r h (s ∷ ss) e f =
    let l : 0 < length h.sheet.groups = omega (arith, e.groups) in
    let g = heads-after K served s (held_with h s) ss (held_with_lem K served h s (ready K served (some r) h s e f.1) f.0) f.2 in
    (g.0 ∙ start-stays h s l, g.1 ∙ subject-stays h s l)

-- with a source at all
heads-held : (K : ℕ) (served : Served K) (s : Source) (ss : List Source) → Followed K none (s ∷ ss)
    → ((held_of (s ∷ ss)).sheet.start ≡ s.first) × ((held_of (s ∷ ss)).sheet.subject ≡ s.subject)
unfolding held_of held_with sheet_with nothing is_empty
heads-held K served s ss f = heads-after K served s (held_with nothing s) ss (held_with_lem K served nothing s (ready K served none nothing s refl f.1) f.0) f.2

pub archive-held : (K : ℕ) (served : Served K) (ss : List Source) → Followed K none ss → archive_held K (held_of ss) ≡ archive_of K (record { sources = ss })
unfolding archive_held archive_of held_of nothing groups_of groups_of_sheet groups_from up_from
archive-held K served [] f = refl
archive-held K served (s ∷ ss) f = let t : Taken = record { sources = s ∷ ss } in λ i. record {
  start = (heads-held K served s ss f).0 i;
  subject = (heads-held K served s ss f).1 i;
  groups = groups-after K served none nothing (s ∷ ss) refl f i;
  events = events-after K served t none nothing (s ∷ ss) refl f i;
}
