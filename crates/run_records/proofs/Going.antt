-- The groups from one on: their rules and the bytes of their files. All are those from group 0 on; one turn of each loop goes from g to g + 1.
use Rattle.std.specs.Prelude.{Err, Ok, Result}
use mathlib.Core.Path.{◌≡◌, refl, sym, ap, ◌∙◌}
use mathlib.Core.List.{List, [], ◌∷◌, ◌++◌, map}
use mathlib.Core.Option.{Option, none, some}
use Prim.Native.Nat.{ℕ, suc, ◌+◌, ◌-◌, ◌*◌, ◌≤◌, ◌<◌}
use native.Mathlib.Numerals.{add-one}
use native.Mathlib.Omega.{arith}
use mir.Syntax.{w64}
use mir.Val.{Fits}
use lib.ListN.{length, length-append}
use Rattle.columns.specs.Limits.{kinds}
use Rattle.lists.specs.Lists.{up_from}
use Rattle.columns.specs.Refusal.{first_of, first_in}
use Rattle.columns.specs.Building.{build_rules}
use Rattle.columns.specs.declared.refusal.Refusal.{Refusal}
use Rattle.archive.specs.Encode.{file_bytes, encode}
use Rattle.cleaning.specs.Sheet.{Sheet}
use Rattle.cleaning.specs.Sections.{section_graph, section_file, section_rules, section_bytes}
use Rattle.columns.specs.Answers.{ruling}
use Rattle.columns.proofs.Told.{last-rule, told, told-kept}
use Rattle.run_section.specs.Measures.{ruled, MeasuredGroup}
use Rattle.run_records.specs.Lengths.{MeasuredBy}

-- ── the rest ─────────────────────────────────────────────────────────────────────────────────

-- of the groups from g up to n
unfoldable pub rules_from : Sheet → ℕ → ℕ → Option Refusal
rules_from s g n = first_in (λ k. build_rules kinds (section_graph kinds s k)) (up_from g (n - g))

unfoldable pub bytes_from : Sheet → ℕ → ℕ → List ℕ
bytes_from s g n = encode (map (section_file kinds s) (up_from g (n - g)))

module _ (s : Sheet) (g n : ℕ) where
  no_more : n ≤ g → up_from g (n - g) ≡ []
  unfolding up_from
  no_more h = let e : n - g ≡ 0 = omega arith in ap (up_from g) e

  more : g < n → up_from g (n - g) ≡ g ∷ up_from (suc g) (n - suc g)
  unfolding up_from
  more h = let e : n - g ≡ suc (n - suc g) = omega arith in ap (up_from g) e

  pub rules-end : n ≤ g → rules_from s g n ≡ none
  unfolding rules_from first_in
  rules-end h = rw (no_more h)

  pub bytes-end : n ≤ g → bytes_from s g n ≡ []
  unfolding bytes_from encode
  bytes-end h = rw (no_more h)

  pub rules-next : g < n → build_rules kinds (section_graph kinds s g) ≡ none → rules_from s g n ≡ rules_from s (suc g) n
  unfolding rules_from first_in first_of
  rules-next h e = rw (more h, e) (last-rule (first_in (λ k. build_rules kinds (section_graph kinds s k)) (up_from (suc g) (n - suc g))))

  pub rules-broken : g < n → (x : Refusal) → build_rules kinds (section_graph kinds s g) ≡ some x → rules_from s g n ≡ some x
  unfolding rules_from first_in first_of
  rules-broken h x e = rw (more h, e)

  pub rules-first : g < n → rules_from s g n ≡ none → build_rules kinds (section_graph kinds s g) ≡ none
  unfolding rules_from first_in first_of
  rules-first h e = go (build_rules kinds (section_graph kinds s g)) (sym (rw (more h) refl) ∙ e)
    where
      go : (r : Option Refusal) → first_of (r ∷ (first_in (λ k. build_rules kinds (section_graph kinds s k)) (up_from (suc g) (n - suc g)) ∷ [])) ≡ none → r ≡ none
      go none d = refl
      go (some x) d = let z : ◌≡◌ {A = ℕ} 0 1 = cc in absurd (omega arith)

  pub bytes_next : g < n → bytes_from s g n ≡ file_bytes (section_file kinds s g) ++ bytes_from s (suc g) n
  unfolding bytes_from encode
  bytes_next h = rw (more h)

-- what the loop has come to at group g of n
pub record Going (s : Sheet) (n g total : ℕ) : Type 0 where
  pub rules_left : section_rules kinds s ≡ rules_from s g n
  pub bytes_left : length (section_bytes kinds s) ≡ total + length (bytes_from s g n)
  pub so_far : total ≤ g * 223606
  pub few : n ≤ 16

-- ── one turn ─────────────────────────────────────────────────────────────────────────────────

module _ (s : Sheet) (g n total : ℕ) {m : Result ℕ Refusal} (measured : MeasuredGroup s g m) (h : g < n) where
  module _ {k : ℕ} (e : m ≡ Ok k) where
    kept : build_rules kinds (section_graph kinds s g) ≡ none
    kept = told-kept (build_rules kinds (section_graph kinds s g)) measured.rules (ap ruled e)

    two-lengths : length (bytes_from s g n) ≡ k + length (bytes_from s (g + 1) n)
    two-lengths =
        ap length (bytes_next s g n h ∙ ap (λ k. file_bytes (section_file kinds s g) ++ bytes_from s k n) (sym (add-one g)))
        ∙ length-append (file_bytes (section_file kinds s g)) (bytes_from s (g + 1) n) ∙ ap (λ l. l + length (bytes_from s (g + 1) n)) (sym (measured.length_is e))

    pub going_on : Going s n g total → Going s n (g + 1) (total + k)
    going_on w = record {
      rules_left = w.rules_left ∙ rules-next s g n h kept ∙ ap (λ k. rules_from s k n) (sym (add-one g));
      bytes_left = omega (arith, w.bytes_left, two-lengths);
      so_far = omega (arith, w.so_far, measured.few e);
      few = w.few;
    }

    pub total-fits : Going s n g total → Fits w64 (total + k)
    total-fits w = record { fits = omega (arith, w.so_far, w.few, measured.few e) }

  pub all-broken : (x : Refusal) → m ≡ Err x → Going s n g total → {r : Result ℕ Refusal} → r ≡ Err x → MeasuredBy s r
  all-broken x b w {r} i = record {
    rules = ap ruled i ∙ rw (w.rules_left, rules-broken s g n h x (told (build_rules kinds (section_graph kinds s g)) measured.rules (ap ruled b)));
    length_is = λ {n} e. absurd (let z : ◌≡◌ {A = ℕ} 0 1 = cc in omega arith);
  }

-- ── where the loop starts and ends ───────────────────────────────────────────────────────────

module _ (s : Sheet) (n : ℕ) (e : n ≡ length s.groups) (few : n ≤ 16) where
  pub going-starts : Going s n 0 0
  unfolding section_rules rules_from section_bytes bytes_from
  going-starts =
      let d : n - 0 ≡ n = omega arith in
      record {
        rules_left = rw (d, e);
        bytes_left = rw (d, e) (omega arith);
        so_far = omega arith;
        few = few;
      }

pub going-ends : (s : Sheet) (g n total : ℕ) → n ≤ g → Going s n g total → MeasuredBy s (Ok total)
going-ends s g n total h w = record {
  rules = rw (w.rules_left, rules-end s g n h);
  length_is = λ {n = k} e. let i : k ≡ total = cc in omega (arith, w.bytes_left, ap length (bytes-end s g n h));
}
