-- What cleaning and listing promise, said by numbers.
use Rattle.std.specs.Prelude.{Err, Ok, Result}
use mathlib.Core.Bool.{Bool, true, false, cond}
use mathlib.Core.List.{List, []}
use mathlib.Core.Path.{◌≡◌, refl, ap, ap₂, sym, ◌∙◌}
use Prim.Native.Nat.{ℕ, ◌≤◌, ◌<◌}
use native.Mathlib.Omega.{arith}
use lib.Dec.{ltb}
use borrow.Author.Tests.{lt-ltb, le-ltb}
use lib.ListN.{length, get_or, take}
use Rattle.columns.specs.declared.refusal.Refusal.{Refusal}
use Rattle.columns.specs.declared.refusal.Refusal.TheVariants.{SliceShort}
use Rattle.cleaning.specs.Step as step
use Rattle.run_write.specs.Answers.{Gives}
use Rattle.run_text.specs.numbers.Wrote.{Wrote}
use Rattle.messages.specs.words.Words.{table}
use Rattle.messages.proofs.Prefix.{all-of, front, behind}
use Rattle.ffi.specs.Numbers.{answer_of, refusal_of}
use Rattle.ffi.specs.declared.answer.Answer.{Answer}
use Rattle.ffi_clean.specs.Whole.{numbered, bytes_of, words_from, GivesBy}

-- an answer, by the number of its writing
module _ {made : step.Bytes → step.Answer} (taken : (w : step.Bytes) → refusal_of (made w) ≡ 0) (its : (w : step.Bytes) → bytes_of (made w) ≡ w)
    {answer : ℕ → step.Answer} {was is : List ℕ} {r : Answer} where
  made_by : (w : Result ℕ Refusal) → Gives made answer was is w → r ≡ numbered w → GivesBy answer was is r
  unfolding answer_of bytes_of refusal_of
  made_by (Ok n) g e =
      let w : step.Bytes = record { length = n; bytes = take n is } in
      let b : w ≡ bytes_of (answer (length was)) = sym (its w) ∙ ap bytes_of g.answers in
      rw e (record { refused = sym (taken w) ∙ ap refusal_of g.answers; counted = ap (λ x. x.length) b; bytes = ap (λ x. x.bytes) b; rest = g.rest; within = g.within })
  made_by (Err x) g e =
      let b = ap bytes_of g.answers in
      rw e (record { refused = ap refusal_of g.answers; counted = ap (λ x. x.length) b; bytes = ap (λ x. x.bytes) b; rest = g.rest; within = g.within })

pub gives-by : {answer : ℕ → step.Answer} {was is : List ℕ} {r : Answer} (w : Result ℕ Refusal) → Gives step.wrote answer was is w → r ≡ numbered w → GivesBy answer was is r
unfolding bytes_of refusal_of
gives-by w g e = made_by (λ w. refl) (λ w. refl) w g e

pub prints-by : {answer : ℕ → step.Answer} {was is : List ℕ} {r : Answer} (w : Result ℕ Refusal) → Gives step.printed answer was is w → r ≡ numbered w → GivesBy answer was is r
unfolding bytes_of refusal_of
prints-by w g e = made_by (λ w. refl) (λ w. refl) w g e

-- the words of a number, by whether there is room for them
module _ (n : ℕ) (was : List ℕ) where
  by-room : (b : Bool) → ltb (length was) 120 ≡ b → cond b (step.refused SliceShort) (step.wrote (step.all_of (get_or table n []))) ≡ words_from n (length was)
  unfolding words_from
  by-room b e = sym (ap (λ b. cond b (step.refused SliceShort) (step.wrote (step.all_of (get_or table n [])))) e)

  pub short-by : {r : Answer} → length was < 120 → r ≡ numbered (Err SliceShort) → GivesBy (words_from n) was was r
  short-by h e = gives-by (Err SliceShort) (record { answers = by-room true (lt-ltb (length was) 120 h); rest = refl; within = omega arith }) e

  pub told-by : {is : List ℕ} {m : ℕ} {r : Answer} → 120 ≤ length was → Wrote (get_or table n []) 120 was 0 is m → r ≡ numbered (Ok m)
      → GivesBy (words_from n) was is r
  told-by {m = m} h w e =
      gives-by (Ok m)
      (record {
        answers = ap₂ (λ k l. step.wrote (record { length = k; bytes = l })) (all-of w h) (front w h)
            ∙ by-room false (le-ltb (length was) 120 h);
        rest = behind w h;
        within = omega (arith, w.next, w.short);
      }) e
