-- Histories that have all numbers of a bundle are lawful.
use Rattle.std.proofs.Common.{◌≡◌, ◌<◌, ℕ, zero, suc, ◌+◌, List, [], ◌∷◌, length, Some, refl, sym, ◌∙◌, ap, subst, arith}
use Rattle.ar_limits.specs.Replay.{Standing}
use Rattle.ar_bundle.specs.Sound.{IsBundle}
use Rattle.ar_bundle.specs.Bundle.{Bundle, run_at}
use Rattle.ar_bundle.specs.Lawful.{AllRise, AreHistories, AreLawful, Rise, times, times_in}
use Rattle.ar_bundle.specs.declared.bundle.RunPart.{RunPart}
use Rattle.ar_bundle.specs.declared.history.Entry.{Entry}
use Rattle.ar_bundle.proofs.Bundles.{run_of_number}
use Rattle.ar_bundle.specs.Growing.{AreGrown}
use Rattle.ar_bundle.proofs.Below.{of_another, of_run, rises}

histories_are : (bundle : Bundle) (upto from : ℕ) (runs : List RunPart) (states : List Standing) (histories : List (List Entry)) → AreGrown bundle upto from runs states histories → AreHistories bundle from runs histories
histories_are bundle upto from [] [] [] grown = tt
histories_are bundle upto from (run ∷ runs) (state ∷ states) (history ∷ histories) grown = (grown.0.lawful, histories_are bundle upto (suc from) runs states histories grown.1)
histories_are bundle upto from [] [] (history ∷ histories) grown = absurd grown
histories_are bundle upto from [] (state ∷ states) histories grown = absurd grown
histories_are bundle upto from (run ∷ runs) [] histories grown = absurd grown
histories_are bundle upto from (run ∷ runs) (state ∷ states) [] grown = absurd grown

pub all_rise : (bundle : Bundle) (upto from : ℕ) (runs : List RunPart) (states : List Standing) (histories : List (List Entry)) → AreGrown bundle upto from runs states histories → AllRise histories
all_rise bundle upto from [] [] [] grown = tt
all_rise bundle upto from (run ∷ runs) (state ∷ states) (history ∷ histories) grown = (subst Rise (sym grown.0.numbers) (rises bundle from upto), all_rise bundle upto (suc from) runs states histories grown.1)
all_rise bundle upto from [] [] (history ∷ histories) grown = absurd grown
all_rise bundle upto from [] (state ∷ states) histories grown = absurd grown
all_rise bundle upto from (run ∷ runs) [] histories grown = absurd grown
all_rise bundle upto from (run ∷ runs) (state ∷ states) [] grown = absurd grown

-- a number of an earlier run is in none of these histories
none_of : (bundle : Bundle) (upto from number own : ℕ) (runs : List RunPart) (states : List Standing) (histories : List (List Entry)) → AreGrown bundle upto from runs states histories → run_at bundle number ≡ Some own → own < from → times number histories ≡ 0
none_of bundle upto from number own [] [] [] grown is lower = refl
none_of bundle upto from number own (run ∷ runs) (state ∷ states) (history ∷ histories) grown is lower =
    let here = ap (times_in number) grown.0.numbers ∙ of_another bundle from upto number own is (λ same. absurd (omega arith)) in
    let later = none_of bundle upto (suc from) number own runs states histories grown.1 is (omega arith) in
    omega arith
none_of bundle upto from number own [] [] (history ∷ histories) grown is lower = absurd grown
none_of bundle upto from number own [] (state ∷ states) histories grown is lower = absurd grown
none_of bundle upto from number own (run ∷ runs) [] histories grown is lower = absurd grown
none_of bundle upto from number own (run ∷ runs) (state ∷ states) [] grown is lower = absurd grown

-- a number below is in its own run's history, once
once_of : (bundle : Bundle) (upto from number place : ℕ) (runs : List RunPart) (states : List Standing) (histories : List (List Entry)) → AreGrown bundle upto from runs states histories → run_at bundle number ≡ Some (from + place) → place < length runs → number < upto → times number histories ≡ 1
once_of bundle upto from number place [] [] [] grown is there small = absurd (omega arith)
once_of bundle upto from number zero (run ∷ runs) (state ∷ states) (history ∷ histories) grown is there small =
    let own : run_at bundle number ≡ Some from = is ∙ ap Some (omega arith) in
    let here = ap (times_in number) grown.0.numbers ∙ of_run bundle from upto number own small in
    let later = none_of bundle upto (suc from) number from runs states histories grown.1 own (omega arith) in
    omega arith
once_of bundle upto from number (suc place) (run ∷ runs) (state ∷ states) (history ∷ histories) grown is there small =
    let next : from + suc place ≡ suc from + place = omega arith in
    let here = ap (times_in number) grown.0.numbers ∙ of_another bundle from upto number (from + suc place) is (λ same. absurd (omega arith)) in
    let later = once_of bundle upto (suc from) number place runs states histories grown.1 (is ∙ ap Some next) (omega arith) small in
    omega arith
once_of bundle upto from number place [] [] (history ∷ histories) grown is there small = absurd grown
once_of bundle upto from number place [] (state ∷ states) histories grown is there small = absurd grown
once_of bundle upto from number place (run ∷ runs) [] histories grown is there small = absurd grown
once_of bundle upto from number place (run ∷ runs) (state ∷ states) [] grown is there small = absurd grown

are_lawful : (bundle : Bundle) (states : List Standing) (histories : List (List Entry)) → IsBundle bundle → AreGrown bundle (length bundle.entries) 0 bundle.runs states histories → AreLawful bundle histories
are_lawful bundle states histories is grown =
    record {
      of_runs = histories_are bundle (length bundle.entries) 0 bundle.runs states histories grown;
      once = λ number small.
          let own = run_of_number bundle number is small in
          once_of bundle (length bundle.entries) 0 number own.0 bundle.runs states histories grown (own.1 ∙ ap Some (omega arith)) own.2 small;
    }

-- after the last number
pub lawful_after : (bundle : Bundle) (number : ℕ) (states : List Standing) (histories : List (List Entry)) → IsBundle bundle → number ≡ length bundle.entries → AreGrown bundle number 0 bundle.runs states histories → AreLawful bundle histories
lawful_after bundle number states histories is all grown = are_lawful bundle states histories is (subst (λ number. AreGrown bundle number 0 bundle.runs states histories) all grown)
