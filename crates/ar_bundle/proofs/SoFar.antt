-- Lawful histories have each number at most once, as histories have while numbers are missing.
use Rattle.std.proofs.Common.{◌≡◌, ◌<◌, ◌≤◌, ℕ, suc, ◌==◌, Bool, true, false, List, [], ◌∷◌, length, refl, ◌∙◌, arith}
use Rattle.std.specs.Prelude.{nat_lt}
use Rattle.std.specs.List.{AllByRecursion}
use Rattle.std.proofs.lemmas.Bool.Decides.{nat_tests}
use Rattle.ar_bundle.specs.Bundle.{Bundle}
use Rattle.ar_bundle.specs.Lawful.{AreHistories, AreHistoriesSoFar, AreLawful, AtMostOnce, numbers_of, times, times_in}
use Rattle.ar_bundle.specs.declared.bundle.RunPart.{RunPart}
use Rattle.ar_bundle.specs.declared.history.Entry.{Entry}
use Rattle.ar_bundle.proofs.HistoryLemmas.{times_by}
use Rattle.ar_bundle.proofs.Room.{all_inside}

beyond_by : (number first : ℕ) (numbers : List ℕ) (test : Bool) → (first == number) ≡ test → first < number → times_in number numbers ≡ 0 → times_in number (first ∷ numbers) ≡ 0
beyond_by number first numbers true is small rest = absurd (grind (arith, nat_tests))
beyond_by number first numbers false is small rest = times_by number first numbers false is ∙ rest

-- a number beyond all of them is none of them
beyond : (number most : ℕ) (numbers : List ℕ) → most ≤ number → AllByRecursion (λ number. number < most) numbers → times_in number numbers ≡ 0
beyond number most [] further all = refl
beyond number most (first ∷ numbers) further all = let small : first < most = all.0 in beyond_by number first numbers (first == number) refl (omega arith) (beyond number most numbers further all.1)

none_beyond : (bundle : Bundle) (from number : ℕ) (runs : List RunPart) (histories : List (List Entry)) → AreHistories bundle from runs histories → length bundle.entries ≤ number → times number histories ≡ 0
none_beyond bundle from number [] [] are further = refl
none_beyond bundle from number (run ∷ runs) (history ∷ histories) are further =
    let here = beyond number (length bundle.entries) (numbers_of history) further (all_inside bundle from history are.0.found) in
    let later = none_beyond bundle (suc from) number runs histories are.1 further in
    omega arith
none_beyond bundle from number [] (history ∷ histories) are further = absurd are
none_beyond bundle from number (run ∷ runs) [] are further = absurd are

all_once : (histories : List (List Entry)) → ((number : ℕ) → times number histories ≤ 1) → AllByRecursion (λ history. AtMostOnce (numbers_of history)) histories
all_once [] once = tt
all_once (history ∷ histories) once = ((λ number. let all = once number in omega arith), all_once histories (λ number. let all = once number in omega arith))

pub lawful_are_so_far : (bundle : Bundle) (histories : List (List Entry)) → AreLawful bundle histories → AreHistoriesSoFar bundle histories
lawful_are_so_far bundle histories lawful =
    record {
      of_runs = lawful.of_runs;
      once = all_once histories (λ number. by_place number (nat_lt number (length bundle.entries)) refl);
    }
  where
    by_place : (number : ℕ) (test : Bool) → nat_lt number (length bundle.entries) ≡ test → times number histories ≤ 1
    by_place number true is = let inside : number < length bundle.entries = grind (arith, nat_tests) in let one = lawful.once number inside in omega arith
    by_place number false is = let outside : length bundle.entries ≤ number = grind (arith, nat_tests) in let none = none_beyond bundle 0 number bundle.runs histories lawful.of_runs outside in omega arith
