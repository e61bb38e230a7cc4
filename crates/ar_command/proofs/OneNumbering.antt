-- That lawful histories in which numbers rise have the same numbers, of bundles that have the same entries.
use Rattle.std.proofs.Common.{◌≡◌, ◌<◌, ◌≤◌, ℕ, suc, ◌==◌, Bool, true, false, List, [], ◌∷◌, length, map, Option, Some, None, refl, sym, subst, ◌∙◌, ap, arith, inl, inr}
use Rattle.std.specs.Prelude.{nat_lt}
use Rattle.std.specs.List.{AllByRecursion}
use Rattle.std.proofs.lemmas.Bool.Decides.{leb_tells, nat_tests}
use Rattle.ar_bundle.specs.Bundle.{Bundle, run_at}
use Rattle.ar_bundle.specs.Lawful.{AllRise, AreHistories, AreLawful, IsFound, Rise, numbers_of, times, times_in}
use Rattle.ar_bundle.specs.declared.bundle.RunPart.{RunPart}
use Rattle.ar_bundle.specs.declared.history.Entry.{Entry}
use Rattle.ar_bundle.proofs.HistoryLemmas.{times_by}
use Rattle.ar_bundle.proofs.Room.{number_inside}

-- ---- rising lists

above_by : (number first : ℕ) (numbers : List ℕ) (test : Bool) → (first == number) ≡ test → number < first → times_in number numbers ≡ 0 → times_in number (first ∷ numbers) ≡ 0
above_by number first numbers true is less rest = absurd (grind (arith, nat_tests))
above_by number first numbers false is less rest = times_by number first numbers false is ∙ rest

-- a number below all of them is none of them
below_all : (number : ℕ) (numbers : List ℕ) → AllByRecursion (λ later. number < later) numbers → times_in number numbers ≡ 0
below_all number [] all = refl
below_all number (first ∷ numbers) all = above_by number first numbers (first == number) refl all.0 (below_all number numbers all.1)

-- so is one below the first of rising ones
below_first : (number first : ℕ) (numbers : List ℕ) → number < first → AllByRecursion (λ later. first < later) numbers → times_in number numbers ≡ 0
below_first number first [] less all = refl
below_first number first (next ∷ numbers) less all = above_by number next numbers (next == number) refl (let far : first < next = all.0 in omega arith) (below_first number first numbers less all.1)

first_once : (first : ℕ) (numbers : List ℕ) (test : Bool) → (first == first) ≡ test → times_in first (first ∷ numbers) ≡ suc (times_in first numbers)
first_once first numbers true is = times_by first first numbers true is
first_once first numbers false is = absurd (grind (arith, nat_tests))

not_below : (first other : ℕ) (numbers others : List ℕ) → first < other → AllByRecursion (λ later. other < later) others → times_in first (first ∷ numbers) ≡ times_in first (other ∷ others) → ⊥
not_below first other numbers others less rise same =
    let one = first_once first numbers (first == first) refl in
    let none = above_by first other others (other == first) refl less (below_first first other others less rise) in
    omega arith

same_first : (first other : ℕ) (numbers others : List ℕ) → Rise (first ∷ numbers) → Rise (other ∷ others) → ((number : ℕ) → times_in number (first ∷ numbers) ≡ times_in number (other ∷ others)) → first ≡ other
same_first first other numbers others rise also same = elim (leb_tells first other) [
  | inr w ↦ absurd (not_below other first others numbers w.1 rise.0 (sym (same other)))
  | inl w ↦ elim (leb_tells other first) [
    | inr v ↦ absurd (not_below first other numbers others v.1 also.0 (same first))
    | inl v ↦ omega arith
  ]
]

less_one : (number first : ℕ) (numbers others : List ℕ) (test : Bool) → (first == number) ≡ test → times_in number (first ∷ numbers) ≡ times_in number (first ∷ others) → times_in number numbers ≡ times_in number others
less_one number first numbers others true is same = let one = times_by number first numbers true is in let other = times_by number first others true is in omega arith
less_one number first numbers others false is same = sym (times_by number first numbers false is) ∙ (same ∙ times_by number first others false is)

-- rising numbers are those that are in them
rising : (numbers others : List ℕ) → Rise numbers → Rise others → ((number : ℕ) → times_in number numbers ≡ times_in number others) → numbers ≡ others
rising [] [] rise also same = refl
rising [] (other ∷ others) rise also same = let one = first_once other others (other == other) refl in let none = same other in absurd (omega arith)
rising (first ∷ numbers) [] rise also same = let one = first_once first numbers (first == first) refl in let none = same first in absurd (omega arith)
rising (first ∷ numbers) (other ∷ others) rise also same =
    let is : other ≡ first = sym (same_first first other numbers others rise also same) in
    let moved = subst (λ o. (number : ℕ) → times_in number (first ∷ numbers) ≡ times_in number (o ∷ others)) is same in
    let rest = rising numbers others rise.1 also.1 (λ number. less_one number first numbers others (first == number) refl (moved number)) in
    ap (λ more. first ∷ more) rest ∙ ap (λ o. o ∷ others) (sym is)

-- ---- whose numbers are in a history

other_by : (number first : ℕ) (numbers : List ℕ) (test : Bool) → (first == number) ≡ test → (first ≡ number → ⊥) → times_in number numbers ≡ 0 → times_in number (first ∷ numbers) ≡ 0
other_by number first numbers true is unlike rest = absurd (unlike (grind (arith, nat_tests)))
other_by number first numbers false is unlike rest = times_by number first numbers false is ∙ rest

-- a number of another run is none of a run's history
not_own : (bundle : Bundle) (run number : ℕ) (history : List Entry) → AllByRecursion (IsFound bundle run) history → (run_at bundle number ≡ Some run → ⊥) → times_in number (numbers_of history) ≡ 0
not_own bundle run number [] all unlike = refl
not_own bundle run number (entry ∷ history) all unlike =
    other_by number entry.number (numbers_of history) (entry.number == number) refl (λ is. unlike (subst (λ (n : ℕ). run_at bundle n ≡ Some run) is all.0.own)) (not_own bundle run number history all.1 unlike)

-- nor is it one of all histories from a run on, where it is of no such run
not_from : (bundle : Bundle) (from number : ℕ) (runs : List RunPart) (histories : List (List Entry)) → AreHistories bundle from runs histories → ((run : ℕ) → from ≤ run → run_at bundle number ≡ Some run → ⊥) → times number histories ≡ 0
not_from bundle from number [] [] are unlike = refl
not_from bundle from number [] (history ∷ histories) are unlike = absurd are
not_from bundle from number (run ∷ runs) [] are unlike = absurd are
not_from bundle from number (run ∷ runs) (history ∷ histories) are unlike =
    let here = not_own bundle from number history are.0.found (unlike from (omega arith)) in
    let later = not_from bundle (suc from) number runs histories are.1 (λ other less. unlike other (omega arith)) in
    omega arith

-- ---- two bundles with the same entries

module _ (one other : Bundle) (same_run : (number : ℕ) → run_at one number ≡ run_at other number) where
  by_run : (from number : ℕ) (found : Option ℕ) (runs others : List RunPart) (history its : List Entry) (histories more : List (List Entry)) → run_at one number ≡ found
      → AreHistories one from (runs) (history ∷ histories) → AreHistories other from (others) (its ∷ more) → times number (history ∷ histories) ≡ times number (its ∷ more)
      → times_in number (numbers_of history) ≡ times_in number (numbers_of its)
  by_run from number found [] others history its histories more is are also same = absurd are
  by_run from number found (run ∷ runs) [] history its histories more is are also same = absurd also
  by_run from number None (run ∷ runs) (own ∷ others) history its histories more is are also same =
      let also_is = sym (same_run number) ∙ is in
      not_own one from number history are.0.found (λ found. absurd cc) ∙ sym (not_own other from number its also.0.found (λ found. absurd cc))
  by_run from number (Some at) (run ∷ runs) (own ∷ others) history its histories more is are also same = by_place (at == from) refl
    where
      also_is : run_at other number ≡ Some at
      also_is = sym (same_run number) ∙ is

      by_place : (test : Bool) → (at == from) ≡ test → times_in number (numbers_of history) ≡ times_in number (numbers_of its)
      by_place true here =
          let place : at ≡ from = grind (arith, nat_tests) in
          let one_later = not_from one (suc from) number runs histories are.1 (λ run less found. let far : run ≡ at = cc in omega arith) in
          let other_later = not_from other (suc from) number others more also.1 (λ run less found. let found_also = also_is in let far : run ≡ at = cc in omega arith) in
          omega arith
      by_place false there =
          not_own one from number history are.0.found (λ found. let place : at ≡ from = cc in grind (arith, nat_tests))
          ∙ sym (not_own other from number its also.0.found (λ found. let found_also = also_is in let place : at ≡ from = cc in grind (arith, nat_tests)))

  each : (from : ℕ) (runs others : List RunPart) (histories more : List (List Entry)) → AreHistories one from runs histories → AreHistories other from others more → AllRise histories → AllRise more
      → length runs ≡ length others → ((number : ℕ) → times number histories ≡ times number more) → map numbers_of histories ≡ map numbers_of more
  each from [] [] [] [] are also rise rises as_many same = refl
  each from [] [] (history ∷ histories) more are also rise rises as_many same = absurd are
  each from [] [] [] (its ∷ more) are also rise rises as_many same = absurd also
  each from [] (own ∷ others) histories more are also rise rises as_many same = absurd cc
  each from (run ∷ runs) [] histories more are also rise rises as_many same = absurd cc
  each from (run ∷ runs) (own ∷ others) [] more are also rise rises as_many same = absurd are
  each from (run ∷ runs) (own ∷ others) (history ∷ histories) [] are also rise rises as_many same = absurd also
  each from (run ∷ runs) (own ∷ others) (history ∷ histories) (its ∷ more) are also rise rises as_many same =
      let here : (number : ℕ) → times_in number (numbers_of history) ≡ times_in number (numbers_of its) = λ number. by_run from number (run_at one number) (run ∷ runs) (own ∷ others) history its histories more refl are also (same number) in
      let first = rising (numbers_of history) (numbers_of its) rise.0 rises.0 here in
      let fewer : length runs ≡ length others = omega arith in
      let rest = each (suc from) runs others histories more are.1 also.1 rise.1 rises.1 fewer (λ number. let all = same number in let own = here number in omega arith) in
      ap (λ head. head ∷ map numbers_of histories) first ∙ ap (λ tail. numbers_of its ∷ tail) rest

  total : (number : ℕ) (histories more : List (List Entry)) (inside : Bool) → nat_lt number (length one.entries) ≡ inside → length one.entries ≡ length other.entries → AreLawful one histories → AreLawful other more → times number histories ≡ times number more
  total number histories more true is as_many lawful also =
      let below : number < length one.entries = grind (arith, nat_tests) in
      lawful.once number below ∙ sym (also.once number (let below_also = below in omega arith))
  total number histories more false is as_many lawful also =
      let beyond : length one.entries ≤ number = grind (arith, nat_tests) in
      not_from one 0 number one.runs histories lawful.of_runs (λ run less found. let inside = number_inside one number run found in omega arith)
      ∙ sym (not_from other 0 number other.runs more also.of_runs (λ run less found. let inside = number_inside other number run found in omega arith))

  pub same_numbers : (histories more : List (List Entry)) → length one.runs ≡ length other.runs → length one.entries ≡ length other.entries → AreLawful one histories → AllRise histories → AreLawful other more → AllRise more
      → map numbers_of histories ≡ map numbers_of more
  same_numbers histories more as_many_runs as_many lawful rise also rises =
      each 0 one.runs other.runs histories more lawful.of_runs also.of_runs rise rises as_many_runs (λ number. total number histories more (nat_lt number (length one.entries)) refl as_many lawful also)
