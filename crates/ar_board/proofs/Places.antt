-- Whether a number is in the histories of runs.
use Rattle.std.proofs.Common.{◌≡◌, ◌≢◌, ◌<◌, ℕ, zero, suc, ◌+◌, ◌==◌, Bool, true, false, List, [], ◌∷◌, ◌++◌, length, get_or, Some, refl, sym, ◌∙◌, ap, arith}
use Rattle.std.specs.Prelude.{nat_lt}
use Rattle.std.specs.List.{AllByRecursion}
use Rattle.std.proofs.lemmas.Bool.Decides.{nat_tests}
use Rattle.ar_bundle.specs.Bundle.{Bundle, run_at}
use Rattle.ar_bundle.specs.Lawful.{AreHistories, IsFound, numbers_of, times, times_in}
use Rattle.ar_bundle.specs.declared.bundle.RunPart.{RunPart}
use Rattle.ar_bundle.specs.declared.history.Entry.{Entry}
use Rattle.ar_bundle.proofs.HistoryLemmas.{times_by, times_push}
use Rattle.ar_board.specs.Private.KeptRuns.{is_number_among}

-- ---- among numbers

-- a number that isn't among some
pub absent : (number : ℕ) (numbers : List ℕ) → is_number_among number numbers ≡ false → times_in number numbers ≡ 0
absent number numbers is = grind (arith, nat_tests)

-- one that is
pub present : (number : ℕ) (numbers : List ℕ) → is_number_among number numbers ≡ true → 0 < times_in number numbers
present number numbers is = grind (arith, nat_tests)

-- a number that is added at the end is among them
pub among_last : (number : ℕ) (numbers : List ℕ) → is_number_among number (numbers ++ number ∷ []) ≡ true
among_last number numbers =
    let same : (number == number) ≡ true = grind (arith, nat_tests) in
    let one = times_by number number [] true same in
    let all = times_push number number numbers in
    let some : 0 < times_in number (numbers ++ number ∷ []) = omega arith in
    grind (arith, nat_tests)

-- and of others nothing changes
pub among_other : (number last : ℕ) (numbers : List ℕ) → last ≢ number → is_number_among number (numbers ++ last ∷ []) ≡ is_number_among number numbers
among_other number last numbers away =
    let apart : (last == number) ≡ false = grind (arith, nat_tests) in
    let none = times_by number last [] false apart in
    let all = times_push number last numbers in
    let same : times_in number (numbers ++ last ∷ []) ≡ times_in number numbers = omega arith in
    ap (nat_lt 0) same

-- ---- in histories of runs

-- a number of another run isn't in a history
not_of : (bundle : Bundle) (run own number : ℕ) (history : List Entry) → AllByRecursion (IsFound bundle run) history → run_at bundle number ≡ Some own → own ≢ run → times_in number (numbers_of history) ≡ 0
not_of bundle run own number [] found is away = refl
not_of bundle run own number (entry ∷ history) found is away = by_test (not_of bundle run own number history found.1 is away) (entry.number == number) refl where
  by_test : times_in number (numbers_of history) ≡ 0 → (test : Bool) → (entry.number == number) ≡ test → times_in number (numbers_of (entry ∷ history)) ≡ 0
  by_test rest true same = absurd (
      let equal : entry.number ≡ number = grind (arith, nat_tests) in
      let both : Some run ≡ Some own = sym found.0.own ∙ (ap (run_at bundle) equal ∙ is) in
      away cc)
  by_test rest false apart = times_by number entry.number (numbers_of history) false apart ∙ rest

not_later : (bundle : Bundle) (from own number : ℕ) (runs : List RunPart) (histories : List (List Entry)) → AreHistories bundle from runs histories → run_at bundle number ≡ Some own → own < from → times number histories ≡ 0
not_later bundle from own number [] [] are is lower = refl
not_later bundle from own number [] (history ∷ histories) are is lower = absurd are
not_later bundle from own number (run ∷ runs) [] are is lower = absurd are
not_later bundle from own number (run ∷ runs) (history ∷ histories) are is lower =
    let here = not_of bundle from own number history are.0.found is (λ same. absurd (omega arith)) in
    let later = not_later bundle (suc from) own number runs histories are.1 is (omega arith) in
    omega arith

times_at : (bundle : Bundle) (from place number : ℕ) (runs : List RunPart) (histories : List (List Entry)) → AreHistories bundle from runs histories → run_at bundle number ≡ Some (from + place) → place < length runs → times number histories ≡ times_in number (numbers_of (get_or histories place []))
times_at bundle from place number [] [] are is inside = absurd (omega arith)
times_at bundle from place number [] (history ∷ histories) are is inside = absurd are
times_at bundle from place number (run ∷ runs) [] are is inside = absurd are
times_at bundle from zero number (run ∷ runs) (history ∷ histories) are is inside =
    let own : run_at bundle number ≡ Some from = is ∙ ap Some (omega arith) in
    let later = not_later bundle (suc from) from number runs histories are.1 own (omega arith) in
    omega arith
times_at bundle from (suc place) number (run ∷ runs) (history ∷ histories) are is inside =
    let next : from + suc place ≡ suc from + place = omega arith in
    let here = not_of bundle from (from + suc place) number history are.0.found is (λ same. absurd (omega arith)) in
    let later = times_at bundle (suc from) place number runs histories are.1 (is ∙ ap Some next) (omega arith) in
    omega arith

-- a number is in its run's history alone
pub times_own : (bundle : Bundle) (run number : ℕ) (histories : List (List Entry)) → AreHistories bundle 0 bundle.runs histories → run_at bundle number ≡ Some run → run < length bundle.runs → times number histories ≡ times_in number (numbers_of (get_or histories run []))
times_own bundle run number histories are is inside = times_at bundle 0 run number bundle.runs histories are (is ∙ ap Some (omega arith)) inside
