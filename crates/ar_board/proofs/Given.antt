-- Histories that the cells of four locks gave up.
use Rattle.std.proofs.Common.{◌≡◌, ◌≢◌, ◌<◌, ℕ, zero, suc, ◌+◌, ◌==◌, Bool, true, false, if◌then◌else◌, List, [], ◌∷◌, length, Some, refl, sym, ◌∙◌, ap, subst, arith}
use Rattle.std.specs.Prelude.{option_map, slice_get}
use Rattle.std.specs.List.{AllByRecursion, sum_by}
use Rattle.std.proofs.lemmas.Bool.Decides.{nat_tests}
use Rattle.std.proofs.lemmas.List.Sums.{sum_by-cons}
use Rattle.std.proofs.lemmas.Option.{slice_get-map, slice_get_within}
use Rattle.ar_bundle.specs.Bundle.{Bundle}
use Rattle.ar_bundle.specs.Lawful.{AreHistories, AreHistoriesSoFar, AtMostOnce, IsFound, IsHistory, numbers_of}
use Rattle.ar_bundle.specs.declared.bundle.RunPart.{RunPart}
use Rattle.ar_bundle.specs.declared.history.Entry.{Entry}
use Rattle.ar_bundle.specs.declared.runs.Runs.{Runs}
use Rattle.ar_bundle.proofs.Bundles.{entry_at}
use Rattle.ar_bundle.proofs.Room.{number_inside}
use Rattle.ar_board.specs.Cell.{ArePut, IsKept, KeptRun, histories_of}
use Rattle.ar_board.proofs.Cells.{histories_each}
use Rattle.ar_board.specs.Lost.{stored_from, stored_under}
use Rattle.ar_board.specs.Private.Closing.{AreInside, AreOfCell, IsCellClosed}
use Rattle.ar_board.specs.Locks.{PerLock, at_lock, lock_of, per_lock}
use Rattle.ar_board.proofs.UnderLocks.{under_four}

pub all_each : {A : Type 0} (P : A → Type 0) (xs : List A) → ((at : ℕ) (x : A) → slice_get xs at ≡ Some x → P x) → AllByRecursion P xs
all_each P [] each = tt
all_each P (x ∷ xs) each = (each 0 x refl, all_each P xs (λ at x there. each (suc at) x there))

-- ---- one lock after another

own_put : (bundle : Bundle) (workers lock amount : ℕ) (before after : Runs) → IsCellClosed bundle workers lock amount before after → AreOfCell bundle workers lock amount after.histories.items
own_put bundle workers lock amount before after given =
    let many = given.put.as_many in
    record { cell = given.cell; is = given.is; whole = given.whole; each = λ run inside under. given.put.put run (omega arith) under }

still_put : (bundle : Bundle) (workers lock other amount : ℕ) (own before after : List (List Entry)) → lock ≢ other → ArePut other own before after → AreOfCell bundle workers lock amount before → AreOfCell bundle workers lock amount after
still_put bundle workers lock other amount own before after apart put are =
    let many = put.as_many in
    record { cell = are.cell; is = are.is; whole = are.whole; each = λ run inside under. put.others run (λ same. absurd (apart (sym under ∙ same))) ∙ are.each run (omega arith) under }

-- the histories of all runs, by their locks
pub record AreOfCells (bundle : Bundle) (workers : ℕ) (whole : PerLock) (histories : List (List Entry)) : Type 0 where
  pub as_many : length histories ≡ length bundle.runs
  pub each : (lock : ℕ) → lock < 4 → AreOfCell bundle workers lock (at_lock whole lock) histories

pub of_cells : (bundle : Bundle) (workers a b c d : ℕ) (none first second third fourth : Runs) → length none.histories.items ≡ length bundle.runs → IsCellClosed bundle workers 0 a none first → IsCellClosed bundle workers 1 b first second → IsCellClosed bundle workers 2 c second third → IsCellClosed bundle workers 3 d third fourth
    → AreOfCells bundle workers (per_lock a b c d) fourth.histories.items
of_cells bundle workers a b c d none first second third fourth many one two three four = record { as_many = four.put.as_many ∙ (three.put.as_many ∙ (two.put.as_many ∙ (one.put.as_many ∙ many))); each = each } where
  each : (lock : ℕ) → lock < 4 → AreOfCell bundle workers lock (at_lock (per_lock a b c d) lock) fourth.histories.items
  each zero below =
      still_put bundle workers 0 3 a (histories_of four.cell) third.histories.items fourth.histories.items (λ same. absurd (omega arith)) four.put
      (still_put bundle workers 0 2 a (histories_of three.cell) second.histories.items third.histories.items (λ same. absurd (omega arith)) three.put
      (still_put bundle workers 0 1 a (histories_of two.cell) first.histories.items second.histories.items (λ same. absurd (omega arith)) two.put (own_put bundle workers 0 a none first one)))
  each (suc zero) below =
      still_put bundle workers 1 3 b (histories_of four.cell) third.histories.items fourth.histories.items (λ same. absurd (omega arith)) four.put
      (still_put bundle workers 1 2 b (histories_of three.cell) second.histories.items third.histories.items (λ same. absurd (omega arith)) three.put (own_put bundle workers 1 b first second two))
  each (suc (suc zero)) below = still_put bundle workers 2 3 c (histories_of four.cell) third.histories.items fourth.histories.items (λ same. absurd (omega arith)) four.put (own_put bundle workers 2 c second third three)
  each (suc (suc (suc zero))) below = own_put bundle workers 3 d third fourth four
  each (suc (suc (suc (suc lock)))) below = absurd (omega arith)

-- ---- what they are

-- a run's history is what a cell keeps of the run
record IsOfRun (bundle : Bundle) (run : ℕ) (part : RunPart) (history : List Entry) : Type 0 where
  is : IsHistory bundle run part.limits history
  once : AtMostOnce (numbers_of history)

of_run : (bundle : Bundle) (workers : ℕ) (whole : PerLock) (histories : List (List Entry)) (run : ℕ) (part : RunPart) (history : List Entry) → AreOfCells bundle workers whole histories → slice_get bundle.runs run ≡ Some part → slice_get histories run ≡ Some history → IsOfRun bundle run part history
of_run bundle workers whole histories run part history are part_there there =
    let of_cell = are.each (lock_of run) (under_four run) in
    let inside = slice_get_within histories run history there in
    let many = are.as_many in
    let as_many = of_cell.is.as_many in
    let kept = entry_at of_cell.cell.runs run (omega arith) in
    let in_cell : slice_get (histories_of of_cell.cell) run ≡ Some kept.0.history = slice_get-map (λ (kept : KeptRun). kept.history) of_cell.cell.runs run ∙ ap (option_map (λ (kept : KeptRun). kept.history)) kept.1 in
    let same : kept.0.history ≡ history = (let both = sym in_cell ∙ (sym (of_cell.each run inside refl) ∙ there) in cc) in
    let is : IsKept bundle workers (lock_of run) run part.limits kept.0 = of_cell.is.each run part kept.0 part_there kept.1 in
    record {
      is = subst (IsHistory bundle run part.limits) same is.history;
      once = subst (λ (history : List Entry). AtMostOnce (numbers_of history)) same is.once;
    }

pub are_histories : (bundle : Bundle) (workers : ℕ) (whole : PerLock) (histories : List (List Entry)) → AreOfCells bundle workers whole histories → AreHistories bundle 0 bundle.runs histories
are_histories bundle workers whole histories are =
    histories_each bundle 0 bundle.runs histories are.as_many (λ run part history part_there there.
    let here : run ≡ 0 + run = omega arith in
    subst (λ (at : ℕ). IsHistory bundle at part.limits history) here (of_run bundle workers whole histories run part history are part_there there).is)

-- a history's run
part_at : (bundle : Bundle) (workers : ℕ) (whole : PerLock) (histories : List (List Entry)) (run : ℕ) (history : List Entry) → AreOfCells bundle workers whole histories → slice_get histories run ≡ Some history → (part : RunPart) × (slice_get bundle.runs run ≡ Some part)
part_at bundle workers whole histories run history are there = let inside = slice_get_within histories run history there in let many = are.as_many in entry_at bundle.runs run (omega arith)

pub so_far : (bundle : Bundle) (workers : ℕ) (whole : PerLock) (histories : List (List Entry)) → AreOfCells bundle workers whole histories → AreHistoriesSoFar bundle histories
so_far bundle workers whole histories are =
    record {
      of_runs = are_histories bundle workers whole histories are;
      once = all_each (λ (history : List Entry). AtMostOnce (numbers_of history)) histories (λ run history there. let part = part_at bundle workers whole histories run history are there in (of_run bundle workers whole histories run part.0 history are part.1 there).once);
    }

-- their numbers are the bundle's
pub are_inside : (bundle : Bundle) (workers : ℕ) (whole : PerLock) (histories : List (List Entry)) → AreOfCells bundle workers whole histories → AllByRecursion (AreInside (length bundle.entries)) histories
are_inside bundle workers whole histories are =
    all_each (AreInside (length bundle.entries)) histories (λ run history there.
    let part = part_at bundle workers whole histories run history are there in
    numbers run history (of_run bundle workers whole histories run part.0 history are part.1 there).is.found)
  where
    numbers : (run : ℕ) (history : List Entry) → AllByRecursion (IsFound bundle run) history → AreInside (length bundle.entries) history
    numbers run [] found = tt
    numbers run (entry ∷ history) found = (number_inside bundle entry.number run found.0.own, numbers run history found.1)

-- ---- how many entries there are under a lock

-- what is under a lock is what its cell has
stored_as : (lock from : ℕ) (histories : List (List Entry)) (kept : List KeptRun) → length histories ≡ length kept
    → ((run : ℕ) (history : List Entry) (own : KeptRun) → slice_get histories run ≡ Some history → slice_get kept run ≡ Some own → lock_of (from + run) ≡ lock → history ≡ own.history)
    → ((run : ℕ) (own : KeptRun) → slice_get kept run ≡ Some own → lock_of (from + run) ≢ lock → own.history ≡ [])
    → stored_from lock from histories ≡ sum_by (λ (kept : KeptRun). length kept.history) kept
stored_as lock from [] [] many same empty = refl
stored_as lock from [] (own ∷ kept) many same empty = absurd (omega arith)
stored_as lock from (history ∷ histories) [] many same empty = absurd (omega arith)
stored_as lock from (history ∷ histories) (own ∷ kept) many same empty =
    let rest = stored_as lock (suc from) histories kept (omega arith)
    (λ run history own there own_there under. same (suc run) history own there own_there (ap lock_of (next run) ∙ under))
    (λ run own own_there away. empty (suc run) own own_there (λ under. absurd (away (ap lock_of (sym (next run)) ∙ under)))) in
    let sum = sum_by-cons (λ (kept : KeptRun). length kept.history) own kept in
    let first = by_test (lock_of from == lock) refl in
    omega arith
  where
    next : (run : ℕ) → from + suc run ≡ suc from + run
    next run = omega arith

    here : from + 0 ≡ from
    here = omega arith

    by_test : (under : Bool) → (lock_of from == lock) ≡ under → (if lock_of from == lock then length history else 0) ≡ length own.history
    by_test true is = let under : lock_of from ≡ lock = grind (arith, nat_tests) in rw is (ap length (same 0 history own refl refl (ap lock_of here ∙ under)))
    by_test false is = let away : lock_of from ≢ lock = grind (arith, nat_tests) in rw is (sym (ap length (empty 0 own refl (λ under. absurd (away (ap lock_of (sym here) ∙ under))))))

of_lock : (bundle : Bundle) (workers lock amount : ℕ) (histories : List (List Entry)) → length histories ≡ length bundle.runs → AreOfCell bundle workers lock amount histories → stored_under lock histories ≡ amount
of_lock bundle workers lock amount histories many are = stored_as lock 0 histories are.cell.runs (many ∙ sym are.is.as_many) same empty ∙ sym (are.whole ∙ are.is.counted) where
  at : (run : ℕ) → 0 + run ≡ run
  at run = omega arith

  in_cell : (run : ℕ) (own : KeptRun) → slice_get are.cell.runs run ≡ Some own → slice_get (histories_of are.cell) run ≡ Some own.history
  in_cell run own there = slice_get-map (λ (kept : KeptRun). kept.history) are.cell.runs run ∙ ap (option_map (λ (kept : KeptRun). kept.history)) there

  same : (run : ℕ) (history : List Entry) (own : KeptRun) → slice_get histories run ≡ Some history → slice_get are.cell.runs run ≡ Some own → lock_of (0 + run) ≡ lock → history ≡ own.history
  same run history own there own_there under =
      let inside = slice_get_within histories run history there in
      let both = sym there ∙ (are.each run inside (ap lock_of (sym (at run)) ∙ under) ∙ in_cell run own own_there) in
      cc

  empty : (run : ℕ) (own : KeptRun) → slice_get are.cell.runs run ≡ Some own → lock_of (0 + run) ≢ lock → own.history ≡ []
  empty run own own_there away =
      let inside = slice_get_within are.cell.runs run own own_there in
      let as_many = are.is.as_many in
      let part = entry_at bundle.runs run (omega arith) in
      (are.is.each run part.0 own part.1 own_there).own (λ under. absurd (away (ap lock_of (at run) ∙ under)))

-- under other locks there is nothing
none_under : (lock from : ℕ) (histories : List (List Entry)) → stored_from (suc (suc (suc (suc lock)))) from histories ≡ 0
none_under lock from [] = refl
none_under lock from (history ∷ histories) =
    let rest = none_under lock (suc from) histories in
    let below = under_four from in
    let is : (lock_of from == suc (suc (suc (suc lock)))) ≡ false = grind (arith, nat_tests) in
    let none : (if lock_of from == suc (suc (suc (suc lock))) then length history else 0) ≡ 0 = rw is refl in
    omega arith

pub as_many_under : (bundle : Bundle) (workers : ℕ) (whole : PerLock) (histories : List (List Entry)) → AreOfCells bundle workers whole histories → (lock : ℕ) → stored_under lock histories ≡ at_lock whole lock
as_many_under bundle workers whole histories are zero = of_lock bundle workers 0 (at_lock whole 0) histories are.as_many (are.each 0 (omega arith))
as_many_under bundle workers whole histories are (suc zero) = of_lock bundle workers 1 (at_lock whole 1) histories are.as_many (are.each 1 (omega arith))
as_many_under bundle workers whole histories are (suc (suc zero)) = of_lock bundle workers 2 (at_lock whole 2) histories are.as_many (are.each 2 (omega arith))
as_many_under bundle workers whole histories are (suc (suc (suc zero))) = of_lock bundle workers 3 (at_lock whole 3) histories are.as_many (are.each 3 (omega arith))
as_many_under bundle workers whole histories are (suc (suc (suc (suc lock)))) = none_under lock 0 histories
