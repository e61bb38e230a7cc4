-- What a board's histories are when it is closed.
use Rattle.std.proofs.Common.{◌≡◌, ◌<◌, ℕ, zero, suc, Bool, true, false, List, [], Vec, Global, length, replicate, Option, None, Some, refl, sym, subst, arith, ⊎_elim, ◌⊎◌, inl, inr}
use Rattle.std.specs.Prelude.{slice_get}
use Rattle.std.proofs.lemmas.Option.{get_or_from_slice_get}
use Rattle.ar_bundle.specs.Sound.{IsBundle}
use Rattle.ar_bundle.specs.Bundle.{Bundle}
use Rattle.ar_bundle.specs.Lawful.{AreLawful, AtMostOnce, numbers_of, times}
use Rattle.ar_bundle.specs.declared.history.Entry.{Entry}
use Rattle.ar_bundle.proofs.Bundles.{entry_at, run_of_number}
use Rattle.ar_board.specs.Receipts.{Hold}
use Rattle.ar_board.specs.declared.cell.receipt.Receipt.{Receipt}
use Rattle.ar_board.proofs.Places.{times_own}
use Rattle.ar_board.specs.Lost.{AreAsMany, IsLost, IsUnmetAmong}
use Rattle.ar_board.specs.Board.{IsClosed}
use Rattle.ar_board.specs.Private.Closing.{AreAllMarked, AreMet, AreStored, FirstLost, FirstUnheld, IsThere, IsUnheld, StoredAs, lists_of}
use Rattle.ar_board.specs.Locks.{PerLock}
use Rattle.ar_board.proofs.Given.{AreOfCells, are_histories, so_far}
use Rattle.ar_board.proofs.Marks.{of_all}

replicated_at : {A : Type 0} (many at : ℕ) (x : A) → at < many → slice_get (replicate many x) at ≡ Some x
replicated_at zero at x inside = absurd (omega arith)
replicated_at (suc many) zero x inside = refl
replicated_at (suc many) (suc at) x inside = replicated_at many at x (omega arith)

-- ---- which numbers the histories hold

-- a number is marked as stored just where it is in a history
stored_where : (bundle : Bundle) (histories : List (List Entry)) (stored : List Bool) (number : ℕ) (is : Bool) → AreStored (λ number. times number histories) (replicate (length bundle.entries) false) stored → number < length bundle.entries → slice_get stored number ≡ Some is → StoredAs (times number histories) false is
stored_where bundle histories stored number is are inside there = are.each number false is (replicated_at (length bundle.entries) number false inside) there

holds : (bundle : Bundle) (histories : List (List Entry)) (receipts : List (List Receipt)) (unmet stored : List Bool) (number : ℕ) → AreAllMarked bundle histories receipts unmet → AreStored (λ number. times number histories) (replicate (length bundle.entries) false) stored → number < length bundle.entries → IsThere unmet stored number → Hold histories receipts number
holds bundle histories receipts unmet stored number marked are inside there =
    record {
      is_there = stored_where bundle histories stored number true are inside there.is_there;
      met = λ seat at own receipt own_there at_there for_it. of_all (λ (own : List Receipt). AreMet histories own number) receipts seat own (marked.each number false there.is_met) own_there at receipt at_there for_it;
    }

-- a number that isn't held is in no history, or a receipt for it isn't met
why : (bundle : Bundle) (histories : List (List Entry)) (receipts : List (List Receipt)) (unmet stored : List Bool) (number : ℕ) → AreAllMarked bundle histories receipts unmet → AreStored (λ number. times number histories) (replicate (length bundle.entries) false) stored → number < length bundle.entries → IsUnheld unmet stored number → (times number histories ≡ 0) ⊎ IsUnmetAmong histories receipts number
why bundle histories receipts unmet stored number marked are inside unheld = ⊎_elim (λ there. inr (marked.each number true there)) (λ there. inl (stored_where bundle histories stored number false are inside there)) unheld

not_held : (bundle : Bundle) (histories : List (List Entry)) (receipts : List (List Receipt)) (unmet stored : List Bool) (number : ℕ) → AreAllMarked bundle histories receipts unmet → AreStored (λ number. times number histories) (replicate (length bundle.entries) false) stored → number < length bundle.entries → IsUnheld unmet stored number → Hold histories receipts number → ⊥
not_held bundle histories receipts unmet stored number marked are inside unheld hold = ⊎_elim nowhere unmet_among (why bundle histories receipts unmet stored number marked are inside unheld) where
  unmet_among : IsUnmetAmong histories receipts number → ⊥
  unmet_among among = among.unmet.unmet (hold.met among.seat among.unmet.at among.own among.unmet.receipt among.there among.unmet.there among.unmet.for_it)

  nowhere : times number histories ≡ 0 → ⊥
  nowhere none = let some = hold.is_there in absurd (omega arith)

-- what is found by the marks is the least number that isn't held
pub first_lost : (bundle : Bundle) (histories : List (List Entry)) (receipts : List (List Receipt)) (unmet stored : List Bool) (found : Option ℕ) → AreAllMarked bundle histories receipts unmet → AreStored (λ number. times number histories) (replicate (length bundle.entries) false) stored → FirstUnheld unmet stored found → FirstLost bundle histories receipts found
first_lost bundle histories receipts unmet stored None marked are all = λ number inside. (let as_many = marked.as_many in holds bundle histories receipts unmet stored number marked are inside (all number (omega arith)))
first_lost bundle histories receipts unmet stored (Some number) marked are first =
    let as_many = marked.as_many in
    let unmet_inside = first.there in
    let inside : number < length bundle.entries = omega arith in
    record {
      there = inside;
      not_held = not_held bundle histories receipts unmet stored number marked are inside first.unheld;
      why = why bundle histories receipts unmet stored number marked are inside first.unheld;
      least = λ other below. holds bundle histories receipts unmet stored other marked are (omega arith) (first.earlier other below);
    }

-- ---- histories that hold each number

once_at : (bundle : Bundle) (workers : ℕ) (whole : PerLock) (histories : List (List Entry)) (run : ℕ) (history : List Entry) → AreOfCells bundle workers whole histories → slice_get histories run ≡ Some history → AtMostOnce (numbers_of history)
once_at bundle workers whole histories run history are there = of_all (λ (history : List Entry). AtMostOnce (numbers_of history)) histories run history (so_far bundle workers whole histories are).once there

is_lawful : (bundle : Bundle) (workers : ℕ) (whole : PerLock) (histories : List (List Entry)) → IsBundle bundle → AreOfCells bundle workers whole histories → ((number : ℕ) → number < length bundle.entries → 0 < times number histories) → AreLawful bundle histories
is_lawful bundle workers whole histories is_bundle are are_there =
    record {
      of_runs = are_histories bundle workers whole histories are;
      once = λ number inside.
          let own = run_of_number bundle number is_bundle inside in
          let all = times_own bundle own.0 number histories (are_histories bundle workers whole histories are) own.1 own.2 in
          let many = are.as_many in
          let below = own.2 in
          let history = entry_at histories own.0 (omega arith) in
          let here = get_or_from_slice_get histories own.0 history.0 [] history.1 in
          let most = subst (λ (history : List Entry). AtMostOnce (numbers_of history)) (sym here) (once_at bundle workers whole histories own.0 history.0 are history.1) number in
          let some = are_there number inside in
          omega arith;
    }

pub is_closed : (bundle : Bundle) (workers : ℕ) (whole : PerLock) (histories : List (List Entry)) (receipts : List (List Receipt)) → IsBundle bundle → AreOfCells bundle workers whole histories → FirstLost bundle histories receipts None → AreAsMany receipts histories → IsClosed bundle receipts histories
is_closed bundle workers whole histories receipts is_bundle are hold as_many =
    record {
      lawful = is_lawful bundle workers whole histories is_bundle are (λ number inside. (hold number inside).is_there);
      held = hold;
      as_many = as_many;
    }

pub is_lost : (bundle : Bundle) (workers : ℕ) (whole : PerLock) (histories : List (List Entry)) (given : List (List Receipt)) (receipts : Vec (Vec Receipt Global) Global) (number : ℕ) → AreOfCells bundle workers whole histories → lists_of receipts.items ≡ given → FirstLost bundle histories given (Some number) → AreAsMany given histories
    → IsLost bundle given (record { number = number; histories = histories; receipts = receipts })
is_lost bundle workers whole histories given receipts number are same first as_many =
    record {
      so_far = so_far bundle workers whole histories are;
      same_receipts = same;
      as_many = as_many;
      there = first.there;
      not_held = first.not_held;
      why = first.why;
      least = first.least;
    }
