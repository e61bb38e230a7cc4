-- The results of workers.
use Rattle.std.proofs.Common.{◌≡◌, ◌<◌, ◌≤◌, ◌+◌, ℕ, zero, suc, List, [], ◌∷◌, length, map, Some, refl, sym, ◌∙◌, ap, subst, arith}
use Rattle.std.specs.Prelude.{slice_get}
use Rattle.std.specs.List.{AllByRecursion}
use Rattle.ar_bundle.specs.Bundle.{Bundle}
use Rattle.ar_bundle.specs.Lawful.{times_in}
use Rattle.ar_board.specs.Lost.{IsLost}
use Rattle.ar_board.specs.Board.{AreSeated, Seat, seat_of}
use Rattle.ar_board.specs.declared.lost.Lost.{Lost as Losing}
use Rattle.ar_board.specs.declared.cell.receipt.Receipt.{Receipt}
use Rattle.ar_queue.specs.Rule.{HasTakenAll, IsDone}
use Rattle.ar_queue.specs.declared.queue.View.{View}
use Rattle.ar_queue.specs.Workers.{AreNamed, IsFeeder}
use Rattle.ar_workers.specs.Joined.{IsWorkCause, IsNotLost, IsShown, NameEachOnce, named_by}
use Rattle.ar_workers.specs.Private.Early.{reported}
use Rattle.ar_workers.specs.Private.Settling.{AreEachOnce}
use Rattle.ar_queue.specs.declared.side_by_side.Unfinished.{Unfinished}
use Rattle.ar_queue.specs.declared.side_by_side.Unfinished.TheVariants as early
use Rattle.ar_workers.specs.declared.error.WorkError.{WorkError}

pub is_cause : (bundle : Bundle) (cause : Unfinished) (error : WorkError) → error ≡ reported cause → IsWorkCause bundle error
is_cause bundle early.NoThread error is = subst (IsWorkCause bundle) (sym is) tt
is_cause bundle early.OutOfMemory error is = subst (IsWorkCause bundle) (sym is) tt

pub is_not_lost : (cause : Unfinished) (error : WorkError) → error ≡ reported cause → IsNotLost error
is_not_lost early.NoThread error is = subst IsNotLost (sym is) tt
is_not_lost early.OutOfMemory error is = subst IsNotLost (sym is) tt

pub are_each_once : (events : ℕ) (before after : View) (numbers : List ℕ) → after ≡ before → HasTakenAll events after → AreNamed before.taken numbers → AreEachOnce events numbers
are_each_once events before after numbers same all are number = sym (are number) ∙ (ap (λ (view : View). times_in number view.taken) (sym same) ∙ all number)

pub each_once : (events : ℕ) (numbers : List ℕ) (receipts : List (List Receipt)) (doubles : List ℕ) → AreEachOnce events numbers → ((number : ℕ) → times_in number (named_by receipts) + times_in number doubles ≡ times_in number numbers) → NameEachOnce events receipts doubles
each_once events numbers receipts doubles are named number = named number ∙ are number

fresh_from : (seats : List Seat) → ((at : ℕ) (seat : Seat) → slice_get seats at ≡ Some seat → seat.receipts ≡ []) → AllByRecursion (λ (seat : Seat). seat.receipts ≡ []) seats
fresh_from [] each = tt
fresh_from (seat ∷ seats) each = (each 0 seat refl, fresh_from seats (λ at seat there. each (suc at) seat there))

inside : (seats : List Seat) (at : ℕ) (seat : Seat) → slice_get seats at ≡ Some seat → at < length seats
inside [] at seat there = absurd cc
inside (first ∷ seats) zero seat there = omega arith
inside (first ∷ seats) (suc at) seat there = let less = inside seats at seat there in omega arith

pub all_fresh : (workers : ℕ) (seats : List Seat) → AreSeated workers seats → AllByRecursion (λ (seat : Seat). seat.receipts ≡ []) seats
all_fresh workers seats are = fresh_from seats (λ at seat there.
    let less = inside seats at seat there in
    let many = are.as_many in
    let is : Some seat ≡ Some (seat_of at []) = sym there ∙ are.each at (omega arith) in
    (let same : seat ≡ seat_of at [] = cc in ap (λ (seat : Seat). seat.receipts) same))

-- what closing gave for the seats' receipts, and what these and the doubles name, shows it by those that are handed out
pub shown : (bundle : Bundle) (receipts : List (List Receipt)) (lost : Losing) (doubles : List ℕ) → NameEachOnce (length bundle.entries) receipts doubles → IsLost bundle receipts lost → IsShown bundle lost doubles
shown bundle receipts lost doubles once is = record {
  each_once = subst (λ own. NameEachOnce (length bundle.entries) own doubles) (sym is.same_receipts) once;
  losing = subst (λ own. IsLost bundle own lost) (sym is.same_receipts) is;
}
