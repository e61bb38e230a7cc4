-- What workers have of a board.
use Rattle.std.proofs.Common.{◌≡◌, ◌<◌, ◌≤◌, ℕ, zero, suc, ◌+◌, ◌==◌, Bool, true, false, List, [], ◌∷◌, ◌++◌, length, Some, refl, sym, ◌∙◌, ap, subst, arith}
use Rattle.std.specs.Prelude.{slice_get}
use Rattle.std.proofs.lemmas.Bool.Decides.{nat_tests}
use Rattle.std.proofs.lemmas.List.{length_push, map_push}
use Rattle.std.proofs.lemmas.List.Sums.{sum_by_push}
use Rattle.ar_bundle.specs.Bundle.{Bundle}
use Rattle.ar_bundle.specs.declared.bundle.EventPart.{EventPart}
use Rattle.ar_board.specs.Lost.{received_under}
use Rattle.ar_board.specs.Board.{AreSeated, Seat, receipts_of, seat_of}
use Rattle.ar_board.specs.Cell.{entries_under}
use Rattle.ar_board.specs.Private.Closing.{AreGiven, AreOwn}
use Rattle.ar_board.specs.Locks.{at_lock, lock_of}
use Rattle.ar_board.specs.Seats.{Held, IsSeat, held_with, nothing, receipts_under, sums, together}
use Rattle.ar_board.specs.Private.Seats.{IsOneMore, one_under}
use Rattle.ar_board.proofs.UnderLocks.{at_nothing, at_sums, by_four, one_in_all, under_four}
use Rattle.ar_board.specs.declared.cell.receipt.Receipt.{Receipt}
use Rattle.ar_bundle.proofs.HistoryLemmas.{all_push}

-- ---- opening

pub at_before : {A : Type 0} (xs : List A) (last x : A) (at : ℕ) → slice_get xs at ≡ Some x → slice_get (xs ++ last ∷ []) at ≡ Some x
at_before [] last x at there = absurd cc
at_before (first ∷ xs) last x zero there = there
at_before (first ∷ xs) last x (suc at) there = at_before xs last x at there

pub at_last : {A : Type 0} (xs : List A) (last : A) → slice_get (xs ++ last ∷ []) (length xs) ≡ Some last
at_last [] last = refl
at_last (first ∷ xs) last = at_last xs last

pub none_seated : AreSeated 0 []
none_seated = record { as_many = refl; each = λ worker inside. absurd (omega arith) }

pub seated_next : (workers : ℕ) (seats : List Seat) (seat : Seat) → seat ≡ seat_of workers [] → AreSeated workers seats → AreSeated (workers + 1) (seats ++ seat ∷ [])
seated_next workers seats seat is before =
    record {
      as_many = (let longer = length_push seats seat in let many = before.as_many in omega arith);
      each = λ worker inside. by_test worker (worker == workers) refl inside;
    }
  where
    by_test : (worker : ℕ) (test : Bool) → (worker == workers) ≡ test → worker < workers + 1 → slice_get (seats ++ seat ∷ []) worker ≡ Some (seat_of worker [])
    by_test worker true same inside =
        let here : length seats ≡ worker = (let equal : worker ≡ workers = grind (arith, nat_tests) in let many = before.as_many in omega arith) in
        let equal : workers ≡ worker = (let equal : worker ≡ workers = grind (arith, nat_tests) in sym equal) in
        ap (slice_get (seats ++ seat ∷ [])) (sym here) ∙ (at_last seats seat ∙ ap Some (is ∙ ap (λ (worker : ℕ). seat_of worker []) equal))
    by_test worker false apart inside =
        let below : worker < workers = grind (arith, nat_tests) in
        at_before seats seat (seat_of worker []) worker (before.each worker below)

-- ---- closing

-- how many receipts there are under a lock, with those of one seat more
received_push : (lock : ℕ) (receipts : List (List Receipt)) (own : List Receipt) → received_under lock (receipts ++ own ∷ []) ≡ received_under lock receipts + receipts_under lock own
received_push lock receipts own = sum_by_push (receipts_under lock) receipts own

-- a seat more was emptied
pub given_next : (bundle : Bundle) (seats : List Seat) (receipts : List (List Receipt)) (before one : Held) (seat : Seat) (own : List Receipt) → AreGiven bundle seats receipts before → seat.receipts ≡ own → AreOwn bundle own → one.parts ≡ 1 → ((lock : ℕ) → at_lock one.amounts lock ≡ receipts_under lock own)
    → AreGiven bundle (seats ++ seat ∷ []) (receipts ++ own ∷ []) (together before one)
given_next bundle seats receipts before one seat own given its_own are single many =
    let lists = map_push (λ (seat : Seat). seat.receipts) seats seat in
    let all : receipts ++ own ∷ [] ≡ receipts_of (seats ++ seat ∷ []) = ap (λ (receipts : List (List Receipt)). receipts ++ own ∷ []) given.lists ∙ (ap (λ (own : List Receipt). receipts_of seats ++ own ∷ []) (sym its_own) ∙ sym lists) in
    record {
      lists = all;
      own = all_push (AreOwn bundle) receipts own given.own are;
      as_many = (let pushed = length_push seats seat in let as_many = given.as_many in omega arith);
      counted = λ lock.
          let counted = given.counted lock in
          let own_counted = many lock in
          let added = at_sums before.amounts one.amounts lock in
          let pushed = received_push lock (receipts_of seats) own in
          let sum : at_lock (sums before.amounts one.amounts) lock ≡ received_under lock (receipts_of seats ++ own ∷ []) = omega arith in
          sum ∙ (ap (λ (own : List Receipt). received_under lock (receipts_of seats ++ own ∷ [])) (sym its_own) ∙ ap (received_under lock) (sym lists));
    }

pub none_given : (bundle : Bundle) (shares : Held) → shares ≡ held_with 0 nothing → AreGiven bundle [] [] shares
none_given bundle shares none = subst (AreGiven bundle [] []) (sym none) (record { lists = refl; own = tt; as_many = refl; counted = at_nothing })

-- ---- posting

few_now : (bundle : Bundle) (own : ℕ) (before after : Held) → IsOneMore bundle own before after → ((lock : ℕ) → at_lock before.amounts lock ≤ entries_under bundle lock) → (lock : ℕ) → at_lock after.amounts lock ≤ entries_under bundle lock
few_now bundle own before after one few lock = by_test (own == lock) refl where
  by_test : (test : Bool) → (own == lock) ≡ test → at_lock after.amounts lock ≤ entries_under bundle lock
  by_test true is = let same : own ≡ lock = grind (arith, nat_tests) in subst (λ (lock : ℕ). at_lock after.amounts lock ≤ entries_under bundle lock) same one.few
  by_test false is =
      let more = one.more lock in
      let none : one_under own lock ≡ 0 = rw is refl in
      let was = few lock in
      omega arith

-- the seat has room for a receipt more
pub has_room : (bundle : Bundle) (workers worker own capacity : ℕ) (receipts : List Receipt) (before after : Held) → IsSeat bundle workers worker receipts capacity before → own < 4 → IsOneMore bundle own before after → length receipts < capacity
has_room bundle workers worker own capacity receipts before after seat below one =
    let few = few_now bundle own before after one seat.few in
    let received = by_four (λ (receipt : Receipt). lock_of receipt.run) receipts (λ receipt. under_four receipt.run) in
    let entries = by_four (λ (entry : EventPart). lock_of entry.run) bundle.entries (λ entry. under_four entry.run) in
    let first = few 0 in
    let second = few 1 in
    let third = few 2 in
    let fourth = few 3 in
    let one_first = one.more 0 in
    let one_second = one.more 1 in
    let one_third = one.more 2 in
    let one_fourth = one.more 3 in
    let counted_first = seat.counted 0 in
    let counted_second = seat.counted 1 in
    let counted_third = seat.counted 2 in
    let counted_fourth = seat.counted 3 in
    let room = seat.room in
    let single = one_in_all own below in
    omega arith
