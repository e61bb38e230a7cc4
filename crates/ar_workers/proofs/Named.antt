-- Receipts and doubles name the numbers that were taken.
use Rattle.std.proofs.Common.{◌≡◌, ℕ, ◌+◌, List, [], ◌∷◌, ◌++◌, map, ◌∙◌, ap, arith}
use Rattle.std.proofs.lemmas.List.{map_push}
use Rattle.ar_bundle.specs.Bundle.{Bundle}
use Rattle.ar_bundle.specs.Lawful.{times_in}
use Rattle.ar_board.specs.Board.{IsReceived, Seat, receipts_of}
use Rattle.ar_board.specs.declared.cell.posted.Posted.{Posted}
use Rattle.ar_board.specs.declared.cell.receipt.Receipt.{Receipt}
use Rattle.ar_queue.specs.Workers.{IsNamed, all_named}
use Rattle.ar_workers.specs.Joined.{named, named_by}
use Rattle.ar_bundle.proofs.HistoryLemmas.{times_push}
use Rattle.ar_queue.proofs.Feeding.{all_named_push}
use Rattle.ar_queue.proofs.Steps.{times_both}

abbrev number_of : Receipt → ℕ
number_of receipt = receipt.number

pub named_by_receipt : (bundle : Bundle) (number : ℕ) (before after : Seat) (answer : Posted) (doubles : List ℕ) → IsReceived bundle number before after answer → IsNamed number (named before.receipts doubles) (named after.receipts doubles)
named_by_receipt bundle number before after answer doubles is other =
    let last : Receipt = record { run = is.run; number = number; place = answer.place } in
    let numbers : map number_of after.receipts ≡ map number_of before.receipts ++ number ∷ [] = ap (map number_of) is.receipts ∙ map_push number_of before.receipts last in
    let all = ap (times_in other) numbers in
    let pushed = times_push other number (map number_of before.receipts) in
    let was = times_both other (map number_of before.receipts) doubles in
    let is_now = times_both other (map number_of after.receipts) doubles in
    omega arith

pub named_by_double : (number : ℕ) (before after : Seat) (doubles doubles_after : List ℕ) → after ≡ before → doubles_after ≡ doubles ++ number ∷ [] → IsNamed number (named before.receipts doubles) (named after.receipts doubles_after)
named_by_double number before after doubles doubles_after same more other =
    let receipts = ap (λ (seat : Seat). times_in other (map number_of seat.receipts)) same in
    let all = ap (times_in other) more in
    let pushed = times_push other number doubles in
    let was = times_both other (map number_of before.receipts) doubles in
    let is_now = times_both other (map number_of after.receipts) doubles_after in
    omega arith

-- ---- receipts and doubles of one desk more

named_push : (number : ℕ) (receipts : List (List Receipt)) (own : List Receipt) → times_in number (named_by (receipts ++ own ∷ [])) ≡ times_in number (named_by receipts) + times_in number (map (λ (receipt : Receipt). receipt.number) own)
named_push number [] own = let all = times_both number (map (λ (receipt : Receipt). receipt.number) own) [] in omega arith
named_push number (first ∷ receipts) own =
    let rest = named_push number receipts own in
    let all = times_both number (map (λ (receipt : Receipt). receipt.number) first) (named_by (receipts ++ own ∷ [])) in
    let before = times_both number (map (λ (receipt : Receipt). receipt.number) first) (named_by receipts) in
    omega arith

pub taken_apart : {Desk : Type 0} (numbers : Desk → List ℕ) (number : ℕ) (desks : List Desk) (desk : Desk) (seats : List Seat) (seat : Seat) (doubles own : List ℕ)
    → times_in number (named_by (receipts_of seats)) + times_in number doubles ≡ times_in number (all_named numbers desks) → numbers desk ≡ named seat.receipts own
    → times_in number (named_by (receipts_of (seats ++ seat ∷ []))) + times_in number (doubles ++ own) ≡ times_in number (all_named numbers (desks ++ desk ∷ []))
taken_apart numbers number desks desk seats seat doubles own are is =
    let all = all_named_push numbers number desks desk in
    let its = ap (times_in number) is in
    let parts = times_both number (map (λ (receipt : Receipt). receipt.number) seat.receipts) own in
    let lists = ap (λ (receipts : List (List Receipt)). times_in number (named_by receipts)) (map_push (λ (seat : Seat). seat.receipts) seats seat) in
    let pushed = named_push number (receipts_of seats) seat.receipts in
    let double = times_both number doubles own in
    omega arith
