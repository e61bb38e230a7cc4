-- Why a number was lost.
use Rattle.std.proofs.Common.{◌≡◌, ◌<◌, ◌+◌, ℕ, zero, suc, Bool, true, false, List, [], ◌∷◌, length, map, Some, refl, arith, inl, inr, ⊎_elim}
use Rattle.std.specs.Prelude.{◌⊎◌, ◌==◌, get_or, nat_lt, slice_get}
use Rattle.std.proofs.lemmas.Bool.Decides.{nat_tests}
use Rattle.std.specs.declared.alloc.Global.{Global}
use Rattle.std.specs.declared.vec.Vec.{Vec}
use Rattle.ar_bundle.specs.Bundle.{Bundle}
use Rattle.ar_bundle.specs.Lawful.{numbers_of, times, times_in}
use Rattle.ar_bundle.specs.declared.history.Entry.{Entry}
use Rattle.ar_bundle.proofs.HistoryLemmas.{times_by}
use Rattle.ar_board.specs.Lost.{IsUnmetAmong}
use Rattle.ar_board.specs.declared.lost.Lost.{Lost as Losing}
use Rattle.ar_board.specs.declared.cell.receipt.Receipt.{Receipt}
use Rattle.ar_board.proofs.ReceiptLemmas.{met_has_no_cause}
use Rattle.ar_queue.specs.Numbers.{once_below}
use Rattle.ar_queue.proofs.Steps.{times_both}
use Rattle.ar_workers.specs.Joined.{IsDoubleOrUnmet, IsShown, named_by}

named_once : (number events : ℕ) (test : Bool) → nat_lt number events ≡ test → number < events → (some others : ℕ) → some + others ≡ once_below number events → (0 < others) ⊎ (0 < some)
named_once number events true is below some zero all = inr (let one : once_below number events ≡ 1 = rw is refl in omega arith)
named_once number events true is below some (suc others) all = inl (omega arith)
named_once number events false is below some others all = absurd (grind (arith, nat_tests))

-- ---- a receipt for a number that receipts name

abbrev Has : (number : ℕ) → List Receipt → Type 0
Has number own = (at : ℕ) × (receipt : Receipt) × (slice_get own at ≡ Some receipt) × (receipt.number ≡ number)

in_own : (number : ℕ) (own : List Receipt) → 0 < times_in number (map (λ receipt. receipt.number) own) → Has number own
in_own number [] some = absurd (omega arith)
in_own number (receipt ∷ own) some = by_test (receipt.number == number) refl (in_own number own)
  where
    by_test : (test : Bool) → (receipt.number == number) ≡ test → (0 < times_in number (map (λ (receipt : Receipt). receipt.number) own) → Has number own) → Has number (receipt ∷ own)
    by_test true is later = (0, receipt, refl, grind (arith, nat_tests))
    by_test false is later =
        let times = times_by number receipt.number (map (λ (receipt : Receipt). receipt.number) own) false is in
        let rest = later (omega arith) in
        (suc rest.0, rest.1, rest.2, rest.3)

abbrev HasAmong : (number : ℕ) → List (List Receipt) → Type 0
HasAmong number receipts = (seat : ℕ) × (own : List Receipt) × (slice_get receipts seat ≡ Some own) × Has number own

among : (number : ℕ) (receipts : List (List Receipt)) → 0 < times_in number (named_by receipts) → HasAmong number receipts
among number [] some = absurd (omega arith)
among number (own ∷ receipts) some = by_times (times_in number (map (λ (receipt : Receipt). receipt.number) own)) refl (among number receipts)
  where
    by_times : (times : ℕ) → times_in number (map (λ (receipt : Receipt). receipt.number) own) ≡ times → (0 < times_in number (named_by receipts) → HasAmong number receipts) → HasAmong number (own ∷ receipts)
    by_times zero none later =
        let both = times_both number (map (λ (receipt : Receipt). receipt.number) own) (named_by receipts) in
        let rest = later (omega arith) in
        (suc rest.0, rest.1, rest.2, rest.3)
    by_times (suc times) is later = (0, own, refl, in_own number own (omega arith))

-- ---- a receipt whose number is nowhere isn't met

none_at : (number : ℕ) (histories : List (List Entry)) (run : ℕ) → times number histories ≡ 0 → times_in number (numbers_of (get_or histories run [])) ≡ 0
none_at number [] run none = refl
none_at number (history ∷ histories) zero none = omega arith
none_at number (history ∷ histories) (suc run) none = none_at number histories run (omega arith)

unmet_among : (number : ℕ) (histories : List (List Entry)) (receipts : List (List Receipt)) → times number histories ≡ 0 → HasAmong number receipts → IsUnmetAmong histories receipts number
unmet_among number histories receipts none (seat, own, there, (at, receipt, is_there, is)) =
    let missing : times_in receipt.number (numbers_of (get_or histories receipt.run [])) ≡ 0 = rw is (none_at number histories receipt.run none) in
    record { seat = seat; own = own; there = there; unmet = record { at = at; receipt = receipt; there = is_there; for_it = is; unmet = λ met. met_has_no_cause histories _ receipt met (inl missing) } }

pub double_or_unmet : (bundle : Bundle) (lost : Losing) (doubles : List ℕ) → IsShown bundle lost doubles → IsDoubleOrUnmet lost.number lost.histories (map (λ own. own.items) lost.receipts.items) doubles
double_or_unmet bundle lost doubles shown = ⊎_elim nowhere (λ unmet. inr unmet) shown.losing.why
  where
    events : ℕ
    events = length bundle.entries

    receipts : List (List Receipt)
    receipts = map (λ (own : Vec Receipt Global). own.items) lost.receipts.items

    nowhere : times lost.number lost.histories ≡ 0 → IsDoubleOrUnmet lost.number lost.histories receipts doubles
    nowhere none =
        ⊎_elim (λ double. inl double) (λ named. inr (unmet_among lost.number lost.histories receipts none (among lost.number receipts named)))
        (named_once lost.number events (nat_lt lost.number events) refl shown.losing.there (times_in lost.number (named_by receipts)) (times_in lost.number doubles) (shown.each_once lost.number))
