-- When a receipt is met, and why it isn't.
use Rattle.std.proofs.Common.{◌≡◌, ◌≢◌, ◌⊎◌, ◌<◌, ℕ, zero, suc, ◌==◌, Bool, true, false, List, [], ◌∷◌, Option, Some, None, refl, ap, subst, arith, inl, inr, ⊎_elim}
use Rattle.std.specs.Prelude.{nat_lt, slice_get}
use Rattle.std.proofs.lemmas.Bool.Decides.{nat_tests}
use Rattle.ar_bundle.specs.Lawful.{times_in}
use Rattle.ar_board.specs.Receipts.{IsLater, IsElsewhere, IsMet, IsMissing, IsOutOfOrder, numbers_at}
use Rattle.ar_bundle.specs.declared.history.Entry.{Entry}
use Rattle.ar_board.specs.declared.cell.receipt.Receipt.{Receipt}
use Rattle.ar_bundle.proofs.HistoryLemmas.{times_by}

-- a number at `place` is there
counted_at : (number place : ℕ) (numbers : List ℕ) → slice_get numbers place ≡ Some number → 0 < times_in number numbers
counted_at number place [] there = absurd cc
counted_at number zero (first ∷ numbers) there =
    let same : first ≡ number = cc in
    let like : (first == number) ≡ true = grind (arith, nat_tests) in
    let one = times_by number first numbers true like in
    omega arith
counted_at number (suc place) (first ∷ numbers) there = by_test (first == number) refl (counted_at number place numbers there) where
  by_test : (test : Bool) → (first == number) ≡ test → 0 < times_in number numbers → 0 < times_in number (first ∷ numbers)
  by_test true is more = let one = times_by number first numbers true is in omega arith
  by_test false is more = let none = times_by number first numbers false is in omega arith

-- whether what is at a position is the number
at_place : (number : ℕ) (found : Option ℕ) → (found ≡ Some number) ⊎ (found ≢ Some number)
at_place number None = inr (λ same. absurd cc)
at_place number (Some other) = by_test (other == number) refl where
  by_test : (test : Bool) → (other == number) ≡ test → (Some other ≡ Some number) ⊎ (Some other ≢ Some number)
  by_test true is = inl (ap Some (grind (arith, nat_tests)))
  by_test false is = inr (λ same. let equal : other ≡ number = cc in absurd (grind (arith, nat_tests)))

-- after all earlier receipts, or not after one of them
module _ (receipt : Receipt) where
  later : (before : Receipt) (rest : List Receipt) → IsOutOfOrder rest receipt → IsOutOfOrder (before ∷ rest) receipt
  later before rest out = record { at = suc out.at; before = out.before; there = out.there; same_run = out.same_run; greater = out.greater }

  first_by : (before : Receipt) (rest : List Receipt) (same : Bool) → (before.run == receipt.run) ≡ same → (less : Bool) → nat_lt before.place receipt.place ≡ less → (before.run ≡ receipt.run → before.place < receipt.place) ⊎ IsOutOfOrder (before ∷ rest) receipt
  first_by before rest false other less is_less = inl (λ same. absurd (grind (arith, nat_tests)))
  first_by before rest true same true is_less = inl (λ same. grind (arith, nat_tests))
  first_by before rest true same false is_less = inr (record { at = 0; before = before; there = refl; same_run = grind (arith, nat_tests); greater = grind (arith, nat_tests) })

  after_or_not : (earlier : List Receipt) → IsLater earlier receipt ⊎ IsOutOfOrder earlier receipt
  after_or_not [] = inl tt
  after_or_not (before ∷ rest) =
      ⊎_elim
      (λ (first : before.run ≡ receipt.run → before.place < receipt.place). ⊎_elim (λ (others : IsLater rest receipt). inl (first, others)) (λ (out : IsOutOfOrder rest receipt). inr (later before rest out)) (after_or_not rest))
      (λ (out : IsOutOfOrder (before ∷ rest) receipt). inr out)
      (first_by before rest (before.run == receipt.run) refl (nat_lt before.place receipt.place) refl)

  after_each : (earlier : List Receipt) (at : ℕ) (before : Receipt) → IsLater earlier receipt → slice_get earlier at ≡ Some before → before.run ≡ receipt.run → before.place < receipt.place
  after_each [] at before after there same = absurd cc
  after_each (first ∷ rest) zero before after there same = let is : first ≡ before = cc in subst (λ (before : Receipt). before.run ≡ receipt.run → before.place < receipt.place) is after.0 same
  after_each (first ∷ rest) (suc at) before after there same = after_each rest at before after.1 there same

missing_or_elsewhere : (histories : List (List Entry)) (receipt : Receipt) (many : ℕ) → times_in receipt.number (numbers_at histories receipt.run) ≡ many → slice_get (numbers_at histories receipt.run) receipt.place ≢ Some receipt.number → IsMissing histories receipt ⊎ IsElsewhere histories receipt
missing_or_elsewhere histories receipt zero is apart = inl is
missing_or_elsewhere histories receipt (suc many) is apart = inr (record { there = omega arith; apart = apart })

pub met_or_not : (histories : List (List Entry)) (earlier : List Receipt) (receipt : Receipt) → IsMet histories earlier receipt ⊎ (IsMissing histories receipt ⊎ (IsElsewhere histories receipt ⊎ IsOutOfOrder earlier receipt))
met_or_not histories earlier receipt =
    ⊎_elim
    (λ (is_there : slice_get (numbers_at histories receipt.run) receipt.place ≡ Some receipt.number).
    ⊎_elim (λ (after : IsLater earlier receipt). inl (record { is_there = is_there; later = after })) (λ (out : IsOutOfOrder earlier receipt). inr (inr (inr out))) (after_or_not receipt earlier))
    (λ (apart : slice_get (numbers_at histories receipt.run) receipt.place ≢ Some receipt.number).
    ⊎_elim (λ (missing : IsMissing histories receipt). inr (inl missing)) (λ (elsewhere : IsElsewhere histories receipt). inr (inr (inl elsewhere)))
    (missing_or_elsewhere histories receipt (times_in receipt.number (numbers_at histories receipt.run)) refl apart))
    (at_place receipt.number (slice_get (numbers_at histories receipt.run) receipt.place))

pub met_has_no_cause : (histories : List (List Entry)) (earlier : List Receipt) (receipt : Receipt) → IsMet histories earlier receipt → (IsMissing histories receipt ⊎ (IsElsewhere histories receipt ⊎ IsOutOfOrder earlier receipt)) → ⊥
met_has_no_cause histories earlier receipt met =
    ⊎_elim (λ (missing : IsMissing histories receipt). let there = counted_at receipt.number receipt.place (numbers_at histories receipt.run) met.is_there in omega arith)
    (⊎_elim (λ (elsewhere : IsElsewhere histories receipt). elsewhere.apart met.is_there)
    (λ (out : IsOutOfOrder earlier receipt). let less = after_each receipt earlier out.at out.before met.later out.there out.same_run in let greater = out.greater in omega arith))
