-- Histories of boards to which nothing was posted.
use Rattle.std.proofs.Common.{◌≡◌, ℕ, zero, suc, ◌+◌, ◌==◌, Bool, true, false, if◌then◌else◌, List, [], ◌∷◌, length, refl, sym, ◌∙◌, arith}
use Rattle.std.specs.List.{AllByRecursion}
use Rattle.std.proofs.lemmas.Bool.Decides.{nat_tests}
use Rattle.ar_bundle.specs.declared.history.Entry.{Entry}
use Rattle.ar_board.specs.Locks.{lock_of}
use Rattle.ar_board.specs.Lost.{AreAsMany, received_under, stored_from}
use Rattle.ar_board.specs.Seats.{receipts_under}
use Rattle.ar_board.specs.declared.cell.receipt.Receipt.{Receipt}

itself : (n : ℕ) → (n == n) ≡ true
itself n = grind (arith, nat_tests)

none_received : (lock : ℕ) (receipts : List (List Receipt)) → AllByRecursion (λ own. own ≡ []) receipts → received_under lock receipts ≡ 0
none_received lock [] none = refl
none_received lock ([] ∷ receipts) none = none_received lock receipts none.1
none_received lock ((receipt ∷ own) ∷ receipts) none = let first = none.0 in absurd cc

nothing_in : (history : List Entry) → length history ≡ 0 → history ≡ []
nothing_in [] none = refl
nothing_in (entry ∷ history) none = absurd cc

counted : (own : Bool) (n others : ℕ) → own ≡ true → (if own then n else 0) + others ≡ 0 → n ≡ 0
counted true n others is none = omega arith
counted false n others is none = absurd cc

none_stored : (from : ℕ) (histories : List (List Entry)) → ((lock : ℕ) → stored_from lock from histories ≡ 0) → AllByRecursion (λ history. history ≡ []) histories
none_stored from [] none = tt
none_stored from (history ∷ histories) none = (
  nothing_in history (counted (lock_of from == lock_of from) (length history) _ (itself (lock_of from)) (none (lock_of from))),
  none_stored (suc from) histories (λ lock. let whole = none lock in omega arith),
)

pub nothing_stored : (histories : List (List Entry)) (receipts : List (List Receipt)) → AllByRecursion (λ own. own ≡ []) receipts → AreAsMany receipts histories → AllByRecursion (λ history. history ≡ []) histories
nothing_stored histories receipts none as_many = none_stored 0 histories (λ lock. as_many lock ∙ none_received lock receipts none)
