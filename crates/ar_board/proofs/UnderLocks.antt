-- Numbers for each of four locks.
use Rattle.std.proofs.Common.{◌≡◌, ◌≢◌, ◌<◌, ◌≤◌, ℕ, zero, suc, ◌+◌, ◌==◌, Bool, true, false, if◌then◌else◌, List, [], ◌∷◌, length, refl, sym, subst, arith}
use Rattle.std.specs.Prelude.{cond}
use Rattle.std.specs.List.{count_by}
use Rattle.std.proofs.lemmas.Bool.Decides.{nat_tests}
use Rattle.std.proofs.lemmas.List.Sums.{sum_by-cons}
use Rattle.ar_bundle.specs.Bundle.{Bundle}
use Rattle.ar_board.specs.Cell.{entries_under}
use Rattle.ar_board.specs.Locks.{PerLock, at_lock, lock_of, per_lock}
use Rattle.ar_board.specs.Seats.{Held, held_with, nothing, sums}
use Rattle.ar_board.specs.Private.Seats.{IsOneMore, one_under}

-- a run is under one of four locks
pub under_four : (run : ℕ) → lock_of run < 4
under_four run = omega arith

pub at_sums : (these more : PerLock) (lock : ℕ) → at_lock (sums these more) lock ≡ at_lock these lock + at_lock more lock
at_sums these more zero = refl
at_sums these more (suc zero) = refl
at_sums these more (suc (suc zero)) = refl
at_sums these more (suc (suc (suc zero))) = refl
at_sums these more (suc (suc (suc (suc lock)))) = refl

pub at_nothing : (lock : ℕ) → at_lock nothing lock ≡ 0
at_nothing zero = refl
at_nothing (suc zero) = refl
at_nothing (suc (suc zero)) = refl
at_nothing (suc (suc (suc zero))) = refl
at_nothing (suc (suc (suc (suc lock)))) = refl

-- ---- one more under a lock

-- the same numbers but for that of a lock
abbrev pub with_lock : PerLock → (lock number : ℕ) → PerLock
with_lock numbers lock number =
    per_lock (if lock == 0 then number else numbers.first) (if lock == 1 then number else numbers.second) (if lock == 2 then number else numbers.third) (if lock == 3 then number else numbers.fourth)

more_at : (own lock was more : ℕ) → (own ≡ lock → more ≡ was + 1) → (if own == lock then more else was) ≡ was + one_under own lock
more_at own lock was more one = by_test (own == lock) refl where
  by_test : (test : Bool) → (own == lock) ≡ test → (if own == lock then more else was) ≡ was + one_under own lock
  by_test true is = let same : own ≡ lock = grind (arith, nat_tests) in let sum = one same in rw is (omega arith)
  by_test false is = rw is (omega arith)

more_under : (own more : ℕ) (numbers : PerLock) → own < 4 → more ≡ at_lock numbers own + 1 → (lock : ℕ) → at_lock (with_lock numbers own more) lock ≡ at_lock numbers lock + one_under own lock
more_under own more numbers below one zero = more_at own 0 numbers.first more (λ same. subst (λ (own : ℕ). more ≡ at_lock numbers own + 1) same one)
more_under own more numbers below one (suc zero) = more_at own 1 numbers.second more (λ same. subst (λ (own : ℕ). more ≡ at_lock numbers own + 1) same one)
more_under own more numbers below one (suc (suc zero)) = more_at own 2 numbers.third more (λ same. subst (λ (own : ℕ). more ≡ at_lock numbers own + 1) same one)
more_under own more numbers below one (suc (suc (suc zero))) = more_at own 3 numbers.fourth more (λ same. subst (λ (own : ℕ). more ≡ at_lock numbers own + 1) same one)
more_under own more numbers below one (suc (suc (suc (suc lock)))) = let away : (own == suc (suc (suc (suc lock)))) ≡ false = grind (arith, nat_tests) in rw away refl

-- shares of which that of one lock has got one more
pub one_more : (bundle : Bundle) (own lock parts more : ℕ) (before : Held) → own ≡ lock → lock < 4 → parts ≡ before.parts → more ≡ at_lock before.amounts lock + 1 → more ≤ entries_under bundle lock → IsOneMore bundle own before (held_with parts (with_lock before.amounts lock more))
one_more bundle own lock parts more before is below same one few =
    subst (λ (own : ℕ). IsOneMore bundle own before (held_with parts (with_lock before.amounts lock more))) (sym is)
    (record {
      parts = same;
      more = more_under lock more before.amounts below one;
      few =
          let sum = more_under lock more before.amounts below one lock in
          let itself : (lock == lock) ≡ true = grind (arith, nat_tests) in
          let single : one_under lock lock ≡ 1 = rw itself refl in
          omega arith;
    })

-- what is neither of the first three is the fourth
pub last_lock : (run lock : ℕ) → lock ≡ lock_of run → lock ≢ 0 → lock ≢ 1 → lock ≢ 2 → lock ≡ 3
last_lock run lock is first second third = let below = under_four run in omega (arith, first, second, third)

-- ---- all four

one_of : (own : ℕ) → own < 4 → cond (own == 0) 1 0 + cond (own == 1) 1 0 + cond (own == 2) 1 0 + cond (own == 3) 1 0 ≡ 1
one_of zero below = refl
one_of (suc zero) below = refl
one_of (suc (suc zero)) below = refl
one_of (suc (suc (suc zero))) below = refl
one_of (suc (suc (suc (suc own)))) below = absurd (omega arith)

pub by_four : {A : Type 0} (lock : A → ℕ) (xs : List A) → ((x : A) → lock x < 4) → length xs ≡ count_by (λ x. lock x == 0) xs + count_by (λ x. lock x == 1) xs + count_by (λ x. lock x == 2) xs + count_by (λ x. lock x == 3) xs
by_four lock [] below = refl
by_four lock (x ∷ xs) below =
    let rest = by_four lock xs below in
    let first = sum_by-cons (λ x. cond (lock x == 0) 1 0) x xs in
    let second = sum_by-cons (λ x. cond (lock x == 1) 1 0) x xs in
    let third = sum_by-cons (λ x. cond (lock x == 2) 1 0) x xs in
    let fourth = sum_by-cons (λ x. cond (lock x == 3) 1 0) x xs in
    let one = one_of (lock x) (below x) in
    omega arith

-- one lock of four is one in all
pub one_in_all : (own : ℕ) → own < 4 → one_under own 0 + one_under own 1 + one_under own 2 + one_under own 3 ≡ 1
one_in_all zero below = refl
one_in_all (suc zero) below = refl
one_in_all (suc (suc zero)) below = refl
one_in_all (suc (suc (suc zero))) below = refl
one_in_all (suc (suc (suc (suc own)))) below = absurd (omega arith)
