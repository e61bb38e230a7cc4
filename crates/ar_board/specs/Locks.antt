-- The four locks of a board: which one a run is under, a number for each, and what their ledgers are made of.
use Rattle.std.specs.Prelude.{◌≡◌, ℕ, zero, suc, ◌%◌}
use Rattle.std.specs.declared.sync.ledger.Blank.{Blank}
use Rattle.ar_board.specs.declared.locks.Blanks.{Blanks}

pub record PerLock : Type 0 where
  pub first : ℕ
  pub second : ℕ
  pub third : ℕ
  pub fourth : ℕ

abbrev pub per_lock : (first second third fourth : ℕ) → PerLock
per_lock first second third fourth = record { first = first; second = second; third = third; fourth = fourth }

-- that of a lock; it is 0 of others
abbrev pub at_lock : PerLock → (lock : ℕ) → ℕ
at_lock numbers zero = numbers.first
at_lock numbers (suc zero) = numbers.second
at_lock numbers (suc (suc zero)) = numbers.third
at_lock numbers (suc (suc (suc zero))) = numbers.fourth
at_lock numbers lock = 0

-- the lock that a run is under, of the four that a board has
abbrev pub lock_of : (run : ℕ) → ℕ
lock_of run = run % 4

-- ---- ledgers

-- a blank of the ledger with this name, which is cut into this many parts
pub record IsOf (name parts : ℕ) (blank : Blank) : Type 0 where
  pub name_is : blank.name ≡ name
  pub parts_are : blank.parts ≡ parts

-- the blank of each lock is of the ledger with the lock's name
pub record AreOf (names : PerLock) (parts : ℕ) (blanks : Blanks) : Type 0 where
  pub first : IsOf names.first parts blanks.first
  pub second : IsOf names.second parts blanks.second
  pub third : IsOf names.third parts blanks.third
  pub fourth : IsOf names.fourth parts blanks.fourth

abbrev pub lock_names : Blanks → PerLock
lock_names blanks = per_lock blanks.first.name blanks.second.name blanks.third.name blanks.fourth.name
