-- How a run ends, by the definitions of ends in `ar_machine/specs/Run`.
use Rattle.std.specs.Prelude.{ℕ}
use Rattle.ar_value.specs.Value.{Value}
use Rattle.ar_op.specs.Code.{Code}
use Rattle.ar_machine.specs.Run.{IsDone, IsSpent, IsStuck}
use Rattle.ar_tested.specs.declared.outcome.Ended.{Ended}
use Rattle.ar_tested.specs.declared.outcome.Ended.TheVariants.{Done, Stuck, Spent}

abbrev pub EndsAs : Code → Value → (fuel : ℕ) → Ended → Type 0
EndsAs code value fuel (Done outcome) = IsDone code value fuel outcome.answer outcome.cost
EndsAs code value fuel (Stuck index) = IsStuck code value fuel index
EndsAs code value fuel Spent = IsSpent code value fuel
