-- How the ends of runs of code are printed.
use Rattle.std.specs.Prelude.{ℕ, List, ◌++◌, codes, decimal}
use Rattle.cases_of_values.specs.Printing.{answer_text}
use Rattle.ar_machine.specs.declared.outcome.Outcome.{Outcome}
use Rattle.ar_tested.specs.declared.outcome.Ended.{Ended}
use Rattle.ar_tested.specs.declared.outcome.Ended.TheVariants.{Done, Stuck, Spent}

abbrev pub done_text : Outcome → List ℕ
done_text outcome = answer_text outcome.answer ++ (codes " cost=" ++ decimal outcome.cost)

abbrev pub ended_text : Ended → List ℕ
ended_text (Done outcome) = done_text outcome
ended_text (Stuck index) = codes "stuck " ++ decimal index
ended_text Spent = codes "spent"
