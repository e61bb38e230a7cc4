-- Laws of what explanations state, each the contract of a function of `laws`.
use Rattle.std.specs.Prelude.{◌≡◌, ◌++◌, All, Bool, true, List, flat_map, map, Option, None, Ok, Err}
use Rattle.ar_value.specs.Fits.{fits}
use Rattle.ar_value.specs.Operators.{Meaning, faulted}
use Rattle.ar_value.specs.Shape.{Shape}
use Rattle.ar_value.specs.Terms.{Text}
use Rattle.ar_value.specs.Value.{Value, bool}
use Rattle.ar_value.specs.declared.fault.Fault.{Fault}
use Rattle.ar_tree.specs.Expression.{Expression}
use Rattle.ar_tree.specs.Meaning.{mean}
use Rattle.ar_tree.specs.Typed.{Typed}
use Rattle.ar_check.specs.Check.{checked}
use Rattle.ar_apart.specs.Apart.{Apart}
use Rattle.ar_explain.specs.Lines.{Line, earlier_lines, outcome_of}
use Rattle.ar_evaluation.specs.EvaluatedData.{part_name}
use Rattle.ar_evaluation.specs.EvaluatedText.{condition_text, part_line}
use Rattle.ar_reason.specs.Reason.{Reason, RunReasons}
use Rattle.ar_reason.specs.ReasonData.{reasons_data}
use Rattle.ar_reason.specs.ReasonText.{reason_text, run_reasons_text}
use Rattle.ar_read_back.specs.ExplanationReader.{explanation_in}
use Rattle.ar_read_back.specs.StatedCondition.{StatedAnswer, as_it_looks, fails, says, stated_answer, stated_part, stated_said}
use Rattle.ar_read_back.specs.Stated.{stated_reason, stated_run}
use Rattle.ar_read_back.specs.StatedText.{stated_first_lines, stated_last_lines, stated_metric_lines, stated_part_line, stated_run_lines}

-- who reads the object finds what it states
abbrev pub ExplanationsReadBack : Type 0
ExplanationsReadBack = (runs : List RunReasons) → explanation_in (reasons_data runs) ≡ Ok (map stated_run runs)

-- the lines of a run, but for those of its events, are of what the object states
abbrev pub RunLinesAreStated : Type 0
RunLinesAreStated = (run : RunReasons) → run_reasons_text run
    ≡ stated_run_lines (stated_run run)
    ++ (flat_map reason_text run.reasons ++ flat_map stated_metric_lines (stated_run run).metrics)

-- the lines of an event, but for those of its conditions
abbrev pub EventLinesAreStated : Type 0
EventLinesAreStated = (reason : Reason) → reason_text reason
    ≡ stated_first_lines (stated_reason reason)
    ++ (flat_map condition_text reason.conditions ++ stated_last_lines (stated_reason reason))

-- the lines of the parts of conditions
abbrev pub PartLinesAreStated : Type 0
PartLinesAreStated = (line : Line) → part_line line ≡ stated_part_line (stated_part line)

-- ---- what looks alike

-- a line is stated as what it says: a value as a value, and an item as an item
abbrev pub LooksAsItIs : Line → Type 0
LooksAsItIs line = as_it_looks (part_name line.part line.said) (stated_said line.said) ≡ stated_said line.said

-- so is each line of a condition's parts
abbrev pub LinesLookAsTheyAre : Type 0
LinesLookAsTheyAre = (result : Value) (here : Option Value) (tree : Typed)
    → All LooksAsItIs (earlier_lines result here tree)

-- the answer of a condition with this meaning
pub data IsMeant : Meaning → StatedAnswer → Type 0 where
  means_boolean : (holds : Bool) → IsMeant (Ok (bool holds)) (says holds)
  means_fault : (fault : Fault) → IsMeant (Err (faulted fault)) (fails (faulted fault))

-- a checked condition, on a value of its shape, is stated to answer true or false or a fault, by its meaning
abbrev pub AnswersAreMeant : Type 0
AnswersAreMeant = (shape : Shape) (tree : Expression) (condition : Typed) (value : Value) (on : Option Text)
    (apart : Option Apart) → checked shape tree ≡ Ok condition → fits value shape ≡ true
    → IsMeant (mean value None condition) (stated_answer (outcome_of (mean value None condition) on apart))
