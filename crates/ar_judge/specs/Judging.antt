-- Which samples a judge takes, and which it judges whatever memory is left.
use Rattle.ar_judge.specs.Condition.{Condition}
use Rattle.std.specs.Prelude.{◌≡◌, ◌≢◌, Bool, true, Option, Some, IfSome, option_and_then, Result, Err}
use Rattle.ar_value.specs.Fits.{fits}
use Rattle.ar_value.specs.Value.{Value}
use Rattle.ar_value.specs.View.{shape_view}
use Rattle.ar_value.specs.declared.fault.Fault.{Fault}
use Rattle.ar_json.specs.declared.value_reading.ShapeFault.TheVariants as shape_fault
use Rattle.ar_machine.specs.Filter.{BeginsNoFilter}
use Rattle.ar_judge.specs.declared.judge.Which.{Which}
use Rattle.ar_judge.specs.declared.judge.Which.TheVariants.{Success, Failure}
use Rattle.ar_judge.specs.Verdict.{Judge, Sample, measured, misfit, provider, said_of}

-- one of a judge's two conditions
abbrev pub condition_as : Which → Judge → Option Condition
condition_as Success judge = judge.success
condition_as Failure judge = judge.failure

abbrev pub FitsEach : Value → Option Condition → Type 0
FitsEach value condition = IfSome condition (λ condition. fits value (shape_view condition.verified.shape) ≡ true)

-- a value that was measured fits, and a misfit is never out of memory
abbrev pub SampleFits : (Value → Type 0) → Sample → Type 0
SampleFits Fits provider = Unit {0}
SampleFits Fits (misfit fault) = fault ≢ shape_fault.OutOfMemory
SampleFits Fits (measured value) = Fits value

-- a measured value fits the shape that the conditions are for, and a misfit is never out of memory
abbrev pub Suits : Judge → Sample → Type 0
Suits judge sample = SampleFits (λ value. FitsEach value judge.success × FitsEach value judge.failure) sample

-- the run of a condition that is there begins no loop of a `filter` over items
abbrev pub BeginsNoFilterIfThere : Value → Option Condition → Type 0
BeginsNoFilterIfThere value condition = IfSome condition (λ condition. BeginsNoFilter condition.verified.code value)

abbrev pub UnlessFault : Option (Result Bool Fault) → Type 0 → Type 0
UnlessFault (Some (Err fault)) P = Unit {0}
UnlessFault said P = P

-- judging takes no memory: nothing was measured, or no run of a condition begins a loop of a `filter` over items; the
-- failure condition is not run where the success condition ends with a fault
abbrev pub TakesNoMemory : Judge → Sample → Type 0
TakesNoMemory judge provider = Unit {0}
TakesNoMemory judge (misfit fault) = Unit {0}
TakesNoMemory judge (measured value) =
    BeginsNoFilterIfThere value judge.success
    × UnlessFault (option_and_then (said_of value) judge.success) (BeginsNoFilterIfThere value judge.failure)
