-- Names of phases, verdicts and effects, as reports print them.
use Rattle.std.specs.Prelude.{codes, ◌++◌, ◌≡◌, refl, Option, Some, None}
use Rattle.ar_value.specs.Terms.{Text}
use Rattle.ar_value.specs.Fault.{fault_name}
use Rattle.ar_json.specs.Refusals.{shape_fault_name}
use Rattle.ar_limits.specs.declared.event.Effect.{Effect}
use Rattle.ar_limits.specs.declared.event.Effect.TheVariants as effects
use Rattle.ar_limits.specs.declared.phase.Phase.{Phase}
use Rattle.ar_limits.specs.declared.phase.Phase.TheVariants as phases
use Rattle.ar_judge.specs.declared.verdict.Cause.{Cause}
use Rattle.ar_judge.specs.declared.verdict.Cause.TheVariants as causes
use Rattle.ar_judge.specs.declared.verdict.Verdict.{Verdict}
use Rattle.ar_judge.specs.declared.verdict.Verdict.TheVariants as verdicts
use Rattle.ar_value.specs.declared.fault.Fault.TheVariants.{DivisionByZero}

abbrev pub phase_name : Phase → Text
phase_name phases.Pending = codes "Pending"
phase_name phases.Running = codes "Running"
phase_name phases.Successful = codes "Successful"
phase_name phases.Failed = codes "Failed"
phase_name phases.Error = codes "Error"
phase_name phases.Inconclusive = codes "Inconclusive"

abbrev pub cause_text : Cause → Text
cause_text causes.Provider = codes "provider"
cause_text (causes.Shape fault) = codes "shape " ++ shape_fault_name fault
cause_text (causes.Success fault) = codes "success " ++ fault_name fault
cause_text (causes.Failure fault) = codes "failure " ++ fault_name fault

abbrev pub verdict_text : Verdict → Text
verdict_text verdicts.Successful = codes "Successful"
verdict_text verdicts.Failed = codes "Failed"
verdict_text verdicts.Inconclusive = codes "Inconclusive"
verdict_text (verdicts.Error cause) = codes "Error " ++ cause_text cause

abbrev pub effect_text : Effect → Text
effect_text effects.Applied = codes "applied"
effect_text (effects.Closed phase) = codes "closed " ++ phase_name phase
effect_text effects.Late = codes "late"

-- ---- the parts of verdicts and effects, each by itself

abbrev pub verdict_name : Verdict → Text
verdict_name verdicts.Successful = codes "Successful"
verdict_name verdicts.Failed = codes "Failed"
verdict_name verdicts.Inconclusive = codes "Inconclusive"
verdict_name (verdicts.Error cause) = codes "Error"

abbrev pub cause_name : Cause → Text
cause_name causes.Provider = codes "provider"
cause_name (causes.Shape fault) = codes "shape"
cause_name (causes.Success fault) = codes "success"
cause_name (causes.Failure fault) = codes "failure"

-- the name of a misfit or a fault
abbrev pub fault_of_cause : Cause → Option Text
fault_of_cause causes.Provider = None
fault_of_cause (causes.Shape fault) = Some (shape_fault_name fault)
fault_of_cause (causes.Success fault) = Some (fault_name fault)
fault_of_cause (causes.Failure fault) = Some (fault_name fault)

abbrev pub cause_if_error : Verdict → Option Text
cause_if_error verdicts.Successful = None
cause_if_error verdicts.Failed = None
cause_if_error verdicts.Inconclusive = None
cause_if_error (verdicts.Error cause) = Some (cause_name cause)

abbrev pub fault_if_error : Verdict → Option Text
fault_if_error verdicts.Successful = None
fault_if_error verdicts.Failed = None
fault_if_error verdicts.Inconclusive = None
fault_if_error (verdicts.Error cause) = fault_of_cause cause

abbrev pub effect_name : Effect → Text
effect_name effects.Applied = codes "applied"
effect_name (effects.Closed phase) = codes "closed"
effect_name effects.Late = codes "late"

abbrev pub closed_as : Effect → Option Text
closed_as effects.Applied = None
closed_as (effects.Closed phase) = Some (phase_name phase)
closed_as effects.Late = None

-- ---- worked rows

closed_as_failed : effect_text (effects.Closed phases.Failed) ≡ codes "closed Failed"
closed_as_failed = refl

faulty_condition : verdict_text (verdicts.Error (causes.Success DivisionByZero)) ≡ codes "Error success DivisionByZero"
faulty_condition = refl
