-- Metrics without a judge.
use Rattle.ar_judge.specs.Condition.{Condition}
use Rattle.std.proofs.Common.{ℕ, List, Option, Ok, Err}
use Rattle.ar_value.specs.Shape.{Shape}
use Rattle.ar_judge.specs.Verdict.{RefusesTexts}
use Rattle.ar_judge.specs.Private.Building.{BuildsEach, failure_refused, success_refused}
use Rattle.ar_judge.specs.declared.error.BuildCause.{BuildCause}
use Rattle.ar_judge.specs.declared.error.BuildCause.TheVariants.{Grammar, Kinds, Compiler, Verifier, OutOfMemory}

-- a success condition that is refused
pub success_reported : (shape : Shape) (success failure : Option (List ℕ)) (cause : BuildCause) → BuildsEach shape success (Err cause) → RefusesTexts shape success failure (success_refused cause)
success_reported shape success failure OutOfMemory reported = tt
success_reported shape success failure (Grammar error) reported = record { refused_text = reported.refused_text; is_there = reported.is_there; own = λ same. absurd cc; is = reported.is }
success_reported shape success failure (Kinds error) reported = record { refused_text = reported.refused_text; is_there = reported.is_there; own = λ same. absurd cc; is = reported.is }
success_reported shape success failure (Compiler error) reported = record { refused_text = reported.refused_text; is_there = reported.is_there; own = λ same. absurd cc; is = reported.is }
success_reported shape success failure (Verifier index reason) reported = record { refused_text = reported.refused_text; is_there = reported.is_there; own = λ same. absurd cc; is = reported.is }

-- a failure condition that is refused, after a success condition that isn't
pub failure_reported : (shape : Shape) (success failure : Option (List ℕ)) (built : Option Condition) (cause : BuildCause) → BuildsEach shape success (Ok built) → BuildsEach shape failure (Err cause) → RefusesTexts shape success failure (failure_refused cause)
failure_reported shape success failure built OutOfMemory there reported = tt
failure_reported shape success failure built (Grammar error) there reported = ((built, there), record { refused_text = reported.refused_text; is_there = reported.is_there; own = λ same. absurd cc; is = reported.is })
failure_reported shape success failure built (Kinds error) there reported = ((built, there), record { refused_text = reported.refused_text; is_there = reported.is_there; own = λ same. absurd cc; is = reported.is })
failure_reported shape success failure built (Compiler error) there reported = ((built, there), record { refused_text = reported.refused_text; is_there = reported.is_there; own = λ same. absurd cc; is = reported.is })
failure_reported shape success failure built (Verifier index reason) there reported = ((built, there), record { refused_text = reported.refused_text; is_there = reported.is_there; own = λ same. absurd cc; is = reported.is })
