-- Conditions answer what they mean.
use Rattle.std.proofs.Common.{Option, None}
use Rattle.ar_value.specs.Operators.{Meaning}
use Rattle.ar_value.specs.Terms.{Text}
use Rattle.ar_tree.specs.Meaning.{IsBooleanOrFault, is_boolean, is_fault, mean}
use Rattle.ar_check.proofs.Sound.{is_boolean_or_fault}
use Rattle.ar_apart.specs.Apart.{Apart}
use Rattle.ar_explain.specs.Lines.{outcome_of}
use Rattle.ar_read_back.specs.StatedCondition.{stated_answer}
use Rattle.ar_read_back.specs.StatedLaws.{AnswersAreMeant, IsMeant, means_boolean, means_fault}

meant : (meaning : Meaning) (on : Option Text) (apart : Option Apart) → IsBooleanOrFault meaning → IsMeant meaning (stated_answer (outcome_of meaning on apart))
meant _ on apart (is_boolean holds) = means_boolean holds
meant _ on apart (is_fault fault) = means_fault fault

pub answers_meant : AnswersAreMeant
answers_meant shape tree condition value on apart is_checked fits_it = meant (mean value None condition) on apart (is_boolean_or_fault shape tree condition value is_checked fits_it)
