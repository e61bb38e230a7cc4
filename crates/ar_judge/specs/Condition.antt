-- Conditions that can be run.
use Rattle.ar_value.specs.Terms.{Text}
use Rattle.ar_safety.specs.Bounds.{Verified}

-- its text, and its verified code
pub record Condition : Type 0 where
  pub text : Text
  pub verified : Verified

abbrev pub condition_with : Text → Verified → Condition
condition_with text verified = record { text = text; verified = verified }
