-- What is known of the call by its name is computed with that name.
use Rattle.std.proofs.Common.{refl}
use Rattle.cases_of_values.proofs.numbers.put.Goals as goal

pub returns-in-compare : goal.returns-in-compare
returns-in-compare c = record { known = rw c.in-compare.is refl; exact = rw c.in-compare.is c.put_compare.ensures }

pub returns-in-order : goal.returns-in-order
returns-in-order c = record { known = rw c.in-order.is refl; exact = rw c.in-order.is c.put_order.ensures }

pub returns-in-negate : goal.returns-in-negate
returns-in-negate c = record { known = rw c.in-negate.is refl; exact = rw c.in-negate.is c.put_negated.ensures }

pub returns-in-to_decimal : goal.returns-in-to_decimal
returns-in-to_decimal c = record { known = rw c.in-to_decimal.is refl; exact = rw c.in-to_decimal.is c.put_to_decimal.ensures }

pub returns-in-text : goal.returns-in-text
returns-in-text c = record { known = rw c.in-text.is refl; exact = rw c.in-text.is c.put_text.ensures }

pub returns-in-same_text : goal.returns-in-same_text
returns-in-same_text c = record { known = rw c.in-same_text.is refl; exact = rw c.in-same_text.is c.put_same_text.ensures }

pub returns-in-decimal : goal.returns-in-decimal
returns-in-decimal c = record { known = rw c.in-decimal.is refl; exact = rw c.in-decimal.is tt }

pub returns-in-digits : goal.returns-in-digits
returns-in-digits c = record { known = rw c.in-digits.is refl; exact = rw c.in-digits.is tt }
