-- A run ends in one way only.
use Rattle.std.proofs.Common.{◌≡◌, ℕ, Bool, Result, refl, ap, ◌∙◌}
use Rattle.ar_value.specs.Value.{Value}
use Rattle.ar_value.specs.declared.fault.Fault.{Fault}
use Rattle.ar_op.specs.Code.{Code}
use Rattle.ar_machine.specs.declared.outcome.Outcome.{Outcome}
use Rattle.ar_machine.proofs.Ends as ends
use Rattle.ar_machine.proofs.Ends.{Ending, EndsBy, answered, halted, spent}
use Rattle.ar_tested.specs.Run.{EndsAs}
use Rattle.ar_tested.specs.declared.outcome.Ended.{Ended}
use Rattle.ar_tested.specs.declared.outcome.Ended.TheVariants.{Done, Stuck, Spent}

abbrev ending : Ended → Ending
ending (Done outcome) = answered outcome.answer outcome.cost
ending (Stuck index) = halted index
ending Spent = spent

ends_by : (code : Code) (value : Value) (fuel : ℕ) (ended : Ended) → EndsAs code value fuel ended → EndsBy code value fuel (ending ended)
ends_by code value fuel (Done outcome) is = is
ends_by code value fuel (Stuck index) is = is
ends_by code value fuel Spent is = is

same_answer : (a b : Result Bool Fault) (m n : ℕ) → answered a m ≡ answered b n → (a ≡ b) × (m ≡ n)
same_answer a b m n e = (cc, cc)

same_outcome : (o p : Outcome) → (o.answer ≡ p.answer) × (o.cost ≡ p.cost) → Done o ≡ Done p
same_outcome o p e = ap (λ a. Done (record { answer = a; cost = o.cost })) e.0 ∙ ap (λ n. Done (record { answer = p.answer; cost = n })) e.1

same_place : (m n : ℕ) → halted m ≡ halted n → m ≡ n
same_place m n e = cc

same : (first second : Ended) → ending first ≡ ending second → first ≡ second
same (Done o) (Done p) e = same_outcome o p (same_answer o.answer p.answer o.cost p.cost e)
same (Done o) (Stuck index) e = absurd cc
same (Done o) Spent e = absurd cc
same (Stuck index) (Done p) e = absurd cc
same (Stuck m) (Stuck n) e = ap (λ index. Stuck index) (same_place m n e)
same (Stuck index) Spent e = absurd cc
same Spent (Done p) e = absurd cc
same Spent (Stuck index) e = absurd cc
same Spent Spent e = refl

pub one_end : (code : Code) (value : Value) (fuel : ℕ) (first second : Ended) → EndsAs code value fuel first → EndsAs code value fuel second → first ≡ second
one_end code value fuel first second a b =
    same first second (ends.one_end code value fuel (ending first) (ending second) (ends_by code value fuel first a) (ends_by code value fuel second b))
