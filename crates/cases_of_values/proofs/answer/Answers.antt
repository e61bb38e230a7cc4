use Rattle.std.proofs.Common.{string_bytes, subst, sym}
use Rattle.std.specs.Prelude.{IfSome}
use Rattle.serde_json.specs.View.{view}
use Rattle.ar_value.specs.Answer.{Gives}
use Rattle.cases_of_values.specs.Members.{is_case_memory}
use Rattle.cases_of_values.specs.Numbers.{number_answer}
use Rattle.cases_of_values.proofs.Given.{gives}
use Rattle.cases_of_values.proofs.answer.Goals as goal

pub returns-clause-exact : goal.returns-clause-exact
returns-clause-exact c =
    subst (λ given. IfSome (number_answer c.args.call.now (view c.args.case.now)) (λ answer. Gives is_case_memory string_bytes given answer)) (sym c.finish.ensures)
    (gives (number_answer c.args.call.now (view c.args.case.now)) c.in_ok-written.written c.new-out.result c.put.new.out c.new-out.ensures c.in_ok-written.ensures.exact)
