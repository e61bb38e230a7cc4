use Rattle.std.proofs.Common.{ap, option_map, ◌∙◌}
use Rattle.std.specs.Prelude.{codes, is_some}
use Rattle.json.specs.Value.{value_view}
use Rattle.ar_document.specs.Private.Saying.{is_true_in}
use Rattle.ar_document.proofs.Saying.{is_given, mapped_there, says}
use Rattle.ar_document.proofs.entries.stated_by.Goals as goal

pub returns-clause-says : goal.returns-clause-says
returns-clause-says c made is =
    says (value_view c.args.item.now) made is (option_map (λ text. text.now) c.text_of.result) (option_map (λ text. text.now) c.text_of-2.result) c.is_true.result c.is_some.result c.text_of.ensures c.text_of-2.ensures
    (c.is_true.ensures ∙ ap is_true_in c.get.ensures) (c.is_some.ensures ∙ mapped_there (λ json. value_view json.now) c.get-3.result ∙ ap is_some c.get-3.ensures)

pub returns-clause-value : goal.returns-clause-value
returns-clause-value c made is = is_given (value_view c.args.item.now) made is (codes "value") c.get-2.result c.get-2.ensures
