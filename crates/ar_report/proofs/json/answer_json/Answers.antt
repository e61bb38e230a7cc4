use Rattle.ar_facts.proofs.Objects.{answer_flat}
use Rattle.ar_object.proofs.Texts.{value_written}
use Rattle.ar_report.proofs.json.answer_json.Goals as goal

pub returns : goal.returns
returns c = c.finish.ensures _ (value_written c.new-json.ensures c.write_answer.ensures) (answer_flat c.args.answer)
