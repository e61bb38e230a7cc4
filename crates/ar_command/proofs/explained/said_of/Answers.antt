use Rattle.std.proofs.Common.{List, string_bytes, subst, sym}
use Rattle.serde_json.specs.View.{view}
use Rattle.ar_reason.specs.Reason.{RunReasons}
use Rattle.ar_reason.specs.ReasonData.{reasons_data}
use Rattle.ar_reason.specs.ReasonText.{reasons_text}
use Rattle.ar_command.specs.Serving.{IsPrinted}
use Rattle.ar_command.proofs.Reasons.{same_reasons}
use Rattle.ar_command.proofs.explained.said_of.Goals as goal

pub returns-clause-said : goal.returns-clause-said
returns-clause-said c input document is keeps reads = record {
  bundle = c.args.bundle.now;
  reads = reads;
  given = document;
  is_given = is;
  histories = c.in_ok-finished.finished.histories;
  lawful = c.in_ok-finished.ensures.finished.lawful;
  rise = c.in_ok-finished.ensures.in_order;
  asked = c.in-Some.chosen;
  chooses = sym c.in-Some.ensures;
  is = subst (λ (reasons : List RunReasons). IsPrinted c.args.format (reasons_text reasons) (reasons_data reasons) (string_bytes c.in_ok-reasons.field-0))
      (same_reasons c.args.bundle.now document (view c.args.kept.now) keeps c.in-Some.chosen c.in_ok-finished.finished.histories) c.in_ok-reasons.ensures;
}
