use Rattle.std.proofs.Common.{◌∙◌}
use Rattle.ar_value.specs.View.{value_view}
use Rattle.ar_tree.specs.Views.{typed_view}
use Rattle.ar_explain.specs.Private.Places.{place_view}
use Rattle.ar_explain.proofs.Walks.{answer_said, parts_explained}
use Rattle.ar_explain.proofs.walk.tell.Goals as goal

pub returns : goal.returns
returns c =
    let met = c.in_ok-met.ensures in
    let place = place_view c.outermost-place.result in
    let condition = typed_view c.args.condition.now in record {
      parts = parts_explained place (value_view c.args.value.now) condition c.new-parts_said.result c.parts.new.out c.outermost-place.ensures c.new-parts_said.ensures met.1;
      answer = c.in_ok-answer.ensures ∙ answer_said place (value_view c.args.value.now) condition c.in_ok-met.met _ c.outermost-place.ensures met.0 c.remark_on.ensures;
    }
