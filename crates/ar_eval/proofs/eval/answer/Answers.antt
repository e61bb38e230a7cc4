use Rattle.std.proofs.Common.{rules, ◌≡◌, ◌∙◌, Ok, ap, subst}
use Rattle.serde_json.specs.View.{view}
use Rattle.ar_json.specs.Reading.{read}
use Rattle.ar_value.specs.View.{shape_view, value_view}
use Rattle.ar_value.specs.declared.shape.Shape.{Shape as Declared}
use Rattle.ar_eval.proofs.Judging.{answered, misfit_reported, misfits}
use Rattle.ar_eval.proofs.eval.answer.Goals as goal

pub returns-in_err-value : goal.returns-in_err-value
returns-in_err-value c text shape built =
    let misfit = misfits (shape_view c.shape.result.now) (view c.args.measured.now) c.in_err-value.field-0.0 c.in_err-value.ensures.exact in
    let reported = misfit_reported text shape (view c.args.measured.now) c.args.condition.now c.in_err-value.field-0.0 built in
    search (rules, misfit, reported)

pub returns : goal.returns
returns c text shape built =
    let read_at = c.in_ok-value.ensures.exact in
    let is_read = subst (λ (declared : Declared). read (shape_view declared) (view c.args.measured.now) ≡ Ok (value_view c.in_ok-value.value)) (c.shape.ensures ∙ ap (λ verified. verified.shape) c.verified.ensures.verified) read_at in
    answered text shape (view c.args.measured.now) c.args.condition.now (value_view c.in_ok-value.value) c.in_ok-answer.field-0 built is_read c.in_ok-answer.ensures.exact
