use Rattle.std.proofs.Common.{rules, ◌≡◌, Ok, Err}
use Rattle.std.proofs.lemmas.Result.{err_from_is_err_and}
use Rattle.ar_value.specs.View.{shape_view}
use Rattle.ar_tree.specs.Views.{expression_of}
use Rattle.ar_check.specs.Check.{checked}
use Rattle.ar_tree.specs.Views.{typed_view}
use Rattle.ar_check.specs.Memory.{is_memory}
use Rattle.ar_check.specs.declared.error.TypeError.TheVariants.{NotTruth}
use Rattle.ar_check.proofs.Conditions.{is_condition, is_none, refuses_none}
use Rattle.ar_check.proofs.Sound.{is_boolean_or_fault}
use Rattle.ar_check.proofs.typing.check.Goals as goal

pub returns-in_ok-unwrapped : goal.returns-in_ok-unwrapped
returns-in_ok-unwrapped c =
    let is : checked (shape_view c.args.shape.now) (expression_of c.args.tree) ≡ Ok (typed_view c.into_inner.result) = search rules in
    record {
      exact = is;
      condition = is_condition (shape_view c.args.shape.now) (expression_of c.args.tree) (typed_view c.into_inner.result) is;
      refused = tt;
      answers = λ value fit. is_boolean_or_fault (shape_view c.args.shape.now) (expression_of c.args.tree) (typed_view c.into_inner.result) value is fit;
    }

pub returns-else-is_boolean : goal.returns-else-is_boolean
returns-else-is_boolean c =
    let is : checked (shape_view c.args.shape.now) (expression_of c.args.tree) ≡ Err (NotTruth c.offset-at.result) = search rules in
    record {
      exact = is;
      condition = tt;
      refused = is_none (shape_view c.args.shape.now) (expression_of c.args.tree) (NotTruth c.offset-at.result) is;
      answers = tt;
    }

pub returns-in_err-condition : goal.returns-in_err-condition
returns-in_err-condition c =
    let p = err_from_is_err_and c.from_residual.result c.from_residual.ensures.1 in
    record {
      exact = search rules;
      condition = search rules;
      refused = rw (p.1, p.2)
          (refuses_none (is_memory c.in_err-condition.field-0.0) (shape_view c.args.shape.now) (expression_of c.args.tree) c.in_err-condition.field-0.0 c.in_err-condition.ensures);
      answers = search rules;
    }
