use Rattle.ar_document.proofs.Earlier.{is_there, where_some}
use Rattle.ar_document.proofs.parts.judge_of.Goals as goal

pub build_with-requires-clause-success : goal.build_with-requires-clause-success
build_with-requires-clause-success c =
    where_some _ _ (λ condition is. is_there c.args.number c.args.metric.now c.args.earlier.now c.requires _ c.args.bound.now.success_condition condition.now is.0 is.1)
    c.earlier_condition-success.result c.earlier_condition-success.ensures

pub build_with-requires-clause-failure : goal.build_with-requires-clause-failure
build_with-requires-clause-failure c =
    where_some _ _ (λ condition is. is_there c.args.number c.args.metric.now c.args.earlier.now c.requires _ c.args.bound.now.failure_condition condition.now is.0 is.1)
    c.earlier_condition-failure.result c.earlier_condition-failure.ensures
