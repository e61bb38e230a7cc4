use Rattle.std.proofs.Common.{rules}
use Rattle.ar_value.specs.View.{shape_view}
use Rattle.ar_judge.specs.Verdict.{IsJudge, judge_of}
use Rattle.ar_judge.proofs.Headline.{builds_judge}
use Rattle.ar_judge.proofs.Refusing.{failure_reported, success_reported}
use Rattle.ar_judge.proofs.judge.Judge.build_with.Goals as goal

pub returns-in_err-success : goal.returns-in_err-success
returns-in_err-success c = search (rules, success_reported)

pub returns-in_err-failure : goal.returns-in_err-failure
returns-in_err-failure c = search (rules, failure_reported)

pub returns : goal.returns
returns c =
    let is : IsJudge (shape_view c.args.shape.now) c.args.metric.now.success_condition c.args.metric.now.failure_condition (judge_of c.in_ok-success.success c.in_ok-failure.failure) = search rules in
    builds_judge _ _ _ _ is
