use Rattle.std.proofs.Common.{rules}
use Rattle.ar_report.proofs.Shown.{judge_inside, next_judge, no_judge}
use Rattle.ar_report.proofs.conditions.push_judges.Goals as goal

pub offset_bounds-judges-number : goal.offset_bounds-judges-number
offset_bounds-judges-number c = search (rules, judge_inside, next_judge, no_judge)

pub bounds-judges-number : goal.bounds-judges-number
bounds-judges-number c = search (rules, judge_inside, next_judge, no_judge)

pub loop-number-preserved : goal.loop-number-preserved
loop-number-preserved c = search (rules, judge_inside, next_judge, no_judge)
