use Rattle.std.proofs.Common.{rules, arith}
use Rattle.std.proofs.lemmas.Grind.{common_steps}
use Rattle.ar_facts.proofs.Runs.{run_is_run}
use Rattle.ar_report.proofs.Shown.{next_of_runs, no_run_left}
use Rattle.ar_report.proofs.conditions.conditions.Goals as goal

pub push_judges-requires : goal.push_judges-requires
push_judges-requires c = search (rules, next_of_runs, no_run_left, run_is_run)

pub loop-run-preserved : goal.loop-run-preserved
loop-run-preserved c = search (rules, next_of_runs, no_run_left, run_is_run)

pub returns : goal.returns
returns c = grind (arith, common_steps)
