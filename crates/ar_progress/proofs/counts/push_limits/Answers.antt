use Rattle.std.proofs.Common.{string_bytes}
use Rattle.std.proofs.lemmas.Result.{on_ok_weaker}
use Rattle.ar_facts.proofs.Lines.{three}
use Rattle.ar_progress.specs.Counts.{count_and_limit, next_limit}
use Rattle.ar_progress.specs.declared.excess.LimitName.TheVariants.{Failure, Inconclusive, ConsecutiveError}
use Rattle.ar_progress.proofs.counts.push_limits.Goals as goal

pub returns : goal.returns
returns c =
    on_ok_weaker c.push_next_limit-2.result
    (three (string_bytes c.args.out.now) (string_bytes c.push_count_and_limit.new.out) (string_bytes c.push_next_limit.new.out) (string_bytes c.push_next_limit-2.new.out)
    (count_and_limit Failure c.args.limits c.args.before c.args.after)
    (next_limit Inconclusive c.args.limits c.args.before c.args.after)
    (next_limit ConsecutiveError c.args.limits c.args.before c.args.after)
    c.in_ok-push_count_and_limit.ensures c.in_ok-push_next_limit.ensures)
    c.push_next_limit-2.ensures
