use Rattle.std.proofs.Common.{string_bytes}
use Rattle.ar_facts.proofs.Lines.{on_ok, two}
use Rattle.ar_progress.proofs.why.push_metric_was.Goals as goal

pub returns : goal.returns
returns c =
    rw c.in-Some.is
    (on_ok c.write.result (two (string_bytes c.args.out.now) (string_bytes c.push_phase.new.out) (string_bytes c.write.new.self) _ _ c.in_ok-push_phase.ensures) c.write.ensures.bytes)
