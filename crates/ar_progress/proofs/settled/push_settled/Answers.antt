use Rattle.std.proofs.Common.{string_bytes}
use Rattle.ar_facts.proofs.Lines.{on_ok, two}
use Rattle.ar_progress.specs.Settled.{settled_text}
use Rattle.ar_progress.proofs.settled.push_settled.Goals as goal

pub returns : goal.returns
unfolding settled_text
returns c =
    on_ok c.push_progress.result (two (string_bytes c.args.out.now) (string_bytes c.write.new.self) (string_bytes c.push_progress.new.out) _ _ c.in_ok-write.ensures.bytes) c.push_progress.ensures
