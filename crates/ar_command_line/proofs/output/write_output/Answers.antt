use Rattle.std.proofs.Common.{rules, arith, Ok, Err}
use Rattle.std.proofs.lemmas.Grind.{common_steps}
use Rattle.ar_command_line.specs.Output.{write}
use Rattle.ar_command_line.proofs.Reading.{nothing_appended}
use Rattle.ar_command_line.proofs.Writing.{failed, flush_failed, more_written}
use Rattle.ar_command_line.proofs.output.write_output.Goals as goal

pub returns-in_err-count-clause-front : goal.returns-in_err-count-clause-front
returns-in_err-count-clause-front g c =
    let front = failed g.W.Sink.contents g.W.Sink.calls _ _ _ _ _ c.loop-rest.invariant.so_far (write (Err c.in_err-count.field-0.0)) c.in_err-count.ensures.bytes c.in_err-count.ensures.call (search rules) in
    search (rules, front)

pub returns-then-count-eq0-clause-front : goal.returns-then-count-eq0-clause-front
returns-then-count-eq0-clause-front g c =
    failed g.W.Sink.contents g.W.Sink.calls _ _ _ _ _ c.loop-rest.invariant.so_far (write (Ok c.in_ok-count.count)) (nothing_appended _ _ _ _ c.if-count-eq0.true c.in_ok-count.ensures.bytes) c.in_ok-count.ensures.call (c.if-count-eq0.true, search rules)

pub loop-rest-preserved : goal.loop-rest-preserved
loop-rest-preserved g c = record {
  works = search rules;
  so_far = more_written g.W.Sink.contents g.W.Sink.calls _ _ _ _ _ c.loop-rest.invariant.so_far _ _ c.in_ok-count.ensures.bytes c.in_ok-count.ensures.call c.in_ok-count.ensures.bound (grind (arith, common_steps));
}

pub returns-clause-front : goal.returns-clause-front
returns-clause-front g c =
    flush_failed g.W.Sink.contents g.W.Sink.calls _ _ _ _ _ c.loop-rest.invariant.so_far c.flush.result (search rules) c.flush.ensures.bytes c.flush.ensures.call

pub loop-rest-init : goal.loop-rest-init
loop-rest-init c = grind (arith, common_steps) steps 2000000
