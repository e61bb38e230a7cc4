use Rattle.std.proofs.lemmas.Grind.{common_steps}
use Rattle.std.proofs.Common.{arith, rules}
use Rattle.std.proofs.lemmas.Result.{IfOk-from_err}
use Rattle.ar_command_line.proofs.Reading.{appends_none, consumes_none}
use Rattle.ar_command_line.proofs.input.read_input.Goals as goal

pub returns-then-count-eq0-clause-ok : goal.returns-then-count-eq0-clause-ok
returns-then-count-eq0-clause-ok g c = record {
  front = consumes_none _ _ _ _ _ _ c.if-count-eq0.true c.loop-reads.invariant.front c.in-Ok.ensures.bytes.0;
  whole = λ _. c.in-Ok.ensures.bytes.1 c.if-count-eq0.true (search rules);
}

pub returns-then-count-eq0-clause-taken : goal.returns-then-count-eq0-clause-taken
returns-then-count-eq0-clause-taken g c =
    appends_none _ _ _ _ _ _ c.if-count-eq0.true c.loop-reads.invariant.taken c.in-Ok.ensures.takes

pub returns-in_err-extend_from_slice-clause-ok : goal.returns-in_err-extend_from_slice-clause-ok
returns-in_err-extend_from_slice-clause-ok g c =
    IfOk-from_err _ _ c.from_residual-in_err-extend_from_slice.ensures.0

pub returns-in_err-extend_from_slice-clause-taken : goal.returns-in_err-extend_from_slice-clause-taken
returns-in_err-extend_from_slice-clause-taken g c =
    IfOk-from_err _ _ c.from_residual-in_err-extend_from_slice.ensures.0

pub returns-then-len-gt-MOST_BYTES : goal.returns-then-len-gt-MOST_BYTES
returns-then-len-gt-MOST_BYTES c = grind (arith, common_steps) steps 2000000

pub loop-reads-preserved : goal.loop-reads-preserved
loop-reads-preserved c = grind (arith, common_steps) steps 2000000
