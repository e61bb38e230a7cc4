use Rattle.std.proofs.Common.{◌≡◌, false, length}
use Rattle.ar_command_line.proofs.Writing.{HasWritten}
use Rattle.ar_command_line.proofs.output.write_output.Given as goal

-- the bytes are those that were written so far and the rest
abbrev pub invariant-loop-rest : goal.invariant-loop-rest
invariant-loop-rest g l = record {
  works : g.W.Sink.has_failed l.sink ≡ false;
  so_far : HasWritten g.W.Sink.contents g.W.Sink.calls l.initial.sink l.sink l.bytes l.rest;
}

abbrev pub decreases-loop-rest : goal.decreases-loop-rest
decreases-loop-rest g l = length l.rest
