use Rattle.std.specs.Io.KnownBytes.{Keeps}
use Rattle.ar_command_line.proofs.Retries.{Interrupts}
use Rattle.ar_command_line.proofs.retrying.read_retrying.Given as goal

-- an interrupted call did nothing
abbrev pub invariant-loop-try : goal.invariant-loop-try
invariant-loop-try g l = record {
  kept : Keeps (g.T.RawRead.remaining l.initial.reader) (g.T.RawRead.remaining l.reader);
  interrupts : Interrupts (g.T.RawRead.read_answers l.initial.reader) (g.T.RawRead.read_answers l.reader) l._try;
}
