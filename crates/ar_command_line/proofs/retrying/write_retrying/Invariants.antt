use Rattle.std.specs.Prelude.{◌≡◌}
use Rattle.std.specs.Io.KnownBytes.{Keeps}
use Rattle.ar_command_line.proofs.Retries.{Interrupts}
use Rattle.ar_command_line.proofs.retrying.write_retrying.Given as goal

-- an interrupted call did nothing
abbrev pub invariant-loop-try : goal.invariant-loop-try
invariant-loop-try g l = record {
  kept : Keeps (g.T.RawWrite.contents l.initial.writer) (g.T.RawWrite.contents l.writer);
  interrupts : Interrupts (g.T.RawWrite.write_answers l.initial.writer) (g.T.RawWrite.write_answers l.writer) l._try;
  other : g.T.RawWrite.flush_answers l.writer ≡ g.T.RawWrite.flush_answers l.initial.writer;
}
