use Rattle.std.proofs.Common.{◌≡◌, ◌+◌, ◌≤◌, drop, length}
use Rattle.std.specs.List.{prefix_len}
use Rattle.ar_quote.specs.Private.Runs.{continues}
use Rattle.ar_quote.proofs.tokens.run_length.Given as goal

-- the bytes so far are of the run
abbrev pub invariant-loop-offset : goal.invariant-loop-offset
invariant-loop-offset l = record {
  so_far : l.offset + prefix_len (continues l.run) (drop l.offset l.bytes) ≡ prefix_len (continues l.run) l.bytes;
  within : l.offset ≤ length l.bytes;
}
