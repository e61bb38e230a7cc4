use Rattle.std.proofs.Common.{◌≡◌, ◌+◌, ◌≤◌, drop, false, length}
use Rattle.ar_quote.specs.Tokens.{literal_length}
use Rattle.ar_quote.proofs.tokens.literal_length.Given as goal

-- the bytes so far are of the literal
abbrev pub invariant-loop-offset : goal.invariant-loop-offset
invariant-loop-offset l = record {
  so_far : l.offset + literal_length l.quote l.escaped (drop l.offset l.bytes) ≡ literal_length l.quote false l.bytes;
  within : l.offset ≤ length l.bytes;
}
