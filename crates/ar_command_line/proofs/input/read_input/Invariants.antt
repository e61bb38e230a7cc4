use Rattle.std.proofs.Common.{◌≡◌, ◌≤◌, false, length}
use Rattle.std.specs.Io.KnownBytes.{Appends, Consumes}
use Rattle.ar_command_line.specs.History.{GrowsAtMost}
use Rattle.ar_json.specs.Document.{most_bytes}
use Rattle.ar_command_line.proofs.input.read_input.Given as goal

-- what was read so far was consumed, with a byte or more in each iteration
abbrev pub invariant-loop-reads : goal.invariant-loop-reads
invariant-loop-reads g l = record {
  works : g.R.Source.has_failed l.source ≡ false;
  front : Consumes (g.R.Source.remaining l.initial.source) (g.R.Source.remaining l.source) l.bytes.items;
  taken : Appends (g.R.Source.taken l.initial.source) (g.R.Source.taken l.source) l.bytes.items;
  counts : GrowsAtMost (g.R.Source.reads l.initial.source) (g.R.Source.reads l.source) l.reads;
  few_reads : l.reads ≤ length l.bytes.items;
  few : length l.bytes.items ≤ most_bytes;
}
