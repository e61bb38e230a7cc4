use Rattle.std.proofs.Common.{◌≡◌, ◌≤◌, ◌-◌, length}
use Rattle.ar_code.specs.Decoding.{so_many_ops}
use Rattle.ar_code.proofs.Loops.{following}
use Rattle.ar_code.proofs.image_reading.ops_at.Given as goal

-- the operations so far come before those that are still read
abbrev pub invariant-loop : goal.invariant-loop
invariant-loop l = (length l.rest ≤ length l.bytes)
    × (following l.ops.items (so_many_ops l.end l.version l.tables.texts l.tables.names (l.count - l.counter) l.rest) ≡ so_many_ops l.end l.version l.tables.texts l.tables.names l.count l.bytes)
