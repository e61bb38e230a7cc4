use Rattle.std.proofs.Common.{◌≡◌, ◌≤◌, ◌-◌, length, map, string_bytes}
use Rattle.ar_code.specs.Decoding.{so_many_texts}
use Rattle.ar_code.proofs.Loops.{following}
use Rattle.ar_code.proofs.image_reading.so_many_texts.Given as goal

-- the texts so far come before those that are still read
abbrev pub invariant-loop : goal.invariant-loop
invariant-loop l = (length l.rest ≤ length l.bytes)
    × (following (map string_bytes l.texts.items) (so_many_texts l.end (l.count - l.counter) l.rest) ≡ so_many_texts l.end l.count l.bytes)
