use Rattle.std.proofs.Common.{◌≡◌, drop, take}
use Rattle.ar_code.specs.Decoding.{cut_number}
use Rattle.ar_code.proofs.Numbers.{with_front}
use Rattle.ar_code.proofs.reader.number_len.Given as goal

-- no byte so far is the last
abbrev pub invariant-loop-before : goal.invariant-loop-before
invariant-loop-before l = cut_number l.bytes ≡ with_front (take l.before l.bytes) (cut_number (drop l.before l.bytes))
