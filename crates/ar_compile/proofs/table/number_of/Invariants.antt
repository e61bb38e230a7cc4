use Rattle.std.proofs.Common.{◌≡◌, ◌+◌, ◌≤◌, drop, length, map, string_bytes}
use Rattle.ar_compile.specs.Compiled.{index_among}
use Rattle.ar_compile.proofs.table.number_of.Given as goal

-- the text isn't among those that were examined
abbrev pub invariant-loop-number : goal.invariant-loop-number
invariant-loop-number l =
    (l.number ≤ length l.texts) × (index_among l.text (map string_bytes l.texts) ≡ l.number + index_among l.text (map string_bytes (drop l.number l.texts)))
