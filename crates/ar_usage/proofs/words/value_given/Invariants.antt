use Rattle.std.proofs.Common.{◌≡◌, length, map, string_bytes}
use Rattle.ar_usage.specs.Words.{value_given}
use Rattle.ar_usage.proofs.words.value_given.Given as goal

-- the words so far have no value of the option
abbrev pub invariant-loop-word : goal.invariant-loop-word
invariant-loop-word l = value_given l.option (map (λ word. string_bytes word) l.rest) ≡ value_given l.option (map (λ word. string_bytes word) l.words)

abbrev pub decreases-loop-word : goal.decreases-loop-word
decreases-loop-word l = length l.rest
