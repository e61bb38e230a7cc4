use Rattle.std.proofs.Common.{◌≡◌, drop, map, string_bytes}
use Rattle.ar_usage.specs.Words.{first_refused}
use Rattle.ar_usage.specs.declared.words.Next.TheVariants.{Command}
use Rattle.ar_usage.proofs.words.first_refused.Given as goal

-- the words so far are taken
abbrev pub invariant-loop-word : goal.invariant-loop-word
invariant-loop-word l = first_refused l.next (map (λ word. string_bytes word) (drop l.word-index l.words)) ≡ first_refused Command (map (λ word. string_bytes word) l.words)
