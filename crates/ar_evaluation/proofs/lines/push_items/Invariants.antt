use Rattle.std.proofs.Common.{◌≡◌, ◌++◌, drop, flat_map, string_bytes}
use Rattle.ar_evaluation.specs.EvaluatedText.{item_text}
use Rattle.ar_evaluation.proofs.lines.push_items.Given as goal

-- the numbers so far come before those that are left
abbrev pub invariant-loop-number : goal.invariant-loop-number
invariant-loop-number l = string_bytes l.out ++ flat_map item_text (drop l.number-index l.items) ≡ string_bytes l.initial.out ++ flat_map item_text l.items
