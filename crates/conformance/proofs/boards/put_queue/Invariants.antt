use denote.Text.{Utf8}
use denote.Shadow.{shadow}
use Rattle.conformance.proofs.boards.put_queue.Given as goal

-- the separator is text
abbrev pub invariant-loop-number : goal.invariant-loop-number
invariant-loop-number l =
    (goal.iterator-loop-number).can_next l.number-iterator ×
    (goal.iterator-loop-number).is_finite l.number-iterator ×
    shadow (Utf8 l.separator)
