use Rattle.std.proofs.Common.{◌≡◌, drop}
use Rattle.ar_command.specs.Private.Counting.{among_all, run_names}
use Rattle.ar_document.specs.Opening.{index_of_name}
use Rattle.ar_command.proofs.explained.run_named.Given as goal

-- the run isn't among those so far
abbrev pub invariant-loop-number : goal.invariant-loop-number
invariant-loop-number l = index_of_name l.name (run_names l.runs) ≡ among_all l.number (index_of_name l.name (run_names (drop l.number l.runs)))
