use Rattle.ar_facts.proofs.States.{AreStatesBelow}
use Rattle.ar_report.proofs.reports.states_of.Given as goal

-- the states of the runs so far
abbrev pub invariant-loop-number : goal.invariant-loop-number
invariant-loop-number l = AreStatesBelow l.bundle l.histories l.number l.states.items
