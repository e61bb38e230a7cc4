use Rattle.std.proofs.Common.{drop, map}
use Rattle.ar_object.proofs.Texts.{Remains}
use Rattle.ar_report.specs.Private.Shown.{conditions_seen}
use Rattle.ar_facts.specs.ReportData.{condition_data}
use Rattle.ar_report.proofs.json.put_conditions.Given as goal

-- the conditions that are left are still to be written
abbrev pub invariant-loop-condition : goal.invariant-loop-condition
invariant-loop-condition l = Remains (map condition_data (conditions_seen (drop l.condition-index l.conditions))) (map condition_data (conditions_seen l.conditions)) l.initial.json.written l.json.written
