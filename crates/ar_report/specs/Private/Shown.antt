-- Conditions as they are gathered in memory.
use Rattle.std.specs.Prelude.{List, map}
use Rattle.ar_facts.specs.Facts.{ConditionFacts, condition_facts}
use Rattle.ar_report.specs.declared.conditions.NamedCondition.{NamedCondition}

abbrev pub condition_seen : NamedCondition → ConditionFacts
condition_seen condition =
    condition_facts condition.run.now condition.metric.now condition.which.now condition.verified.now

abbrev pub conditions_seen : List NamedCondition → List ConditionFacts
conditions_seen conditions = map condition_seen conditions
