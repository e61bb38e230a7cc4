use Rattle.std.proofs.Common.{◌≡◌, ◌++◌, drop, flat_map, string_bytes}
use Rattle.ar_report.specs.Check.{listed_text}
use Rattle.ar_facts.specs.Facts.{check_facts}
use Rattle.ar_report.specs.Private.Shown.{conditions_seen}
use Rattle.ar_report.proofs.conditions.list_text.Given as goal

-- the lines so far come before those of the conditions that are left
abbrev pub invariant-loop-condition : goal.invariant-loop-condition
invariant-loop-condition l = string_bytes l.out ++ flat_map listed_text (conditions_seen (drop l.condition-index l.condition-items)) ≡ flat_map listed_text (check_facts l.bundle)
