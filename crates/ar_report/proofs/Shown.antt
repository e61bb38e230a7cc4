-- Conditions, one after another.
use Rattle.std.proofs.Common.{◌≡◌, ◌<◌, ◌≤◌, ℕ, suc, ◌+◌, List, [], ◌∷◌, ◌++◌, flat_map, length, map, drop, refl, sym, ◌∙◌, ap, arith, append-nil}
use Rattle.std.specs.Prelude.{slice_index_or}
use Rattle.std.proofs.lemmas.List.{append_assoc}
use Rattle.ar_judge.specs.Verdict.{Judge}
use Rattle.ar_bundle.specs.Sound.{IsRun, JudgesEach}
use Rattle.ar_bundle.specs.declared.bundle.MetricPart.{MetricPart}
use Rattle.ar_bundle.specs.declared.bundle.RunPart.{RunPart}
use Rattle.ar_facts.specs.Facts.{ConditionFacts, facts_of_conditions, facts_of_judges, judge_facts}
use Rattle.serde_json.specs.Data.{Data}
use Rattle.ar_object.proofs.Texts.{Remains, next_value, none_remains}
use Rattle.ar_object.specs.Written.{AddsValue, AddsValues, Output}
use Rattle.ar_report.specs.Private.Shown.{condition_seen, conditions_seen}
use Rattle.ar_facts.specs.ReportData.{condition_data}
use Rattle.ar_report.specs.declared.conditions.NamedCondition.{NamedCondition}
use Rattle.ar_facts.proofs.Lines.{no_more, none_left, one_more, read_at}

same_length : (metrics : List MetricPart) (judges : List Judge) → JudgesEach metrics judges → length judges ≡ length metrics
same_length [] [] each = refl
same_length (metric ∷ metrics) (judge ∷ judges) each = ap suc (same_length metrics judges each.1)
same_length [] (judge ∷ judges) each = absurd each
same_length (metric ∷ metrics) [] each = absurd each

pub judge_inside : (metrics : List MetricPart) (run : RunPart) (index : ℕ) → IsRun metrics run → index < length metrics → index < length run.judges
judge_inside metrics run index is inside = let same = same_length metrics run.judges is.judges in omega arith

pub next_judge : (run : List ℕ) (metrics : List MetricPart) (judges : List Judge) (index : ℕ) (metric : MetricPart) (judge : Judge) (found total : List ConditionFacts) → index < length metrics → metric ≡ slice_index_or metrics index metric → index < length judges → judge ≡ slice_index_or judges index judge
    → found ++ facts_of_judges run (drop index metrics) (drop index judges) ≡ total → (found ++ judge_facts run metric.name judge) ++ facts_of_judges run (drop (index + 1) metrics) (drop (index + 1) judges) ≡ total
next_judge run metrics judges index metric judge found total inside read judge_inside judge_read so_far =
    let rest : facts_of_judges run (drop index metrics) (drop index judges) ≡ judge_facts run metric.name judge ++ facts_of_judges run (drop (index + 1) metrics) (drop (index + 1) judges) =
    rw (read_at metrics index metric inside read, read_at judges index judge judge_inside judge_read) refl in
    append_assoc found (judge_facts run metric.name judge) (facts_of_judges run (drop (index + 1) metrics) (drop (index + 1) judges)) ∙ (ap (λ facts. found ++ facts) (sym rest) ∙ so_far)

pub no_judge : (run : List ℕ) (metrics : List MetricPart) (judges : List Judge) (index : ℕ) (found total : List ConditionFacts) → length metrics ≤ index → found ++ facts_of_judges run (drop index metrics) (drop index judges) ≡ total → found ≡ total
no_judge run metrics judges index found total past so_far =
    let none : facts_of_judges run (drop index metrics) (drop index judges) ≡ [] = ap (λ metrics. facts_of_judges run metrics (drop index judges)) (none_left metrics index past) in
    sym (append-nil found) ∙ (ap (λ facts. found ++ facts) (sym none) ∙ so_far)

pub next_of_runs : (metrics : List MetricPart) (runs : List RunPart) (index : ℕ) (run : RunPart) (found total : List ConditionFacts) → index < length runs → run ≡ slice_index_or runs index run → found ++ facts_of_conditions metrics (drop index runs) ≡ total
    → (found ++ facts_of_judges run.name metrics run.judges) ++ facts_of_conditions metrics (drop (index + 1) runs) ≡ total
next_of_runs metrics runs index run found total inside read so_far =
    append_assoc found (facts_of_judges run.name metrics run.judges) (facts_of_conditions metrics (drop (index + 1) runs))
    ∙ (ap (λ runs. found ++ facts_of_conditions metrics runs) (sym (read_at runs index run inside read)) ∙ so_far)

pub no_run_left : (metrics : List MetricPart) (runs : List RunPart) (index : ℕ) (found total : List ConditionFacts) → length runs ≤ index → found ++ facts_of_conditions metrics (drop index runs) ≡ total → found ≡ total
no_run_left metrics runs index found total past so_far =
    sym (append-nil found) ∙ (ap (λ runs. found ++ facts_of_conditions metrics runs) (sym (none_left runs index past)) ∙ so_far)

-- ---- conditions that were gathered, one after another

condition_read : (conditions : List NamedCondition) (index : ℕ) (condition : NamedCondition) → index < length conditions → condition ≡ slice_index_or conditions index condition → conditions_seen (drop index conditions) ≡ condition_seen condition ∷ conditions_seen (drop (index + 1) conditions)
condition_read conditions index condition inside read = ap conditions_seen (read_at conditions index condition inside read)

pub next_line : (text : ConditionFacts → List ℕ) (conditions : List NamedCondition) (index : ℕ) (condition : NamedCondition) (written total : List ℕ) → index < length conditions → condition ≡ slice_index_or conditions index condition → written ++ flat_map text (conditions_seen (drop index conditions)) ≡ total
    → (written ++ text (condition_seen condition)) ++ flat_map text (conditions_seen (drop (index + 1) conditions)) ≡ total
next_line text conditions index condition written total inside read so_far =
    one_more text _ _ (condition_seen condition) written total (condition_read conditions index condition inside read) so_far

pub no_line : (text : ConditionFacts → List ℕ) (conditions : List NamedCondition) (index : ℕ) (written total : List ℕ) → length conditions ≤ index → written ++ flat_map text (conditions_seen (drop index conditions)) ≡ total → written ≡ total
no_line text conditions index written total past so_far =
    no_more text (conditions_seen (drop index conditions)) written total (ap conditions_seen (none_left conditions index past)) so_far

pub next_condition : (conditions : List NamedCondition) (index : ℕ) (condition : NamedCondition) (all : List Data) (start now next : Output) → index < length conditions → condition ≡ slice_index_or conditions index condition → AddsValue (condition_data (condition_seen condition)) now next
    → Remains (map condition_data (conditions_seen (drop index conditions))) all start now → Remains (map condition_data (conditions_seen (drop (index + 1) conditions))) all start next
next_condition conditions index condition all start now next inside read adds remains =
    next_value condition_data _ _ (condition_seen condition) all start now next (condition_read conditions index condition inside read) adds remains

pub no_condition : (conditions : List NamedCondition) (index : ℕ) (all : List Data) (start now : Output) → length conditions ≤ index → Remains (map condition_data (conditions_seen (drop index conditions))) all start now → AddsValues all start now
no_condition conditions index all start now past remains = none_remains condition_data _ all start now (ap conditions_seen (none_left conditions index past)) remains
