-- That an input is one bundle, and that commands which judge nothing but one condition write one text for it.
use Rattle.ar_judge.specs.Condition.{Condition}
use Rattle.std.proofs.Common.{◌≡◌, ℕ, Bool, List, [], ◌∷◌, ◌++◌, Option, Some, None, Result, Ok, Err, map, refl, sym, subst, ◌∙◌, ap}
use Rattle.std.specs.Prelude.{codes}
use Rattle.ar_value.specs.Shape.{Shape}
use Rattle.ar_value.specs.declared.fault.Fault.{Fault}
use Rattle.ar_manifest.specs.declared.bound.BoundMetric.{BoundMetric}
use Rattle.ar_compile.specs.Compiled.{compiled}
use Rattle.ar_safety.specs.Verdict.{IsVerified}
use Rattle.ar_safety.proofs.OneVerdict.{same_bounds}
use Rattle.ar_judge.proofs.Trees.{tree_by_parser}
use Rattle.ar_judge.specs.Built.{IsBuilt}
use Rattle.ar_judge.specs.Verdict.{AreBuilt, Judge}
use Rattle.ar_bundle.specs.Bundle.{Bundle}
use Rattle.ar_bundle.specs.declared.bundle.MetricPart.{MetricPart}
use Rattle.ar_bundle.specs.declared.bundle.RunPart.{RunPart}
use Rattle.ar_document.specs.Document.{FollowsJson, ReadsInput}
use Rattle.ar_document.specs.Entries.{entry_view}
use Rattle.ar_document.specs.Opening.{Metric, Opened, metric_view}
use Rattle.ar_document.specs.Parts.{AreJudges, HaveParts, IsPart, limits_of}
use Rattle.ar_document.specs.declared.runs.Run.{Run}
use Rattle.ar_json.specs.Document.{json_in}
use Rattle.ar_json.specs.declared.document.JsonError.{JsonError}
use Rattle.serde_json.specs.Data.{Data}
use Rattle.ar_eval.specs.Evaluation.{Prepared}
use Rattle.ar_eval.specs.Evaluation as evaluation
use Rattle.ar_eval.specs.declared.eval.EvalError.{EvalError}
use Rattle.serde_json.specs.Written.{compact_text}
use Rattle.ar_report.specs.Check.{check_text, list_text}
use Rattle.ar_facts.specs.Facts.{check_facts, facts_if_there, facts_of_conditions, facts_of_judges, judge_facts, verified_if_there}
use Rattle.ar_facts.specs.ReportData.{answer_data, check_data}
use Rattle.ar_command.specs.Alike.{AreSameConditions, AreSameJudges, AreSameRuns, IsSameBundle, IsSameCondition, IsSameRun}
use Rattle.ar_command.specs.Serving.{IsPrinted, Says, line_of}
use Rattle.ar_command.specs.declared.serving.Closing.{Closing}
use Rattle.ar_command_line.specs.declared.command_line.Command.TheVariants as commands
use Rattle.ar_command_line.specs.declared.command_line.Format.{Format}
use Rattle.ar_command_line.specs.declared.command_line.Format.TheVariants as formats

-- ---- one bundle

one_condition : (shape : Shape) (text : List ℕ) (one other : Condition) → IsBuilt shape text one → IsBuilt shape text other → IsSameCondition one other
one_condition shape text one other is also =
    let typed = tree_by_parser shape text is.tree is.has_tree in
    let typed_also = tree_by_parser shape text also.tree also.has_tree in
    let same : also.tree ≡ is.tree = cc in
    let accepted = subst (λ tree. IsVerified (compiled tree) shape other.verified.budget other.verified.depth) same also.accepted in
    let bounds = same_bounds (compiled is.tree) shape one.verified.budget one.verified.depth other.verified.budget other.verified.depth is.accepted accepted in
    record {
      text = is.text_is ∙ sym also.text_is;
      code = is.code_is ∙ sym (also.code_is ∙ ap compiled same);
      shape = is.shape_is ∙ sym also.shape_is;
      budget = bounds.0;
      depth = bounds.1;
    }

one_choice : (shape : Shape) (text : Option (List ℕ)) (one other : Option Condition) → AreBuilt shape text one → AreBuilt shape text other → AreSameConditions one other
one_choice shape (Some text) (Some one) (Some other) is also = one_condition shape text one other is also
one_choice shape (Some text) (Some one) None is also = absurd also
one_choice shape (Some text) None other is also = absurd is
one_choice shape None (Some one) other is also = absurd is
one_choice shape None None (Some other) is also = absurd also
one_choice shape None None None is also = tt

one_judges : (metrics : List Metric) (bound : List BoundMetric) (some others : List Judge) → AreJudges metrics bound some → AreJudges metrics bound others → AreSameJudges some others
one_judges [] [] [] [] are also = tt
one_judges [] [] [] (other ∷ others) are also = absurd also
one_judges [] [] (one ∷ some) others are also = absurd are
one_judges [] (own ∷ bound) some others are also = absurd are
one_judges (metric ∷ metrics) [] some others are also = absurd are
one_judges (metric ∷ metrics) (own ∷ bound) [] others are also = absurd are
one_judges (metric ∷ metrics) (own ∷ bound) (one ∷ some) [] are also = absurd also
one_judges (metric ∷ metrics) (own ∷ bound) (one ∷ some) (other ∷ others) are also = (
  (
    one_choice metric.shape own.success_condition one.success other.success are.0.success_is also.0.success_is,
    one_choice metric.shape own.failure_condition one.failure other.failure are.0.failure_is also.0.failure_is,
  ),
  one_judges metrics bound some others are.1 also.1,
)

one_part : (opened : Opened) (run : Run) (one other : RunPart) → IsPart opened run one → IsPart opened run other → IsSameRun one other
one_part opened run one other is also =
    let bound = is.is_bound in
    let bound_also = also.is_bound in
    let same : also.bound ≡ is.bound = cc in
    record {
      name = is.name ∙ sym also.name;
      judges = one_judges opened.metrics is.bound one.judges other.judges is.judges (subst (λ bound. AreJudges opened.metrics bound other.judges) same also.judges);
      limits = is.limits ∙ sym (also.limits ∙ ap (map limits_of) same);
    }

one_run_list : (opened : Opened) (runs : List Run) (some others : List RunPart) → HaveParts opened runs some → HaveParts opened runs others → AreSameRuns some others
one_run_list opened [] [] [] are also = tt
one_run_list opened [] [] (other ∷ others) are also = absurd also
one_run_list opened [] (one ∷ some) others are also = absurd are
one_run_list opened (run ∷ runs) [] others are also = absurd are
one_run_list opened (run ∷ runs) (one ∷ some) [] are also = absurd also
one_run_list opened (run ∷ runs) (one ∷ some) (other ∷ others) are also = (one_part opened run one other are.0 also.0, one_run_list opened runs some others are.1 also.1)

of_json : (json : Result Data JsonError) (one other : Bundle) → FollowsJson json (Ok one) → FollowsJson json (Ok other) → IsSameBundle one other
of_json (Err error) one other is also = absurd cc
of_json (Ok document) one other is also =
    let opens = is.opens in
    let opens_also = also.opens in
    let same : also.opened ≡ is.opened = cc in
    let metrics = also.metrics ∙ ap (λ (o : Opened). o.metrics) same in
    let runs = subst (λ (o : Opened). HaveParts o o.runs other.runs) same also.runs in
    let entries = is.entries in
    let entries_also = also.entries in
    let entries_same : map entry_view one.entries ≡ map entry_view other.entries = cc in
    record { metrics = is.metrics ∙ sym metrics; runs = one_run_list is.opened is.opened.runs one.runs other.runs is.runs runs; entries = entries_same }

pub one_bundle : (input : List ℕ) (one other : Bundle) → ReadsInput input (Ok one) → ReadsInput input (Ok other) → IsSameBundle one other
one_bundle input one other is also = of_json (json_in input) one other is.follows also.follows

-- ---- what is shown of it

same_facts_if_there : (run metric which : List ℕ) (one other : Option Condition) → AreSameConditions one other → facts_if_there run metric which (verified_if_there one) ≡ facts_if_there run metric which (verified_if_there other)
same_facts_if_there run metric which (Some one) (Some other) same = let code = same.code in let budget = same.budget in let depth = same.depth in rw (code, budget, depth) refl
same_facts_if_there run metric which (Some one) None same = absurd same
same_facts_if_there run metric which None (Some other) same = absurd same
same_facts_if_there run metric which None None same = refl

same_facts_of_judges : (run : List ℕ) (metrics others : List MetricPart) (one other : List Judge) → map metric_view metrics ≡ map metric_view others → AreSameJudges one other → facts_of_judges run metrics one ≡ facts_of_judges run others other
same_facts_of_judges run [] [] one other named same = refl
same_facts_of_judges run [] (metric ∷ others) one other named same = absurd cc
same_facts_of_judges run (metric ∷ metrics) [] one other named same = absurd cc
same_facts_of_judges run (metric ∷ metrics) (its ∷ others) [] [] named same = refl
same_facts_of_judges run (metric ∷ metrics) (its ∷ others) [] (judge ∷ other) named same = absurd same
same_facts_of_judges run (metric ∷ metrics) (its ∷ others) (judge ∷ one) [] named same = absurd same
same_facts_of_judges run (metric ∷ metrics) (its ∷ others) (judge ∷ one) (also ∷ other) named same =
    let head : metric_view metric ≡ metric_view its = cc in
    let rest : map metric_view metrics ≡ map metric_view others = cc in
    let name : metric.name ≡ its.name = ap (λ (m : Metric). m.name) head in
    let success = same_facts_if_there run its.name (codes "success") judge.success also.success same.0.0 in
    let failure = same_facts_if_there run its.name (codes "failure") judge.failure also.failure same.0.1 in
    let own : judge_facts run metric.name judge ≡ judge_facts run its.name also = rw name (rw success (rw failure refl)) in
    let later = same_facts_of_judges run metrics others one other rest same.1 in
    rw own (rw later refl)

same_facts_of_conditions : (metrics others : List MetricPart) (one other : List RunPart) → map metric_view metrics ≡ map metric_view others → AreSameRuns one other → facts_of_conditions metrics one ≡ facts_of_conditions others other
same_facts_of_conditions metrics others [] [] named same = refl
same_facts_of_conditions metrics others [] (also ∷ other) named same = absurd same
same_facts_of_conditions metrics others (run ∷ one) [] named same = absurd same
same_facts_of_conditions metrics others (run ∷ one) (also ∷ other) named same =
    let name = same.0.name in
    let own : facts_of_judges run.name metrics run.judges ≡ facts_of_judges also.name others also.judges = rw name (same_facts_of_judges also.name metrics others run.judges also.judges named same.0.judges) in
    let later = same_facts_of_conditions metrics others one other named same.1 in
    rw own (rw later refl)

same_check_facts : (one other : Bundle) → IsSameBundle one other → check_facts one ≡ check_facts other
same_check_facts one other same = same_facts_of_conditions one.metrics other.metrics one.runs other.runs same.metrics same.runs

-- ---- one text

-- what is printed of the same is the same
pub one_printed : (format : Format) (words its_words : List ℕ) (written its_written : Data) (text other : List ℕ) → words ≡ its_words → written ≡ its_written → IsPrinted format words written text → IsPrinted format its_words its_written other → text ≡ other
one_printed formats.Text words its_words written its_written text other same same_written is also = is ∙ (same ∙ sym also)
one_printed formats.Json words its_words written its_written text other same same_written is also = is.is ∙ (ap (λ written. compact_text written ++ codes "\n") same_written ∙ sym also.is)

pub one_check : (format : Format) (input text other : List ℕ) (closing closing_of_other : Closing) → Says (commands.Check format) input text closing → Says (commands.Check format) input other closing_of_other → text ≡ other
one_check format input text other closing closing_of_other says also =
    let same = same_check_facts says.0.bundle also.0.bundle (one_bundle input says.0.bundle also.0.bundle says.0.reads also.0.reads) in
    one_printed format _ _ _ _ text other (ap check_text same) (ap check_data same) says.0.is also.0.is

pub one_listing : (input text other : List ℕ) (closing closing_of_other : Closing) → Says commands.List input text closing → Says commands.List input other closing_of_other → text ≡ other
one_listing input text other closing closing_of_other says also =
    says.0.is ∙ (ap list_text (same_check_facts says.0.bundle also.0.bundle (one_bundle input says.0.bundle also.0.bundle says.0.reads also.0.reads)) ∙ sym also.0.is)

one_answer : (given : Result Prepared EvalError) (one other : Result Bool Fault) → evaluation.Follows given (Ok one) → evaluation.Follows given (Ok other) → one ≡ other
one_answer (Ok given) one other is also = let meant = is.1 in let meant_also = also.1 in cc
one_answer (Err fault) one other is also = absurd cc

pub one_line : (format : Format) (input text other : List ℕ) (closing closing_of_other : Closing) → Says (commands.Eval format) input text closing → Says (commands.Eval format) input other closing_of_other → text ≡ other
one_line format input text other closing closing_of_other says also =
    let same = one_answer (evaluation.prepared_input input) says.0.answer also.0.answer says.0.evaluates.follows also.0.evaluates.follows in
    one_printed format _ _ _ _ text other (ap line_of same) (ap answer_data same) says.0.is also.0.is
