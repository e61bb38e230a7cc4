-- Conditions of earlier runs are built of their texts.
use Rattle.ar_judge.specs.Condition.{Condition}
use Rattle.std.proofs.Common.{◌≡◌, ℕ, zero, suc, List, [], ◌∷◌, map, Option, Some, None, sym, ap, subst, ◌∙◌}
use Rattle.std.specs.Prelude.{IfSome, slice_get, option_map}
use Rattle.std.proofs.lemmas.Option.{slice_get-map}
use Rattle.ar_value.specs.Shape.{Shape}
use Rattle.ar_value.specs.View.{shape_view}
use Rattle.ar_manifest.specs.declared.bound.BoundMetric.{BoundMetric}
use Rattle.ar_manifest.specs.declared.template.Template.{Template}
use Rattle.ar_judge.specs.Built.{IsBuilt}
use Rattle.ar_judge.specs.Judging.{condition_as}
use Rattle.ar_judge.specs.Verdict.{AreBuilt, IsJudge, Judge}
use Rattle.ar_judge.specs.declared.judge.Which.{Which}
use Rattle.ar_judge.specs.declared.judge.Which.TheVariants.{Success, Failure}
use Rattle.ar_bundle.specs.declared.bundle.MetricPart.{MetricPart}
use Rattle.ar_bundle.specs.declared.bundle.RunPart.{RunPart}
use Rattle.ar_document.specs.Opening.{Metric, Opened, metric_view}
use Rattle.ar_document.specs.Parts.{AreJudges, HaveParts}
use Rattle.ar_document.specs.Private.Earlier.{AllOfTheirTexts, AreOfTheirTexts, IsOfEarlier, IsOfRun}
use Rattle.ar_document.specs.Private.Opened.{opened_with}
use Rattle.ar_document.specs.declared.runs.Run.{Run}

-- a condition that is built of a text is built of its own
of_its_text : (shape : Shape) (text : Option (List ℕ)) (condition : Condition) → AreBuilt shape text (Some condition) → IsBuilt shape condition.text condition
of_its_text shape (Some text) condition built = subst (λ (text : List ℕ). IsBuilt shape text condition) (sym built.text_is) built
of_its_text shape None condition built = absurd built

of_judge : (shape : Shape) (success failure : Option (List ℕ)) (judge : Judge) → IsJudge shape success failure judge → (which : Which) (condition : Condition) → condition_as which judge ≡ Some condition → IsBuilt shape condition.text condition
of_judge shape success failure judge is Success condition e = of_its_text shape success condition (subst (λ found. AreBuilt shape success found) e is.success_is)
of_judge shape success failure judge is Failure condition e = of_its_text shape failure condition (subst (λ found. AreBuilt shape failure found) e is.failure_is)

same : {A : Type 0} (x y : A) → Some x ≡ Some y → x ≡ y
same x y e = cc

-- the judge of a metric by its number
of_judges : (metrics : List Metric) (bound : List BoundMetric) (judges : List Judge) → AreJudges metrics bound judges → (number : ℕ) (metric : Metric) (judge : Judge) → slice_get metrics number ≡ Some metric → slice_get judges number ≡ Some judge
    → (which : Which) (condition : Condition) → condition_as which judge ≡ Some condition → IsBuilt metric.shape condition.text condition
of_judges (first ∷ metrics) (own ∷ bound) (one ∷ judges) are zero metric judge m j which condition is =
    subst (λ (metric : Metric). IsBuilt metric.shape condition.text condition) (same first metric m)
    (of_judge first.shape own.success_condition own.failure_condition one are.0 which condition (subst (λ judge. condition_as which judge ≡ Some condition) (sym (same one judge j)) is))
of_judges (first ∷ metrics) (own ∷ bound) (one ∷ judges) are (suc number) metric judge m j which condition is = of_judges metrics bound judges are.1 number metric judge m j which condition is
of_judges [] [] [] are number metric judge m j which condition is = absurd cc
of_judges [] [] (one ∷ judges) are number metric judge m j which condition is = absurd are
of_judges [] (own ∷ bound) judges are number metric judge m j which condition is = absurd are
of_judges (first ∷ metrics) [] judges are number metric judge m j which condition is = absurd are
of_judges (first ∷ metrics) (own ∷ bound) [] are number metric judge m j which condition is = absurd are

-- the part of a run by its number
of_parts : (opened : Opened) (runs : List Run) (parts : List RunPart) → HaveParts opened runs parts → (run number : ℕ) (metric : Metric) (part : RunPart) → slice_get parts run ≡ Some part → slice_get opened.metrics number ≡ Some metric
    → (which : Which) (condition : Condition) → IsOfRun part which number condition → IsBuilt metric.shape condition.text condition
of_parts opened (first ∷ runs) (one ∷ parts) are zero number metric part p m which condition is =
    let own : IsOfRun one which number condition = subst (λ part. IsOfRun part which number condition) (sym (same one part p)) is in
    of_judges opened.metrics are.0.bound one.judges are.0.judges number metric own.judge m own.judge_is which condition own.is
of_parts opened (first ∷ runs) (one ∷ parts) are (suc run) number metric part p m which condition is = of_parts opened runs parts are.1 run number metric part p m which condition is
of_parts opened [] [] are run number metric part p m which condition is = absurd cc
of_parts opened [] (one ∷ parts) are run number metric part p m which condition is = absurd are
of_parts opened (first ∷ runs) [] are run number metric part p m which condition is = absurd are

pub of_their_texts : (template : Template) (metrics : List MetricPart) (all runs : List Run) (parts : List RunPart) → HaveParts (opened_with template metrics all) runs parts → AllOfTheirTexts metrics parts
of_their_texts template metrics all runs parts are = λ number metric m which condition is.
    let there : slice_get (map metric_view metrics) number ≡ Some (metric_view metric) = slice_get-map metric_view metrics number ∙ ap (option_map metric_view) m in
    of_parts (opened_with template metrics all) runs parts are is.run number (metric_view metric) is.part is.part_is there which condition is.is

-- what an earlier run has of a text is built of it
pub is_there : (number : ℕ) (metric : MetricPart) (earlier : List RunPart) → AreOfTheirTexts number metric earlier → (which : Which) (text : Option (List ℕ)) (condition : Condition) → IsOfEarlier earlier which number condition
    → text ≡ Some condition.text → AreBuilt (shape_view metric.shape) text (Some condition)
is_there number metric earlier each which text condition is same = subst (λ text. AreBuilt (shape_view metric.shape) text (Some condition)) (sym same) (each which condition is)

pub where_some : {A : Type 0} (P Q : A → Type 0) → ((x : A) → P x → Q x) → (found : Option A) → IfSome found P → IfSome found Q
where_some P Q each (Some x) is = each x is
where_some P Q each None is = tt
