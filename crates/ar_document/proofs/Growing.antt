-- Judges of metrics and parts of runs, one after another.
use Rattle.std.proofs.Common.{◌≡◌, ◌<◌, ◌+◌, ℕ, suc, List, [], ◌∷◌, ◌++◌, length, take, map, get_or, refl, sym, ◌∙◌, ap, add-one}
use Rattle.std.specs.List.{AllByRecursion}
use Rattle.std.proofs.lemmas.List.{map-append}
use Rattle.std.proofs.Math.Seq.{take-suc}
use Rattle.ar_manifest.specs.declared.bound.BoundMetric.{BoundMetric}
use Rattle.ar_judge.specs.Verdict.{IsJudge, Judge}
use Rattle.ar_bundle.specs.declared.bundle.MetricPart.{MetricPart}
use Rattle.ar_bundle.specs.declared.bundle.RunPart.{RunPart}
use Rattle.ar_document.specs.Opening.{Metric, Opened, metric_view}
use Rattle.ar_document.specs.Parts.{AreJudges, HaveParts, IsPart}
use Rattle.ar_document.specs.declared.runs.Run.{Run}

pub one_more : {A : Type 0} (P : A → Type 0) (xs : List A) (x : A) → AllByRecursion P xs → P x → AllByRecursion P (xs ++ x ∷ [])
one_more P [] x all last = (last, tt)
one_more P (first ∷ rest) x all last = (all.0, one_more P rest x all.1 last)

-- one item more is taken
pub taken_next : {A : Type 0} (xs : List A) (i : ℕ) (x : A) → i < length xs → x ≡ get_or xs i x → take (i + 1) xs ≡ take i xs ++ x ∷ []
taken_next xs i x inside is = ap (λ n. take n xs) (add-one i) ∙ take-suc xs i x inside ∙ ap (λ last. take i xs ++ last ∷ []) (sym is)

judge_more : (metrics : List Metric) (bound : List BoundMetric) (judges : List Judge) (metric : Metric) (own : BoundMetric) (judge : Judge) → AreJudges metrics bound judges
    → IsJudge metric.shape own.success_condition own.failure_condition judge → AreJudges (metrics ++ metric ∷ []) (bound ++ own ∷ []) (judges ++ judge ∷ [])
judge_more [] [] [] metric own judge are is = (is, tt)
judge_more (first ∷ metrics) (other ∷ bound) (earlier ∷ judges) metric own judge are is = (are.0, judge_more metrics bound judges metric own judge are.1 is)
judge_more [] [] (earlier ∷ judges) metric own judge are is = absurd are
judge_more [] (other ∷ bound) judges metric own judge are is = absurd are
judge_more (first ∷ metrics) [] judges metric own judge are is = absurd are
judge_more (first ∷ metrics) (other ∷ bound) [] metric own judge are is = absurd are

-- the judge of the next metric
pub next_judge : (metrics : List MetricPart) (bound : List BoundMetric) (judges : List Judge) (i : ℕ) (metric : MetricPart) (own : BoundMetric) (judge : Judge) → i < length metrics → i < length bound
    → metric ≡ get_or metrics i metric → own ≡ get_or bound i own → AreJudges (map metric_view (take i metrics)) (take i bound) judges
    → IsJudge (metric_view metric).shape own.success_condition own.failure_condition judge → AreJudges (map metric_view (take (i + 1) metrics)) (take (i + 1) bound) (judges ++ judge ∷ [])
next_judge metrics bound judges i metric own judge inside own_inside metric_is own_is are is =
    let longer : map metric_view (take (i + 1) metrics) ≡ map metric_view (take i metrics) ++ metric_view metric ∷ [] = ap (map metric_view) (taken_next metrics i metric inside metric_is) ∙ map-append metric_view (take i metrics) (metric ∷ []) in
    rw (longer, taken_next bound i own own_inside own_is) (judge_more (map metric_view (take i metrics)) (take i bound) judges (metric_view metric) own judge are is)

-- the part of the next run
pub part_more : (opened : Opened) (runs : List Run) (parts : List RunPart) (run : Run) (part : RunPart) → HaveParts opened runs parts → IsPart opened run part → HaveParts opened (runs ++ run ∷ []) (parts ++ part ∷ [])
part_more opened [] [] run part are is = (is, tt)
part_more opened (first ∷ runs) (earlier ∷ parts) run part are is = (are.0, part_more opened runs parts run part are.1 is)
part_more opened [] (earlier ∷ parts) run part are is = absurd are
part_more opened (first ∷ runs) [] run part are is = absurd are

-- each run has its part
pub as_many_parts : (opened : Opened) (runs : List Run) (parts : List RunPart) → HaveParts opened runs parts → length parts ≡ length runs
as_many_parts opened [] [] are = refl
as_many_parts opened (run ∷ runs) (part ∷ parts) are = ap (λ n. suc n) (as_many_parts opened runs parts are.1)
as_many_parts opened [] (part ∷ parts) are = absurd are
as_many_parts opened (run ∷ runs) [] are = absurd are
