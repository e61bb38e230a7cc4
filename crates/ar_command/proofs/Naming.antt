-- Names, one after another: the number of the first that is asked for.
use Rattle.std.proofs.Common.{◌≡◌, ◌<◌, ◌≤◌, ℕ, suc, ◌+◌, true, false, List, ◌∷◌, drop, length, Option, Some, None, refl, sym, ◌∙◌, ap, arith}
use Rattle.std.specs.Prelude.{option_map, slice_index_or}
use Rattle.std.specs.Str.{bytes_eq}
use Rattle.ar_bundle.specs.declared.bundle.MetricPart.{MetricPart}
use Rattle.ar_bundle.specs.declared.bundle.RunPart.{RunPart}
use Rattle.ar_command.specs.Private.Counting.{among_all, metric_names, run_names}
use Rattle.ar_document.specs.Opening.{index_of_name}
use Rattle.ar_facts.proofs.Lines.{none_left, read_at}

from_next : (index : ℕ) (found : Option ℕ) → among_all index (option_map suc found) ≡ among_all (index + 1) found
from_next index (Some n) = let same : index + suc n ≡ (index + 1) + n = omega arith in ap Some same
from_next index None = refl

from_none : (found : Option ℕ) → among_all 0 found ≡ found
from_none (Some n) = let same : 0 + n ≡ n = omega arith in ap Some same
from_none None = refl

here : (name first : List ℕ) (names : List (List ℕ)) (index : ℕ) → bytes_eq name first ≡ true → among_all index (index_of_name name (first ∷ names)) ≡ Some index
here name first names index is = let same : index + 0 ≡ index = omega arith in rw is (ap Some same)

later : (name first : List ℕ) (names : List (List ℕ)) (index : ℕ) → bytes_eq name first ≡ false → among_all index (index_of_name name (first ∷ names)) ≡ among_all (index + 1) (index_of_name name names)
later name first names index is = rw is (from_next index (index_of_name name names))

-- ---- runs

pub run_here : (runs : List RunPart) (index : ℕ) (run : RunPart) (name : List ℕ) (total : Option ℕ) → index < length runs → run ≡ slice_index_or runs index run → bytes_eq name run.name ≡ true → total ≡ among_all index (index_of_name name (run_names (drop index runs))) → Some index ≡ total
run_here runs index run name total inside read is so_far =
    sym (so_far ∙ (ap (λ left. among_all index (index_of_name name (run_names left))) (read_at runs index run inside read) ∙ here name run.name (run_names (drop (index + 1) runs)) index is))

pub run_later : (runs : List RunPart) (index : ℕ) (run : RunPart) (name : List ℕ) (total : Option ℕ) → index < length runs → run ≡ slice_index_or runs index run → bytes_eq name run.name ≡ false → total ≡ among_all index (index_of_name name (run_names (drop index runs))) → total ≡ among_all (index + 1) (index_of_name name (run_names (drop (index + 1) runs)))
run_later runs index run name total inside read is so_far =
    so_far ∙ (ap (λ left. among_all index (index_of_name name (run_names left))) (read_at runs index run inside read) ∙ later name run.name (run_names (drop (index + 1) runs)) index is)

pub no_run : (runs : List RunPart) (index : ℕ) (name : List ℕ) (total : Option ℕ) → length runs ≤ index → total ≡ among_all index (index_of_name name (run_names (drop index runs))) → None ≡ total
no_run runs index name total past so_far = sym (so_far ∙ ap (λ left. among_all index (index_of_name name (run_names left))) (none_left runs index past))

pub from_first_run : (runs : List RunPart) (name : List ℕ) → index_of_name name (run_names runs) ≡ among_all 0 (index_of_name name (run_names runs))
from_first_run runs name = sym (from_none (index_of_name name (run_names runs)))

-- ---- metrics

pub metric_here : (metrics : List MetricPart) (index : ℕ) (metric : MetricPart) (name : List ℕ) (total : Option ℕ) → index < length metrics → metric ≡ slice_index_or metrics index metric → bytes_eq name metric.name ≡ true → total ≡ among_all index (index_of_name name (metric_names (drop index metrics))) → Some index ≡ total
metric_here metrics index metric name total inside read is so_far =
    sym (so_far ∙ (ap (λ left. among_all index (index_of_name name (metric_names left))) (read_at metrics index metric inside read) ∙ here name metric.name (metric_names (drop (index + 1) metrics)) index is))

pub metric_later : (metrics : List MetricPart) (index : ℕ) (metric : MetricPart) (name : List ℕ) (total : Option ℕ) → index < length metrics → metric ≡ slice_index_or metrics index metric → bytes_eq name metric.name ≡ false → total ≡ among_all index (index_of_name name (metric_names (drop index metrics))) → total ≡ among_all (index + 1) (index_of_name name (metric_names (drop (index + 1) metrics)))
metric_later metrics index metric name total inside read is so_far =
    so_far ∙ (ap (λ left. among_all index (index_of_name name (metric_names left))) (read_at metrics index metric inside read) ∙ later name metric.name (metric_names (drop (index + 1) metrics)) index is)

pub no_metric : (metrics : List MetricPart) (index : ℕ) (name : List ℕ) (total : Option ℕ) → length metrics ≤ index → total ≡ among_all index (index_of_name name (metric_names (drop index metrics))) → None ≡ total
no_metric metrics index name total past so_far = sym (so_far ∙ ap (λ left. among_all index (index_of_name name (metric_names left))) (none_left metrics index past))

pub from_first_metric : (metrics : List MetricPart) (name : List ℕ) → index_of_name name (metric_names metrics) ≡ among_all 0 (index_of_name name (metric_names metrics))
from_first_metric metrics name = sym (from_none (index_of_name name (metric_names metrics)))
