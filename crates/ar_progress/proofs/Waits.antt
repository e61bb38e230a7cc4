-- What a run waits for, one metric after another.
use Rattle.std.proofs.Common.{◌≡◌, ◌<◌, ◌≤◌, ℕ, ◌+◌, List, drop, length, Some, sym, ◌∙◌, ap}
use Rattle.std.specs.Prelude.{slice_get, slice_index_or}
use Rattle.ar_limits.specs.declared.counts.Counts.{Counts}
use Rattle.ar_limits.specs.declared.limits.Limits.{Limits}
use Rattle.ar_limits.specs.declared.phase.Phase.{Phase}
use Rattle.ar_bundle.specs.declared.bundle.MetricPart.{MetricPart}
use Rattle.ar_facts.proofs.Lines.{metric_read, no_metric_left}
use Rattle.ar_facts.specs.Facts.{facts_of_metrics, metric_facts}
use Rattle.ar_progress.specs.Waiting.{with_metric, with_metrics}

pub next_wait : (metrics : List MetricPart) (limits : List Limits) (phases : List Phase) (others : List Counts) (index : ℕ) (metric : MetricPart) (phase : Phase) (counts : Counts) (words after : List ℕ) (own : Limits) (total : List ℕ) → index < length metrics → metric ≡ slice_index_or metrics index metric → index < length limits → own ≡ slice_index_or limits index own → slice_get phases index ≡ Some phase → slice_get others index ≡ Some counts
    → after ≡ with_metric words (metric_facts metric own phase counts)
    → with_metrics words (facts_of_metrics (drop index metrics) (drop index limits) (drop index phases) (drop index others)) ≡ total → with_metrics after (facts_of_metrics (drop (index + 1) metrics) (drop (index + 1) limits) (drop (index + 1) phases) (drop (index + 1) others)) ≡ total
next_wait metrics limits phases others index metric phase counts words after own total inside read own_inside own_read phase_there counts_there is so_far =
    ap (λ (words : List ℕ). with_metrics words (facts_of_metrics (drop (index + 1) metrics) (drop (index + 1) limits) (drop (index + 1) phases) (drop (index + 1) others))) is
    ∙ (sym (ap (with_metrics words) (metric_read metrics limits phases others index metric phase counts own inside read own_inside own_read phase_there counts_there)) ∙ so_far)

pub no_wait_left : (metrics : List MetricPart) (limits : List Limits) (phases : List Phase) (others : List Counts) (index : ℕ) (words total : List ℕ) → length metrics ≤ index → with_metrics words (facts_of_metrics (drop index metrics) (drop index limits) (drop index phases) (drop index others)) ≡ total → words ≡ total
no_wait_left metrics limits phases others index words total past so_far =
    sym (ap (with_metrics words) (no_metric_left metrics limits phases others index past)) ∙ so_far
