-- What the code keeps of one metric, and how a mark and the closing of the run change it.
--
-- No public contract speaks of this.
use Rattle.ar_limits.specs.declared.event.Mark.{Mark}
use Rattle.ar_limits.specs.declared.limits.Limits.{Limits}
use Rattle.ar_limits.specs.declared.metric.Metric.{Metric}
use Rattle.ar_limits.specs.declared.phase.Phase.TheVariants as phase
use Rattle.ar_limits.specs.Run.{settled}
use Rattle.ar_limits.specs.Private.Step.{with_mark, phase_by_counts, no_counts}

-- a metric without marks
abbrev pub opening : Limits → Metric
opening limits = record { limits = limits; counts = no_counts; phase = phase.Pending }

-- one mark more
abbrev pub with_mark_added : Metric → Mark → Metric
with_mark_added metric mark =
    let counts = with_mark metric.counts mark in
    record metric { counts = counts; phase = phase_by_counts metric.limits counts }

-- its run is closed
abbrev pub after_closing : Metric → Metric
after_closing metric = record metric { phase = settled metric.phase }
