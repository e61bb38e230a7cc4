use Rattle.std.proofs.Common.{arith, ◌∷◌, [], map, take, ap, sym, ◌∙◌}
use Rattle.std.proofs.lemmas.Grind.{common_steps}
use Rattle.std.proofs.lemmas.List.{map-append}
use Rattle.ar_document.specs.Parts.{limits_of}
use Rattle.ar_document.proofs.Growing.{taken_next}
use Rattle.ar_document.proofs.parts.all_limits.Goals as goal

pub loop-metric-preserved : goal.loop-metric-preserved
loop-metric-preserved c =
    let bound = c.args.bound.now in
    let taken = ap (map limits_of) (taken_next bound c.loop-metric.metric-index c.metric-item.result c.loop-metric-test.true c.metric-item.is) ∙ map-append limits_of (take c.loop-metric.metric-index bound) (c.metric-item.result ∷ []) in
    c.in_ok-push.ensures.items ∙ rw (c.loop-metric.invariant, c.limits_of.ensures) (sym taken)

pub returns : goal.returns
returns c = grind (arith, common_steps)
