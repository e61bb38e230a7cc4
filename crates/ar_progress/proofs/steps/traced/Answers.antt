use Rattle.std.proofs.Common.{rules, ◌+◌, ℕ, List, Option, length, ◌∙◌, ap, subst, sym}
use Rattle.ar_limits.specs.declared.limits.Limits.{Limits}
use Rattle.ar_facts.proofs.Replaying.{next_read}
use Rattle.ar_progress.proofs.Completers.{completers_read, known_is, room_of}
use Rattle.ar_progress.proofs.Histories.{closer_read, next_step}
use Rattle.ar_progress.specs.Private.Completers.{IsOfMetric, known_completer}
use Rattle.ar_progress.proofs.steps.traced.Goals as goal

pub loop-entry-preserved : goal.loop-entry-preserved
loop-entry-preserved c =
    let inside = c.loop-entry-test.true in
    let changes = c.apply-change.ensures.change _ _ c.loop-entry.invariant.0 in
    let own = subst (λ (limits : List Limits). IsOfMetric (length limits) c.apply-change.result) c.as_slice-limits.ensures c.apply-change.ensures.own in
    let known = known_is c.args.bundle.now c.args.run.now.limits _ c.loop-entry.completers.items c.apply-change.result c.loop-entry.invariant.3 own in
    let next = next_step c.args.bundle.now c.args.run.now.limits c.args.entries.now c.loop-entry.entry-index _ c.event-event.result c.apply-change.result c.loop-entry.closer c.completer_of.result c.args.chosen c.loop-entry.steps.items _ inside c.event-event.ensures.exact changes c.loop-entry.invariant.2 (c.completer_of.ensures ∙ (ap (λ (completers : List (Option ℕ)). known_completer completers c.apply-change.result) c.deref.ensures.value ∙ known)) c.loop-entry.invariant.4 in
    let kept = next.0 in
    let passed = next.1 in (
      next_read c.args.bundle.now c.args.run.now.limits c.args.entries.now c.loop-entry.entry-index _ c.event-event.result c.loop-entry.state c.apply-change.new.state inside c.event-event.ensures.exact c.loop-entry.invariant.0 c.apply-change.ensures.replays,
      c.apply-change.ensures.handed ∙ ap (λ handed. handed + 1) c.loop-entry.invariant.1,
      closer_read c.args.entries.now c.loop-entry.entry-index _ c.loop-entry.closer c.closer_after-closer.result inside c.loop-entry.invariant.2 c.closer_after-closer.ensures,
      completers_read c.args.bundle.now c.args.run.now.limits c.args.entries.now c.loop-entry.entry-index _ c.event-event.result c.apply-change.result c.loop-entry.completers.items _ inside c.event-event.ensures.exact changes own c.loop-entry.invariant.3 c.keep_completer.ensures,
      search (rules, kept, passed),
    )

pub completer_of-requires : goal.completer_of-requires
completer_of-requires c =
    let own = subst (λ (limits : List Limits). IsOfMetric (length limits) c.apply-change.result) c.as_slice-limits.ensures c.apply-change.ensures.own in
    subst (λ (completers : List (Option ℕ)). IsOfMetric (length completers) c.apply-change.result) (sym c.deref.ensures.value)
    (room_of c.args.bundle.now c.args.run.now.limits _ c.loop-entry.completers.items c.apply-change.result c.loop-entry.invariant.3 own)

pub keep_completer-requires : goal.keep_completer-requires
keep_completer-requires c =
    let own = subst (λ (limits : List Limits). IsOfMetric (length limits) c.apply-change.result) c.as_slice-limits.ensures c.apply-change.ensures.own in
    room_of c.args.bundle.now c.args.run.now.limits _ c.loop-entry.completers.items c.apply-change.result c.loop-entry.invariant.3 own
