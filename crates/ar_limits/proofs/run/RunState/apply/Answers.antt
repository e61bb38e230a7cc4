-- The step of the metrics is one event more of each list that led here.
use Rattle.std.proofs.Common.{ap, ◌∙◌, rules}
use Rattle.ar_limits.specs.Private.Inside.{standing}
use Rattle.ar_limits.proofs.ReplayLemmas.{replays-push, effect_of-replayed, next-limits}
use Rattle.ar_limits.proofs.run.RunState.apply.Goals as goal

pub invariant_of-self : goal.invariant_of-self
invariant_of-self c = record { consistent = c.apply.ensures.consistent; within = c.apply.ensures.grown c.self.inside.handed c.self.invariant.within }

pub returns : goal.returns
returns c = record {
  replays = λ limits events r.
      replays-push limits events c.self.inside.progress.metrics.items c.self.inside.progress.phase c.self.inside.handed c.args.event c.apply.new.self.metrics.items c.apply.new.self.phase
      (rw (← c.self.view_is) at r) c.self.invariant.consistent.positive (rw (← c.self.view_is) at c.requires.metric) c.apply.ensures.is_there;
  effect = λ limits events r.
      effect_of-replayed limits events c.self.inside.progress.metrics.items c.self.inside.progress.phase c.self.inside.handed c.args.event c.apply.result
      (rw (← c.self.view_is) at r) c.self.invariant.consistent.positive (rw (← c.self.view_is) at c.requires.metric) (c.apply.ensures.answers c.self.inside.handed);
  limits = ap (λ s. s.limits) (c.apply.ensures.is_there c.self.inside.handed) ∙ next-limits (standing c.self.inside) c.args.event ∙ ap (λ s. s.limits) c.self.view_is;
  handed = search rules;
}
