-- Each way out is one of the steps.
use Rattle.std.proofs.Common.{◌≡◌, ◌≤◌, ◌-◌, ◌⊎◌, ℕ, List, Bool, true, false, cond, refl, ap, ◌∙◌, sym, arith, inl, inr}
use mir.Val.{bool_byte}
use Rattle.ar_limits.specs.declared.event.Mark.{Mark}
use Rattle.ar_limits.specs.declared.metric.Metric.{Metric}
use Rattle.ar_limits.specs.declared.phase.Phase.{Phase}
use Rattle.ar_limits.specs.Metric.{is_complete, is_unsuccessful}
use Rattle.ar_limits.specs.Private.MetricStep.{with_mark_added}
use Rattle.ar_limits.specs.Private.Kept.{AreConsistent, for_run}
use Rattle.ar_limits.proofs.KeptLemmas.{IsAt, IsMarked, some_incomplete, takes_at_complete, takes_mark_on, takes_mark_closed}
use Rattle.ar_limits.proofs.progress.Progress.mark.Goals as goal
use Rattle.ar_limits.proofs.progress.Progress.mark.Goals.{then-is_unsuccessful-via-then-is_unsuccessful, then-is_unsuccessful-via-else-is_unsuccessful+then-self-eq0}

byte_is : (b : Bool) → bool_byte b ≡ cond b 1 0
byte_is true = refl
byte_is false = refl

pub overflow_sub-self : goal.overflow_sub-self
overflow_sub-self c =
    let at : IsAt c.args.self.now.metrics.items c.args.number c.index_mut-metric.result.now = record { within = c.requires.metric; read = c.index_mut-metric.ensures.value } in
    let some = some_incomplete c.args.self.now.metrics.items c.args.self.now.phase c.args.self.now.incomplete c.args.number c.index_mut-metric.result.now at (sym c.is_complete.ensures ∙ c.if-is_complete.false) c.requires.consistent in
    omega (arith, byte_most c.is_complete-2.result)
  where
    byte_most : (b : Bool) → bool_byte b ≤ 1
    byte_most true = omega arith
    byte_most false = omega arith

pub returns-then-is_complete : goal.returns-then-is_complete
returns-then-is_complete c =
    takes_at_complete c.args.self.now.metrics.items c.args.self.now.phase c.args.self.now.incomplete c.args.number c.index_mut-metric.result.now c.args.mark
    (record { within = c.requires.metric; read = c.index_mut-metric.ensures.value }) c.requires.running (sym c.is_complete.ensures ∙ c.if-is_complete.true) c.requires.consistent

-- a metric with its mark, and the metrics that are left
marked : (metrics : List Metric) (p : Phase) (incomplete i : ℕ) (metric : Metric) (m : Mark) (more : Metric) (b : Bool) (byte : ℕ) → IsAt metrics i metric → is_complete p ≡ false → is_complete metric.phase ≡ false
    → AreConsistent metrics p incomplete → more ≡ with_mark_added metric m → b ≡ is_complete (for_run more) → byte ≡ bool_byte b → IsMarked metrics p incomplete i metric m (incomplete - byte)
marked metrics p incomplete i metric m more b byte at running open_metric consistent is done size = record {
  at = at;
  running = running;
  open_metric = open_metric;
  consistent = consistent;
  left_is = rw (size, byte_is b, done, is) refl;
}

pub returns : goal.returns
returns c =
    let items = c.args.self.now.metrics.items in
    let metric = c.index_mut-metric.result.now in
    let is_marked = marked items c.args.self.now.phase c.args.self.now.incomplete c.args.number metric c.args.mark c.add.new.self c.is_complete-2.result c.from.result
    (record { within = c.requires.metric; read = c.index_mut-metric.ensures.value }) c.requires.running (sym c.is_complete.ensures ∙ c.if-is_complete.false) c.requires.consistent
    c.add.ensures (c.is_complete-2.ensures ∙ ap is_complete c.phase_for_run-phase.ensures) c.from.ensures in
    let fine : is_unsuccessful (for_run (with_mark_added metric c.args.mark)) ≡ false = ap (λ (x : Metric). is_unsuccessful (for_run x)) (sym c.add.ensures) ∙ ap is_unsuccessful (sym c.phase_for_run-phase.ensures) ∙ sym c.is_unsuccessful.ensures ∙ c.if-is_unsuccessful.false in
    rw c.add.ensures (takes_mark_on items c.args.self.now.phase c.args.self.now.incomplete c.args.number metric c.args.mark _ is_marked fine c.if-self-eq0.false)

pub returns-then-is_unsuccessful : goal.returns-then-is_unsuccessful
returns-then-is_unsuccessful c =
    let items = c.args.self.now.metrics.items in
    let metric = c.index_mut-metric.result.now in
    let is_marked = marked items c.args.self.now.phase c.args.self.now.incomplete c.args.number metric c.args.mark c.add.new.self c.is_complete-2.result c.from.result
    (record { within = c.requires.metric; read = c.index_mut-metric.ensures.value }) c.requires.running (sym c.is_complete.ensures ∙ c.if-is_complete.false) c.requires.consistent
    c.add.ensures (c.is_complete-2.ensures ∙ ap is_complete c.phase_for_run-phase.ensures) c.from.ensures in
    let why : (is_unsuccessful (for_run (with_mark_added metric c.args.mark)) ≡ true) ⊎ (c.args.self.now.incomplete - c.from.result ≡ 0) =
    elim c.then-is_unsuccessful.branch [
      | then-is_unsuccessful-via-then-is_unsuccessful w ↦ inl (ap (λ (x : Metric). is_unsuccessful (for_run x)) (sym c.add.ensures) ∙ ap is_unsuccessful (sym c.phase_for_run-phase.ensures) ∙ sym c.is_unsuccessful.ensures ∙ w.if-is_unsuccessful.true)
      | then-is_unsuccessful-via-else-is_unsuccessful+then-self-eq0 w ↦ inr w.if-self-eq0.true
    ] in
    rw (c.close.ensures.metrics, c.close.ensures.incomplete, c.close.ensures.phase, c.close.ensures.closed, c.phase_for_run-phase.ensures, c.add.ensures)
    (takes_mark_closed items c.args.self.now.phase c.args.self.now.incomplete c.args.number metric c.args.mark _ is_marked why)
