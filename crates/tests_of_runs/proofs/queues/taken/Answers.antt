use Rattle.std.proofs.Common.{◌<◌, length, refl, sym, subst, arith}
use Rattle.ar_queue.specs.declared.queue.Item.TheVariants.{Number}
use Rattle.ar_queue.specs.Rule.{CanPut}
use Rattle.ar_queue.specs.declared.queue.View.{View}
use Rattle.ar_queue.proofs.Steps.{puts}
use Rattle.tests_of_runs.proofs.queues.taken.Goals as goal

pub try_push_as-requires-clause-rule : goal.try_push_as-requires-clause-rule
try_push_as-requires-clause-rule g c =
    let events = length g.M.BundleName.bundle.entries in
    let number = c.loop-number.number in
    let most = c.requires in
    let below = c.loop-number-test.true in
    let inside : number < events = omega arith in
    puts events _ _ _ (Number number) (subst (λ (view : View). CanPut events view (Number number)) (sym c.loop-number.invariant.1) (refl, refl, refl, inside))
