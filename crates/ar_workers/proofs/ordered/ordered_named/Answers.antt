use Rattle.std.proofs.Common.{◌<◌, ℕ, length, subst, sym}
use Rattle.ar_queue.specs.Workers.{all_named}
use Rattle.ar_workers.specs.Private.Judging.{IsKnown, numbers_judged}
use Rattle.ar_workers.proofs.Judged.{all_known}
use Rattle.ar_workers.proofs.ordered.ordered_named.Goals as goal

pub applied-requires : goal.applied-requires
applied-requires g c =
    let bundle = g.M.BundleName.bundle in
    let numbers = all_named (λ desk. numbers_judged desk.judged.items) c.in_ok-settled.settled.items in
    let known = all_known bundle numbers c.in_ok-findings.findings.items c.in_ok-settled.ensures.each_once c.in_ok-findings.ensures.known in
    record {
      known = subst (λ bundle. (number : ℕ) → number < length bundle.entries → IsKnown bundle c.deref.result.now number) (sym c.requires.bundle)
          (subst (λ table. (number : ℕ) → number < length bundle.entries → IsKnown bundle table number) (sym c.deref.ensures.value) known);
    }
