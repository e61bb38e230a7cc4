use Rattle.std.proofs.Common.{length-set, arith}
use Rattle.ar_verify.proofs.Costs.{leads_before, one_before}
use Rattle.ar_verify.proofs.budget.costs.Goals as goal

pub cost_by-requires : goal.cost_by-requires
cost_by-requires c =
    leads_before c.args.code.now c.ops-ops.result.now c.ops-ops.ensures.ops c.loop-index.index c.loop-index-test.true c.loop-index.costs.items c.deref.result.now c.deref.ensures.value c.loop-index.invariant.0 c.requires.passed (omega arith)

pub loop-index-preserved : goal.loop-index-preserved
loop-index-preserved c = (
  simp length-set c.loop-index.invariant.0,
  one_before c.args.code.now c.ops-ops.result.now c.ops-ops.ensures.ops c.loop-index.index c.loop-index-test.true c.loop-index.costs.items c.deref.result.now c.deref.ensures.value c.loop-index.invariant.0 c.args.most.now c.cost_by.result (omega arith) c.cost_by.ensures c.loop-index.invariant.1,
)
