use Rattle.std.proofs.Common.{rules}
use Rattle.ar_op.specs.Code.{InRange}
use Rattle.ar_code.specs.Image.{op_bytes}
use Rattle.ar_code.proofs.Each.{of_all, of_none, of_one_more, written_all, written_more}
use Rattle.ar_code.proofs.image_writing.put_ops.Goals as goal

pub loop-op-init : goal.loop-op-init
loop-op-init c = search (rules, of_none)

pub loop-op-preserved : goal.loop-op-preserved
loop-op-preserved c = (
  written_more op_bytes c.args.ops.now c.loop-op.op-index _ c.args.out.now.items c.loop-op.out.items _ c.loop-op-test.true c.loop-op.invariant.0 c.in_ok-put_op.ensures.written,
  of_one_more InRange c.args.ops.now c.loop-op.op-index _ c.loop-op-test.true c.loop-op.invariant.1 c.in_ok-put_op.ensures.range,
)

pub returns-clause-written : goal.returns-clause-written
returns-clause-written c = written_all op_bytes c.args.ops.now c.loop-op.op-index c.args.out.now.items c.loop-op.out.items c.loop-op-test.false c.loop-op.invariant.0

pub returns-clause-ranges : goal.returns-clause-ranges
returns-clause-ranges c = of_all InRange c.args.ops.now c.loop-op.op-index c.loop-op-test.false c.loop-op.invariant.1
