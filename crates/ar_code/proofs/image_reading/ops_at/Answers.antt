use Rattle.std.proofs.Common.{arith}
use Rattle.std.proofs.lemmas.Result.{err_from_is_err_and}
use Rattle.ar_code.specs.Decoding.{so_many_ops}
use Rattle.ar_code.proofs.Loops.{ops_done, ops_end, ops_go_on}
use Rattle.ar_code.proofs.image_reading.ops_at.Goals as goal

pub returns-in_err-op-clause-exact : goal.returns-in_err-op-clause-exact
returns-in_err-op-clause-exact c =
    let p = err_from_is_err_and c.from_residual.result c.from_residual.ensures.1 in
    rw (p.1, p.2) (ops_end c.args.end c.args.version c.args.tables.texts c.args.tables.names c.in_err-op.field-0.0 c.loop.ops.items c.args.count c.loop.counter c.loop.rest.now
    (so_many_ops c.args.end c.args.version c.args.tables.texts c.args.tables.names c.args.count c.args.bytes.now) c.loop-test.true c.in_err-op.ensures.exact c.loop.invariant.1)

pub loop-preserved : goal.loop-preserved
loop-preserved c = (
  omega (arith, c.loop.invariant.0, c.in_ok-op.ensures.shorter),
  rw c.in_ok-push.ensures.items (ops_go_on c.args.end c.args.version c.args.tables.texts c.args.tables.names c.loop.ops.items c.args.count c.loop.counter c.loop.rest.now c.in_ok-op.after.now c.in_ok-op.op
      (so_many_ops c.args.end c.args.version c.args.tables.texts c.args.tables.names c.args.count c.args.bytes.now) c.loop-test.true c.in_ok-op.ensures.exact c.loop.invariant.1),
)

pub returns-clause-exact : goal.returns-clause-exact
returns-clause-exact c =
    ops_done c.args.end c.args.version c.args.tables.texts c.args.tables.names c.loop.ops.items c.args.count c.loop.counter c.loop.rest.now
    (so_many_ops c.args.end c.args.version c.args.tables.texts c.args.tables.names c.args.count c.args.bytes.now) c.loop-test.false c.loop.invariant.1
