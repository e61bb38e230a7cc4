use Rattle.std.proofs.Common.{◌≡◌, ap, replicate, Ok, Err, ◌∷◌, [], ◌∙◌, arith}
use Rattle.ar_safety.specs.Arrivals.{operands}
use Rattle.ar_safety.specs.declared.error.Reason.TheVariants.{Unreachable}
use Rattle.ar_verify.proofs.Table.{one_index, one_index_more}
use Rattle.ar_verify.proofs.arrivals.table.Goals as goal

pub loop-index-init : goal.loop-index-init
loop-index-init g c = one_index c.new-arrived.result.items c.try_push.new.list.items c.none.result c.new-arrived.ensures.items c.in_ok-try_push.ensures c.none.ensures

pub loop-index-preserved : goal.loop-index-preserved
loop-index-preserved g c = one_index_more c.loop-index.arrived.items c.try_push-in-loop-index.new.list.items c.loop-index._index c.in_ok-try_push-2.ensures c.loop-index.invariant

pub returns : goal.returns
returns g c =
    let all : c.loop-index._index ≡ c.args.count = omega (arith, c.loop-index-test.false, c.loop-index.auto._index-end) in
    c.loop-index.invariant ∙ ap (λ count. Ok (operands [] []) ∷ replicate count (Err Unreachable)) all
