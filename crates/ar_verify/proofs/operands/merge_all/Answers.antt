use Rattle.std.proofs.Common.{option_map, sym, ap, ◌∙◌, arith}
use Rattle.ar_verify.specs.Private.Kinds.{parts_kind}
use Rattle.ar_verify.proofs.Joins.{all_merged, one_clashes, one_merged}
use Rattle.ar_verify.proofs.operands.merge_all.Goals as goal

pub returns-in-None : goal.returns-in-None
returns-in-None g c =
    sym (one_clashes parts_kind parts_kind parts_kind c.args.lefts.now c.args.rights.now _ c.loop-index.index c.loop-index.kinds.items c.index-lefts-index.result c.index-rights-index.result
    c.loop-index-test.true (omega arith) c.index-lefts-index.is c.index-rights-index.is (sym (ap (option_map parts_kind) c.in-None.is) ∙ c.in_ok-kind.ensures) c.loop-index.invariant)

pub loop-index-preserved : goal.loop-index-preserved
loop-index-preserved g c =
    one_merged parts_kind parts_kind parts_kind c.args.lefts.now c.args.rights.now _ c.loop-index.index c.loop-index.kinds.items c.try_push.new.list.items c.index-lefts-index.result
    c.index-rights-index.result c.in-Some.kind c.loop-index-test.true (omega arith) c.index-lefts-index.is c.index-rights-index.is (sym (ap (option_map parts_kind) c.in-Some.is) ∙ c.in_ok-kind.ensures) c.in_ok-try_push-in-Some.ensures c.loop-index.invariant

pub returns : goal.returns
returns g c =
    sym (all_merged parts_kind parts_kind parts_kind c.args.lefts.now c.args.rights.now _ c.loop-index.index c.loop-index.kinds.items c.loop-index-test.false
    (omega (arith, c.if-lefts-rights.false, c.loop-index-test.false)) c.loop-index.invariant)
