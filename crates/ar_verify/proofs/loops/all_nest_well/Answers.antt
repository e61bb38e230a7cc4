use Rattle.std.proofs.Common.{sym, ◌∙◌, ap}
use Rattle.ar_verify.specs.Private.Depths.{last_of}
use Rattle.ar_verify.proofs.Depths.{finds_here, is_counted, jumps_inside, nested_further}
use Rattle.ar_safety.proofs.Entries.{nth_at}
use Rattle.ar_verify.proofs.loops.all_nest_well.Goals as goal

pub nests_well-requires-clause-from : goal.nests_well-requires-clause-from
nests_well-requires-clause-from c = is_counted c.args.ops.now c.requires c.deref.result.now (c.deref.ensures.value ∙ c.in_ok-around.ensures) c.loop-index.index c.loop-index-test.true

pub nests_well-requires-clause-to : goal.nests_well-requires-clause-to
nests_well-requires-clause-to c =
    jumps_inside c.args.ops.now c.requires c.deref.result.now (c.deref.ensures.value ∙ c.in_ok-around.ensures) c.loop-index.index _ (nth_at c.args.ops.now c.loop-index.index _ c.loop-index-test.true)

pub returns-in-Some : goal.returns-in-Some
returns-in-Some c =
    finds_here c.args.ops.now c.requires c.deref.result.now (c.deref.ensures.value ∙ c.in_ok-around.ensures) c.loop-index.index c.loop-index.steps.items c.loop-index-test.true c.loop-index.invariant
    c.innermost.result (c.innermost.ensures ∙ ap last_of c.deref-in-loop-index.ensures.value) _ c.in-Some.reason (sym c.nests_well.ensures ∙ c.in-Some.is)

pub loop-index-preserved : goal.loop-index-preserved
loop-index-preserved c =
    nested_further c.args.ops.now c.requires c.deref.result.now (c.deref.ensures.value ∙ c.in_ok-around.ensures) c.loop-index.index c.loop-index.steps.items c.loop-index-test.true c.loop-index.invariant
    c.innermost.result (c.innermost.ensures ∙ ap last_of c.deref-in-loop-index.ensures.value) _ c.open_or_close.new.steps.items (sym c.nests_well.ensures ∙ c.in_default.is) c.in_ok-open_or_close.ensures
