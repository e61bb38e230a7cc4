use Rattle.ar_verify.specs.Private.Depths.{IsNested}
use Rattle.ar_verify.proofs.loops.all_nest_well.Given as goal

abbrev pub invariant-loop-index : goal.invariant-loop-index
invariant-loop-index l = IsNested l.ops l.index l.steps.items
