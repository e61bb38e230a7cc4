use Rattle.std.proofs.Common.{arith}
use Rattle.std.proofs.lemmas.Grind.{common_steps}
use Rattle.ar_board.specs.declared.core_steps.CoreStep.TheVariants.{Put}
use Rattle.ar_board.proofs.CoreLaws.{core_next}
use Rattle.ar_board.proofs.core_state.make_steps.Goals as goal

pub loop-step-preserved : goal.loop-step-preserved
loop-step-preserved c = core_next c.args.core.now c.args.steps.now c.loop-step.step-index c.loop-step.core c.core_step.new.core Put c.loop-step-test.true c.loop-step.invariant c.core_step.ensures.after

pub returns : goal.returns
returns c = grind (arith, common_steps) steps 2000000
