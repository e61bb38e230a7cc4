use Rattle.std.proofs.Common.{arith, rules}
use Rattle.ar_misfit.proofs.Steps.{next_text, no_text_left}
use Rattle.ar_misfit.specs.MisfitText.{step_text}
use Rattle.ar_misfit.proofs.words.push_steps.Goals as goal

pub loop-step-preserved : goal.loop-step-preserved
loop-step-preserved c = search (rules, next_text step_text)

pub returns : goal.returns
returns c =
    let l = c.loop-step in
    no_text_left step_text c.args.path.now l.step-index _ _ (omega arith) l.invariant
