use Rattle.std.proofs.Common.{arith, rules}
use Rattle.ar_misfit.proofs.Steps.{next_text, no_text_left}
use Rattle.ar_misfit.specs.MisfitData.{step_token}
use Rattle.ar_misfit.proofs.data.push_tokens.Goals as goal

pub loop-step-preserved : goal.loop-step-preserved
loop-step-preserved c = search (rules, next_text step_token)

pub returns : goal.returns
returns c =
    let l = c.loop-step in
    no_text_left step_token c.args.path.now l.step-index _ _ (omega arith) l.invariant
