use Rattle.std.proofs.Common.{rules}
use Rattle.ar_machine.proofs.MadeValues.{all_taken}
use Rattle.ar_tested.proofs.Made.{scalar_refused, scalar_taken}
use Rattle.ar_tested.proofs.effect.make_list.Goals as goal

pub loop-taken-init : goal.loop-taken-init
loop-taken-init c = search rules

pub loop-taken-preserved : goal.loop-taken-preserved
loop-taken-preserved c = search (rules, scalar_taken)

pub returns-in-None : goal.returns-in-None
returns-in-None c = search (rules, scalar_refused)

pub returns : goal.returns
returns c = search (rules, all_taken)
