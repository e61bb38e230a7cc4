use Rattle.std.proofs.Common.{rules}
use Rattle.ar_verify.proofs.Tops.{most_in_list}
use Rattle.ar_verify.proofs.arrivals.most_on_top.Goals as goal

pub returns-in_default : goal.returns-in_default
returns-in_default g c = search (rules, most_in_list)

pub returns-in-Some-as_list : goal.returns-in-Some-as_list
returns-in-Some-as_list g c = search (rules, most_in_list)

pub returns-in-None : goal.returns-in-None
returns-in-None g c = search (rules, most_in_list)
