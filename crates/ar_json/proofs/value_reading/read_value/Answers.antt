use Rattle.std.proofs.Common.{rules}
use Rattle.ar_json.proofs.ReadFits.{gives_fits}
use Rattle.ar_json.proofs.ReadNames.{gives_names}
use Rattle.ar_json.proofs.value_reading.read_value.Goals as goal

pub returns-clause-fits : goal.returns-clause-fits
returns-clause-fits c = search (rules, gives_fits, gives_names)

pub returns-clause-names_rise : goal.returns-clause-names_rise
returns-clause-names_rise c = search (rules, gives_fits, gives_names)
