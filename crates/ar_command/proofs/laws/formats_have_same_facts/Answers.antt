use Rattle.ar_command.proofs.OneReport.{same_facts_in_formats}
use Rattle.ar_command.proofs.laws.formats_have_same_facts.Goals as goal

pub returns : goal.returns
returns c = same_facts_in_formats
