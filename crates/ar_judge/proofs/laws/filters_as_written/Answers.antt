use Rattle.ar_judge.proofs.Filters as filters
use Rattle.ar_judge.proofs.laws.filters_as_written.Goals as goal

pub returns : goal.returns
returns c = filters.filters_as_written
