use Rattle.ar_judge.proofs.Headline.{condition_holds}
use Rattle.ar_judge.proofs.laws.built_headline.Goals as goal

pub returns : goal.returns
returns c = condition_holds
