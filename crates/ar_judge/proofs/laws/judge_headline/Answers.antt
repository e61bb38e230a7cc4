use Rattle.ar_judge.proofs.Headline.{judge_holds}
use Rattle.ar_judge.proofs.laws.judge_headline.Goals as goal

pub returns : goal.returns
returns c = judge_holds
