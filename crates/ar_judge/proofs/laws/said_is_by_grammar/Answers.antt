use Rattle.ar_judge.proofs.Trees.{said_says, says_said}
use Rattle.ar_judge.proofs.laws.said_is_by_grammar.Goals as goal

pub returns : goal.returns
returns c = λ shape text value answer. (said_says shape text value answer, says_said shape text value answer)
