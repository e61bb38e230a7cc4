use Rattle.std.proofs.Common.{arith}
use Rattle.std.specs.Prelude.{codes}
use Rattle.ar_words.proofs.Signs.{contains_cuts}
use Rattle.ar_words.proofs.documents.has_braces.Goals as goal

pub returns-in-Some : goal.returns-in-Some
returns-in-Some c = rw (c.in-Some.is) (contains_cuts (codes "{{") c.in-Some.text.now c.contains.result (omega arith) c.contains.ensures.cases)
