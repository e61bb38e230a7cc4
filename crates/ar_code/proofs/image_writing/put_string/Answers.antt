use Rattle.std.proofs.Common.{rules}
use Rattle.ar_code.proofs.Joins.{two_parts}
use Rattle.ar_code.proofs.Texts.{utf8}
use Rattle.ar_code.proofs.image_writing.put_string.Goals as goal

pub returns-clause-written : goal.returns-clause-written
returns-clause-written c = search (rules, two_parts, utf8)

pub returns-clause-utf8 : goal.returns-clause-utf8
returns-clause-utf8 c = search (rules, two_parts, utf8)
