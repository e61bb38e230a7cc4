use Rattle.std.proofs.Common.{rules}
use Rattle.ar_code.proofs.Again.{read_again}
use Rattle.ar_code.proofs.image_writing.encode.Goals as goal

pub returns-clause-read : goal.returns-clause-read
returns-clause-read c = search (rules, read_again)
