use Rattle.std.proofs.Common.{rules}
use Rattle.ar_code.proofs.Texts.{utf8, no_utf8}
use Rattle.ar_code.proofs.image_reading.as_text.Goals as goal

pub returns-in-Ok : goal.returns-in-Ok
returns-in-Ok c = search (rules, utf8, no_utf8)

pub returns-in-Err : goal.returns-in-Err
returns-in-Err c = search (rules, utf8, no_utf8)
