use Rattle.std.proofs.Common.{◌≡◌, [], arith}
use Rattle.json.specs.Lex.{tokens}
use Rattle.json.proofs.Grammar.{left_some}
use Rattle.ar_stream.specs.Passing.{data_at}
use Rattle.ar_stream.proofs.Whole.{whole_read}
use Rattle.ar_stream.proofs.head.check_text.Goals as goal

pub returns-clause-good : goal.returns-clause-good
returns-clause-good c =
    let none : c.pass_value.new.reader ≡ [] = grind arith in
    let found = left_some (data_at 127 (tokens c.args.text.now)) [] (rw (c.in_ok-reader.ensures.ok, none) at c.in_ok-pass_value.ensures.value) in
    (found.0, whole_read c.args.text.now found.0 found.1)
