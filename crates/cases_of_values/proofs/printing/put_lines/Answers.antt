use Rattle.std.proofs.Common.{◌++◌, length, string_bytes, arith}
use Rattle.std.proofs.lemmas.Iterator.{YieldsList-from_chars}
use Rattle.std.proofs.lemmas.Iterator.Consumers.{YieldsList-end, YieldsList-turn}
use Rattle.std.proofs.lemmas.List.{length_push}
use Rattle.std.specs.Str.{chars}
use Rattle.cases_of_values.specs.Printing.{in_one_line, lines_text}
use Rattle.cases_of_values.proofs.Lines.{next_character, no_character}
use Rattle.cases_of_values.proofs.printing.put_lines.Goals as goal

pub loop-character-preserved : goal.loop-character-preserved
loop-character-preserved c = λ whole.
    let part = c.put_line_part.ensures whole in
    let so_far = c.loop-character.invariant part.0 in
    let turn = YieldsList-turn (YieldsList-from_chars c.args.lines.now c.utf8.lines cc) c.loop-character.yielded _ c.loop-character.yielded_by _ _ c.in-Some.character c.in-Some.is c.next.ensures.steps in
    let more = next_character (chars c.args.lines.now) (length c.loop-character.yielded) c.in-Some.character c.loop-character.ended (string_bytes c.loop-character.out.text) (string_bytes c.args.out.now.text ++ in_one_line (chars c.args.lines.now)) turn so_far.1 in
    (so_far.0, rw (length_push c.loop-character.yielded c.in-Some.character, part.1) more)

pub returns : goal.returns
unfolding lines_text
returns c = λ whole.
    let so_far = c.loop-character.invariant whole in
    let end = YieldsList-end (YieldsList-from_chars c.args.lines.now c.utf8.lines cc) c.loop-character.yielded _ c.loop-character.yielded_by _ _ c.in-None.is c.next.ensures.steps in
    (so_far.0, no_character (chars c.args.lines.now) (length c.loop-character.yielded) c.loop-character.ended (string_bytes c.loop-character.out.text) (string_bytes c.args.out.now.text ++ in_one_line (chars c.args.lines.now)) (omega (arith, end.1)) so_far.1)
