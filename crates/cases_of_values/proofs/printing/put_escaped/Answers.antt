use Rattle.std.proofs.Common.{◌++◌, flat_map, string_bytes, sym, ap, ◌∙◌, map-id}
use Rattle.std.proofs.lemmas.Iterator.{YieldsList-from_chars}
use Rattle.std.proofs.lemmas.Iterator.Consumers.{YieldsList-end}
use Rattle.std.proofs.lemmas.List.{flat_map_more}
use Rattle.cases_of_values.specs.Printing.{escaped}
use Rattle.cases_of_values.proofs.printing.put_escaped.Goals as goal

pub loop-character-preserved : goal.loop-character-preserved
loop-character-preserved c = λ whole.
    let part = c.put_character.ensures whole in
    let so_far = c.loop-character.invariant part.0 in
    (so_far.0, part.1 ∙ ap (λ written. written ++ escaped c.in-Some.character) so_far.1 ∙ flat_map_more escaped (string_bytes c.args.out.now.text) c.loop-character.yielded c.in-Some.character)

pub returns : goal.returns
returns c = λ whole.
    let end = YieldsList-end (YieldsList-from_chars c.args.text.now c.utf8.text cc) c.loop-character.yielded _ c.loop-character.yielded_by _ _ c.in-None.is c.next.ensures.steps in
    let so_far = c.loop-character.invariant whole in
    (so_far.0, so_far.1 ∙ ap (λ characters. string_bytes c.args.out.now.text ++ flat_map escaped characters) (sym (map-id c.loop-character.yielded) ∙ end.0))
