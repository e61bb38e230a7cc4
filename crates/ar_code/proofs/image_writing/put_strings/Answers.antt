use Rattle.std.proofs.Common.{◌++◌, ◌∙◌, ap, length, rules, string_bytes, subst}
use Rattle.std.proofs.lemmas.List.{length-map}
use Rattle.ar_op.specs.Code.{IsText}
use Rattle.ar_code.specs.Image.{number, string}
use Rattle.ar_code.proofs.Each.{seen_all, seen_more, seen_none, seen_written_all, seen_written_more}
use Rattle.ar_code.proofs.image_writing.put_strings.Goals as goal

pub loop-text-init : goal.loop-text-init
loop-text-init c = search (rules, seen_none)

pub loop-text-preserved : goal.loop-text-preserved
loop-text-preserved c =
    let is = c.deref.ensures ∙ ap string_bytes c.text-item.is in (
      seen_written_more string string_bytes c.args.texts.now c.loop-text.text-index _ c.args.out.now.items (number (length c.args.texts.now)) c.loop-text.out.items _ c.loop-text-test.true c.loop-text.invariant.0
          (c.in_ok-put_string.ensures.written ∙ ap (λ t. c.loop-text.out.items ++ string t) is),
      seen_more IsText string_bytes c.args.texts.now c.loop-text.text-index _ c.loop-text-test.true c.loop-text.invariant.1 (subst IsText is c.in_ok-put_string.ensures.utf8),
    )

pub returns-clause-written : goal.returns-clause-written
returns-clause-written c =
    rw (length-map c.args.texts.now string_bytes)
    (seen_written_all string string_bytes c.args.texts.now c.loop-text.text-index c.args.out.now.items (number (length c.args.texts.now)) c.loop-text.out.items c.loop-text-test.false c.loop-text.invariant.0)

pub returns-clause-utf8 : goal.returns-clause-utf8
returns-clause-utf8 c = seen_all IsText string_bytes c.args.texts.now c.loop-text.text-index c.loop-text-test.false c.loop-text.invariant.1
