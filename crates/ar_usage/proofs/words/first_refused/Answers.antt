use Rattle.std.proofs.Common.{arith, ◌∙◌, ap, string_bytes, sym}
use Rattle.ar_usage.specs.Words.{next_after}
use Rattle.ar_usage.proofs.Refused.{none_left, refused, taken}
use Rattle.ar_usage.proofs.words.first_refused.Goals as goal

pub returns-in-None : goal.returns-in-None
returns-in-None c =
    rw (c.as_str-in-None.ensures.value)
    (refused string_bytes c.args.words.now c.loop-word.word-index c.word-item.result c.loop-word-test.true c.word-item.is c.loop-word.next _
    (ap (next_after c.loop-word.next) (sym c.as_str.ensures.value) ∙ (sym c.next_after.ensures ∙ c.in-None.is)) c.loop-word.invariant)

pub loop-word-preserved : goal.loop-word-preserved
loop-word-preserved c =
    taken string_bytes c.args.words.now c.loop-word.word-index c.word-item.result c.loop-word-test.true c.word-item.is c.loop-word.next c.in-Some.following _
    (ap (next_after c.loop-word.next) (sym c.as_str.ensures.value) ∙ (sym c.next_after.ensures ∙ c.in-Some.is)) c.loop-word.invariant

pub returns : goal.returns
returns c = grind (arith, taken, refused, none_left) steps 2000000
