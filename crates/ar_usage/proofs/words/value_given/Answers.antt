use Rattle.std.proofs.Common.{◌∙◌, ap, option_map, string_bytes, sym}
use Rattle.ar_usage.proofs.Refused.{no_value, no_value_yet, value_found}
use Rattle.ar_usage.proofs.words.value_given.Goals as goal

pub returns-in-Some-option_value : goal.returns-in-Some-option_value
returns-in-Some-option_value c =
    value_found string_bytes c.args.option c.loop-word.rest.now c.in-Some.following.now c.in-Some.word.now c.in-Some.ensures.cases.0
    c.as_str.result.now c.as_str.ensures.value _ c.loop-word.invariant c.in-Some-option_value.value.now
    (ap (option_map (λ value. value.now)) (sym c.in-Some-option_value.is) ∙ c.option_value.ensures)

pub loop-word-preserved : goal.loop-word-preserved
loop-word-preserved c =
    no_value_yet string_bytes c.args.option c.loop-word.rest.now c.in-Some.following.now c.in-Some.word.now c.in-Some.ensures.cases.0
    c.as_str.result.now c.as_str.ensures.value _ c.loop-word.invariant
    (ap (option_map (λ value. value.now)) (sym c.in_default-option_value.is) ∙ c.option_value.ensures)

pub returns : goal.returns
returns c = no_value string_bytes c.args.option c.loop-word.rest.now _ c.in_default.ensures.cases c.loop-word.invariant
