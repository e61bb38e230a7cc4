use Rattle.std.proofs.Common.{rules, not, ap, ◌∙◌}
use Rattle.std.specs.List.{filter}
use Rattle.std.proofs.lemmas.Fn.{filter_same}
use Rattle.ar_words.specs.Close.{as_one_word, is_between_words}
use Rattle.ar_words.proofs.close.as_one_word.Goals as goal

pub returns : goal.returns
returns c =
    filter_same _ _ _ (λ x b f' k. search rules) _ _ c.retain.ensures.filtered
    ∙ ap (filter (λ byte. not (is_between_words byte))) c.in_ok-word.ensures.ok ∙ ap as_one_word c.as_bytes.ensures.value
