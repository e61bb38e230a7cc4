use Rattle.std.proofs.Common.{◌++◌, ◌∙◌, ap, string_bytes}
use Rattle.std.specs.Prelude.{codes}
use Rattle.std.proofs.lemmas.List.{append_assoc}
use Rattle.ar_quote.proofs.Appended.{at_ok, if_ok}
use Rattle.ar_misfit.proofs.Viewed.{shape_view-bool, shape_view-decimal, shape_view-optional, shape_view-whole}
use Rattle.ar_misfit.specs.MisfitText.{expected_text}
use Rattle.ar_value.specs.View.{shape_view}
use Rattle.ar_misfit.proofs.words.+push_expected.Goals as goal

pub returns-in-Bool : goal.returns-in-Bool
returns-in-Bool t c = rw (c.in-Bool.is, shape_view-bool) (at_ok c.push_str.result _ _ _ c.push_str.ensures.bytes)

pub returns-in-Whole : goal.returns-in-Whole
returns-in-Whole t c = rw (c.in-Whole.is, shape_view-whole) (at_ok c.push_str-in-Whole.result _ _ _ c.push_str-in-Whole.ensures.bytes)

pub returns-in-Decimal : goal.returns-in-Decimal
returns-in-Decimal t c = rw (c.in-Decimal.is, shape_view-decimal) (at_ok c.push_str-in-Decimal.result _ _ _ c.push_str-in-Decimal.ensures.bytes)

pub returns-in_ok-push_expected-in-Optional : goal.returns-in_ok-push_expected-in-Optional
returns-in_ok-push_expected-in-Optional t c =
    rw (c.in-Optional.is, shape_view-optional c.in-Optional.plain, ← c.deref.ensures)
    (if_ok c.push_str-in-Optional.result
    (λ last. last ∙ ap (λ text. text ++ codes " or null") c.in_ok-push_expected-in-Optional.ensures ∙ append_assoc (string_bytes c.args.out.now) (expected_text (shape_view c.deref.result.now)) (codes " or null"))
    (at_ok c.push_str-in-Optional.result _ _ _ c.push_str-in-Optional.ensures.bytes))
