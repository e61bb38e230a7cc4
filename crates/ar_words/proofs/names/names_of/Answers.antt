use Rattle.std.proofs.Common.{[], ◌++◌, ap, ◌∙◌}
use Rattle.std.specs.List.{cons_option}
use Rattle.ar_words.proofs.Listed.{next_name}
use Rattle.ar_words.proofs.names.names_of.Goals as goal

pub loop-item-preserved : goal.loop-item-preserved
loop-item-preserved c =
    next_name c.args.items.now c.loop-item.item-index _ _ _ c.loop-item-test.true c.item-item.is c.loop-item.invariant (c.in_ok-push_name.ensures ∙ ap (λ name. c.loop-item.names.items ++ cons_option name []) c.name_of.ensures)
