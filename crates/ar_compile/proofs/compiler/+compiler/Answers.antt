use Rattle.std.proofs.Common.{rules}
use Rattle.ar_compile.proofs.Sequences.{drafts}
use Rattle.ar_compile.proofs.compiler.+compiler.Goals as goal

pub put_choice-put-requires-2 : goal.put_choice-put-requires-2
put_choice-put-requires-2 t c = search (rules, drafts)

pub put_choice-overflow_cast-after_then : goal.put_choice-overflow_cast-after_then
put_choice-overflow_cast-after_then t c = search (rules, drafts)

pub put_choice-set-requires : goal.put_choice-set-requires
put_choice-set-requires t c = search (rules, drafts)

pub put_choice-put-requires-3 : goal.put_choice-put-requires-3
put_choice-put-requires-3 t c = search (rules, drafts)

pub put_choice-overflow_cast-end : goal.put_choice-overflow_cast-end
put_choice-overflow_cast-end t c = search (rules, drafts)

pub put_choice-set-requires-2 : goal.put_choice-set-requires-2
put_choice-set-requires-2 t c = search (rules, drafts)

pub put_field-push_field-requires : goal.put_field-push_field-requires
put_field-push_field-requires t c = search (rules, drafts)

pub put_items-loop-item-preserved : goal.put_items-loop-item-preserved
put_items-loop-item-preserved t c = search (rules, drafts)

pub put_list-overflow_cast-count : goal.put_list-overflow_cast-count
put_list-overflow_cast-count t c = search (rules, drafts)

pub put_list-returns : goal.put_list-returns
put_list-returns t c = search (rules, drafts)

pub put_loop-put-requires-2 : goal.put_loop-put-requires-2
put_loop-put-requires-2 t c = search (rules, drafts)

pub put_loop-overflow_cast-step : goal.put_loop-overflow_cast-step
put_loop-overflow_cast-step t c = search (rules, drafts)

pub put_loop-set-requires : goal.put_loop-set-requires
put_loop-set-requires t c = search (rules, drafts)

pub put_loop-overflow_cast-enter : goal.put_loop-overflow_cast-enter
put_loop-overflow_cast-enter t c = search (rules, drafts)

pub put_sides-put-requires-2 : goal.put_sides-put-requires-2
put_sides-put-requires-2 t c = search (rules, drafts)

pub put_sides-overflow_cast-end : goal.put_sides-overflow_cast-end
put_sides-overflow_cast-end t c = search (rules, drafts)

pub put_sides-set-requires : goal.put_sides-set-requires
put_sides-set-requires t c = search (rules, drafts)

pub put_two-put-requires-2 : goal.put_two-put-requires-2
put_two-put-requires-2 t c = search (rules, drafts)
