use Rattle.std.proofs.Common.{◌≡◌, ◌≢◌, ◌<◌, ◌+◌, [], ◌∷◌, ◌++◌, List, Vec, Global, length, get_or, sym, ◌∙◌, ap, subst, arith, rules, append_assoc, length-append}
use Rattle.std.proofs.lemmas.Grind.{common_steps}
use Rattle.std.proofs.lemmas.List.{length_push}
use Rattle.std.specs.Vec.Iter.{into_iter_items}
use Rattle.ar_bundle.specs.declared.history.Entry.{Entry}
use Rattle.ar_board.specs.Locks.{lock_of}
use Rattle.ar_limits.specs.Replay.{Standing}
use Rattle.ar_bundle.specs.declared.runs.Runs.{Runs}
use Rattle.std.specs.Prelude.{slice_get, Some}
use Rattle.ar_board.specs.Cell.{KeptRun, histories_of, states_of}
use Rattle.ar_board.specs.Private.KeptRuns.{cell_of}
use Rattle.ar_board.proofs.Put.{all_runs, next_own, put_next}
use Rattle.ar_board.proofs.cell.RunCell.put_runs.Goals as goal

pub loop-kept-preserved : goal.loop-kept-preserved
loop-kept-preserved g c =
    let at = c.loop-kept in
    let lock = g.L.LockName.lock in
    let all = into_iter_items c.into_iter-kept-iterator.result in
    let histories = histories_of (cell_of all 0) in
    let states = states_of (cell_of all 0) in
    let steps : into_iter_items at.kept-iterator ≡ c.in-Some.kept ∷ into_iter_items c.next.new.self = c.in-Some.ensures.steps.0 in
    let gone = c.in-Some.ensures.steps.1 in
    let was = at.invariant.1 in
    let short = ap length steps in
    let longer = length_push at.yielded c.in-Some.kept in
    let count = at.invariant.2 in
    let whole : at.yielded ++ c.in-Some.kept ∷ into_iter_items c.next.new.self ≡ all = rw (← steps) at.invariant.0 in
    let next_history : slice_get histories at.run ≡ Some c.in-Some.kept.run.entries.items = ap (slice_get histories) count ∙ next_own (λ (kept : KeptRun). kept.history) at.yielded (into_iter_items c.next.new.self) all c.in-Some.kept whole in
    let next_state : slice_get states at.run ≡ Some c.in-Some.kept.run.state = ap (slice_get states) count ∙ next_own (λ (kept : KeptRun). kept.state) at.yielded (into_iter_items c.next.new.self) all c.in-Some.kept whole in
    let kept_runs : all ≡ c.self.inside.runs.items = search rules in
    let self_runs : length all ≡ length g.M.BundleName.bundle.runs = ap length kept_runs ∙ all_runs g.M.BundleName.bundle g.M.BundleName.workers g.L.LockName.lock c.self.inside.bundle.now c.self.inside.runs.items c.self.inside.stored.items c.self.inside.book.total c.self.invariant in
    let parts = ap length whole in
    let split = length-append at.yielded (c.in-Some.kept ∷ into_iter_items c.next.new.self) in
    let many_histories = c.requires.histories in
    let many_states = c.requires.states in
    let history_inside : at.run < length c.args.all.now.histories.items = omega arith in
    let state_inside : at.run < length c.args.all.now.states.items = omega arith in
    let lock_is : c.args.lock ≡ lock = c.requires.lock in (
      append_assoc at.yielded (c.in-Some.kept ∷ []) _ ∙ whole,
      omega arith,
      omega arith,
      put_next lock at.run histories c.args.all.now.histories.items at.all.histories.items c.put_under.new.all.histories.items c.in-Some.kept.run.entries.items history_inside next_history (λ under. c.put_under.ensures.history (under ∙ sym lock_is)) (λ apart. ap (λ (runs : Runs). runs.histories.items) (c.put_under.ensures.other (λ under. absurd (apart (under ∙ lock_is))))) at.invariant.3,
      put_next lock at.run states c.args.all.now.states.items at.all.states.items c.put_under.new.all.states.items c.in-Some.kept.run.state state_inside next_state (λ under. c.put_under.ensures.state (under ∙ sym lock_is)) (λ apart. ap (λ (runs : Runs). runs.states.items) (c.put_under.ensures.other (λ under. absurd (apart (under ∙ lock_is))))) at.invariant.4,
    )

pub put_under-requires-clause-history : goal.put_under-requires-clause-history
put_under-requires-clause-history g c = grind (arith, common_steps)

pub put_under-requires-clause-state : goal.put_under-requires-clause-state
put_under-requires-clause-state g c = grind (arith, common_steps)

pub overflow_add-run : goal.overflow_add-run
overflow_add-run g c = grind (arith, common_steps)

pub returns-clause-put : goal.returns-clause-put
returns-clause-put g c = grind (arith, common_steps)

pub returns-clause-states : goal.returns-clause-states
returns-clause-states g c = grind (arith, common_steps)
