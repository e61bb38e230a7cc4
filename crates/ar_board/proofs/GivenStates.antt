-- States that the cells of four locks gave up.
use Rattle.std.proofs.Common.{◌≡◌, ◌≢◌, ◌<◌, ℕ, zero, suc, List, length, Some, refl, sym, ◌∙◌, ap, subst, arith}
use Rattle.std.specs.Prelude.{option_map, slice_get}
use Rattle.std.proofs.lemmas.Option.{slice_get-map, slice_get_within}
use Rattle.ar_limits.specs.Replay.{Replays, Standing}
use Rattle.ar_bundle.specs.Bundle.{Bundle, events_of}
use Rattle.ar_bundle.specs.Finished.{AreStatesOf}
use Rattle.ar_bundle.specs.Lawful.{numbers_of}
use Rattle.ar_bundle.specs.declared.bundle.RunPart.{RunPart}
use Rattle.ar_bundle.specs.declared.history.Entry.{Entry}
use Rattle.ar_bundle.specs.declared.runs.Runs.{Runs}
use Rattle.ar_bundle.proofs.Bundles.{entry_at}
use Rattle.ar_board.specs.Cell.{ArePut, Cell, IsCell, KeptRun, histories_of, states_of}
use Rattle.ar_board.specs.Locks.{lock_of}
use Rattle.ar_board.specs.Private.Closing.{IsCellClosed}
use Rattle.ar_board.proofs.UnderLocks.{under_four}

-- in a cell, a run's history leads to its state
leads_to : (bundle : Bundle) (workers lock : ℕ) (cell : Cell) (run : ℕ) (part : RunPart) (history : List Entry) (state : Standing) → IsCell bundle workers lock cell → slice_get bundle.runs run ≡ Some part → slice_get (histories_of cell) run ≡ Some history → slice_get (states_of cell) run ≡ Some state
    → Replays part.limits (events_of bundle (numbers_of history)) state
leads_to bundle workers lock cell run part history state is part_there history_there state_there =
    let inside = slice_get_within bundle.runs run part part_there in
    let as_many = is.as_many in
    let kept = entry_at cell.runs run (omega arith) in
    let own : kept.0.history ≡ history = some_is (sym (slice_get-map (λ (kept : KeptRun). kept.history) cell.runs run ∙ ap (option_map (λ (kept : KeptRun). kept.history)) kept.1) ∙ history_there) in
    let same : kept.0.state ≡ state = some_is (sym (slice_get-map (λ (kept : KeptRun). kept.state) cell.runs run ∙ ap (option_map (λ (kept : KeptRun). kept.state)) kept.1) ∙ state_there) in
    subst (λ (history : List Entry). Replays part.limits (events_of bundle (numbers_of history)) state) own
    (subst (λ (state : Standing). Replays part.limits (events_of bundle (numbers_of kept.0.history)) state) same (is.each run part kept.0 part_there kept.1).state)
  where
    some_is : {A : Type 0} {one other : A} → Some one ≡ Some other → one ≡ other
    some_is is = cc

pub states_of_cells : (bundle : Bundle) (workers a b c d : ℕ) (none first second third fourth : Runs) → length none.histories.items ≡ length bundle.runs → length none.states.items ≡ length bundle.runs
    → IsCellClosed bundle workers 0 a none first → IsCellClosed bundle workers 1 b first second → IsCellClosed bundle workers 2 c second third → IsCellClosed bundle workers 3 d third fourth
    → AreStatesOf bundle fourth.histories.items fourth.states.items
states_of_cells bundle workers a b c d none first second third fourth many many_states one two three four =
    record {
      as_many = four.states.as_many ∙ (three.states.as_many ∙ (two.states.as_many ∙ (one.states.as_many ∙ many_states)));
      each = λ run part history state part_there history_there state_there. by_lock (lock_of run) (under_four run) run part history state part_there history_there state_there refl;
    }
  where
    by_lock : (lock : ℕ) → lock < 4 → (run : ℕ) (part : RunPart) (history : List Entry) (state : Standing) → slice_get bundle.runs run ≡ Some part → slice_get fourth.histories.items run ≡ Some history → slice_get fourth.states.items run ≡ Some state → lock_of run ≡ lock
        → Replays part.limits (events_of bundle (numbers_of history)) state
    by_lock zero below run part history state part_there history_there state_there under =
        let inside = slice_get_within bundle.runs run part part_there in
        let not_one : lock_of run ≢ 1 = λ is. absurd (omega arith) in
        let not_two : lock_of run ≢ 2 = λ is. absurd (omega arith) in
        let not_three : lock_of run ≢ 3 = λ is. absurd (omega arith) in
        leads_to bundle workers 0 one.cell run part history state one.is part_there
        (sym (four.put.others run not_three ∙ (three.put.others run not_two ∙ (two.put.others run not_one ∙ one.put.put run (omega arith) under))) ∙ history_there)
        (sym (four.states.others run not_three ∙ (three.states.others run not_two ∙ (two.states.others run not_one ∙ one.states.put run (omega arith) under))) ∙ state_there)
    by_lock (suc zero) below run part history state part_there history_there state_there under =
        let inside = slice_get_within bundle.runs run part part_there in
        let first_many = one.put.as_many in
        let first_states = one.states.as_many in
        let not_two : lock_of run ≢ 2 = λ is. absurd (omega arith) in
        let not_three : lock_of run ≢ 3 = λ is. absurd (omega arith) in
        leads_to bundle workers 1 two.cell run part history state two.is part_there
        (sym (four.put.others run not_three ∙ (three.put.others run not_two ∙ two.put.put run (omega arith) under)) ∙ history_there)
        (sym (four.states.others run not_three ∙ (three.states.others run not_two ∙ two.states.put run (omega arith) under)) ∙ state_there)
    by_lock (suc (suc zero)) below run part history state part_there history_there state_there under =
        let inside = slice_get_within bundle.runs run part part_there in
        let second_many = two.put.as_many ∙ one.put.as_many in
        let second_states = two.states.as_many ∙ one.states.as_many in
        let not_three : lock_of run ≢ 3 = λ is. absurd (omega arith) in
        leads_to bundle workers 2 three.cell run part history state three.is part_there
        (sym (four.put.others run not_three ∙ three.put.put run (omega arith) under) ∙ history_there)
        (sym (four.states.others run not_three ∙ three.states.put run (omega arith) under) ∙ state_there)
    by_lock (suc (suc (suc zero))) below run part history state part_there history_there state_there under =
        let inside = slice_get_within bundle.runs run part part_there in
        let third_many = three.put.as_many ∙ (two.put.as_many ∙ one.put.as_many) in
        let third_states = three.states.as_many ∙ (two.states.as_many ∙ one.states.as_many) in
        leads_to bundle workers 3 four.cell run part history state four.is part_there
        (sym (four.put.put run (omega arith) under) ∙ history_there)
        (sym (four.states.put run (omega arith) under) ∙ state_there)
    by_lock (suc (suc (suc (suc lock)))) below run part history state part_there history_there state_there under = absurd (omega arith)
