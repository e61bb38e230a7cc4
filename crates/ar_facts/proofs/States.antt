-- Runs with their histories and states, one after another.
use Rattle.std.proofs.Common.{◌≡◌, ◌<◌, ◌≤◌, ◌+◌, ℕ, suc, List, [], ◌∷◌, ◌++◌, length, map, Some, refl, sym, ◌∙◌, ap, subst, arith}
use Rattle.std.specs.Prelude.{slice_get, slice_index_or}
use Rattle.std.proofs.lemmas.List.{length_push}
use Rattle.std.proofs.lemmas.Option.{slice_get_read}
use Rattle.ar_limits.specs.Replay.{Replays, Standing}
use Rattle.ar_bundle.specs.Bundle.{Bundle, events_of}
use Rattle.ar_bundle.specs.Finished.{AreStatesOf}
use Rattle.ar_bundle.specs.Lawful.{AreHistories, AreHistoriesSoFar, numbers_of}
use Rattle.ar_bundle.specs.Sound.{IsBundle}
use Rattle.ar_bundle.specs.declared.bundle.RunPart.{RunPart}
use Rattle.ar_bundle.specs.declared.history.Entry.{Entry}
use Rattle.ar_bundle.proofs.HistoryLemmas.{pushed_at}
use Rattle.ar_facts.proofs.Runs.{has_history}
use Rattle.ar_facts.specs.Facts.{facts_of_runs, phases_of, report_facts}

-- ---- reading a run

pub state_inside : (bundle : Bundle) (histories : List (List Entry)) (states : List Standing) (index : ℕ) → AreStatesOf bundle histories states → index < length bundle.runs → index < length states
state_inside bundle histories states index are inside = let as_many = are.as_many in omega arith

-- the state of a run that was read is the one that its entries lead to
pub read_state : (bundle : Bundle) (histories : List (List Entry)) (states : List Standing) (runs : List RunPart) (given : List (List Entry)) (index : ℕ) (run : RunPart) (history entries : List Entry) (state : Standing) → IsBundle bundle → AreHistoriesSoFar bundle histories → AreStatesOf bundle histories states → runs ≡ bundle.runs → given ≡ histories
    → index < length runs → run ≡ slice_index_or runs index run → history ≡ slice_index_or given index history → entries ≡ history → state ≡ slice_index_or states index state → Replays run.limits (events_of bundle (numbers_of entries)) state
read_state bundle histories states runs given index run history entries state is so_far are runs_are given_are inside read history_read entries_are state_read =
    let run_inside : index < length bundle.runs = subst (λ (runs : List RunPart). index < length runs) runs_are inside in
    let run_read : run ≡ slice_index_or bundle.runs index run = subst (λ (runs : List RunPart). run ≡ slice_index_or runs index run) runs_are read in
    let own_read : history ≡ slice_index_or histories index history = subst (λ (histories : List (List Entry)). history ≡ slice_index_or histories index history) given_are history_read in
    let history_inside = (has_history bundle run histories index is so_far run_inside run_read).inside in
    let inside_states = state_inside bundle histories states index are run_inside in
    subst (λ (history : List Entry). Replays run.limits (events_of bundle (numbers_of history)) state) (sym entries_are)
    (are.each index run history state (slice_get_read bundle.runs (length bundle.runs) index run refl run_inside run_read) (slice_get_read histories (length histories) index history refl history_inside own_read) (slice_get_read states (length states) index state refl inside_states state_read))

-- ---- one state after another

-- the states of the runs below one
pub record AreStatesBelow (bundle : Bundle) (histories : List (List Entry)) (upto : ℕ) (states : List Standing) : Type 0 where
  pub below : upto ≤ length bundle.runs
  pub as_many : length states ≡ upto
  pub each : (index : ℕ) (state : Standing) → slice_get states index ≡ Some state → (run : RunPart) (history : List Entry) → slice_get bundle.runs index ≡ Some run → slice_get histories index ≡ Some history → Replays run.limits (events_of bundle (numbers_of history)) state

pub no_states : (bundle : Bundle) (histories : List (List Entry)) → AreStatesBelow bundle histories 0 []
no_states bundle histories = record { below = omega arith; as_many = refl; each = λ index state there run history run_there history_there. absurd cc }

pub next_state : (bundle : Bundle) (histories : List (List Entry)) (states : List Standing) (index : ℕ) (run : RunPart) (history : List Entry) (state : Standing) → AreStatesBelow bundle histories index states → index < length bundle.runs → run ≡ slice_index_or bundle.runs index run → index < length histories → history ≡ slice_index_or histories index history → Replays run.limits (events_of bundle (numbers_of history)) state
    → AreStatesBelow bundle histories (index + 1) (states ++ state ∷ [])
next_state bundle histories states index run history state are inside read history_inside history_read replays =
    record {
      below = omega arith;
      as_many = (let longer = length_push states state in let many = are.as_many in omega arith);
      each = λ at found there. pushed_at (λ (at : ℕ) (state : Standing). (run : RunPart) (history : List Entry) → slice_get bundle.runs at ≡ Some run → slice_get histories at ≡ Some history → Replays run.limits (events_of bundle (numbers_of history)) state) states state at found are.each last there;
    }
  where
    last : (other : RunPart) (own : List Entry) → slice_get bundle.runs (length states) ≡ Some other → slice_get histories (length states) ≡ Some own → Replays other.limits (events_of bundle (numbers_of own)) state
    last other own other_there own_there =
        let run_there : slice_get bundle.runs (length states) ≡ Some run = ap (slice_get bundle.runs) are.as_many ∙ slice_get_read bundle.runs (length bundle.runs) index run refl inside read in
        let history_there : slice_get histories (length states) ≡ Some history = ap (slice_get histories) are.as_many ∙ slice_get_read histories (length histories) index history refl history_inside history_read in
        let same : run ≡ other = (let both = sym run_there ∙ other_there in cc) in
        let same_history : history ≡ own = (let both = sym history_there ∙ own_there in cc) in
        subst (λ (run : RunPart). Replays run.limits (events_of bundle (numbers_of own)) state) same (subst (λ (history : List Entry). Replays run.limits (events_of bundle (numbers_of history)) state) same_history replays)

pub all_states : (bundle : Bundle) (histories : List (List Entry)) (states : List Standing) (index : ℕ) → length bundle.runs ≤ index → AreStatesBelow bundle histories index states → AreStatesOf bundle histories states
all_states bundle histories states index past are =
    record {
      as_many = (let many = are.as_many in let below = are.below in omega arith);
      each = λ run part history state part_there history_there state_there. are.each run state state_there part history part_there history_there;
    }

-- ---- the phases of all

-- each run has a history
as_many : (bundle : Bundle) (from : ℕ) (runs : List RunPart) (histories : List (List Entry)) → AreHistories bundle from runs histories → length histories ≡ length runs
as_many bundle from [] [] are = refl
as_many bundle from (run ∷ runs) (history ∷ histories) are = ap suc (as_many bundle (suc from) runs histories are.1)
as_many bundle from [] (history ∷ histories) are = absurd are
as_many bundle from (run ∷ runs) [] are = absurd are

phases_from : (bundle : Bundle) (runs : List RunPart) (histories : List (List Entry)) (states : List Standing) → length histories ≡ length runs → length states ≡ length runs
    → ((index : ℕ) (run : RunPart) (history : List Entry) (state : Standing) → slice_get runs index ≡ Some run → slice_get histories index ≡ Some history → slice_get states index ≡ Some state → Replays run.limits (events_of bundle (numbers_of history)) state)
    → map (λ (state : Standing). state.phase) states ≡ phases_of (facts_of_runs bundle runs (map numbers_of histories))
phases_from bundle [] [] [] many many_states each = refl
phases_from bundle (run ∷ runs) (history ∷ histories) (state ∷ states) many many_states each =
    let phase = (each 0 run history state refl refl refl).phase_is in
    let later = phases_from bundle runs histories states (omega arith) (omega arith) (λ index run history state there history_there state_there. each (suc index) run history state there history_there state_there) in
    rw (phase, later) refl
phases_from bundle [] [] (state ∷ states) many many_states each = absurd (omega arith)
phases_from bundle [] (history ∷ histories) states many many_states each = absurd (omega arith)
phases_from bundle (run ∷ runs) [] states many many_states each = absurd (omega arith)
phases_from bundle (run ∷ runs) (history ∷ histories) [] many many_states each = absurd (omega arith)

-- the phases of the states are those of the report
pub phases_are : (bundle : Bundle) (histories : List (List Entry)) (states : List Standing) → AreHistories bundle 0 bundle.runs histories → AreStatesOf bundle histories states → map (λ (state : Standing). state.phase) states ≡ phases_of (report_facts bundle (map numbers_of histories))
phases_are bundle histories states all are = phases_from bundle bundle.runs histories states (as_many bundle 0 bundle.runs histories all) are.as_many are.each
