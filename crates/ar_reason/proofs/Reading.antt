-- What is known of a run that is read, with its history and its state.
use Rattle.std.proofs.Common.{◌≡◌, ◌<◌, ◌≤◌, ℕ, List, length, Some, refl, sym, subst}
use Rattle.std.specs.Prelude.{slice_get, slice_index_or}
use Rattle.std.specs.List.{AllByRecursion}
use Rattle.std.proofs.lemmas.Option.{slice_get_read}
use Rattle.ar_limits.specs.Replay.{Replays, Standing, most_events}
use Rattle.ar_bundle.specs.Bundle.{Bundle, events_of}
use Rattle.ar_bundle.specs.Finished.{AreFinished}
use Rattle.ar_bundle.specs.Lawful.{IsFound, numbers_of}
use Rattle.ar_bundle.specs.Sound.{IsBundle, IsRun}
use Rattle.ar_bundle.specs.declared.bundle.RunPart.{RunPart}
use Rattle.ar_bundle.specs.declared.finished.Finished.{Finished}
use Rattle.ar_bundle.specs.declared.history.Entry.{Entry}
use Rattle.ar_bundle.proofs.SoFar.{lawful_are_so_far}
use Rattle.ar_facts.proofs.Runs.{has_history, run_is_run}
use Rattle.ar_facts.proofs.States.{read_state}

pub record IsRead (bundle : Bundle) (number : ℕ) (run : RunPart) (entries : List Entry) (state : Standing) : Type 0 where
  pub there : slice_get bundle.runs number ≡ Some run
  pub is_run : IsRun bundle.metrics run
  pub found : AllByRecursion (IsFound bundle number) entries
  pub few : length entries ≤ most_events
  pub leads : Replays run.limits (events_of bundle (numbers_of entries)) state

pub read_run : (bundle : Bundle) (finished : Finished) (runs : List RunPart) (given : List (List Entry)) (number : ℕ) (run : RunPart) (history entries : List Entry) (state : Standing) → IsBundle bundle → AreFinished bundle finished → runs ≡ bundle.runs → given ≡ finished.histories
    → number < length runs → run ≡ slice_index_or runs number run → history ≡ slice_index_or given number history → entries ≡ history → state ≡ slice_index_or finished.states.items number state → IsRead bundle number run entries state
read_run bundle finished runs given number run history entries state is are runs_are given_are inside read history_read entries_are state_read =
    let run_inside : number < length bundle.runs = subst (λ (runs : List RunPart). number < length runs) runs_are inside in
    let run_read : run ≡ slice_index_or bundle.runs number run = subst (λ (runs : List RunPart). run ≡ slice_index_or runs number run) runs_are read in
    let own_read : history ≡ slice_index_or finished.histories number history = subst (λ (histories : List (List Entry)). history ≡ slice_index_or histories number history) given_are history_read in
    let so_far = lawful_are_so_far bundle finished.histories are.lawful in
    let has = has_history bundle run finished.histories number is so_far run_inside run_read in
    record {
      there = slice_get_read bundle.runs (length bundle.runs) number run refl run_inside run_read;
      is_run = run_is_run bundle run number is run_inside run_read;
      found = subst (AllByRecursion (IsFound bundle number)) (sym entries_are) (has.own history own_read);
      few = subst (λ (history : List Entry). length history ≤ most_events) (sym entries_are) (has.few history own_read);
      leads = read_state bundle finished.histories finished.states.items runs given number run history entries state is so_far are.states runs_are given_are inside read history_read entries_are state_read;
    }
