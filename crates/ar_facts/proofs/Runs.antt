-- Runs with their histories, one after another.
use Rattle.std.proofs.Common.{◌≡◌, ◌<◌, ◌≤◌, ℕ, zero, suc, ◌+◌, ◌==◌, List, [], ◌∷◌, ◌++◌, flat_map, length, map, drop, Some, refl, ap, subst, arith}
use Rattle.std.specs.Prelude.{slice_get, slice_index_or}
use Rattle.std.specs.List.{AllByRecursion}
use Rattle.std.proofs.lemmas.List.Sums.{count_by-le-length}
use Rattle.std.proofs.lemmas.Option.{slice_get_read, slice_get_within}
use Rattle.ar_limits.specs.Run.{effects, run_phase}
use Rattle.ar_limits.specs.declared.phase.Phase.{Phase}
use Rattle.ar_bundle.proofs.Bundles.{of_each}
use Rattle.ar_bundle.proofs.Room.{at_most}
use Rattle.ar_bundle.specs.Sound.{IsBundle, IsRun}
use Rattle.ar_limits.specs.Replay.{most_events}
use Rattle.ar_bundle.specs.Bundle.{Bundle, events_of}
use Rattle.ar_bundle.specs.Lawful.{AreHistories, AreHistoriesSoFar, AtMostOnce, IsFound, IsHistory, numbers_of}
use Rattle.ar_bundle.specs.declared.bundle.EventPart.{EventPart}
use Rattle.ar_bundle.specs.declared.bundle.RunPart.{RunPart}
use Rattle.ar_bundle.specs.declared.history.Entry.{Entry}
use Rattle.ar_facts.specs.Private.Entries.{AreFound}
use Rattle.ar_facts.specs.Facts.{RunFacts, facts_of_runs, phases_of, run_facts}
use Rattle.ar_facts.specs.Report.{run_text}
use Rattle.ar_facts.proofs.Lines.{no_item, no_more, none_left, one_item, one_more, read_at}

-- ---- one run after another

-- the facts of a run that was read come before those of the runs that are left
pub run_read : (bundle : Bundle) (runs : List RunPart) (histories : List (List Entry)) (index : ℕ) (run : RunPart) (history : List Entry) → index < length runs → run ≡ slice_index_or runs index run → index < length histories → history ≡ slice_index_or histories index history
    → facts_of_runs bundle (drop index runs) (map numbers_of (drop index histories)) ≡ run_facts bundle run (numbers_of history) ∷ facts_of_runs bundle (drop (index + 1) runs) (map numbers_of (drop (index + 1) histories))
run_read bundle runs histories index run history inside read history_inside history_read =
    rw (read_at runs index run inside read, read_at histories index history history_inside history_read) refl

pub no_run_read : (bundle : Bundle) (runs : List RunPart) (histories : List (List Entry)) (index : ℕ) → length runs ≤ index → facts_of_runs bundle (drop index runs) (map numbers_of (drop index histories)) ≡ []
no_run_read bundle runs histories index past = ap (λ runs. facts_of_runs bundle runs (map numbers_of (drop index histories))) (none_left runs index past)

pub next_run : (bundle : Bundle) (runs : List RunPart) (histories : List (List Entry)) (index : ℕ) (run : RunPart) (history : List Entry) (written total : List ℕ) → index < length runs → run ≡ slice_index_or runs index run → index < length histories → history ≡ slice_index_or histories index history
    → written ++ flat_map run_text (facts_of_runs bundle (drop index runs) (map numbers_of (drop index histories))) ≡ total → (written ++ run_text (run_facts bundle run (numbers_of history))) ++ flat_map run_text (facts_of_runs bundle (drop (index + 1) runs) (map numbers_of (drop (index + 1) histories))) ≡ total
next_run bundle runs histories index run history written total inside read history_inside history_read so_far =
    one_more run_text _ _ (run_facts bundle run (numbers_of history)) written total (run_read bundle runs histories index run history inside read history_inside history_read) so_far

pub no_run : (bundle : Bundle) (runs : List RunPart) (histories : List (List Entry)) (index : ℕ) (written total : List ℕ) → length runs ≤ index → written ++ flat_map run_text (facts_of_runs bundle (drop index runs) (map numbers_of (drop index histories))) ≡ total → written ≡ total
no_run bundle runs histories index written total past so_far =
    no_more run_text (facts_of_runs bundle (drop index runs) (map numbers_of (drop index histories))) written total (no_run_read bundle runs histories index past) so_far

-- ---- one phase after another

pub next_phase : (bundle : Bundle) (runs : List RunPart) (histories : List (List Entry)) (index : ℕ) (run : RunPart) (history : List Entry) (found total : List Phase) (phase : Phase) → index < length runs → run ≡ slice_index_or runs index run → index < length histories → history ≡ slice_index_or histories index history
    → phase ≡ run_phase run.limits (events_of bundle (numbers_of history)) → found ++ phases_of (facts_of_runs bundle (drop index runs) (map numbers_of (drop index histories))) ≡ total → (found ++ phase ∷ []) ++ phases_of (facts_of_runs bundle (drop (index + 1) runs) (map numbers_of (drop (index + 1) histories))) ≡ total
next_phase bundle runs histories index run history found total phase inside read history_inside history_read is so_far =
    one_item (λ (run : RunFacts). run.phase) _ _ (run_facts bundle run (numbers_of history)) found total phase (run_read bundle runs histories index run history inside read history_inside history_read) is so_far

pub no_phase : (bundle : Bundle) (runs : List RunPart) (histories : List (List Entry)) (index : ℕ) (found total : List Phase) → length runs ≤ index → found ++ phases_of (facts_of_runs bundle (drop index runs) (map numbers_of (drop index histories))) ≡ total → found ≡ total
no_phase bundle runs histories index found total past so_far =
    no_item (λ (run : RunFacts). run.phase) (facts_of_runs bundle (drop index runs) (map numbers_of (drop index histories))) found total (no_run_read bundle runs histories index past) so_far

-- ---- what is known of a run's history

pub are_found : (bundle : Bundle) (run : ℕ) (history : List Entry) → AllByRecursion (IsFound bundle run) history → AreFound bundle history
are_found bundle run [] all = tt
are_found bundle run (entry ∷ history) all = (all.0.finding, are_found bundle run history all.1)

-- the history of a run that is there
pub record HasHistory (bundle : Bundle) (run : RunPart) (histories : List (List Entry)) (index : ℕ) : Type 0 where
  pub inside : index < length histories
  pub found : (history : List Entry) → history ≡ slice_index_or histories index history → AreFound bundle history
  pub effects_are : (history : List Entry) → history ≡ slice_index_or histories index history → map (λ (entry : Entry). entry.effect) history ≡ effects run.limits (events_of bundle (numbers_of history))
  pub few : (history : List Entry) → history ≡ slice_index_or histories index history → length history ≤ most_events
  pub own : (history : List Entry) → history ≡ slice_index_or histories index history → AllByRecursion (IsFound bundle index) history

pub record OfRun (bundle : Bundle) (number : ℕ) (run : RunPart) (histories : List (List Entry)) (index : ℕ) : Type 0 where
  pub history : List Entry
  pub there : slice_get histories index ≡ Some history
  pub is : IsHistory bundle number run.limits history

history_of : (bundle : Bundle) (from index : ℕ) (run : RunPart) (runs : List RunPart) (histories : List (List Entry)) → AreHistories bundle from runs histories → slice_get runs index ≡ Some run → OfRun bundle (from + index) run histories index
history_of bundle from index run [] [] are there = absurd cc
history_of bundle from zero run (first ∷ runs) (history ∷ histories) are there =
    let same : first ≡ run = cc in
    let here : from ≡ from + zero = omega arith in
    record { history = history; there = refl; is = subst (λ number. IsHistory bundle number run.limits history) here (subst (λ (run : RunPart). IsHistory bundle from run.limits history) same are.0) }
history_of bundle from (suc index) run (first ∷ runs) (history ∷ histories) are there =
    let next : suc from + index ≡ from + suc index = omega arith in
    let later = history_of bundle (suc from) index run runs histories are.1 there in
    record { history = later.history; there = later.there; is = subst (λ number. IsHistory bundle number run.limits later.history) next later.is }
history_of bundle from index run [] (history ∷ histories) are there = absurd are
history_of bundle from index run (first ∷ runs) [] are there = absurd are

pub read_history : (histories : List (List Entry)) (index : ℕ) (history read : List Entry) → slice_get histories index ≡ Some history → read ≡ slice_index_or histories index read → history ≡ read
read_history histories index history read there is =
    let inside = slice_get_within histories index history there in
    let same : slice_get histories index ≡ Some read = slice_get_read histories (length histories) index read refl inside is in
    cc

pub has_history : (bundle : Bundle) (run : RunPart) (histories : List (List Entry)) (index : ℕ) → IsBundle bundle → AreHistoriesSoFar bundle histories → index < length bundle.runs → run ≡ slice_index_or bundle.runs index run → HasHistory bundle run histories index
has_history bundle run histories index is can inside read =
    let run_there = slice_get_read bundle.runs (length bundle.runs) index run refl inside read in
    let own = history_of bundle 0 index run bundle.runs histories can.of_runs run_there in
    let once = of_each (λ (history : List Entry). AtMostOnce (numbers_of history)) histories index own.history can.once own.there in
    let numbers = at_most bundle (0 + index) own.history own.is.found once in
    let of_all = count_by-le-length (λ (entry : EventPart). entry.run == 0 + index) bundle.entries in
    let most = is.few_events in
    let few : length own.history ≤ most_events = omega arith in
    record {
      inside = slice_get_within histories index own.history own.there;
      found = λ history history_read. subst (AreFound bundle) (read_history histories index own.history history own.there history_read) (are_found bundle (0 + index) own.history own.is.found);
      effects_are = λ history history_read. subst (λ (history : List Entry). map (λ (entry : Entry). entry.effect) history ≡ effects run.limits (events_of bundle (numbers_of history))) (read_history histories index own.history history own.there history_read) own.is.effects;
      few = λ history history_read. subst (λ (history : List Entry). length history ≤ most_events) (read_history histories index own.history history own.there history_read) few;
      own = λ history history_read. subst (AllByRecursion (IsFound bundle index)) (read_history histories index own.history history own.there history_read) (subst (λ (run : ℕ). AllByRecursion (IsFound bundle run) own.history) (zero_more index) own.is.found);
    }
  where
    zero_more : (index : ℕ) → 0 + index ≡ index
    zero_more index = omega arith

pub run_is_run : (bundle : Bundle) (run : RunPart) (index : ℕ) → IsBundle bundle → index < length bundle.runs → run ≡ slice_index_or bundle.runs index run → IsRun bundle.metrics run
run_is_run bundle run index is inside read = of_each (IsRun bundle.metrics) bundle.runs index run is.runs (slice_get_read bundle.runs (length bundle.runs) index run refl inside read)
