-- Runs, one after another.
use Rattle.std.proofs.Common.{◌≡◌, ◌<◌, ◌≤◌, ℕ, suc, ◌+◌, Bool, true, false, List, [], ◌∷◌, ◌++◌, drop, flat_map, length, map, Option, codes, refl, sym, ◌∙◌, ap, subst, arith}
use Rattle.std.specs.Prelude.{if◌then◌else◌, slice_index_or}
use Rattle.std.specs.List.{AllByRecursion}
use Rattle.serde_json.specs.Data.{Data}
use Rattle.ar_limits.specs.Replay.{Replays, Standing}
use Rattle.ar_limits.specs.declared.limits.Limits.{Limits}
use Rattle.ar_bundle.specs.Bundle.{Bundle, events_of}
use Rattle.ar_bundle.specs.Lawful.{IsFound, numbers_of}
use Rattle.ar_bundle.specs.declared.bundle.RunPart.{RunPart}
use Rattle.ar_bundle.specs.declared.history.Entry.{Entry}
use Rattle.ar_facts.proofs.Lines.{no_more, none_left, one_more, read_at, three}
use Rattle.ar_facts.specs.Facts.{facts_of_metrics}
use Rattle.ar_facts.specs.Report.{run_line}
use Rattle.ar_object.proofs.Texts.{Remains, next_value, none_remains}
use Rattle.ar_object.specs.Written.{AddsValue, AddsValues, Output}
use Rattle.ar_reason.specs.Private.Found.{AreFoundSteps}
use Rattle.ar_reason.specs.Reason.{RunReasons, reason_of, reasons_from, run_reasons}
use Rattle.ar_quote.specs.Shown.{shown_name}
use Rattle.ar_reason.specs.ReasonData.{reason_data, run_members, run_reasons_data, waiting_data, run_waits_data}
use Rattle.ar_progress.specs.Waiting.{run_waits_for}
use Rattle.ar_reason.specs.ReasonText.{line_if_there, metric_lines, reason_text, run_reasons_text}
use Rattle.ar_progress.specs.Steps.{chosen_steps, closer_of, if_chosen, is_chosen, is_chosen_run, step_after, steps_after}
use Rattle.ar_progress.specs.declared.chosen.Chosen.{Chosen}
use Rattle.ar_progress.specs.declared.steps.Step.{Step}

-- ---- what is known of the events that are chosen

chosen_found : (bundle : Bundle) (run : ℕ) (chosen : Chosen) (step : Step) (later : List Step) → IsFound bundle run step.entry → AreFoundSteps bundle run later → AreFoundSteps bundle run (if_chosen chosen step ++ later)
chosen_found bundle run chosen step later is all = by_case (is_chosen chosen step) where
  by_case : (asked : Bool) → AreFoundSteps bundle run ((if asked then step ∷ [] else []) ++ later)
  by_case true = (is, all)
  by_case false = all

found_after : (bundle : Bundle) (run : ℕ) (chosen : Chosen) (limits : List Limits) (earlier entries : List Entry) → AllByRecursion (IsFound bundle run) entries → AreFoundSteps bundle run (flat_map (if_chosen chosen) (steps_after bundle limits earlier entries))
found_after bundle run chosen limits earlier [] all = tt
found_after bundle run chosen limits earlier (entry ∷ entries) all =
    chosen_found bundle run chosen (step_after bundle limits earlier entry) _ all.0 (found_after bundle run chosen limits (earlier ++ entry ∷ []) entries all.1)

pub are_found : (bundle : Bundle) (run : ℕ) (chosen : Chosen) (limits : List Limits) (entries : List Entry) (steps : List Step) → AllByRecursion (IsFound bundle run) entries → steps ≡ chosen_steps bundle chosen limits entries → AreFoundSteps bundle run steps
are_found bundle run chosen limits entries steps all is = subst (AreFoundSteps bundle run) (sym is) (found_after bundle run chosen limits [] entries all)

-- ---- a run

reasons_are : (document : Data) (bundle : Bundle) (chosen : Chosen) (run : RunPart) (entries : List Entry) (state : Standing) (steps : List Step) → Replays run.limits (events_of bundle (numbers_of entries)) state → steps ≡ chosen_steps bundle chosen run.limits entries
    → run_reasons document bundle chosen run entries ≡ record { name = run.name; phase = state.phase; closer = closer_of entries; reasons = map (reason_of document bundle) steps; metrics = facts_of_metrics bundle.metrics run.limits state.phases state.counts }
reasons_are document bundle chosen run entries state steps replays is =
    let phase = replays.phase_is in
    let phases = replays.phases_are in
    let counts = replays.counts_are in
    rw (phase, phases, counts, is) refl

pub text_is : (document : Data) (bundle : Bundle) (chosen : Chosen) (run : RunPart) (entries : List Entry) (state : Standing) (steps : List Step) (closer : Option ℕ) (before lined reasoned all : List ℕ) → Replays run.limits (events_of bundle (numbers_of entries)) state → steps ≡ chosen_steps bundle chosen run.limits entries → closer ≡ closer_of entries
    → lined ≡ before ++ (run_line (shown_name run.name) state.phase ++ line_if_there (codes "  waits for: ") (run_waits_for state.phase (facts_of_metrics bundle.metrics run.limits state.phases state.counts))) → reasoned ≡ lined ++ flat_map reason_text (map (reason_of document bundle) steps) → all ≡ reasoned ++ flat_map (metric_lines closer) (facts_of_metrics bundle.metrics run.limits state.phases state.counts) → all ≡ before ++ run_reasons_text (run_reasons document bundle chosen run entries)
text_is document bundle chosen run entries state steps closer before lined reasoned all replays is closes line reasons metrics =
    three before lined reasoned all (run_line (shown_name run.name) state.phase ++ line_if_there (codes "  waits for: ") (run_waits_for state.phase (facts_of_metrics bundle.metrics run.limits state.phases state.counts))) (flat_map reason_text (map (reason_of document bundle) steps)) (flat_map (metric_lines (closer_of entries)) (facts_of_metrics bundle.metrics run.limits state.phases state.counts)) line reasons (metrics ∙ ap (λ (closer : Option ℕ). reasoned ++ flat_map (metric_lines closer) (facts_of_metrics bundle.metrics run.limits state.phases state.counts)) closes)
    ∙ ap (λ (facts : RunReasons). before ++ run_reasons_text facts) (sym (reasons_are document bundle chosen run entries state steps replays is))

pub data_is : (document : Data) (bundle : Bundle) (chosen : Chosen) (run : RunPart) (entries : List Entry) (state : Standing) (steps : List Step) (closer : Option ℕ) → Replays run.limits (events_of bundle (numbers_of entries)) state → steps ≡ chosen_steps bundle chosen run.limits entries → closer ≡ closer_of entries
    → run_members run.name state.phase (map (waiting_data closer) (facts_of_metrics bundle.metrics run.limits state.phases state.counts)) (map reason_data (map (reason_of document bundle) steps)) (run_waits_data state.phase (facts_of_metrics bundle.metrics run.limits state.phases state.counts)) ≡ run_reasons_data (run_reasons document bundle chosen run entries)
data_is document bundle chosen run entries state steps closer replays is closes =
    ap (λ (closer : Option ℕ). run_members run.name state.phase (map (waiting_data closer) (facts_of_metrics bundle.metrics run.limits state.phases state.counts)) (map reason_data (map (reason_of document bundle) steps)) (run_waits_data state.phase (facts_of_metrics bundle.metrics run.limits state.phases state.counts))) closes
    ∙ ap run_reasons_data (sym (reasons_are document bundle chosen run entries state steps replays is))

-- ---- one after another

run_read : (document : Data) (bundle : Bundle) (chosen : Chosen) (runs : List RunPart) (histories : List (List Entry)) (index : ℕ) (run : RunPart) (history : List Entry) → index < length runs → run ≡ slice_index_or runs index run → index < length histories → history ≡ slice_index_or histories index history
    → reasons_from document bundle chosen index (drop index runs) (drop index histories) ≡ (if is_chosen_run bundle chosen index history then run_reasons document bundle chosen run history ∷ [] else []) ++ reasons_from document bundle chosen (index + 1) (drop (index + 1) runs) (drop (index + 1) histories)
run_read document bundle chosen runs histories index run history inside read history_inside history_read =
    let next : suc index ≡ index + 1 = omega arith in
    rw (read_at runs index run inside read, read_at histories index history history_inside history_read)
    (ap (λ from. (if is_chosen_run bundle chosen index history then run_reasons document bundle chosen run history ∷ [] else []) ++ reasons_from document bundle chosen from (drop (index + 1) runs) (drop (index + 1) histories)) next)

read_chosen : (document : Data) (bundle : Bundle) (chosen : Chosen) (runs : List RunPart) (histories : List (List Entry)) (index : ℕ) (run : RunPart) (history : List Entry) → index < length runs → run ≡ slice_index_or runs index run → index < length histories → history ≡ slice_index_or histories index history → is_chosen_run bundle chosen index history ≡ true
    → reasons_from document bundle chosen index (drop index runs) (drop index histories) ≡ run_reasons document bundle chosen run history ∷ reasons_from document bundle chosen (index + 1) (drop (index + 1) runs) (drop (index + 1) histories)
read_chosen document bundle chosen runs histories index run history inside read history_inside history_read is =
    run_read document bundle chosen runs histories index run history inside read history_inside history_read
    ∙ ap (λ asked. (if asked then run_reasons document bundle chosen run history ∷ [] else []) ++ reasons_from document bundle chosen (index + 1) (drop (index + 1) runs) (drop (index + 1) histories)) is

-- a run that isn't asked for, whatever its history is
read_unchosen : (document : Data) (bundle : Bundle) (chosen : Chosen) (runs : List RunPart) (histories : List (List Entry)) (index : ℕ) (run : RunPart) (history : List Entry) → index < length runs → run ≡ slice_index_or runs index run → index < length histories → history ≡ slice_index_or histories index history → is_chosen_run bundle chosen index history ≡ false
    → reasons_from document bundle chosen index (drop index runs) (drop index histories) ≡ reasons_from document bundle chosen (index + 1) (drop (index + 1) runs) (drop (index + 1) histories)
read_unchosen document bundle chosen runs histories index run history inside read history_inside history_read is =
    run_read document bundle chosen runs histories index run history inside read history_inside history_read
    ∙ ap (λ asked. (if asked then run_reasons document bundle chosen run history ∷ [] else []) ++ reasons_from document bundle chosen (index + 1) (drop (index + 1) runs) (drop (index + 1) histories)) is

none_there : (document : Data) (bundle : Bundle) (chosen : Chosen) (runs : List RunPart) (histories : List (List Entry)) (index : ℕ) → length runs ≤ index → reasons_from document bundle chosen index (drop index runs) (drop index histories) ≡ []
none_there document bundle chosen runs histories index past = ap (λ runs. reasons_from document bundle chosen index runs (drop index histories)) (none_left runs index past)

pub next_run : (document : Data) (bundle : Bundle) (chosen : Chosen) (runs : List RunPart) (histories : List (List Entry)) (index : ℕ) (run : RunPart) (history : List Entry) (written total : List ℕ) → index < length runs → run ≡ slice_index_or runs index run → index < length histories → history ≡ slice_index_or histories index history → is_chosen_run bundle chosen index history ≡ true
    → written ++ flat_map run_reasons_text (reasons_from document bundle chosen index (drop index runs) (drop index histories)) ≡ total → (written ++ run_reasons_text (run_reasons document bundle chosen run history)) ++ flat_map run_reasons_text (reasons_from document bundle chosen (index + 1) (drop (index + 1) runs) (drop (index + 1) histories)) ≡ total
next_run document bundle chosen runs histories index run history written total inside read history_inside history_read is so_far =
    one_more run_reasons_text _ _ (run_reasons document bundle chosen run history) written total (read_chosen document bundle chosen runs histories index run history inside read history_inside history_read is) so_far

pub run_passed : (document : Data) (bundle : Bundle) (chosen : Chosen) (runs : List RunPart) (histories : List (List Entry)) (index : ℕ) (run : RunPart) (history : List Entry) (written total : List ℕ) → index < length runs → run ≡ slice_index_or runs index run → index < length histories → history ≡ slice_index_or histories index history → is_chosen_run bundle chosen index history ≡ false
    → written ++ flat_map run_reasons_text (reasons_from document bundle chosen index (drop index runs) (drop index histories)) ≡ total → written ++ flat_map run_reasons_text (reasons_from document bundle chosen (index + 1) (drop (index + 1) runs) (drop (index + 1) histories)) ≡ total
run_passed document bundle chosen runs histories index run history written total inside read history_inside history_read is so_far =
    ap (λ left. written ++ flat_map run_reasons_text left) (sym (read_unchosen document bundle chosen runs histories index run history inside read history_inside history_read is)) ∙ so_far

pub no_run_left : (document : Data) (bundle : Bundle) (chosen : Chosen) (runs : List RunPart) (histories : List (List Entry)) (index : ℕ) (written total : List ℕ) → length runs ≤ index → written ++ flat_map run_reasons_text (reasons_from document bundle chosen index (drop index runs) (drop index histories)) ≡ total → written ≡ total
no_run_left document bundle chosen runs histories index written total past so_far =
    no_more run_reasons_text (reasons_from document bundle chosen index (drop index runs) (drop index histories)) written total (none_there document bundle chosen runs histories index past) so_far

pub next_object : (document : Data) (bundle : Bundle) (chosen : Chosen) (runs : List RunPart) (histories : List (List Entry)) (index : ℕ) (run : RunPart) (history : List Entry) (all : List Data) (start now next : Output) → index < length runs → run ≡ slice_index_or runs index run → index < length histories → history ≡ slice_index_or histories index history → is_chosen_run bundle chosen index history ≡ true
    → AddsValue (run_reasons_data (run_reasons document bundle chosen run history)) now next
    → Remains (map run_reasons_data (reasons_from document bundle chosen index (drop index runs) (drop index histories))) all start now → Remains (map run_reasons_data (reasons_from document bundle chosen (index + 1) (drop (index + 1) runs) (drop (index + 1) histories))) all start next
next_object document bundle chosen runs histories index run history all start now next inside read history_inside history_read is adds remains =
    next_value run_reasons_data _ _ (run_reasons document bundle chosen run history) all start now next (read_chosen document bundle chosen runs histories index run history inside read history_inside history_read is) adds remains

pub object_passed : (document : Data) (bundle : Bundle) (chosen : Chosen) (runs : List RunPart) (histories : List (List Entry)) (index : ℕ) (run : RunPart) (history : List Entry) (all : List Data) (start now : Output) → index < length runs → run ≡ slice_index_or runs index run → index < length histories → history ≡ slice_index_or histories index history → is_chosen_run bundle chosen index history ≡ false
    → Remains (map run_reasons_data (reasons_from document bundle chosen index (drop index runs) (drop index histories))) all start now → Remains (map run_reasons_data (reasons_from document bundle chosen (index + 1) (drop (index + 1) runs) (drop (index + 1) histories))) all start now
object_passed document bundle chosen runs histories index run history all start now inside read history_inside history_read is remains =
    subst (λ left. Remains (map run_reasons_data left) all start now) (read_unchosen document bundle chosen runs histories index run history inside read history_inside history_read is) remains

pub no_object_left : (document : Data) (bundle : Bundle) (chosen : Chosen) (runs : List RunPart) (histories : List (List Entry)) (index : ℕ) (all : List Data) (start now : Output) → length runs ≤ index
    → Remains (map run_reasons_data (reasons_from document bundle chosen index (drop index runs) (drop index histories))) all start now → AddsValues all start now
no_object_left document bundle chosen runs histories index all start now past remains = none_remains run_reasons_data _ all start now (none_there document bundle chosen runs histories index past) remains
